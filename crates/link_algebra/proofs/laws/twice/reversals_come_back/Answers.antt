use Rattle.std.proofs.lemmas.Bool.Decides.{nat_tests}
use Rattle.std.proofs.Common.{arith, refl}
use Rattle.std.proofs.lemmas.List.Elements.{recursion_from_All}
use Rattle.link_algebra.proofs.ReversedNumbers.{reversal-twice}
use Rattle.link_algebra.proofs.Twice.{reversal-alike, reversal-twice_signs}
use Rattle.link_algebra.proofs.laws.twice.reversals_come_back.Goals as goal

pub returns-clause-crossings : goal.returns-clause-crossings
returns-clause-crossings c = reversal-alike

pub returns-clause-loops : goal.returns-clause-loops
returns-clause-loops c = λ code. refl

pub returns-clause-signs : goal.returns-clause-signs
returns-clause-signs c = λ code crossing holds is. reversal-twice_signs code holds crossing is

pub returns-clause-twice : goal.returns-clause-twice
returns-clause-twice c = grind (arith, nat_tests, reversal-twice, recursion_from_All)
