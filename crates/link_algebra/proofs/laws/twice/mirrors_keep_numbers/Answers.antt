use Rattle.std.proofs.lemmas.Bool.Decides.{nat_tests}
use Rattle.std.proofs.Common.{arith, subst}
use Rattle.std.proofs.lemmas.List.Elements.{recursion_from_All}
use Rattle.kh_types.specs.Code.{Code}
use Rattle.link_algebra.specs.Mirrors.{EntersInOrder, mirror_of}
use Rattle.link_algebra.proofs.KeptNumbers.{mirror-kept, mirror-twice}
use Rattle.link_algebra.proofs.MirrorImages.{mirrors-enter}
use Rattle.link_algebra.proofs.TurnedCodes.{mirror-accepted}
use Rattle.link_algebra.proofs.laws.twice.mirrors_keep_numbers.Goals as goal

pub returns-clause-kept : goal.returns-clause-kept
returns-clause-kept c = mirror-kept

pub returns-clause-twice : goal.returns-clause-twice
returns-clause-twice c = grind (arith, nat_tests, mirror-twice, recursion_from_All)

pub returns-clause-only : goal.returns-clause-only
returns-clause-only c = λ code holds same.
    subst (λ (code : Code). EntersInOrder code.crossings) same (mirrors-enter (mirror_of code) (mirror-accepted code holds))

pub returns-clause-mirrors : goal.returns-clause-mirrors
returns-clause-mirrors c = mirrors-enter
