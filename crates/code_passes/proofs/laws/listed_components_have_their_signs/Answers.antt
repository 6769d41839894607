use Rattle.std.proofs.lemmas.Bool.Decides.{nat_tests}
use Rattle.std.proofs.Common.{arith}
use Rattle.std.proofs.lemmas.List.Elements.{recursion_from_All}
use Rattle.code_passes.proofs.SingleArcs.{HasNoSingleArcs-labels}
use Rattle.code_passes.proofs.TextSigns.{is_positive-moves}
use Rattle.code_passes.proofs.laws.listed_components_have_their_signs.Goals as goal

pub returns-clause-many : goal.returns-clause-many
returns-clause-many = grind (arith, nat_tests, HasNoSingleArcs-labels, recursion_from_All)

pub returns-clause-positive : goal.returns-clause-positive
returns-clause-positive c = is_positive-moves
