use Rattle.std.proofs.lemmas.Bool.Decides.{nat_tests}
use Rattle.std.proofs.Common.{arith}
use Rattle.cube_signs.proofs.LabelLists.{lists_in-pushed}
use Rattle.cube_signs.proofs.labels.push_label.Goals as goal

pub returns : goal.returns
returns = grind (arith, nat_tests, lists_in-pushed)
