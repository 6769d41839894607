use Rattle.std.proofs.lemmas.Bool.Decides.{nat_tests}
use Rattle.std.proofs.Common.{arith}
use Rattle.cube_signs.proofs.laws.heads.known_labels_behind.Goals as goal

pub returns : goal.returns
returns = grind (arith, nat_tests)
