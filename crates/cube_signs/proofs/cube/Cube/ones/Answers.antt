use Rattle.std.proofs.lemmas.Bool.Decides.{nat_tests}
use Rattle.std.proofs.Common.{arith}
use Rattle.kh_types.proofs.QuantumDegrees.{one_count-le}
use Rattle.cube_signs.proofs.cube.Cube.ones.Goals as goal

pub returns-clause-within : goal.returns-clause-within
returns-clause-within = grind (arith, nat_tests, one_count-le)
