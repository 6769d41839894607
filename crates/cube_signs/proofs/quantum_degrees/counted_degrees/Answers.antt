use Rattle.std.proofs.lemmas.Bool.Decides.{nat_tests}
use Rattle.std.proofs.Common.{arith}
use Rattle.std.proofs.lemmas.Result.{IfOk-weaker}
use Rattle.cube_signs.proofs.KindDegrees.{degrees-kinds}
use Rattle.cube_signs.proofs.quantum_degrees.counted_degrees.Goals as goal

pub returns : goal.returns
returns = grind (arith, nat_tests, IfOk-weaker, degrees-kinds)
