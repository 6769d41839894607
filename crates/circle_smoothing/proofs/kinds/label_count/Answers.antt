use Rattle.std.proofs.lemmas.Bool.Decides.{nat_tests}
use Rattle.std.proofs.Common.{arith}
use Rattle.std.proofs.Math.Pow.{pow_mono}
use Rattle.circle_smoothing.proofs.kinds.label_count.Goals as goal

pub returns-clause-within : goal.returns-clause-within
returns-clause-within = grind (arith, nat_tests, pow_mono)
