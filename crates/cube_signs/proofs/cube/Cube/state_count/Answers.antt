use Rattle.std.proofs.lemmas.Bool.Decides.{nat_tests}
use Rattle.std.proofs.Common.{arith}
use Rattle.std.proofs.Math.Pow.{pow_mono}
use Rattle.cube_signs.proofs.TableLemmas.{length-shapes}
use Rattle.cube_signs.proofs.cube.Cube.state_count.Goals as goal

pub returns : goal.returns
returns = grind (arith, nat_tests, pow_mono, length-shapes)
