use Rattle.std.proofs.lemmas.Bool.Decides.{nat_tests}
use Rattle.std.proofs.Common.{arith}
use Rattle.cube_signs.proofs.SignLemmas.{sign-same, sign-turned}
use Rattle.cube_signs.proofs.outs.next_sign.Goals as goal

pub returns-then-bit-eq0 : goal.returns-then-bit-eq0
returns-then-bit-eq0 = grind (arith, nat_tests, sign-same)

pub returns-else-bit-eq0 : goal.returns-else-bit-eq0
returns-else-bit-eq0 = grind (arith, nat_tests, sign-turned)
