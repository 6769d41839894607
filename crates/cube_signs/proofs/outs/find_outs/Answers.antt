use Rattle.std.proofs.lemmas.Bool.Decides.{nat_tests}
use Rattle.std.proofs.Common.{arith}
use Rattle.cube_signs.proofs.SignLemmas.{outs-more}
use Rattle.cube_signs.proofs.outs.find_outs.Goals as goal

pub places-preserved : goal.places-preserved
places-preserved = grind (arith, nat_tests, outs-more)
