use Rattle.std.proofs.lemmas.Bool.Decides.{nat_tests}
use Rattle.std.proofs.Common.{arith}
use Rattle.std.proofs.lemmas.List.{map_push}
use Rattle.cube_signs.proofs.BlockLemmas.{all_names-more}
use Rattle.cube_signs.proofs.cube.Cube.all_names.Goals as goal

pub degrees-preserved : goal.degrees-preserved
degrees-preserved = grind (arith, nat_tests, all_names-more, map_push)
