use Rattle.std.proofs.lemmas.Bool.Decides.{nat_tests}
use Rattle.std.proofs.Common.{arith}
use Rattle.std.proofs.lemmas.List.{length-map, map_push}
use Rattle.sparse_block.proofs.LineLemmas.{list-lists_in}
use Rattle.sparse_block.proofs.BuildLemmas.{all_alive-more}
use Rattle.sparse_block.proofs.building.all_alive.Goals as goal

pub degrees-preserved : goal.degrees-preserved
degrees-preserved = grind (arith, nat_tests, map_push, all_alive-more, length-map, list-lists_in)
