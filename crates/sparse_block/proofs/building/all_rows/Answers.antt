use Rattle.std.proofs.lemmas.Bool.Decides.{nat_tests}
use Rattle.std.proofs.Common.{arith}
use Rattle.sparse_block.proofs.BuildLemmas.{rows-more}
use Rattle.sparse_block.proofs.building.all_rows.Goals as goal

pub degrees-preserved : goal.degrees-preserved
degrees-preserved = grind (arith, nat_tests, rows-more)
