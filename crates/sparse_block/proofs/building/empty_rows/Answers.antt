use Rattle.std.proofs.lemmas.Bool.Decides.{nat_tests}
use Rattle.std.proofs.Common.{arith}
use Rattle.sparse_block.proofs.BuildLemmas.{rows-more}
use Rattle.sparse_block.proofs.ZeroComplexes.{rows-none}
use Rattle.sparse_block.proofs.building.empty_rows.Goals as goal

pub degrees-preserved : goal.degrees-preserved
degrees-preserved = grind (arith, nat_tests, rows-more, rows-none)
