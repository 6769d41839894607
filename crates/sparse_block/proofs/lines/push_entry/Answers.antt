use Rattle.std.proofs.Common.{arith}
use Rattle.std.proofs.lemmas.Bool.Decides.{nat_tests}
use Rattle.sparse_block.proofs.LineLemmas.{entries_in-pushed}
use Rattle.sparse_block.proofs.lines.push_entry.Goals as goal

pub returns : goal.returns
returns = grind (arith, nat_tests, entries_in-pushed)
