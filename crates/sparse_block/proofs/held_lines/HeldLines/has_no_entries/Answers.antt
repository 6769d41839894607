use Rattle.std.proofs.lemmas.Bool.Decides.{nat_tests}
use Rattle.std.proofs.Common.{arith}
use Rattle.sparse_block.proofs.FilledLines.{no_entries-counted, no_entries-padded}
use Rattle.sparse_block.proofs.held_lines.HeldLines.has_no_entries.Goals as goal

pub returns : goal.returns
returns = grind (arith, nat_tests, no_entries-counted, no_entries-padded)
