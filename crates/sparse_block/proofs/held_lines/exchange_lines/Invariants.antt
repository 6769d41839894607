use Rattle.std.proofs.Common.{◌≡◌, ◌++◌, List, length}
use Rattle.sparse_block.specs.Changes.{PlacedLine}
use Rattle.sparse_block.specs.Clearing.{AreExchanged}
use Rattle.sparse_block.specs.Held.{filled_count}
use Rattle.sparse_block.specs.Inside.{entries_in}
use Rattle.sparse_block.proofs.held_lines.exchange_lines.Given as goal

-- the lines that are left, and then those that are in their places
abbrev pub invariant-lines : goal.invariant-lines
invariant-lines l =
    (l.counted ≡ filled_count (entries_in l.lines)) × (done : List PlacedLine) × (l.fn.named.items ≡ l.left.items ++ done)
    × AreExchanged done (entries_in l.initial.lines) (entries_in l.lines)

abbrev pub decreases-lines : goal.decreases-lines
decreases-lines l = length l.left.items
