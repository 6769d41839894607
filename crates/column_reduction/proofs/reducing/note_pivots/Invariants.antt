use Rattle.std.proofs.Common.{◌≡◌, take}
use Rattle.sparse_block.specs.Inside.{lists_in}
use Rattle.column_reduction.specs.StoredColumns.{stored_pivots, with_pairs}
use Rattle.column_reduction.proofs.reducing.note_pivots.Given as goal

-- the pivots of the columns so far are noted, and their places are dead
abbrev pub invariant-columns : goal.invariant-columns
invariant-columns l =
    record {
      own : l.pivots.items ≡ stored_pivots l.degree (take l.line-index l.stored);
      others : l.made.pivots.items ≡ l.fn.made.pivots.items;
      alive : lists_in l.made.alive.items ≡ with_pairs l.k (lists_in l.fn.made.alive.items) (take l.line-index l.stored);
    }
