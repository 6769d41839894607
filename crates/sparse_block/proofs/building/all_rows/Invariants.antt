use Rattle.std.proofs.Common.{◌≡◌, map}
use Rattle.std.specs.List.{range_with_len}
use Rattle.sparse_block.specs.Complexes.{all_alive, degree_from_lists}
use Rattle.sparse_block.specs.Inside.{lines_in, lists_in, row_entries}
use Rattle.sparse_block.proofs.building.all_rows.Given as goal

abbrev pub invariant-degrees : goal.invariant-degrees
invariant-degrees l =
    l.made.items
    ≡ map row_entries (map (degree_from_lists (all_alive (lists_in l.names)) (lines_in l.columns)) (range_with_len 0 l.k))
