use Rattle.std.proofs.Common.{◌≡◌, map}
use Rattle.std.specs.List.{range_with_len}
use Rattle.sparse_block.specs.Complexes.{degree_from_lists, no_columns}
use Rattle.sparse_block.specs.Inside.{lists_in, row_entries}
use Rattle.sparse_block.proofs.building.empty_rows.Given as goal

abbrev pub invariant-degrees : goal.invariant-degrees
invariant-degrees l =
    l.made.items
    ≡ map row_entries (map (degree_from_lists (lists_in l.alive) (no_columns (lists_in l.alive))) (range_with_len 0 l.k))
