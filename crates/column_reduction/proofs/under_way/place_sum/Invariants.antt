use Rattle.std.proofs.Common.{◌≡◌, ◌*◌, ◌≤◌, ◌^◌, length, take}
use Rattle.std.specs.List.{sum_by}
use Rattle.sparse_block.specs.Inside.{lists_in}
use Rattle.column_reduction.proofs.under_way.place_sum.Given as goal

-- the places of the first degrees
abbrev pub invariant-degrees : goal.invariant-degrees
invariant-degrees l = (l.sum ≡ sum_by length (take l.k (lists_in l.alive))) × (l.sum ≤ l.k * 2 ^ 29)
