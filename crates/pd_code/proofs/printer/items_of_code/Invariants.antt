use Rattle.std.proofs.Common.{◌≡◌, ℕ, ◌-◌, ◌<◌, [], ◌++◌, get_or, map, take}
use Rattle.std.specs.List.{range_with_len}
use Rattle.pd_code.specs.Printing.{HasFourSlots, crossing_item, loop_item}
use Rattle.pd_code.proofs.printer.items_of_code.Given as goal

-- the items of the crossings so far, and each of these has four slots
abbrev pub invariant-loop-crossing : goal.invariant-loop-crossing
invariant-loop-crossing l = record {
  items : l.items.items ≡ map crossing_item (take l.crossing-index l.crossing-items);
  four : (k : ℕ) → k < l.crossing-index → HasFourSlots (get_or l.crossing-items k []);
}

-- the items of the crossings, and of the loops so far
abbrev pub invariant-loop-name : goal.invariant-loop-name
invariant-loop-name l =
    l.items.items ≡ map crossing_item l.diagram.crossings ++ map loop_item (range_with_len l.first (l.name - l.first))
