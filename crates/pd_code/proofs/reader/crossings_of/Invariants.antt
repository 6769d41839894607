use Rattle.std.proofs.Common.{◌≡◌, ◌++◌, drop}
use Rattle.pd_code.specs.Items.{crossings_among}
use Rattle.pd_code.proofs.reader.crossings_of.Given as goal

-- the crossings so far, and then those of the items that are left
abbrev pub invariant-loop-item : goal.invariant-loop-item
invariant-loop-item l = l.crossings.items ++ crossings_among (drop l.item-index l.items) ≡ crossings_among l.items
