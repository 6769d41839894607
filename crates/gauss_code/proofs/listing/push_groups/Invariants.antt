use Rattle.std.proofs.Common.{◌≡◌, ◌+◌, ◌≤◌, ◌++◌, drop, length}
use Rattle.gauss_code.specs.declared.listing.TheConstants.{LABELS}
use Rattle.gauss_code.specs.Held.{labels_held}
use Rattle.gauss_code.proofs.listing.push_groups.Given as goal

-- the labels so far, and then those that are left, for which there is room
abbrev pub invariant-loop-group : goal.invariant-loop-group
invariant-loop-group l = record {
  labels : l.labels.items ++ labels_held (drop l.group-index l.groups) ≡ l.initial.labels.items ++ labels_held l.groups;
  room : length l.labels.items + length (labels_held (drop l.group-index l.groups)) ≤ LABELS;
}
