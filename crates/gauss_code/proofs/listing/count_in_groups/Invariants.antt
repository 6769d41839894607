use Rattle.std.proofs.Common.{◌≡◌, ◌+◌, drop, length}
use Rattle.gauss_code.specs.Held.{labels_held}
use Rattle.gauss_code.proofs.listing.count_in_groups.Given as goal

-- the labels so far, and those that are left
abbrev pub invariant-loop-group : goal.invariant-loop-group
invariant-loop-group l = l.count + length (labels_held (drop l.group-index l.groups)) ≡ length (labels_held l.groups)
