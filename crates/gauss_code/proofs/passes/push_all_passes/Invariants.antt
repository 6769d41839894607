use Rattle.std.proofs.Common.{◌≡◌, ◌+◌, ◌≤◌, ◌++◌, drop, length}
use Rattle.gauss_code.specs.declared.listing.TheConstants.{LABELS}
use Rattle.gauss_code.specs.Held.{labels_held, numbers_of}
use Rattle.code_passes.specs.Passes.{all_passes}
use Rattle.gauss_code.proofs.passes.push_all_passes.Given as goal

-- the passes so far, and then those that are left, for which there is room
abbrev pub invariant-loop-labels : goal.invariant-loop-labels
invariant-loop-labels l = record {
  passes : l.passes.items ++ all_passes (length l.passes.items + 1) (numbers_of (drop l.labels-index l.components))
      ≡ l.initial.passes.items ++ all_passes (length l.initial.passes.items + 1) (numbers_of l.components);
  room : length l.passes.items + length (labels_held (drop l.labels-index l.components)) ≤ LABELS;
}
