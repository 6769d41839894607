use Rattle.std.proofs.Common.{◌≡◌, map}
use Rattle.std.specs.List.{range_with_len}
use Rattle.code_passes.specs.ComponentLabels.{entering_label}
use Rattle.gauss_code.proofs.diagram_labels.arc_labels.Given as goal

-- the labels of the arcs so far
abbrev pub invariant-loop-before : goal.invariant-loop-before
invariant-loop-before l = l.labels.items ≡ map (entering_label l.diagram.crossings) (range_with_len 1 l.before)
