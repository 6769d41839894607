use Rattle.std.proofs.Common.{◌≡◌, map}
use Rattle.std.specs.List.{range_with_len}
use Rattle.kh_types.specs.CircleSteps.{arc_at}
use Rattle.circle_smoothing.proofs.tables.arcs_of.Given as goal

abbrev pub invariant-loop-place : goal.invariant-loop-place
invariant-loop-place l = l.arcs.items ≡ map (arc_at l.diagram.crossings) (range_with_len 0 l.place)
