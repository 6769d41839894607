use Rattle.std.proofs.Common.{◌≡◌, map}
use Rattle.std.specs.List.{range_with_len}
use Rattle.kh_types.specs.CircleNumbers.{circle_number}
use Rattle.reduced_cube.proofs.marks.marked_circles.Given as goal

abbrev pub invariant-states : goal.invariant-states
invariant-states l = l.circles.items ≡ map (λ s. circle_number l.diagram s l.mark) (range_with_len 0 l.state)
