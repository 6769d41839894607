use Rattle.std.proofs.Common.{◌≡◌, map}
use Rattle.std.specs.List.{range_with_len}
use Rattle.kh_types.specs.Colouring.{colour_after}
use Rattle.kh_types.proofs.acceptance.checkerboard.colours_after.Given as goal

abbrev pub invariant-loop-place : goal.invariant-loop-place
invariant-loop-place l = l.changed.items ≡ map (colour_after l.classes l.colours l.equation) (range_with_len 0 l.place)
