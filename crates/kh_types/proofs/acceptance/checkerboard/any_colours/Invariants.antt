use Rattle.std.proofs.Common.{◌≡◌, length}
use Rattle.kh_types.proofs.acceptance.checkerboard.any_colours.Given as goal

abbrev pub invariant-loop-place : goal.invariant-loop-place
invariant-loop-place l = length l.colours.items ≡ l.place
