use Rattle.std.proofs.Common.{◌≡◌}
use Rattle.std.specs.List.{range_with_len}
use Rattle.std.specs.Prelude.{None}
use Rattle.kh_types.specs.Acceptance.{first_of, checkerboard_at}
use Rattle.kh_types.proofs.ColouringLemmas.{AreOfCrossings, FollowsTo}
use Rattle.kh_types.proofs.acceptance.checkerboard.checkerboard_fault.Given as goal

abbrev pub invariant-loop-place : goal.invariant-loop-place
invariant-loop-place l = record {
  none : first_of (checkerboard_at l.crossings) (range_with_len 1 l.place) ≡ None;
  are : AreOfCrossings l.crossings l.place;
  follows : FollowsTo l.crossings l.place l.classes.items l.colours.items;
}
