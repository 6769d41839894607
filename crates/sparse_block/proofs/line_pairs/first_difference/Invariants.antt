use Rattle.std.proofs.Common.{◌+◌, ◌-◌, ◌≤◌, length, drop}
use Rattle.sparse_block.proofs.AgreeLemmas.{Agree}
use Rattle.sparse_block.proofs.line_pairs.first_difference.Given as goal

abbrev pub invariant-places : goal.invariant-places
invariant-places l =
    record {
      within : l.at ≤ length l.left;
      other_within : l.other_at ≤ length l.right;
      agree : Agree l.left l.right (drop l.at l.left) (drop l.other_at l.right);
    }

abbrev pub decreases-places : goal.decreases-places
decreases-places l = (length l.left - l.at) + (length l.right - l.other_at)
