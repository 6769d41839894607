use Rattle.std.proofs.Common.{◌+◌, ◌-◌, ◌≤◌, length, drop}
use Rattle.sparse_block.proofs.PairLemmas.{Merged}
use Rattle.sparse_block.proofs.line_pairs.subtract_into.Given as goal

abbrev pub invariant-places : goal.invariant-places
invariant-places g l =
    record {
      within : l.at ≤ length l.line;
      other_within : l.other_at ≤ length l.other;
      merged : Merged g.F.PrimeField.P (g.F.PrimeField.value_of l.factor) l.line l.other l.made.items (drop l.at l.line)
          (drop l.other_at l.other);
    }

abbrev pub decreases-places : goal.decreases-places
decreases-places g l = (length l.line - l.at) + (length l.other - l.other_at)
