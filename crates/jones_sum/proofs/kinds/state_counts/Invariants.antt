use Rattle.std.proofs.Common.{◌≡◌, ℕ, ◌<◌, get_or, length}
use Rattle.circle_smoothing.specs.Kinds.{kind_circles, kind_count, kind_ones}
use Rattle.circle_smoothing.specs.declared.kinds.TheConstants.{KINDS}
use Rattle.jones_sum.proofs.kinds.state_counts.Given as goal

abbrev pub invariant-kinds : goal.invariant-kinds
invariant-kinds l =
    record {
      counts : (kind : ℕ) → kind < l.kind → get_or l.counts kind 0 ≡ kind_count l.counted (kind_ones kind) (kind_circles kind);
      size : length l.counts ≡ KINDS;
    }
