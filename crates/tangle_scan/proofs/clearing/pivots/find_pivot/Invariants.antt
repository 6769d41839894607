use Rattle.std.proofs.Common.{ℕ, ◌<◌}
use Rattle.tangle_scan.specs.Held.{IsPivot}
use Rattle.tangle_scan.proofs.clearing.pivots.find_pivot.Given as goal

abbrev pub invariant-tails : goal.invariant-tails
invariant-tails l = (tail : ℕ) → tail < l.tail → (head number : ℕ) → IsPivot l.rowed.complex tail head number → ⊥
