use Rattle.std.proofs.Common.{◌≡◌, ℕ, ◌<◌, get_or, length, pos, ◌-ℤ◌}
use Rattle.kh_types.specs.declared.limits.TheConstants.{EXPONENT}
use Rattle.jones_sum.specs.Kinds.{counted_sum, kind_term}
use Rattle.jones_sum.specs.declared.laurent.TheConstants.{COEFFICIENTS}
use Rattle.jones_sum.proofs.finding.state_sum.Given as goal

abbrev pub invariant-places : goal.invariant-places
invariant-places l =
    record {
      coefficients : (place : ℕ) → place < l.place
          → get_or l.coefficients place (pos 0) ≡ counted_sum (kind_term l.signs.plus l.signs.minus (pos place -ℤ pos EXPONENT)) l.counts;
      size : length l.coefficients ≡ COEFFICIENTS;
    }
