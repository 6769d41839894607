use Rattle.std.proofs.Common.{◌≡◌, ◌≤◌, ◌*◌, ◌^◌, pos, ◌-ℤ◌, take}
use Rattle.std.specs.Prelude.{unsigned_abs}
use Rattle.std.specs.List.{sum}
use Rattle.kh_types.specs.declared.limits.TheConstants.{CIRCLES, EXPONENT}
use Rattle.jones_sum.specs.Kinds.{counted_sum, kind_term}
use Rattle.jones_sum.proofs.finding.coefficient.Given as goal

abbrev pub invariant-kinds : goal.invariant-kinds
invariant-kinds l =
    record {
      total : l.total ≡ counted_sum (kind_term l.signs.plus l.signs.minus (pos l.place -ℤ pos EXPONENT)) (take l.kind l.counts);
      within : unsigned_abs l.total ≤ sum (take l.kind l.counts) * 2 ^ CIRCLES;
    }
