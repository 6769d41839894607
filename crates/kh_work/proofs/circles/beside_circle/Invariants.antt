use Rattle.std.proofs.Common.{◌≡◌}
use Rattle.kh_types.specs.declared.limits.TheConstants.{EXPONENT}
use Rattle.kh_work.proofs.CircleRows.{rows_to}
use Rattle.kh_work.proofs.circles.beside_circle.Given as goal

abbrev pub invariant-degrees : goal.invariant-degrees
invariant-degrees l = l.rows.items ≡ rows_to EXPONENT l.reach l.homology l.place
