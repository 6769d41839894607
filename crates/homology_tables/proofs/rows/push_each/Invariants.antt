use Rattle.std.proofs.Common.{◌≡◌, ◌++◌}
use Rattle.kh_types.specs.Complex.{alive_count}
use Rattle.homology_tables.proofs.DegreeRows.{rows_to}
use Rattle.homology_tables.proofs.rows.push_each.Given as goal

abbrev pub invariant-degrees : goal.invariant-degrees
invariant-degrees g l = l.rows.items ≡ l.initial.rows.items ++ rows_to l.reach l.j (alive_count l.complex.complex) l.k
