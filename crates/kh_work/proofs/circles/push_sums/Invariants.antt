use Rattle.std.proofs.Common.{◌≡◌, ◌++◌}
use Rattle.homology_tables.proofs.DegreeRows.{rows_to}
use Rattle.kh_work.specs.Circles.{dims_of}
use Rattle.kh_work.proofs.circles.push_sums.Given as goal

abbrev pub invariant-degrees : goal.invariant-degrees
invariant-degrees l = l.rows.items ≡ l.initial.rows.items ++ rows_to l.reach l.j (dims_of l.lower l.upper) l.k
