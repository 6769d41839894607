use Rattle.std.proofs.Common.{◌≡◌}
use Rattle.kh_work.specs.Circles.{table_with}
use Rattle.kh_work.proofs.circles.beside_loops.Given as goal

abbrev pub invariant-loops : goal.invariant-loops
invariant-loops g l = l.made ≡ table_with g.F.PrimeField.P l.diagram l.counter
