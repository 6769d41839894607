use Rattle.std.proofs.Common.{◌≡◌, take}
use Rattle.std.specs.List.{flat_map}
use Rattle.reduced_cube.specs.Reduced.{reduced_rows}
use Rattle.reduced_cube.proofs.table.table_of.Given as goal

abbrev pub invariant-degrees : goal.invariant-degrees
invariant-degrees g l = l.rows.items ≡ flat_map (reduced_rows g.F.PrimeField.P l.cube-inside.cube l.cube-inside.mark) (take l.k l.degrees.items)
