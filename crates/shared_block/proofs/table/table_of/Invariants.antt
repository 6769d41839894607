use Rattle.std.proofs.Common.{◌≡◌, take}
use Rattle.std.specs.List.{flat_map}
use Rattle.kh_types.specs.Table.{rows_at}
use Rattle.shared_block.specs.AllBlocks.{degrees_of_blocks}
use Rattle.shared_block.proofs.table.table_of.Given as goal

abbrev pub invariant-places : goal.invariant-places
invariant-places g l = l.rows.items ≡ flat_map (rows_at g.F.PrimeField.P l.diagram) (take l.k (degrees_of_blocks l.blocks))
