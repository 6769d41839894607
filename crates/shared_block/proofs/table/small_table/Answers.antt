use Rattle.std.proofs.Common.{rules, arith, to_z, of_z, w16, ◌∙◌, ap, sym}
use Rattle.cube_signs.specs.Blocks.{block_degrees}
use Rattle.kh_types.specs.Table.{rows_at}
use Rattle.homology_tables.proofs.BlockTables as tables
use Rattle.shared_block.proofs.Blocks.{rows-more}
use Rattle.shared_block.proofs.table.small_table.Goals as goal

pub degrees-preserved : goal.degrees-preserved
degrees-preserved g c =
    rows-more g.F.PrimeField.P c.diagram-diagram.result.now c.in_ok-cube.cube c.in_ok-degrees.degrees.items c.degrees.k c.index.result.now
    (to_z w16 (of_z w16 c.index.result.now)) c.degrees.rows.items c.push_block.new.rows.items c.degrees.invariant
    (omega (arith, c.degrees-test.true, c.len-k-end.ensures)) c.index.ensures (search rules) c.in_ok-cube.ensures
    c.in_ok-push_block.ensures

pub whole_table-requires-clause-rows : goal.whole_table-requires-clause-rows
whole_table-requires-clause-rows g c =
    let code = c.diagram-diagram.result.now in
    tables.rows-all (rows_at g.F.PrimeField.P code) c.in_ok-degrees.degrees.items (block_degrees code) c.degrees.k c.degrees.rows.items
    c.degrees.invariant (omega (arith, c.degrees-test.false, c.len-k-end.ensures))
    (c.in_ok-degrees.ensures ∙ ap block_degrees (sym c.diagram-diagram.ensures))
