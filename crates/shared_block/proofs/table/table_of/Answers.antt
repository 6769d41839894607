use Rattle.std.proofs.Common.{arith}
use Rattle.shared_block.proofs.Blocks.{rows-block_all, rows-block_more}
use Rattle.shared_block.proofs.table.table_of.Goals as goal

pub places-preserved : goal.places-preserved
places-preserved g c =
    rows-block_more g.F.PrimeField.P c.args.diagram.now c.args.blocks.now c.places.k c.index-blocks-k.result
    c.places.rows.items c.push_rows.new.rows.items c.requires.blocks.diagram c.places.invariant (omega (arith, c.places-test.true))
    c.index-blocks-k.is c.in_ok-push_rows.ensures

pub whole_table-requires-clause-rows : goal.whole_table-requires-clause-rows
whole_table-requires-clause-rows g c =
    rows-block_all g.F.PrimeField.P c.args.diagram.now c.args.blocks.now c.places.k c.places.rows.items c.places.invariant
    (omega (arith, c.places-test.false)) c.requires.blocks.degrees
