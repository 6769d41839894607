use Rattle.std.proofs.Common.{rules, ◌∙◌, ap, arith, of_z, to_z, w16}
use Rattle.cube_signs.specs.Blocks.{block_degrees}
use Rattle.kh_types.specs.Table.{table_text}
use Rattle.cancel_log.proofs.LogSizes.{few-all}
use Rattle.cancel_log.proofs.WrittenLogs.{IsWritten-all, IsWritten-more, IsWritten-none}
use Rattle.cancel_log.proofs.writing.write_log.Goals as goal

pub degrees-init : goal.degrees-init
degrees-init g c =
    IsWritten-none g.F.PrimeField.P c.args.diagram.now c.in_ok-degrees.degrees.items c.in_ok-text.text.items c.new-rows.result.items
    c.in_ok-text.ensures.text c.new-rows.ensures.items

pub degrees-preserved : goal.degrees-preserved
degrees-preserved g c =
    IsWritten-more g.F.PrimeField.P c.args.diagram.now c.in_ok-cube.cube c.in_ok-degrees.degrees.items c.degrees.k c.index.result.now
    (to_z w16 (of_z w16 c.index.result.now)) c.in_ok-held.held c.degrees.text.items c.push_block.new.text.items c.degrees.rows.items
    c.push_rows.new.rows.items c.degrees.invariant (omega (arith, c.degrees-test.true, c.len-k-end.ensures)) c.index.ensures
    (search rules) c.in_ok-cube.ensures c.in_ok-held.ensures c.in_ok-push_block.ensures c.in_ok-push_rows.ensures

pub returns-clause-log : goal.returns-clause-log
returns-clause-log g c =
    IsWritten-all g.F.PrimeField.P c.args.diagram.now c.in_ok-degrees.degrees.items c.degrees.k c.degrees.text.items
    c.push_table.new.text.items (table_text c.whole_table-homology.result) c.degrees.rows.items c.element_laws.ensures.prime
    c.element_laws.ensures.field c.diagram_laws.ensures.accepted
    c.diagram_laws.ensures.few c.requires.loops c.requires.size
    c.in_ok-text.ensures.reads c.degrees.invariant (omega (arith, c.degrees-test.false, c.len-k-end.ensures))
    (c.in_ok-degrees.ensures ∙ ap block_degrees c.in_ok-cube.ensures) (ap table_text c.whole_table-homology.ensures)
    c.in_ok-push_table.ensures

pub returns-clause-few : goal.returns-clause-few
returns-clause-few g c =
    few-all g.F.PrimeField.P c.args.diagram.now c.in_ok-degrees.degrees.items c.degrees.k c.degrees.text.items
    c.push_table.new.text.items (table_text c.whole_table-homology.result) c.degrees.rows.items c.element_laws.ensures.prime
    c.element_laws.ensures.field c.diagram_laws.ensures.accepted
    c.diagram_laws.ensures.few c.requires.loops c.requires.size
    c.degrees.invariant (omega (arith, c.degrees-test.false, c.len-k-end.ensures))
    (c.in_ok-degrees.ensures ∙ ap block_degrees c.in_ok-cube.ensures) (ap table_text c.whole_table-homology.ensures)
    c.in_ok-push_table.ensures
