use Rattle.std.proofs.Common.{ap, arith, subst, take_all}
use Rattle.std.specs.Prelude.{All}
use Rattle.std.proofs.lemmas.List.Elements.{All-more}
use Rattle.kh_types.specs.Table.{table_text}
use Rattle.shared_block.specs.BlockHistories.{HasLegalHistory}
use Rattle.cancel_log.proofs.LogSizes.{few-of_blocks}
use Rattle.cancel_log.proofs.WrittenLogs.{log-of_blocks, text_to-all, text_to-step}
use Rattle.cancel_log.proofs.writing.log_of_blocks.Goals as goal

pub returns-clause-text : goal.returns-clause-text
returns-clause-text g c =
    text_to-all g.F.PrimeField.P c.args.diagram.now c.args.blocks.now c.each.k c.each.text.items c.push_table.new.text.items
    (table_text c.args.homology.now) c.each.invariant.0 (omega (arith, c.each-test.false)) (ap table_text c.requires.table)
    c.in_ok-push_table.ensures

pub returns-clause-log : goal.returns-clause-log
returns-clause-log g c =
    let p = g.F.PrimeField.P in
    let blocks = c.args.blocks.now in
    log-of_blocks p c.args.diagram.now blocks c.push_table.new.text.items c.element_laws.ensures.prime c.element_laws.ensures.field
    c.diagram_laws.ensures.accepted c.diagram_laws.ensures.few c.requires.loops
    c.requires.size c.in_ok-text.ensures.reads c.requires.blocks
    (subst (All (HasLegalHistory p)) (take_all c.each.k blocks (omega (arith, c.each-test.false))) c.each.invariant.1) c.requires.zero
    (returns-clause-text g c)

pub returns-clause-few : goal.returns-clause-few
returns-clause-few g c =
    let p = g.F.PrimeField.P in
    let blocks = c.args.blocks.now in
    few-of_blocks p c.args.diagram.now blocks c.push_table.new.text.items c.element_laws.ensures.prime c.element_laws.ensures.field
    c.diagram_laws.ensures.accepted c.diagram_laws.ensures.few c.requires.loops
    c.requires.size c.requires.blocks
    (subst (All (HasLegalHistory p)) (take_all c.each.k blocks (omega (arith, c.each-test.false))) c.each.invariant.1)
    (returns-clause-text g c)

pub each-preserved : goal.each-preserved
each-preserved g c = (
  text_to-step g.F.PrimeField.P c.args.diagram.now c.args.blocks.now c.each.k c.index-blocks-k-in-each.result c.each.text.items
      c.push_block.new.text.items c.each.invariant.0 c.each-test.true c.index-blocks-k-in-each.is c.in_ok-push_block.ensures,
  All-more (HasLegalHistory g.F.PrimeField.P) c.args.blocks.now c.each.k c.index-blocks-k.result c.each-test.true
      c.each.invariant.1 (subst (HasLegalHistory g.F.PrimeField.P) c.index-blocks-k.is c.block_laws.ensures.legal),
)
