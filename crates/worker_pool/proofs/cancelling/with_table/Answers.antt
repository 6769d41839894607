use Rattle.std.proofs.Common.{sym, subst, All}
use Rattle.shared_block.specs.AllBlocks.{AreBlocksOf}
use Rattle.shared_block.specs.BlockHistories.{HasLegalHistory}
use Rattle.worker_pool.proofs.DoneLemmas.{blocks_all}
use Rattle.worker_pool.proofs.cancelling.with_table.Goals as goal

pub table_of-requires-clause-blocks : goal.table_of-requires-clause-blocks
table_of-requires-clause-blocks g c =
    subst (AreBlocksOf c.args.diagram.now) (sym c.deref.ensures.value) (blocks_all c.args.diagram.now c.args.done.blocks.items c.requires.blocks)

pub returns-clause-table : goal.returns-clause-table
returns-clause-table g c = c.in_ok-table.ensures

pub returns-clause-blocks : goal.returns-clause-blocks
returns-clause-blocks g c = record {
  of_diagram = blocks_all c.args.diagram.now c.args.done.blocks.items c.requires.blocks;
  zero = c.requires.done.zero;
  legal = subst (All (HasLegalHistory g.F.PrimeField.P)) c.deref-2.ensures.value c.legal_histories.ensures;
  counts = c.requires.done.counts;
}
