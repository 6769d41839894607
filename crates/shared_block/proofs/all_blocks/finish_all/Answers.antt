use Rattle.std.proofs.Common.{arith}
use Rattle.std.proofs.lemmas.List.Elements.{AllWithin-more_set, AllWithin-none}
use Rattle.shared_block.specs.AllBlocks.{IsFinished}
use Rattle.shared_block.proofs.AllBlocks.{later-set, later-self}
use Rattle.shared_block.proofs.all_blocks.finish_all.Goals as goal

pub places-init : goal.places-init
places-init g c = record {
  later = later-self c.args.blocks.now;
  finished = AllWithin-none (IsFinished g.F.PrimeField.P) c.args.blocks.now 0;
}

pub returns-in_err-finish-clause-kept : goal.returns-in_err-finish-clause-kept
returns-in_err-finish-clause-kept g c =
    later-set c.args.blocks.now c.places.blocks c.places.k c.index-blocks-k.result c.finish.new.self (omega arith)
    c.places.invariant.later
    (record { diagram = c.finish.ensures.diagram; degree = c.finish.ensures.degree; history = c.finish.ensures.history })

pub places-preserved : goal.places-preserved
places-preserved g c = record {
  later = later-set c.args.blocks.now c.places.blocks c.places.k c.index-blocks-k.result c.finish.new.self (omega arith)
      c.places.invariant.later
      (record { diagram = c.finish.ensures.diagram; degree = c.finish.ensures.degree; history = c.finish.ensures.history });
  finished = AllWithin-more_set c.places.blocks c.places.k c.finish.new.self (omega arith) (IsFinished g.F.PrimeField.P)
      c.places.invariant.finished c.in_ok-finish.ensures.zero;
}
