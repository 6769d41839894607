use Rattle.std.specs.List.{AllWithin, AllZip}
use Rattle.shared_block.specs.AllBlocks.{IsFinished, IsLaterOf}
use Rattle.shared_block.proofs.all_blocks.finish_all.Given as goal

abbrev pub invariant-places : goal.invariant-places
invariant-places g l = record {
  later : AllZip IsLaterOf l.initial.blocks l.blocks;
  finished : AllWithin (IsFinished g.F.PrimeField.P) l.blocks 0 l.k;
}
