use Rattle.std.proofs.Common.{◌≡◌, ◌∙◌, arith, drop, length, subst, sym}
use Rattle.std.specs.List.{All}
use Rattle.shared_block.specs.AllBlocks.{AreBlocksOf, IsFinished}
use Rattle.commit_core.proofs.Lists.{take-whole}
use Rattle.commit_core.proofs.machine.Core.finish.Goals as goal

pub table_of-requires-clause-blocks : goal.table_of-requires-clause-blocks
table_of-requires-clause-blocks g c =
    let code = c.self.inside.diagram in
    let finished = c.finish_all.new.blocks in
    let size : length finished ≡ c.self.inside.blocks.len = omega (arith, c.finish_all.auto.blocks, c.deref_mut.ensures.len) in
    subst (AreBlocksOf code)
    (sym (c.deref.ensures.value ∙ take-whole c.self.inside.blocks.len finished (drop (length finished) c.self.inside.blocks.items) size))
    (c.blocks_stay_those_of_their_diagram.ensures.later code c.deref_mut.result.now finished c.in_ok-finish_all.ensures.kept
    (subst (AreBlocksOf code) (sym c.deref_mut.ensures.value) c.self.invariant.0.blocks))

pub table_of-requires-clause-zero : goal.table_of-requires-clause-zero
table_of-requires-clause-zero g c =
    let finished = c.finish_all.new.blocks in
    let size : length finished ≡ c.self.inside.blocks.len = omega (arith, c.finish_all.auto.blocks, c.deref_mut.ensures.len) in
    subst (All (IsFinished g.F.PrimeField.P))
    (sym (c.deref.ensures.value ∙ take-whole c.self.inside.blocks.len finished (drop (length finished) c.self.inside.blocks.items) size))
    c.in_ok-finish_all.ensures.zero
