use Rattle.std.proofs.Common.{◌≡◌, ℕ, ◌++◌, ◌∙◌, List, ap, arith, drop, length, subst, sym, take}
use Rattle.std.proofs.Math.Seq.{take-append_seam}
use Rattle.std.proofs.lemmas.List.Elements.{length_all_zip}
use Rattle.shared_block.specs.BlockHistories.{BlockHistory}
use Rattle.shared_block.specs.AllBlocks.{AreBlocksOf, IsLaterOf}
use Rattle.shared_block.proofs.AllBlocks.{AreBlocksOf-later, AreBlocksOf-opening}
use Rattle.cube_tests.proofs.known_tables.all_blocks.text_by_blocks.Goals as goal

pub table_of-requires-clause-blocks : goal.table_of-requires-clause-blocks
table_of-requires-clause-blocks g c =
    let code = c.args.diagram.now in
    let before = c.deref_mut.result.now in
    let after = c.finish_all.new.blocks in
    let rest : List BlockHistory = drop (length after) c.in_ok-blocks.blocks.items in
    let kept = c.in_ok-finish_all.ensures.kept in
    let count : c.in_ok-blocks.blocks.len ≡ length after =
    omega (arith, length_all_zip IsLaterOf before after kept, c.deref_mut.ensures.len) in
    subst (AreBlocksOf code)
    (sym (c.deref.ensures.value ∙ ap (λ (n : ℕ). take n (after ++ rest)) count ∙ take-append_seam after rest))
    (AreBlocksOf-later code before after kept
    (subst (AreBlocksOf code) (sym (c.deref_mut.ensures.value ∙ c.in_ok-blocks.ensures)) (AreBlocksOf-opening code)))
