use Rattle.std.proofs.Common.{◌≡◌, ◌∙◌, ℤ, ap, sym, subst, to_z, of_z, w16}
use Rattle.kh_types.specs.Code.{Code}
use Rattle.cube_signs.specs.Blocks.{named_block}
use Rattle.cube_signs.specs.OpeningBlocks.{AreBlockPlaces, IsAround}
use Rattle.column_reduction.specs.UnderWay.{IsReductionOf}
use Rattle.shared_block.proofs.column_block.ColumnBlock.of_cube.Goals as goal

pub invariant_of-result : goal.invariant_of-result
invariant_of-result g c =
    let p = g.F.PrimeField.P in
    let code = c.diagram.result.now in
    let j = to_z w16 (of_z w16 c.args.j) in
    let places = c.in_ok-places.places in
    let reduction = c.in_ok-reduction.reduction in
    let cube : c.deref.result.now ≡ code = sym c.diagram.ensures in
    let second : c.deref-2.result.now ≡ code = c.deref-2.ensures ∙ sym c.deref.ensures ∙ cube in
    let third : c.deref-3.result.now ≡ code = c.deref-3.ensures ∙ sym c.deref.ensures ∙ cube in
    let fourth : c.deref-4.result.now ≡ code = c.deref-4.ensures ∙ sym c.deref.ensures ∙ cube in
    let are : AreBlockPlaces p code j places =
    subst (λ (code : Code). AreBlockPlaces p code j places) second c.in_ok-places.ensures in
    let whole : c.borrowed_block-source.result ≡ (code, j) =
    c.borrowed_block-source.ensures j (subst (λ (code : Code). AreBlockPlaces p code j places) (sym fourth) are)
    ∙ ap (λ (code : Code). (code, j)) fourth in (
      c.in_ok-try_clone.ensures ∙ sym c.deref.ensures ∙ cube,
      record {
        accepted = c.diagram_laws.ensures.accepted;
        are_places = are;
        near_is = subst (λ (code : Code). IsAround p code j c.nowhere-near.result) third (c.nowhere-near.ensures p j);
        reduction_is = subst (λ (of : Code × ℤ). IsReductionOf p (named_block p of.0 of.1).complex reduction) whole
            c.in_ok-reduction.ensures.reduction;
      },
    )
