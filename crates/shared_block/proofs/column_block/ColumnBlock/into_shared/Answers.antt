use Rattle.std.proofs.Common.{◌≡◌, ◌∙◌, ap, sym, subst, arith, to_z, of_z, w16}
use Rattle.std.proofs.lemmas.Int.{ints}
use Rattle.kh_types.specs.Code.{Code}
use Rattle.kh_types.specs.History.{IsLegal, replay}
use Rattle.sparse_block.specs.Complexes.{NamedComplex}
use Rattle.cube_signs.specs.Blocks.{named_block}
use Rattle.cube_signs.specs.OpeningBlocks.{AreBlockPlaces}
use Rattle.shared_block.proofs.column_block.ColumnBlock.into_shared.Goals as goal

pub invariant_of-result : goal.invariant_of-result
invariant_of-result g c =
    let p = g.F.PrimeField.P in
    let held = c.self.inside in
    let is = c.self.invariant.1 in
    let j = to_z w16 (of_z w16 held.degree) in
    let same : j ≡ held.degree = omega (arith, ints, c.self.ranges) in
    let pivots = c.in_ok-complex.field-0.pivots in
    let cube : c.deref.result.now ≡ held.diagram = c.deref.ensures ∙ c.self.invariant.0 in
    let there : AreBlockPlaces p c.deref.result.now held.degree held.places =
    subst (λ (code : Code). AreBlockPlaces p code held.degree held.places) (sym cube) is.are_places in
    let whole : c.opening_at-source.result ≡ named_block p held.diagram j =
    c.opening_at-source.ensures held.degree there ∙ ap (λ (code : Code). named_block p code held.degree) cube
    ∙ ap (named_block p held.diagram) (sym same) in
    record {
      accepted = is.accepted;
      legal = subst (λ (named : NamedComplex). IsLegal p named.complex pivots.items) whole c.in_ok-complex.ensures.legal;
      replayed = c.in_ok-complex.ensures.left ∙ ap (λ (named : NamedComplex). replay p named.complex pivots.items) whole;
      spare = c.in_ok-complex.ensures.room;
      short = omega (arith, pivots.ok);
    }
