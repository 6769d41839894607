use Rattle.std.proofs.Common.{◌≡◌, ◌∙◌, ap, sym, subst, true, arith, to_z, of_z, w16}
use Rattle.std.proofs.lemmas.Int.{ints}
use Rattle.kh_types.specs.Complex.{alive_count, is_zero}
use Rattle.kh_types.specs.Table.{dimension}
use Rattle.shared_block.specs.BlockHistories.{BlockHistory, block_with, complex_of}
use Rattle.shared_block.proofs.BlockDimensions.{alive_count-finished}
use Rattle.shared_block.proofs.shared_block.SharedBlock.dim.Goals as goal

pub returns : goal.returns
returns g c =
    let p = g.F.PrimeField.P in
    let inside = c.self.inside in
    let held = block_with inside.diagram inside.degree inside.history.items in
    let zero : is_zero (complex_of p held) ≡ true =
    subst (λ (seen : BlockHistory). is_zero (complex_of p seen) ≡ true) (sym c.self.view_is) c.requires in
    let i : to_z w16 (of_z w16 c.args.i) ≡ c.args.i = omega (arith, ints, c.ranges.i.sfits) in
    c.alive.ensures ∙ ap (alive_count inside.complex.complex) i ∙ ap (λ complex. alive_count complex c.args.i) c.self.invariant.replayed
    ∙ alive_count-finished p held.diagram held.degree c.args.i held.history c.element_laws.ensures.field c.self.invariant.accepted
    c.self.invariant.legal zero
    ∙ ap (λ (seen : BlockHistory). dimension p seen.diagram c.args.i seen.degree) c.self.view_is
