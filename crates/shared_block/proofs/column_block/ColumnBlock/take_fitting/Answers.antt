use Rattle.std.proofs.Common.{sym, subst}
use Rattle.kh_types.specs.History.{block}
use Rattle.cube_signs.specs.OpeningBlocks.{IsAround}
use Rattle.column_reduction.specs.UnderWay.{IsFound}
use Rattle.shared_block.specs.BlockHistories.{BlockHistory, opening_of}
use Rattle.shared_block.proofs.column_block.ColumnBlock.take_fitting.Goals as goal

pub invariant_of-self : goal.invariant_of-self
invariant_of-self g c =
    let p = g.F.PrimeField.P in
    let held = c.self.inside in
    let is = c.self.invariant.1 in
    let found : IsFound p (block p held.diagram held.degree) held.reduction.history.items c.args.look.found =
    subst (λ (held : BlockHistory). IsFound p (opening_of p held) held.history c.args.look.found) (sym c.self.view_is) c.requires.found in
    let near = subst (λ (held : BlockHistory). IsAround p held.diagram held.degree c.args.look.near) (sym c.self.view_is) c.requires.near in (
      c.self.invariant.0,
      record {
        accepted = is.accepted;
        are_places = is.are_places;
        near_is = near;
        reduction_is = c.take.ensures.reduction p (block p held.diagram held.degree) c.element_laws.ensures.field is.reduction_is found;
      },
    )

pub invariant_of-self-else-is_found : goal.invariant_of-self-else-is_found
invariant_of-self-else-is_found g c =
    let p = g.F.PrimeField.P in
    let held = c.self.inside in
    let is = c.self.invariant.1 in
    let found : IsFound p (block p held.diagram held.degree) held.reduction.history.items c.args.look.found =
    subst (λ (held : BlockHistory). IsFound p (opening_of p held) held.history c.args.look.found) (sym c.self.view_is) c.requires.found in (
      c.self.invariant.0,
      record {
        accepted = is.accepted;
        are_places = is.are_places;
        near_is = is.near_is;
        reduction_is = c.take.ensures.reduction p (block p held.diagram held.degree) c.element_laws.ensures.field is.reduction_is found;
      },
    )
