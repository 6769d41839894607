use Rattle.std.proofs.Common.{◌∙◌, IsTrue, ap, subst, sym}
use Rattle.kh_types.specs.Acceptance.{accepted}
use Rattle.kh_types.specs.Code.{Code}
use Rattle.code_passes.specs.Parts.{ArePaired, Parts}
use Rattle.orient_arcs.specs.Renumbered.{renumber}
use Rattle.union_laws.proofs.KeptParts.{ArePaired-kept}
use Rattle.tangle_scan.specs.Sides.{is_on_side}
use Rattle.tangle_scan.proofs.PieceLemmas.{side-cut}
use Rattle.tangle_scan.proofs.scanning.apart.side.Goals as goal

pub renumber-requires : goal.renumber-requires
renumber-requires c =
    let code = c.args.diagram.now in
    let is = c.diagram_laws.ensures.accepted in
    let cut = side-cut c.args.is_first code.crossings (c.pieces_share_no_arc.ensures.cut code is) in
    subst (λ (parts : Parts). ArePaired parts) (sym c.side_parts.ensures)
    (ArePaired-kept (is_on_side c.args.is_first code.crossings) code c.args.loops cut is)

pub of_accepted-requires : goal.of_accepted-requires
of_accepted-requires c =
    let code = c.args.diagram.now in
    let is = c.diagram_laws.ensures.accepted in
    let cut = side-cut c.args.is_first code.crossings (c.pieces_share_no_arc.ensures.cut code is) in
    subst (λ (code : Code). IsTrue (accepted code)) (sym (c.renumber.ensures.code ∙ ap renumber c.side_parts.ensures))
    (c.parts_are_accepted.ensures (is_on_side c.args.is_first code.crossings) code c.args.loops is cut c.requires)

pub returns : goal.returns
returns c = c.of_accepted.ensures ∙ c.renumber.ensures.code ∙ ap renumber c.side_parts.ensures
