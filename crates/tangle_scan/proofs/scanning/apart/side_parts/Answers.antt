use Rattle.std.proofs.Common.{◌∙◌}
use Rattle.tangle_scan.specs.Sides.{is_on_side}
use Rattle.tangle_scan.proofs.PieceLemmas.{parts-kept}
use Rattle.tangle_scan.proofs.scanning.apart.side_parts.Goals as goal

pub returns : goal.returns
returns c =
    let code = c.args.diagram.now in
    parts-kept (is_on_side c.args.is_first code.crossings) code c.args.loops c.deref.result.now c.deref-2.result.now
    c.crossings_at.result.items c.signs_at.result.items c.crossings_at.ensures c.signs_at.ensures
    (c.deref.ensures.0 ∙ c.side_places-places.ensures.places) (c.deref-2.ensures.0 ∙ c.side_places-places.ensures.places)
