use Rattle.std.proofs.Common.{◌∙◌, sym, subst, arith}
use Rattle.added_crossing_laws.specs.Codes.{points_at}
use Rattle.tangle_maps.specs.declared.pairing.TheConstants.{POINTS}
use Rattle.crossing_maps.specs.Bridges.{IsBridgeAt}
use Rattle.crossing_maps.specs.ListedPlaces.{IsArcs}
use Rattle.crossing_maps.specs.Sides.{pairs_before}
use Rattle.crossing_maps.proofs.SeamPlaces.{faces_there}
use Rattle.crossing_maps.proofs.between.added_bridge.Goals as goal

pub discs_of-discs-requires : goal.discs_of-discs-requires
discs_of-discs-requires c = c.requires.sides.around.opened

pub bridge_between-requires-clause-discs : goal.bridge_between-requires-clause-discs
bridge_between-requires-clause-discs c = subst (λ xs. IsArcs POINTS xs) (sym c.deref.ensures.0) c.discs_of-discs.ensures.arcs

pub bridge_between-requires-clause-lowers : goal.bridge_between-requires-clause-lowers
bridge_between-requires-clause-lowers c =
    record { below = c.requires.sides.around.opened.below; fits = omega (arith, c.requires.sides.around.opened.fits) }

pub returns-clause-bridge : goal.returns-clause-bridge
returns-clause-bridge c = λ code k place is first second.
    let site = c.args.site.now in
    let from = c.args.from.now in
    let to = c.args.to.now in
    let m = pairs_before site from in
    let n = pairs_before site to in
    subst (λ xs. IsBridgeAt code k from.smoothing to.smoothing m n xs (points_at code k).opened c.bridge_between.result)
    (faces_there code k m n c.deref.result.now site.opened.now place is.before first.among second.among
    (c.deref.ensures.0 ∙ c.discs_of-discs.ensures.discs))
    (subst (λ ys. IsBridgeAt code k from.smoothing to.smoothing m n c.deref.result.now ys c.bridge_between.result) is.before
    (c.bridge_between.ensures.bridge code k place is first second))
