use Rattle.std.proofs.Common.{◌++◌, ◌∙◌, ℕ, List, length, sym, subst, ap, arith}
use Rattle.kh_types.specs.Circles.{smoothing_of}
use Rattle.kh_types.specs.Classes.{classes_of, is_least}
use Rattle.tangle_maps.specs.declared.pairing.TheConstants.{POINTS}
use Rattle.crossing_maps.specs.ListedPlaces.{IsArcs}
use Rattle.crossing_maps.specs.Sides.{pairs_after, pairs_before}
use Rattle.crossing_maps.proofs.Composable.{can-label, closed-within, rims-near, sides-joined, slots-numbered}
use Rattle.crossing_maps.proofs.SeamPlaces.{bridge_there}
use Rattle.crossing_maps.proofs.between.bridge_between.Goals as goal

pub added_classes-classes-requires-clause-opened : goal.added_classes-classes-requires-clause-opened
added_classes-classes-requires-clause-opened c = c.requires.sides.around.opened.below

pub added_classes-classes-requires-clause-arcs : goal.added_classes-classes-requires-clause-arcs
added_classes-classes-requires-clause-arcs c = slots-numbered c.args.site.now c.requires.sides.around

pub discs_of-rims-requires : goal.discs_of-rims-requires
discs_of-rims-requires c = c.requires.sides.around.next

pub bridge_on-requires-clause-near : goal.bridge_on-requires-clause-near
bridge_on-requires-clause-near c = c.requires.sides.around.around

pub bridge_on-requires-clause-places : goal.bridge_on-requires-clause-places
bridge_on-requires-clause-places c = record {
  rims = subst (λ xs. IsArcs POINTS xs) (sym c.deref.ensures.0) c.discs_of-rims.ensures.arcs;
  discs = c.requires.discs;
  closed = subst (λ xs. IsArcs POINTS xs) (sym c.deref-2.ensures.0) c.requires.sides.closed;
  others = subst (λ xs. IsArcs POINTS xs) (sym c.deref-3.ensures.0) c.requires.sides.others;
  lowers = c.requires.lowers;
  raises = c.requires.sides.around.next;
  both = omega (
    arith,
    c.requires.sides.both,
    ap (λ (xs : List ℕ). length xs) c.deref-2.ensures.0,
    ap (λ (xs : List ℕ). length xs) c.deref-3.ensures.0,
  );
}

pub returns-clause-labels : goal.returns-clause-labels
returns-clause-labels c =
    let site = c.args.site.now in
    let from = c.args.from.now in
    let to = c.args.to.now in
    can-label site.near.now c.deref.result.now c.added_classes-classes.result
    ((pairs_before site from ++ smoothing_of from.smoothing site.crossing.now)
    ++ (pairs_before site to ++ smoothing_of to.smoothing site.crossing.now))
    c.bridge_on.result (sides-joined site from to from.smoothing to.smoothing c.requires.sides) c.added_classes-classes.ensures
    (rims-near (is_least (classes_of POINTS (pairs_after site from ++ pairs_after site to))) site c.deref.result.now c.requires.sides.around
    (c.deref.ensures.0 ∙ c.discs_of-rims.ensures.discs))
    (omega (arith, c.discs_of-rims.ensures.arcs.fits, ap (λ (xs : List ℕ). length xs) c.deref.ensures.0)) c.bridge_on.ensures.bridge.seam.parts
    c.bridge_on.ensures.bridge.seam.whole (closed-within c.bridge_on.ensures.bridge) c.bridge_on.ensures.circles

pub returns-clause-bridge : goal.returns-clause-bridge
returns-clause-bridge c = λ code k place is first second.
    let site = c.args.site.now in
    let from = c.args.from.now in
    let to = c.args.to.now in
    bridge_there code k from.smoothing to.smoothing (pairs_before site from) (pairs_before site to) (pairs_after site from)
    (pairs_after site to) site.opened.now site.near.now site.next.now site.crossing.now from.split.now.closed.items
    to.split.now.closed.items c.added_classes-classes.result c.deref.result.now c.args.discs.now c.args.lowers.now c.deref-2.result.now
    c.deref-3.result.now c.bridge_on.result place is first second c.added_classes-classes.ensures
    (c.deref.ensures.0 ∙ c.discs_of-rims.ensures.discs) c.deref-2.ensures.0 c.deref-3.ensures.0 c.bridge_on.ensures.bridge
