use Rattle.std.proofs.Common.{◌∙◌, ◌∷◌, ◌*◌, ℕ, sym, subst, ap, arith}
use Rattle.tangle_maps.specs.declared.pairing.TheConstants.{POINTS}
use Rattle.tangle_maps.specs.Pairings.{joins_of}
use Rattle.crossing_maps.specs.ListedPlaces.{IsArcs}
use Rattle.crossing_maps.specs.Sides.{pairs_before}
use Rattle.crossing_maps.proofs.Composable.{slots-numbered}
use Rattle.crossing_maps.proofs.SeamPlaces.{saddle_there}
use Rattle.crossing_maps.proofs.between.saddle_bridge.Goals as goal

pub first_ends-ends-requires-clause-opened : goal.first_ends-ends-requires-clause-opened
first_ends-ends-requires-clause-opened c = c.requires.sides.around.opened.below

pub first_ends-ends-requires-clause-room : goal.first_ends-ends-requires-clause-room
first_ends-ends-requires-clause-room c = c.requires.sides.around.opened.fits

pub strips_with-strips-requires-clause-arc : goal.strips_with-strips-requires-clause-arc
strips_with-strips-requires-clause-arc c =
    omega (arith, slots-numbered c.args.site.now c.requires.sides.around 0 (omega arith), c.first_slot-arc.ensures)

pub strips_with-strips-requires-clause-opened : goal.strips_with-strips-requires-clause-opened
strips_with-strips-requires-clause-opened c = c.requires.sides.around.opened.below

pub strips_with-strips-requires-clause-room : goal.strips_with-strips-requires-clause-room
strips_with-strips-requires-clause-room c = c.requires.sides.around.opened.fits

pub bridge_between-requires-clause-discs : goal.bridge_between-requires-clause-discs
bridge_between-requires-clause-discs c = subst (λ xs. IsArcs POINTS xs) (sym c.deref.ensures.0) c.first_ends-ends.ensures.arcs

pub bridge_between-requires-clause-lowers : goal.bridge_between-requires-clause-lowers
bridge_between-requires-clause-lowers c =
    subst (λ xs. IsArcs (2 * POINTS) xs) (sym c.deref-2.ensures.0) c.strips_with-strips.ensures.arcs

pub returns-clause-bridge : goal.returns-clause-bridge
returns-clause-bridge c = λ code k place is first second.
    let site = c.args.site.now in
    let from = c.args.from.now in
    let to = c.args.to.now in
    let opened = site.opened.now in
    saddle_there code k from.smoothing to.smoothing (pairs_before site from) (pairs_before site to) c.deref.result.now c.deref-2.result.now
    opened site.crossing.now c.bridge_between.result c.requires.zero c.requires.one
    (ap (λ ps. joins_of ps opened) c.requires.pairing) (c.deref.ensures.0 ∙ c.first_ends-ends.ensures.ends)
    (c.deref-2.ensures.0 ∙ c.strips_with-strips.ensures.strips ∙ ap (λ (a : ℕ). a ∷ a ∷ opened) c.first_slot-arc.ensures) is.before is.crossing
    (c.bridge_between.ensures.bridge code k place is first second)
