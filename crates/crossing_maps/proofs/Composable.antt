-- A bridge on joins and discs near a crossing can be labelled.
use Rattle.std.proofs.Common.{◌≡◌, ℕ, ◌<◌, ◌≤◌, ◌∙◌, List, [], ◌∷◌, ◌++◌, length, map, sym, subst, ap, arith, Bool, true, false, cond}
use Rattle.std.specs.Prelude.{nat_eq, slice_index}
use Rattle.std.specs.List.{filter, AllByRecursion, Contains}
use Rattle.std.proofs.lemmas.List.{length-append, length-map}
use Rattle.kh_types.specs.Circles.{smoothing_of}
use Rattle.kh_types.specs.Classes.{classes_of, is_least}
use Rattle.kh_types.specs.Code.{arc_in}
use Rattle.surface_laws.specs.Points.{AreAmong}
use Rattle.surface_laws.proofs.Components.{AllByRecursion-at, AllByRecursion-weaker}
use Rattle.dotted_maps.proofs.LeastPoints.{AllByRecursion-filter, AreAmong-append, AreAmong-wider, AreJoins}
use Rattle.tangle_maps.specs.declared.pairing.TheConstants.{POINTS}
use Rattle.tangle_maps.specs.Pairings.{IsOpened}
use Rattle.crossing_maps.specs.declared.between.Side.{Side}
use Rattle.crossing_maps.specs.declared.bridges.Bridge.{Bridge}
use Rattle.crossing_maps.specs.declared.splitting.Site.{Site}
use Rattle.crossing_maps.specs.Bridges.{CanLabel, IsBridge}
use Rattle.crossing_maps.specs.Counts.{Places}
use Rattle.crossing_maps.specs.Partners.{HasArcsBelow}
use Rattle.crossing_maps.specs.Sides.{CanAdd, IsAround, pairs_before}
use Rattle.crossing_maps.proofs.Values.{places-named}

slots-among : (points : List ℕ) (smoothing : ℕ) (slots : List ℕ) → ((slot : ℕ) → slot < 4 → Contains points (arc_in slots slot))
    → AreAmong points (smoothing_of smoothing slots)
slots-among points smoothing slots each = here (nat_eq smoothing 0)
  where
    first : Contains points (arc_in slots 0)
    first = each 0 (omega arith)

    second : Contains points (arc_in slots 1)
    second = each 1 (omega arith)

    third : Contains points (arc_in slots 2)
    third = each 2 (omega arith)

    fourth : Contains points (arc_in slots 3)
    fourth = each 3 (omega arith)

    here : (b : Bool) → AreAmong points (cond b ((arc_in slots 0, arc_in slots 1) ∷ (arc_in slots 2, arc_in slots 3) ∷ [])
        ((arc_in slots 0, arc_in slots 3) ∷ (arc_in slots 1, arc_in slots 2) ∷ []))
    here true = ((first, second), ((third, fourth), tt))
    here false = ((first, fourth), ((second, third), tt))

pub slots-numbered : (site : Site) → IsAround site → HasArcsBelow POINTS site.crossing.now
slots-numbered site is slot below =
    AllByRecursion-at (λ x. x < POINTS) site.near.now (arc_in site.crossing.now slot) is.around.below (is.slots slot below)

-- what both sides join is near the crossing
pub sides-joined : (site : Site) (from to : Side) (first second : ℕ) → CanAdd site from to
    → AreJoins POINTS site.near.now
    ((pairs_before site from ++ smoothing_of first site.crossing.now) ++ (pairs_before site to ++ smoothing_of second site.crossing.now))
sides-joined site from to first second can = record {
  below = can.around.around.below;
  among = AreAmong-append site.near.now (pairs_before site from ++ smoothing_of first site.crossing.now)
      (pairs_before site to ++ smoothing_of second site.crossing.now) (one first (pairs_before site from) can.first)
      (one second (pairs_before site to) can.second);
}
  where
    one : (smoothing : ℕ) (pairs : List (ℕ × ℕ)) → AreAmong site.opened.now pairs
        → AreAmong site.near.now (pairs ++ smoothing_of smoothing site.crossing.now)
    one smoothing pairs among =
        AreAmong-append site.near.now pairs (smoothing_of smoothing site.crossing.now)
        (AreAmong-wider site.opened.now site.near.now pairs
        (λ x has. AllByRecursion-at (λ y. Contains site.near.now y) site.opened.now x can.around.before has) among)
        (slots-among site.near.now smoothing site.crossing.now can.around.slots)

-- the least points of arcs that are open after a crossing are near it
pub rims-near : (p : ℕ → Bool) (site : Site) (rims : List ℕ) → IsAround site → rims ≡ filter p site.next.now
    → AllByRecursion (λ x. Contains site.near.now x) rims
rims-near p site rims is are =
    subst (λ xs. AllByRecursion (λ x. Contains site.near.now x) xs) (sym are)
    (AllByRecursion-filter (λ x. Contains site.near.now x) p site.next.now is.behind)

-- the circles before the crossing are some of the closed ones
pub closed-within : {names : List ℕ} {at : Places} {bridge : Bridge} → IsBridge names at bridge
    → bridge.closed ≤ length bridge.seam.second.items
closed-within {names} {at} {bridge} is =
    omega (arith, is.closed, ap (λ (xs : List ℕ). length xs) is.seam.second, length-append at.closed at.others)

pub can-label : (around rims classes : List ℕ) (joins : List (ℕ × ℕ)) (bridge : Bridge) → AreJoins POINTS around joins
    → classes ≡ classes_of POINTS joins → AllByRecursion (λ x. Contains around x) rims → length rims ≤ POINTS
    → bridge.seam.components.items ≡ filter (is_least classes) around → bridge.seam.whole.items ≡ map (slice_index classes) rims
    → bridge.closed ≤ length bridge.seam.second.items → length bridge.seam.second.items ≤ POINTS → CanLabel bridge
can-label around rims classes joins bridge joined are near fits parts whole within few =
    let seam = bridge.seam in
    let names = filter (is_least (classes_of POINTS joins)) around in
    let components : seam.components.items ≡ names = parts ∙ ap (λ cs. filter (is_least cs) around) are in
    let discs : seam.whole.items ≡ map (slice_index (classes_of POINTS joins)) rims = whole ∙ ap (λ cs. map (slice_index cs) rims) are in
    let opened : IsOpened seam.components.items =
    subst (λ xs. IsOpened xs) (sym components) (AllByRecursion-filter (λ x. x < POINTS) (is_least (classes_of POINTS joins)) around joined.below) in
    let named : AllByRecursion (λ i. Contains seam.components.items i) seam.whole.items =
    subst (λ xs. AllByRecursion (λ i. Contains xs i) seam.whole.items) (sym components)
    (subst (λ ys. AllByRecursion (λ i. Contains names i) ys) (sym discs) (places-named POINTS around joins rims joined near)) in
    record {
      composes = record {
        parts = opened;
        discs = AllByRecursion-weaker (λ i. Contains seam.components.items i) (λ i. i < POINTS) seam.whole.items
            (λ i has. AllByRecursion-at (λ x. x < POINTS) seam.components.items i opened has) named;
        named = named;
        room = omega (arith, fits, ap (λ (xs : List ℕ). length xs) whole, length-map rims (slice_index classes));
      };
      closed = within;
      circles = few;
    }
