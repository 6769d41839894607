-- A seam that is kept as that of three pairings is that of a way with these pairings.
use Rattle.std.proofs.Common.{◌≡◌, ℕ, ◌<◌, ◌∙◌, List, [], ◌∷◌, ◌++◌, get_or, length, set, arith, subst, subst₂, sym}
use Rattle.std.proofs.lemmas.List.{get_or_default, get_or_push, length_push}
use Rattle.std.proofs.lemmas.List.Elements.{All-nil, All-push, All-set}
use Rattle.std.specs.Global.{Vec}
use Rattle.std.specs.Prelude.{All}
use Rattle.tangle_maps.specs.KeptSeams.{AreKeptSeams, HasSeamAt, IsKeptSeam, IsSeamAlong, IsSeamOf}
use Rattle.tangle_maps.specs.Pairings.{joins_of, opened_points}
use Rattle.tangle_maps.specs.Seams.{IsSeam}
use Rattle.tangle_maps.specs.Ways.{IsWay, joins_from, joins_over, joins_to, points_on}
use Rattle.tangle_maps.specs.declared.kept.KeptSeam.{KeptSeam}
use Rattle.tangle_maps.specs.declared.seam.Seam.{Seam}
use Rattle.tangle_maps.specs.declared.way.Way.{Way}

pub same-pairings : (from over to from_other over_other to_other : List ℕ) (seam : Seam) → from ≡ from_other → over ≡ over_other
    → to ≡ to_other → IsSeamOf from over to seam → IsSeamOf from_other over_other to_other seam
same-pairings from over to from_other over_other to_other seam same_from same_over same_to is =
    subst (λ (xs : List ℕ). IsSeamOf xs over_other to_other seam) same_from
    (subst₂ (λ (xs ys : List ℕ). IsSeamOf from xs ys seam) same_over same_to is)

-- the arcs that the first pairing pairs are the opened ones
pub seam-along : (way : Way) (seam : Seam) → IsWay way → IsSeam (points_on way) (joins_from way) (joins_over way) (joins_to way) seam
    → IsSeamAlong way seam
seam-along way seam is of = record {
  is = subst
      (λ (arcs : List ℕ).
      IsSeam (opened_points arcs) (joins_of way.from.now.partners arcs) (joins_of way.over.now.partners arcs)
      (joins_of way.to.now.partners arcs) seam)
      is.source of;
}

pub along-seam : (way : Way) (seam : Seam) → IsWay way → IsSeamAlong way seam
    → IsSeam (points_on way) (joins_from way) (joins_over way) (joins_to way) seam
along-seam way seam is along =
    subst
    (λ (arcs : List ℕ).
    IsSeam (opened_points arcs) (joins_of way.from.now.partners arcs) (joins_of way.over.now.partners arcs)
    (joins_of way.to.now.partners arcs) seam)
    (sym is.source) along.is

pub seam-found : (way : Way) (place : ℕ) (kept : KeptSeam) (list : List KeptSeam) → place < length list → kept ≡ get_or list place kept
    → IsSeamAlong way kept.seam → HasSeamAt way list place
seam-found way place kept list within there is = record {
  within = within;
  along = λ d. subst (λ (k : KeptSeam). IsSeamAlong way k.seam) (there ∙ get_or_default list place kept d within) is;
}

pub seams-pushed : (kept : KeptSeam) (old new : List KeptSeam) → IsKeptSeam kept → new ≡ old ++ kept ∷ [] → AreKeptSeams old
    → AreKeptSeams new
seams-pushed kept old new is pushed are =
    subst (λ (xs : List KeptSeam). AreKeptSeams xs) (sym pushed) (All-push IsKeptSeam old kept are is)

pub seam-pushed : (way : Way) (place : ℕ) (kept : KeptSeam) (old new : List KeptSeam) → IsSeamAlong way kept.seam
    → new ≡ old ++ kept ∷ [] → place ≡ length old → HasSeamAt way new place
seam-pushed way place kept old new is pushed here =
    subst (λ (xs : List KeptSeam). HasSeamAt way xs place) (sym pushed)
    (record {
      within = omega (arith, here, length_push old kept);
      along = λ d. subst (λ (k : KeptSeam). IsSeamAlong way k.seam) (sym (get_or_push old kept d place (sym here))) is;
    })

-- lists of seams, one more that has none
pub lists-more : (list : Vec KeptSeam) (old new : List (Vec KeptSeam)) → list.items ≡ [] → new ≡ old ++ list ∷ []
    → All (λ (l : Vec KeptSeam). AreKeptSeams l.items) old → All (λ (l : Vec KeptSeam). AreKeptSeams l.items) new
lists-more list old new none pushed are =
    subst (λ (xs : List (Vec KeptSeam)). All (λ (l : Vec KeptSeam). AreKeptSeams l.items) xs) (sym pushed)
    (All-push (λ (l : Vec KeptSeam). AreKeptSeams l.items) old list are
    (subst (λ (xs : List KeptSeam). AreKeptSeams xs) (sym none) (All-nil IsKeptSeam)))

-- a seam that was used, among the others
pub seams-used : (place : ℕ) (kept : KeptSeam) (seam : Seam) (list : List KeptSeam) → place < length list → kept ≡ get_or list place kept
    → seam ≡ kept.seam → AreKeptSeams list
    → AreKeptSeams (set list place (record { from = kept.from; over = kept.over; to = kept.to; seam = seam }))
seams-used place kept seam list within there same are =
    let used : KeptSeam = record { from = kept.from; over = kept.over; to = kept.to; seam = seam } in
    All-set IsKeptSeam list place used
    (subst (λ (s : Seam). IsSeamOf kept.from.partners kept.over.partners kept.to.partners s) (sym same)
    (subst IsKeptSeam (sym there) (are place kept within)))
    are
