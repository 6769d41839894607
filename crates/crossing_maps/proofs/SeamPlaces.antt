-- The bridge that code makes at a crossing is that of the surface which the crossing adds.
use Rattle.std.proofs.Common.{◌≡◌, ℕ, ◌+◌, ◌<◌, ◌≤◌, ◌∙◌, List, [], ◌∷◌, ◌++◌, length, map, take, refl, sym, subst, ap, ap₂, arith, Bool, cond}
use Rattle.std.specs.Prelude.{slice_index, slice_index_or}
use Rattle.std.specs.List.{filter, AllByRecursion}
use Rattle.std.proofs.lemmas.List.{take_more}
use Rattle.std.proofs.lemmas.List.Elements.{filter-append}
use Rattle.std.proofs.lemmas.List.Sums.{count_by-le-length, length-filter}
use Rattle.kh_types.specs.Circles.{smoothing_of}
use Rattle.kh_types.specs.Classes.{classes_of, is_least}
use Rattle.kh_types.specs.Code.{Code, arc_count, arc_in}
use Rattle.kh_types.specs.Darts.{HasArcsTwice}
use Rattle.surface_laws.specs.Points.{AreAmong, discs, least_points}
use Rattle.dotted_maps.proofs.LeastPoints.{AllByRecursion-filter, AreAmong-append, AreBelow-among}
use Rattle.added_crossing_laws.specs.Codes.{discs_behind, pairing_behind, points_at, step_at}
use Rattle.added_crossing_laws.specs.Steps.{near}
use Rattle.added_crossing_laws.proofs.CodeSums.{AreAmong-behind}
use Rattle.added_crossing_laws.proofs.Members.{All-contained}
use Rattle.tangle_maps.specs.declared.pairing.TheConstants.{POINTS}
use Rattle.tangle_maps.specs.Pairings.{with_partner}
use Rattle.tangle_maps.proofs.SizeLemmas.{least_points-sizes}
use Rattle.crossing_maps.specs.AddedSeams.{joins_there, places_there}
use Rattle.crossing_maps.specs.Bridges.{IsBridge, IsBridgeAt, IsSaddleBridge}
use Rattle.crossing_maps.specs.Counts.{Places, on}
use Rattle.crossing_maps.specs.declared.bridges.Bridge.{Bridge}
use Rattle.crossing_maps.specs.ListedPlaces.{IsArcs}
use Rattle.crossing_maps.specs.NewTerms.{first_end}
use Rattle.crossing_maps.specs.Sides.{IsSplit}
use Rattle.crossing_maps.specs.Sites.{IsPlace, IsSite}
use Rattle.crossing_maps.proofs.Loopless.{open-few}
use Rattle.crossing_maps.proofs.Placed.{places-same}

pub filter-shorter : (p : ℕ → Bool) (xs : List ℕ) → length (filter p xs) ≤ length xs
filter-shorter p xs = omega (arith, length-filter p xs, count_by-le-length p xs)

pub arcs-filtered : (n : ℕ) (p : ℕ → Bool) (arcs : List ℕ) → IsArcs n arcs → IsArcs n (filter p arcs)
arcs-filtered n p arcs is = record {
  below = AllByRecursion-filter (λ x. x < POINTS) p arcs is.below;
  fits = omega (arith, is.fits, filter-shorter p arcs);
}

-- discs of pairings of open arcs do not depend on the size
discs-sized : (code : Code) (k : ℕ) (m n : List (ℕ × ℕ)) → HasArcsTwice code.crossings → arc_count code.crossings + 1 ≤ POINTS
    → AreAmong (points_at code k).opened m → AreAmong (points_at code k).opened n
    → least_points POINTS (points_at code k).opened (m ++ n) ≡ discs (points_at code k) m n
discs-sized code k m n twice fits first second =
    let size = arc_count code.crossings + 1 in
    let opened = (points_at code k).opened in
    let below : AllByRecursion (λ x. x < size) opened =
    All-contained (λ x. x < size) opened (λ x has. open-few code k x twice has) in
    least_points-sizes size (arc_count code.crossings + code.loops + 1) POINTS opened (m ++ n) (omega arith) fits below
    (AreBelow-among size opened (m ++ n) below (AreAmong-append opened m n first second))

abbrev made : List ℕ → List ℕ → List ℕ → List ℕ → List ℕ → List ℕ → Places
made rims discs closed others lowers raises =
    record { rims = rims; discs = discs; closed = closed; others = others; lowers = lowers; raises = raises }

-- discs of code before the crossing
pub faces_there : (code : Code) (k : ℕ) (m n : List (ℕ × ℕ)) (ds opened : List ℕ) → IsPlace code k → opened ≡ (points_at code k).opened
    → AreAmong (points_at code k).opened m → AreAmong (points_at code k).opened n → ds ≡ least_points POINTS opened (m ++ n)
    → ds ≡ discs (points_at code k) m n
faces_there code k m n ds opened place before first second are =
    are ∙ ap (λ xs. least_points POINTS xs (m ++ n)) before ∙ discs-sized code k m n place.twice place.fits first second

pub bridge_there : (code : Code) (k first second : ℕ) (m n behind other_behind : List (ℕ × ℕ)) (opened around next slots : List ℕ)
    (closed others classes rims ds lowers closed_list other_list : List ℕ) (bridge : Bridge) → IsPlace code k
    → IsSite code k opened around next slots → IsSplit code k first m behind closed → IsSplit code k second n other_behind others
    → classes ≡ classes_of POINTS ((m ++ smoothing_of first slots) ++ (n ++ smoothing_of second slots))
    → rims ≡ least_points POINTS next (behind ++ other_behind) → closed_list ≡ closed → other_list ≡ others
    → IsBridge (filter (is_least classes) around) (on (slice_index classes) (made rims ds closed_list other_list lowers next)) bridge
    → IsBridgeAt code k first second m n ds lowers bridge
bridge_there code k first second m n behind other_behind opened around next slots closed others classes rims ds lowers closed_list other_list
    bridge place site split other_split are_classes are_rims are_closed are_others is =
    let joins = joins_there code k first second m n in
    let whole : classes ≡ classes_of POINTS joins =
    are_classes ∙ ap (λ s. classes_of POINTS ((m ++ smoothing_of first s) ++ (n ++ smoothing_of second s))) site.crossing in
    let rims_there : rims ≡ discs_behind code k first second m n =
    are_rims ∙ ap₂ (λ xs pairs. least_points POINTS xs pairs) site.behind (ap₂ (λ xs ys. xs ++ ys) split.pairs other_split.pairs)
    ∙ discs-sized code (k + 1) (pairing_behind code k first m) (pairing_behind code k second n) place.twice place.fits
    (AreAmong-behind code k first m place.twice place.crossing split.among)
    (AreAmong-behind code k second n place.twice place.crossing other_split.among) in
    let there : made rims ds closed_list other_list lowers next ≡ places_there code k first second m n ds lowers =
    places-same rims_there refl (are_closed ∙ split.circles) (are_others ∙ other_split.circles) refl site.behind in
    subst (λ at. IsBridge (least_points POINTS (near (step_at code k)) joins) (on (slice_index (classes_of POINTS joins)) at) bridge) there
    (subst (λ cs. IsBridge (filter (is_least cs) (near (step_at code k)))
    (on (slice_index cs) (made rims ds closed_list other_list lowers next)) bridge) whole
    (subst (λ xs. IsBridge (filter (is_least classes) xs) (on (slice_index classes) (made rims ds closed_list other_list lowers next)) bridge)
    site.here is))

-- the half strips that code puts on a saddle, and its discs, at the first ends of pairs
pub saddle_there : (code : Code) (k first second : ℕ) (m n : List (ℕ × ℕ)) (ds lowers opened slots : List ℕ) (bridge : Bridge)
    → first ≡ 0 → second ≡ 1 → n ≡ m → ds ≡ map first_end m → lowers ≡ arc_in slots 0 ∷ arc_in slots 0 ∷ opened
    → opened ≡ (points_at code k).opened → slots ≡ slice_index_or code.crossings k []
    → IsBridgeAt code k first second m n ds lowers bridge → IsSaddleBridge code k m bridge
saddle_there code k first second m n ds lowers opened slots bridge zero one same ends strips before crossing is =
    subst (λ xs. IsBridgeAt code k 0 1 m m (map first_end m) xs bridge)
    (strips ∙ ap₂ (λ s (xs : List ℕ). arc_in s 0 ∷ arc_in s 0 ∷ xs) crossing before)
    (subst (λ xs. IsBridgeAt code k 0 1 m m xs lowers bridge) ends
    (subst (λ o. IsBridgeAt code k 0 1 m o ds lowers bridge) same
    (subst (λ t. IsBridgeAt code k 0 t m n ds lowers bridge) one
    (subst (λ s. IsBridgeAt code k s second m n ds lowers bridge) zero is))))

-- the first ends of pairs with partners
pub ends-first : (partners xs : List ℕ) → map first_end (map (with_partner partners) xs) ≡ xs
ends-first partners [] = refl
ends-first partners (x ∷ xs) = ap (λ (ys : List ℕ). x ∷ ys) (ends-first partners xs)

-- one arc more that passes a test
pub kept_more : (p : ℕ → Bool) (k : ℕ) (b : Bool) (xs old new : List ℕ) → k < length xs → b ≡ p (slice_index xs k)
    → old ≡ filter p (take k xs) → new ≡ old ++ cond b (slice_index xs k ∷ []) [] → new ≡ filter p (take (k + 1) xs)
kept_more p k b xs old new within passes are made =
    made ∙ ap₂ (λ (ys : List ℕ) (c : Bool). ys ++ cond c (slice_index xs k ∷ []) []) are passes
    ∙ sym (ap (filter p) (take_more xs k 0 within) ∙ filter-append p (take k xs) (slice_index xs k ∷ []))
