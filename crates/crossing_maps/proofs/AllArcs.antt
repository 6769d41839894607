-- The pairing after a crossing and its closed circles, by classes of any size that the arcs fit in.
use Rattle.std.proofs.Common.{◌≡◌, ℕ, ◌+◌, ◌<◌, ◌∙◌, List, [], ◌∷◌, ◌++◌, map, not, refl, sym, subst, ap, ap₂, arith, ◌&&◌}
use Rattle.std.specs.Prelude.{nat_eq, nat_lt, slice_index}
use Rattle.std.specs.List.{filter, flat_map, AllByRecursion, Contains}
use Rattle.kh_types.specs.Circles.{smoothing_of}
use Rattle.kh_types.specs.Classes.{classes_of, is_least}
use Rattle.kh_types.specs.Code.{Code, arc_count}
use Rattle.surface_laws.proofs.Components.{list_any-on}
use Rattle.surface_laws.specs.Points.{AreAmong}
use Rattle.added_crossing_laws.specs.Pairings.{IsPairingOf}
use Rattle.added_crossing_laws.specs.Steps.{is_mate, is_none_in, near, pair_with, pairs_among, pairs_at}
use Rattle.added_crossing_laws.specs.Codes.{closed_at, pairing_behind, points_at, smoothing_at, step_at}
use Rattle.added_crossing_laws.proofs.Members.{All-contained}
use Rattle.added_crossing_laws.proofs.Pairs.{IsPairingOf-behind}
use Rattle.tangle_maps.specs.declared.pairing.TheConstants.{POINTS}
use Rattle.tangle_maps.proofs.SizeLemmas.{class-sizes, least_points-sizes}
use Rattle.crossing_maps.specs.Sites.{IsPlace, IsSite, closed_in}
use Rattle.crossing_maps.proofs.Loopless.{joins-few, near-few, open-few}
use Rattle.kh_types.proofs.Lists.{filter-on}

flat_map-on : {Y : Type 0} (f g : ℕ → List Y) (xs : List ℕ) → AllByRecursion (λ x. f x ≡ g x) xs → flat_map f xs ≡ flat_map g xs
flat_map-on f g [] alike = refl
flat_map-on {Y} f g (x ∷ xs) alike = ap₂ (λ (ys zs : List Y). ys ++ zs) alike.0 (flat_map-on f g xs alike.1)

-- classes that give some points the same numbers make the same pairs of them
pub pairs-alike : (points classes others : List ℕ) → ((x : ℕ) → Contains points x → slice_index classes x ≡ slice_index others x)
    → pairs_among points classes ≡ pairs_among points others
pairs-alike points classes others alike =
    flat_map-on (pairs_at points classes) (pairs_at points others) points
    (All-contained (λ x. pairs_at points classes x ≡ pairs_at points others x) points
    (λ x has.
    ap (map (pair_with x))
    (filter-on (is_mate classes x) (is_mate others x) points
    (All-contained (λ y. is_mate classes x y ≡ is_mate others x y) points
    (λ y y_has. ap₂ (λ c d. nat_lt x y && nat_eq c d) (alike x has) (alike y y_has))))))

pub none-alike : (points classes others : List ℕ) (class : ℕ)
    → ((x : ℕ) → Contains points x → slice_index classes x ≡ slice_index others x)
    → is_none_in points classes class ≡ is_none_in points others class
none-alike points classes others class alike =
    ap not
    (list_any-on (λ x. nat_eq (slice_index classes x) class) (λ x. nat_eq (slice_index others x) class) points
    (All-contained (λ x. nat_eq (slice_index classes x) class ≡ nat_eq (slice_index others x) class) points
    (λ x has. ap (λ c. nat_eq c class) (alike x has))))

-- at a crossing

alike-open : (code : Code) (k smoothing : ℕ) (m : List (ℕ × ℕ)) → IsPlace code k → AreAmong (points_at code k).opened m
    → (x : ℕ) → Contains (points_at code (k + 1)).opened x
    → slice_index (classes_of POINTS (m ++ smoothing_at code k smoothing)) x
    ≡ slice_index (classes_of (arc_count code.crossings + code.loops + 1) (m ++ smoothing_at code k smoothing)) x
alike-open code k smoothing m place among x has =
    class-sizes (arc_count code.crossings + 1) (arc_count code.crossings + code.loops + 1) POINTS x (m ++ smoothing_at code k smoothing)
    (omega arith) place.fits (joins-few code k smoothing m place.twice place.crossing among) (open-few code (k + 1) x place.twice has)

pub pairs-serve : (code : Code) (k smoothing : ℕ) (m : List (ℕ × ℕ)) → IsPlace code k → AreAmong (points_at code k).opened m
    → pairs_among (points_at code (k + 1)).opened (classes_of POINTS (m ++ smoothing_at code k smoothing))
    ≡ pairing_behind code k smoothing m
pairs-serve code k smoothing m place among =
    pairs-alike (points_at code (k + 1)).opened (classes_of POINTS (m ++ smoothing_at code k smoothing))
    (classes_of (arc_count code.crossings + code.loops + 1) (m ++ smoothing_at code k smoothing))
    (alike-open code k smoothing m place among)

pub closed-serve : (code : Code) (k smoothing : ℕ) (m : List (ℕ × ℕ)) → IsPlace code k → AreAmong (points_at code k).opened m
    → closed_in (points_at code (k + 1)).opened (near (step_at code k)) (classes_of POINTS (m ++ smoothing_at code k smoothing))
    ≡ closed_at code k smoothing m
closed-serve code k smoothing m place among =
    let n = arc_count code.crossings + code.loops + 1 in
    let joins = m ++ smoothing_at code k smoothing in
    let points = (points_at code (k + 1)).opened in
    let around = near (step_at code k) in
    filter-on (is_none_in points (classes_of POINTS joins)) (is_none_in points (classes_of n joins))
    (filter (is_least (classes_of POINTS joins)) around)
    (All-contained (λ x. is_none_in points (classes_of POINTS joins) x ≡ is_none_in points (classes_of n joins) x)
    (filter (is_least (classes_of POINTS joins)) around)
    (λ x has. none-alike points (classes_of POINTS joins) (classes_of n joins) x (alike-open code k smoothing m place among)))
    ∙ ap (λ xs. filter (is_none_in points (classes_of n joins)) xs)
    (least_points-sizes (arc_count code.crossings + 1) n POINTS around joins (omega arith) place.fits
    (All-contained (λ x. x < arc_count code.crossings + 1) around (λ x has. near-few code k x place.twice has))
    (joins-few code k smoothing m place.twice place.crossing among))

-- what code computes

pub split-pairs : (code : Code) (k smoothing : ℕ) (m made : List (ℕ × ℕ)) (classes opened around next slots : List ℕ) → IsPlace code k
    → IsSite code k opened around next slots → IsPairingOf (points_at code k).opened m
    → classes ≡ classes_of POINTS (m ++ smoothing_of smoothing slots)
    → (IsPairingOf next (pairs_among next classes) → made ≡ pairs_among next classes) → made ≡ pairing_behind code k smoothing m
split-pairs code k smoothing m made classes opened around next slots place site paired are makes =
    let same : pairs_among next classes ≡ pairing_behind code k smoothing m =
    ap₂ pairs_among site.behind (are ∙ ap (λ s. classes_of POINTS (m ++ smoothing_of smoothing s)) site.crossing)
    ∙ pairs-serve code k smoothing m place paired.among in
    let behind = IsPairingOf-behind code k smoothing m place.twice place.crossing paired in
    makes (subst (λ xs. IsPairingOf xs (pairs_among next classes)) (sym site.behind)
    (subst (λ pairs. IsPairingOf (points_at code (k + 1)).opened pairs) (sym same) behind))
    ∙ same

pub split-closed : (code : Code) (k smoothing : ℕ) (m : List (ℕ × ℕ)) (closed classes opened around next slots : List ℕ) → IsPlace code k
    → IsSite code k opened around next slots → IsPairingOf (points_at code k).opened m
    → classes ≡ classes_of POINTS (m ++ smoothing_of smoothing slots)
    → closed ≡ closed_in next around classes → closed ≡ closed_at code k smoothing m
split-closed code k smoothing m closed classes opened around next slots place site paired are is =
    is ∙ ap₂ (λ xs ys. closed_in xs ys classes) site.behind site.here
    ∙ ap (closed_in (points_at code (k + 1)).opened (near (step_at code k)))
    (are ∙ ap (λ s. classes_of POINTS (m ++ smoothing_of smoothing s)) site.crossing)
    ∙ closed-serve code k smoothing m place paired.among
