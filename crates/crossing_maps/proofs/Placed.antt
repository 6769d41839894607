-- The surface that a crossing of a code adds, by classes of all arcs that a program can number.
use Rattle.std.proofs.Common.{◌≡◌, ℕ, ◌+◌, ◌*◌, ◌^◌, ◌<◌, ◌≤◌, ◌∙◌, List, ◌++◌, length, map, refl, sym, ap₂, arith, Bool, true, false, ◌&&◌, ◌||◌, ap}
use Rattle.std.specs.Prelude.{nat_eq, slice_index}
use Rattle.std.specs.List.{count_by, range_with_len, AllByRecursion, Contains}
use Rattle.std.proofs.lemmas.Bool.{both_ways}
use Rattle.kh_types.specs.Classes.{classes_of, is_least}
use Rattle.kh_types.specs.Code.{Code, arc_count}
use Rattle.surface_laws.specs.Points.{least_points}
use Rattle.surface_laws.specs.Surfaces.{value}
use Rattle.surface_laws.proofs.Components.{AllByRecursion-at, AllByRecursion-weaker}
use Rattle.dotted_maps.specs.Parts.{product_over}
use Rattle.dotted_maps.proofs.ComponentParts.{AreDistinct, distinct-filter}
use Rattle.dotted_maps.proofs.LeastPoints.{AllByRecursion-filter, AreAmong-append, AreJoins, joins-below, least-contained}
use Rattle.added_crossing_laws.specs.Steps.{is_near, is_none_in, near}
use Rattle.added_crossing_laws.specs.Codes.{closed_at, is_alive, is_open, pairing_behind, points_at, smoothing_at, step_at}
use Rattle.added_crossing_laws.proofs.CodeSteps.{IsStep-at}
use Rattle.added_crossing_laws.proofs.CodeSums.{joins-near}
use Rattle.added_crossing_laws.proofs.Labels.{map-on}
use Rattle.added_crossing_laws.proofs.Members.{All-contained, are-those, those-are}
use Rattle.tangle_maps.specs.declared.pairing.TheConstants.{POINTS}
use Rattle.tangle_maps.proofs.SizeLemmas.{class-sizes, least_points-sizes}
use Rattle.crossing_maps.specs.AddedSeams.{ArePairs, joins_there, places_there}
use Rattle.crossing_maps.specs.Counts.{Places, on, surface_at}
use Rattle.crossing_maps.specs.Sites.{IsPlace}
use Rattle.crossing_maps.proofs.Loopless.{near-few}
use Rattle.crossing_maps.proofs.Values.{factor_at, range-distinct, sets_at, value-chosen}

-- lists of places

abbrev made : List ℕ → List ℕ → List ℕ → List ℕ → List ℕ → List ℕ → Places
made rims discs closed others lowers raises =
    record { rims = rims; discs = discs; closed = closed; others = others; lowers = lowers; raises = raises }

pub places-same : {a b c d e f g h i j k l : List ℕ} → a ≡ g → b ≡ h → c ≡ i → d ≡ j → e ≡ k → f ≡ l
    → made a b c d e f ≡ made g h i j k l
places-same {a} {b} {c} {d} {e} {f} {g} {h} {i} {j} {k} {l} one two three four five six =
    ap₂ (λ x y. made x y c d e f) one two ∙ ap₂ (λ x y. made g h x y e f) three four ∙ ap₂ (λ x y. made g h i j x y) five six

pub record AreWithin (points : List ℕ) (at : Places) : Type 0 where
  pub rims : AllByRecursion (λ x. Contains points x) at.rims
  pub discs : AllByRecursion (λ x. Contains points x) at.discs
  pub closed : AllByRecursion (λ x. Contains points x) at.closed
  pub others : AllByRecursion (λ x. Contains points x) at.others
  pub lowers : AllByRecursion (λ x. Contains points x) at.lowers
  pub raises : AllByRecursion (λ x. Contains points x) at.raises

on-alike : (points : List ℕ) (f g : ℕ → ℕ) (at : Places) → AreWithin points at → ((x : ℕ) → Contains points x → f x ≡ g x)
    → on f at ≡ on g at
on-alike points f g at within alike =
    places-same (here at.rims within.rims) (here at.discs within.discs) (here at.closed within.closed) (here at.others within.others)
    (here at.lowers within.lowers) (here at.raises within.raises)
  where
    here : (xs : List ℕ) → AllByRecursion (λ x. Contains points x) xs → map f xs ≡ map g xs
    here xs all = map-on f g xs (λ x has. alike x (AllByRecursion-at (λ y. Contains points y) xs x all has))

-- the value of a surface, by classes of another size, both above the points
pub value-sized : (limit n : ℕ) (points : List ℕ) (joins : List (ℕ × ℕ)) (at : Places) (kept dots label other : ℕ) → limit ≤ n
    → limit ≤ POINTS → AreJoins limit points joins → AreDistinct points → AreWithin points at → kept < 2 ^ length at.rims
    → value 0 0 (surface_at n points joins at kept dots label other)
    ≡ product_over (factor_at (on (slice_index (classes_of POINTS joins)) at) dots label other) (least_points POINTS points joins)
    * count_by (nat_eq kept) (sets_at (least_points POINTS points joins) (on (slice_index (classes_of POINTS joins)) at) dots label other)
value-sized limit n points joins at kept dots label other whole fits joined distinct within below =
    let small = joins-below limit points joins joined in
    let wide : AreJoins n points joins =
    record {
      below = AllByRecursion-weaker (λ x. x < limit) (λ x. x < n) points (λ x less. omega (arith, less, whole)) joined.below;
      among = joined.among;
    } in
    let names : least_points n points joins ≡ least_points POINTS points joins =
    sym (least_points-sizes limit n POINTS points joins whole fits joined.below small) in
    let here : on (slice_index (classes_of n joins)) at ≡ on (slice_index (classes_of POINTS joins)) at =
    on-alike points (slice_index (classes_of n joins)) (slice_index (classes_of POINTS joins)) at within
    (λ x has. sym (class-sizes limit n POINTS x joins whole fits small (AllByRecursion-at (λ y. y < limit) points x joined.below has))) in
    value-chosen n points joins at kept dots label other wide distinct within.rims below
    ∙ ap₂ (λ (xs : List ℕ) (p : Places). product_over (factor_at p dots label other) xs * count_by (nat_eq kept) (sets_at xs p dots label other))
    names here

-- at a crossing of a code

abbrev count_of : Code → ℕ
count_of code = arc_count code.crossings + code.loops

pub near-distinct : (code : Code) (k : ℕ) → AreDistinct (near (step_at code k))
near-distinct code k =
    distinct-filter (is_near (step_at code k)) (range_with_len 1 (count_of code)) (range-distinct 1 (count_of code))

pub opened-near : (code : Code) (k x : ℕ) → Contains (points_at code k).opened x → Contains (near (step_at code k)) x
opened-near code k x has =
    let is = those-are (count_of code) (is_open code k) x has in
    are-those (count_of code) (is_near (step_at code k)) x is.above is.below
    (ap (λ b. b || (step_at code k).at_crossing x) is.passes)

pub next-near : (code : Code) (k x : ℕ) → IsPlace code k → Contains (points_at code (k + 1)).opened x → Contains (near (step_at code k)) x
next-near code k x place has =
    let is = those-are (count_of code) (is_open code (k + 1)) x has in
    are-those (count_of code) (is_near (step_at code k)) x is.above is.below
    (second (is_alive code (k + 1) x) (is_near (step_at code k) x)
    (sym ((IsStep-at code k place.twice place.crossing).opened x (omega (arith, is.above)) (omega (arith, is.below))) ∙ is.passes))
  where
    second : (a b : Bool) → (a && b) ≡ true → b ≡ true
    second true b is = is
    second false b is = absurd (both_ways false refl is)

pub joins-there : (code : Code) (k first second : ℕ) (m n : List (ℕ × ℕ)) → ArePairs code k m n
    → AreJoins (arc_count code.crossings + 1) (near (step_at code k)) (joins_there code k first second m n)
joins-there code k first second m n are = record {
  below = All-contained (λ x. x < arc_count code.crossings + 1) (near (step_at code k)) (λ x has. near-few code k x are.place.twice has);
  among = AreAmong-append (near (step_at code k)) (m ++ smoothing_at code k first) (n ++ smoothing_at code k second)
      (joins-near code k first m are.place.twice are.place.crossing are.first)
      (joins-near code k second n are.place.twice are.place.crossing are.second);
}

pub within-there : (code : Code) (k first second : ℕ) (m n : List (ℕ × ℕ)) (discs lowers : List ℕ) → ArePairs code k m n
    → AllByRecursion (λ x. Contains (near (step_at code k)) x) discs → AllByRecursion (λ x. Contains (near (step_at code k)) x) lowers
    → AreWithin (near (step_at code k)) (places_there code k first second m n discs lowers)
within-there code k first second m n discs lowers are all_discs all_lowers =
    let Near : ℕ → Type 0 = λ x. Contains (near (step_at code k)) x in
    let next : AllByRecursion Near (points_at code (k + 1)).opened =
    All-contained Near (points_at code (k + 1)).opened (λ x has. next-near code k x are.place has) in
    record {
      rims = AllByRecursion-filter Near
          (is_least (classes_of (count_of code + 1) (pairing_behind code k first m ++ pairing_behind code k second n)))
          (points_at code (k + 1)).opened next;
      discs = all_discs;
      closed = closed first m;
      others = closed second n;
      lowers = all_lowers;
      raises = next;
    }
  where
    closed : (smoothing : ℕ) (o : List (ℕ × ℕ)) → AllByRecursion (λ x. Contains (near (step_at code k)) x) (closed_at code k smoothing o)
    closed smoothing o =
        let classes = classes_of (count_of code + 1) (o ++ smoothing_at code k smoothing) in
        AllByRecursion-filter (λ x. Contains (near (step_at code k)) x) (is_none_in (points_at code (k + 1)).opened classes)
        (least_points (count_of code + 1) (near (step_at code k)) (o ++ smoothing_at code k smoothing))
        (least-contained (count_of code + 1) (near (step_at code k)) (o ++ smoothing_at code k smoothing))
