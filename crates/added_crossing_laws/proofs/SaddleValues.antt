-- The number of a saddle's surface is the coefficient of its edge.
--
-- Where two circles become one, the components of the surface are the circles after; where one becomes two, they are the circles before.
-- Either way the surface is one of `Pants`, with both sides in their order or exchanged. Its number is a product over components: of
-- cylinders, which say that labels stay, and of the pair of pants, which is a row of the merge table or of the split table
-- (`EdgeProducts`).
use Rattle.std.proofs.Common.{◌≡◌, ◌≢◌, ℕ, inl, inr, ◌+◌, ◌/◌, ◌%◌, ◌<◌, ◌∙◌, List, [], ◌∷◌, ◌++◌, map, refl, sym, ap, ap₂, subst, arith, Bool, false}
use Rattle.std.specs.Prelude.{nat_eq, slice_index, slice_index_or}
use Rattle.std.specs.List.{filter, range_with_len, Contains}
use Rattle.std.proofs.lemmas.Bool.{cases_eq, eq-eqb, both_ways, false_from_ne_true}
use Rattle.std.proofs.lemmas.List.Sorted.{IsPermutation-refl, IsPermutation-append_right, IsPermutation-append_comm}
use Rattle.kh_types.specs.Code.{Code, arc_in}
use Rattle.kh_types.specs.Classes.{classes_of, is_least, Respects}
use Rattle.kh_types.proofs.ClassLemmas.{classes-together, classes-finest, Respects-append, Respects-first, Respects-second}
use Rattle.kh_types.proofs.JoinedClasses.{classes_of-same}
use Rattle.kh_types.proofs.Lists.{Contains-filter, AllByRecursion-both, Contains-cases}
use Rattle.surface_laws.specs.Surfaces.{Surface, value, weight, factor}
use Rattle.surface_laws.proofs.Components.{list_any-contained}
use Rattle.surface_laws.proofs.Renamed.{value-reordered}
use Rattle.surface_laws.specs.Points.{AreAmong}
use Rattle.genus_laws.specs.CutCodes.{outer_smoothings}
use Rattle.added_crossing_laws.specs.Pairings.{marked_by}
use Rattle.added_crossing_laws.specs.Steps.{those, near}
use Rattle.added_crossing_laws.specs.Codes.{is_open, is_alive, points_at, step_at, smoothing_at, circles_before, circle_before, arc_there, disc_of, saddle_strips, saddle_sheet}
use Rattle.added_crossing_laws.specs.Saddles.{is_touched_at, touched_at, changed, edge_with, TwoBecomeOneAt, MergesOrSplitsAt, IsPairedAt, AreBits, opposite}
use Rattle.added_crossing_laws.proofs.Members.{filter-kept, those-are, are-those}
use Rattle.added_crossing_laws.proofs.Classes.{class_in, AreAmong-below, class-own, class-is}
use Rattle.added_crossing_laws.proofs.CutJoins.{near-has}
use Rattle.added_crossing_laws.proofs.CodeSteps.{IsStep-at, slot-near, smoothing-among, count_of}
use Rattle.added_crossing_laws.proofs.CodeSums.{IsLaid-saddle}
use Rattle.added_crossing_laws.proofs.Pants.{names, pants_of, ArePants, coarse-is, is-coarse, factor-other, factor-kept, component-cases}
use Rattle.added_crossing_laws.proofs.EdgeProducts.{IsEdgeProduct, value-edge, cylinder-weight, merge-weight, split-weight}
use Rattle.added_crossing_laws.proofs.CodeJoins.{joins_with, joins-alive}

abbrev joins_both : Code → ℕ → ℕ → List (ℕ × ℕ) → List (ℕ × ℕ)
joins_both code k state m = m ++ (smoothing_at code k 0 ++ (smoothing_at code k 1 ++ outer_smoothings code.crossings state (k + 1)))

-- the joins of both smoothings are those of one and of the other
record AreBoth (code : Code) (k state : ℕ) (m : List (ℕ × ℕ)) (first second : ℕ) : Type 0 where
  onward : (f : ℕ → ℕ) → Respects f (joins_both code k state m) → Respects f (joins_with code k state m second)
  back : (f : ℕ → ℕ) → Respects f (joins_with code k state m second) → Respects f (smoothing_at code k first)
      → Respects f (joins_both code k state m)

merging : (code : Code) (k state : ℕ) (m : List (ℕ × ℕ)) → AreBoth code k state m 0 1
merging code k state m =
    let s = smoothing_at code k 0 in
    let t = smoothing_at code k 1 in
    let w = outer_smoothings code.crossings state (k + 1) in
    record {
      onward = λ f respects.
          let later = Respects-second f s (t ++ w) (Respects-second f m (s ++ (t ++ w)) respects) in
          Respects-append f (m ++ t) w
          (Respects-append f m t (Respects-first f m (s ++ (t ++ w)) respects) (Respects-first f t w later))
          (Respects-second f t w later);
      back = λ f respects other.
          let first = Respects-first f (m ++ t) w respects in
          Respects-append f m (s ++ (t ++ w)) (Respects-first f m t first)
          (Respects-append f s (t ++ w) other
          (Respects-append f t w (Respects-second f m t first) (Respects-second f (m ++ t) w respects)));
    }

splitting : (code : Code) (k state : ℕ) (m : List (ℕ × ℕ)) → AreBoth code k state m 1 0
splitting code k state m =
    let s = smoothing_at code k 0 in
    let t = smoothing_at code k 1 in
    let w = outer_smoothings code.crossings state (k + 1) in
    record {
      onward = λ f respects.
          let later = Respects-second f m (s ++ (t ++ w)) respects in
          Respects-append f (m ++ s) w
          (Respects-append f m s (Respects-first f m (s ++ (t ++ w)) respects) (Respects-first f s (t ++ w) later))
          (Respects-second f t w (Respects-second f s (t ++ w) later));
      back = λ f respects other.
          let first = Respects-first f (m ++ s) w respects in
          Respects-append f m (s ++ (t ++ w)) (Respects-first f m s first)
          (Respects-append f s (t ++ w) (Respects-second f m s first)
          (Respects-append f t w other (Respects-second f (m ++ s) w respects)));
    }

both-among : (code : Code) (k state : ℕ) (m : List (ℕ × ℕ)) → IsPairedAt code k m
    → AreAmong (points_at code k).alive (joins_both code k state m)
both-among code k state m at = (IsLaid-saddle code k state m at.twice at.crossing at.paired.among).among

-- what is together before is together after
stay-together : (code : Code) (k state : ℕ) (m : List (ℕ × ℕ)) (first second kept gone x y : ℕ)
    → TwoBecomeOneAt code k state m first second kept gone → Contains (points_at code k).alive x → Contains (points_at code k).alive y
    → circle_before code k first state m x ≡ circle_before code k first state m y
    → circle_before code k second state m x ≡ circle_before code k second state m y
stay-together code k state m first second kept gone x y becomes x_has y_has same =
    elim (cases_eq (circle_before code k first state m x) gone) [
      | inl is ↦ becomes.one x x_has is ∙ sym (becomes.one y y_has (sym same ∙ is))
      | inr other ↦
          becomes.others x x_has other ∙ same ∙ sym (becomes.others y y_has (λ is. other (same ∙ is)))
    ]

smoothing-respects : (code : Code) (k state : ℕ) (m : List (ℕ × ℕ)) (first second kept gone : ℕ) (f : ℕ → ℕ)
    → IsPairedAt code k m → TwoBecomeOneAt code k state m first second kept gone → Respects f (joins_with code k state m second)
    → Respects f (smoothing_at code k first)
smoothing-respects code k state m first second kept gone f at becomes respects =
    let n = count_of code + 1 in
    let w = outer_smoothings code.crossings state (k + 1) in
    let s = smoothing_at code k first in
    let alive : (x : ℕ) → Contains (near (step_at code k)) x → Contains (points_at code k).alive x =
    λ x has. near-has (step_at code k) x (IsStep-at code k at.twice at.crossing) has in
    let below : (x : ℕ) → Contains (points_at code k).alive x → x < n =
    λ x has. omega (arith, (those-are (count_of code) (is_alive code k) x has).below) in
    let class : ℕ → ℕ = circle_before code k first state m in
    AllByRecursion-both (λ pair. Contains (near (step_at code k)) pair.0 × Contains (near (step_at code k)) pair.1)
    (λ pair. class pair.0 ≡ class pair.1) (λ pair. f pair.0 ≡ f pair.1) s
    (λ pair has same.
    let x_has = alive pair.0 has.0 in
    let y_has = alive pair.1 has.1 in
    classes-finest f n (joins_with code k state m second) respects
    (AreAmong-below (count_of code) (is_alive code k) (joins_with code k state m second) (joins-alive code k state second m at))
    pair.0 pair.1 (below pair.0 x_has) (below pair.1 y_has)
    (stay-together code k state m first second kept gone pair.0 pair.1 becomes x_has y_has same))
    (smoothing-among code k first at.twice at.crossing)
    (Respects-second class m s
    (Respects-first class (m ++ s) w
    (classes-together n (joins_with code k state m first)
    (AreAmong-below (count_of code) (is_alive code k) (joins_with code k state m first) (joins-alive code k state first m at)))))

-- so the components are the circles of the second
coarse-same : (code : Code) (k state : ℕ) (m : List (ℕ × ℕ)) (first second kept gone : ℕ) → IsPairedAt code k m
    → AreBoth code k state m first second → TwoBecomeOneAt code k state m first second kept gone
    → classes_of (count_of code + 1) (joins_with code k state m second) ≡ classes_of (count_of code + 1) (joins_both code k state m)
coarse-same code k state m first second kept gone at both becomes =
    classes_of-same (count_of code + 1) (joins_with code k state m second) (joins_both code k state m)
    (AreAmong-below (count_of code) (is_alive code k) (joins_with code k state m second) (joins-alive code k state second m at))
    (AreAmong-below (count_of code) (is_alive code k) (joins_both code k state m) (both-among code k state m at))
    (λ f respects. both.back f respects (smoothing-respects code k state m first second kept gone f at becomes respects))
    (λ f respects. both.onward f respects)

in-two : (x y : ℕ) (xs : List ℕ) → xs ≡ x ∷ y ∷ [] → Contains xs x × Contains xs y
in-two x y xs is =
    subst (λ (zs : List ℕ). Contains zs x × Contains zs y) (sym is) ((0, omega arith, refl), (1, omega arith, refl))

only-in-one : (x y : ℕ) (xs : List ℕ) → xs ≡ x ∷ [] → Contains xs y → y ≡ x
only-in-one x y xs is has = elim (Contains-cases x y [] (subst (λ (zs : List ℕ). Contains zs y) is has)) [
  | inl same ↦ sym same
  | inr later ↦ absurd (omega (arith, later.1))
]

only-in-two : (x y z : ℕ) (xs : List ℕ) → xs ≡ x ∷ y ∷ [] → Contains xs z → z ≢ x → z ≢ y → ⊥
only-in-two x y z xs is has not_x not_y = elim (Contains-cases x z (y ∷ []) (subst (λ (zs : List ℕ). Contains zs z) is has)) [
  | inl same ↦ not_x (sym same)
  | inr later ↦ elim (Contains-cases y z [] later) [ inl same ↦ not_y (sym same) | inr none ↦ absurd (omega (arith, none.1)) ]
]

circle-name : (code : Code) (k state smoothing : ℕ) (m : List (ℕ × ℕ)) (x : ℕ) → IsPairedAt code k m
    → Contains (points_at code k).alive x
    → Contains (circles_before code k smoothing state m) (circle_before code k smoothing state m x)
circle-name code k state smoothing m x at has =
    let count = count_of code in
    let n = count + 1 in
    let joins = joins_with code k state m smoothing in
    let among = joins-alive code k state smoothing m at in
    let is = those-are count (is_alive code k) x has in
    let class_is = class-is count (is_alive code k) joins x among is in
    Contains-filter (is_least (classes_of n joins)) (points_at code k).alive (class_in n joins x)
    (eq-eqb (class_in n joins (class_in n joins x)) (class_in n joins x)
    (class-own n joins x (AreAmong-below count (is_alive code k) joins among) (omega (arith, is.below))))
    (are-those count (is_alive code k) (class_in n joins x) class_is.above class_is.below class_is.passes)

there-kept : (code : Code) (k state : ℕ) (m : List (ℕ × ℕ)) (first second kept gone : ℕ) → IsPairedAt code k m
    → TwoBecomeOneAt code k state m first second kept gone → circle_before code k second state m (arc_there code k) ≡ kept
there-kept code k state m first second kept gone at becomes =
    let class : ℕ → ℕ = circle_before code k second state m in
    let a = arc_there code k in
    let alive = near-has (step_at code k) a (IsStep-at code k at.twice at.crossing)
    (slot-near code k 0 at.twice at.crossing (omega arith)) in
    only-in-one kept (class a) (touched_at code k second state m) becomes.touched_second
    (Contains-filter (is_touched_at code k second state m) (circles_before code k second state m) (class a)
    (list_any-contained (λ slot. nat_eq (class (arc_in (slice_index_or code.crossings k []) slot)) (class a)) (range_with_len 0 4) 0
    (0, omega arith, refl) (eq-eqb (class a) (class a) refl))
    (circle-name code k state second m a at alive))

are-pants : (code : Code) (k state : ℕ) (m : List (ℕ × ℕ)) (first second kept gone : ℕ) → IsPairedAt code k m
    → AreBoth code k state m first second → TwoBecomeOneAt code k state m first second kept gone
    → ArePants (count_of code) (is_alive code k) (is_open code k) m (joins_both code k state m)
    (classes_of (count_of code + 1) (joins_with code k state m first)) (arc_there code k) kept gone
are-pants code k state m first second kept gone at both becomes =
    let count = count_of code in
    let n = count + 1 in
    let all = joins_both code k state m in
    let same = coarse-same code k state m first second kept gone at both becomes in
    let at_class : (x : ℕ) → class_in n all x ≡ circle_before code k second state m x =
    λ x. ap (λ (cs : List ℕ). slice_index cs x) (sym same) in
    let touched = in-two kept gone (touched_at code k first state m) becomes.touched_first in
    record {
      paired = at.paired;
      pairs = Respects-first (class_in n all) m
          (smoothing_at code k 0 ++ (smoothing_at code k 1 ++ outer_smoothings code.crossings state (k + 1)))
          (classes-together n all (AreAmong-below count (is_alive code k) all (both-among code k state m at)));
      order = becomes.order;
      there = at_class (arc_there code k) ∙ there-kept code k state m first second kept gone at becomes;
      kept_in = (filter-kept (is_touched_at code k first state m) (circles_before code k first state m) kept touched.0).has;
      gone_in = (filter-kept (is_touched_at code k first state m) (circles_before code k first state m) gone touched.1).has;
      coarse = ap (λ (cs : List ℕ). names count (is_alive code k) cs) (sym same) ∙ becomes.names;
      one = λ x has is. at_class x ∙ becomes.one x has is;
      others = λ x has other. at_class x ∙ becomes.others x has other;
      classes = λ x has.
          subst (λ (cs : List ℕ). Contains (names count (is_alive code k) cs) (slice_index cs x)) same
          (circle-name code k state second m x at has);
    }

-- what is touched and what is not

fails-untouched : (p : ℕ → Bool) (xs : List ℕ) (x : ℕ) → Contains xs x → (Contains (filter p xs) x → ⊥) → p x ≡ false
fails-untouched p xs x has not = false_from_ne_true (p x) (λ passes. not (Contains-filter p xs x passes has))

touched-is : (p : ℕ → Bool) (xs : List ℕ) (x y : ℕ) → Contains (filter p xs) y → p x ≡ false → x ≢ y
touched-is p xs x y has fails same = both_ways (p x) fails (ap p same ∙ (filter-kept p xs y has).passes)

kept-not-gone : (kept gone : ℕ) → kept < gone → kept ≢ gone
kept-not-gone kept gone order same = omega (arith, order, same)

below-name : (count : ℕ) (alive : ℕ → Bool) (classes : List ℕ) (k : ℕ) → Contains (names count alive classes) k → k < count + 1
below-name count alive classes k has =
    omega (arith, (those-are count alive k (filter-kept (is_least classes) (those count alive) k has).has).below)

-- two circles become one
edge-merges : (h minus : ℕ) (code : Code) (k state : ℕ) (m : List (ℕ × ℕ)) (label other_label : ℕ → ℕ) (kept gone : ℕ) → IsPairedAt code k m
    → AreBits label other_label → TwoBecomeOneAt code k state m 0 1 kept gone
    → IsEdgeProduct (count_of code + 1)
    (factor h minus (pants_of (count_of code) (is_alive code k) (is_open code k) m (joins_both code k state m)
    (classes_of (count_of code + 1) (joins_with code k state m 0)) (arc_there code k) label (opposite other_label)))
    (names (count_of code) (is_alive code k) (classes_of (count_of code + 1) (joins_both code k state m)))
    (circles_before code k 0 state m) (is_touched_at code k 0 state m) (λ c. nat_eq (label c) (other_label c))
    (changed h minus (map label (touched_at code k 0 state m)) (map other_label (touched_at code k 1 state m))) kept
edge-merges h minus code k state m label other_label kept gone at bits becomes =
    let count = count_of code in
    let alive = is_alive code k in
    let opened = is_open code k in
    let all = joins_both code k state m in
    let fine = classes_of (count + 1) (joins_with code k state m 0) in
    let a = arc_there code k in
    let second = opposite other_label in
    let pants = are-pants code k state m 0 1 kept gone at (merging code k state m) becomes in
    let touched = in-two kept gone (touched_at code k 0 state m) becomes.touched_first in
    let p : ℕ → Bool = is_touched_at code k 0 state m in
    let circles = circles_before code k 0 state m in
    let kept_name = is-coarse count alive opened m all fine a kept gone kept pants pants.kept_in (kept-not-gone kept gone becomes.order) in
    record {
      cases = λ c. component-cases h minus count alive opened m all fine a kept gone c label second pants;
      other = λ c has not_kept.
          factor-other h minus count alive opened m all fine a kept gone c label second pants has not_kept
          ∙ cylinder-weight h minus (label c) (other_label c) (bits.first_bit c) (bits.second_bit c);
      at_kept = factor-kept h minus count alive opened m all fine a kept gone label second pants kept_name
          ∙ merge-weight h minus (label kept) (label gone) (other_label kept) (bits.first_bit kept) (bits.first_bit gone) (bits.second_bit kept)
          ∙ ap₂ (λ (xs ys : List ℕ). changed h minus (map label xs) (map other_label ys))
          (sym becomes.touched_first) (sym becomes.touched_second);
      kept_below = below-name count alive fine kept pants.kept_in;
      below = λ c has. below-name count alive (classes_of (count + 1) all) c has;
      forward = λ c has not_kept. (coarse-is count alive opened m all fine a kept gone c pants has).name;
      untouched = λ c has not_kept.
          let is = coarse-is count alive opened m all fine a kept gone c pants has in
          fails-untouched p circles c is.name
          (λ in_touched. only-in-two kept gone c (touched_at code k 0 state m) becomes.touched_first in_touched not_kept is.stays);
      back = λ c has fails.
          is-coarse count alive opened m all fine a kept gone c pants has (touched-is p circles c gone touched.1 fails);
      not_kept = λ c has fails. touched-is p circles c kept touched.0 fails;
    }

-- one becomes two
edge-splits : (h minus : ℕ) (code : Code) (k state : ℕ) (m : List (ℕ × ℕ)) (label other_label : ℕ → ℕ) (kept gone : ℕ) → IsPairedAt code k m
    → AreBits label other_label → TwoBecomeOneAt code k state m 1 0 kept gone
    → IsEdgeProduct (count_of code + 1)
    (factor h minus (pants_of (count_of code) (is_alive code k) (is_open code k) m (joins_both code k state m)
    (classes_of (count_of code + 1) (joins_with code k state m 1)) (arc_there code k) (opposite other_label) label))
    (names (count_of code) (is_alive code k) (classes_of (count_of code + 1) (joins_both code k state m)))
    (circles_before code k 0 state m) (is_touched_at code k 0 state m) (λ c. nat_eq (label c) (other_label c))
    (changed h minus (map label (touched_at code k 0 state m)) (map other_label (touched_at code k 1 state m))) kept
edge-splits h minus code k state m label other_label kept gone at bits becomes =
    let count = count_of code in
    let alive = is_alive code k in
    let opened = is_open code k in
    let all = joins_both code k state m in
    let fine = classes_of (count + 1) (joins_with code k state m 1) in
    let a = arc_there code k in
    let first = opposite other_label in
    let both = splitting code k state m in
    let pants = are-pants code k state m 1 0 kept gone at both becomes in
    let same = coarse-same code k state m 1 0 kept gone at both becomes in
    let p : ℕ → Bool = is_touched_at code k 0 state m in
    let circles = circles_before code k 0 state m in
    let all_names = names count alive (classes_of (count + 1) all) in
    let same_names : circles ≡ all_names = ap (λ (cs : List ℕ). names count alive cs) same in
    let kept_name = is-coarse count alive opened m all fine a kept gone kept pants pants.kept_in (kept-not-gone kept gone becomes.order) in
    let kept_touched : Contains (touched_at code k 0 state m) kept =
    subst (λ (zs : List ℕ). Contains zs kept) (sym becomes.touched_second) (0, omega arith, refl) in
    record {
      cases = λ c. component-cases h minus count alive opened m all fine a kept gone c first label pants;
      other = λ c has not_kept.
          factor-other h minus count alive opened m all fine a kept gone c first label pants has not_kept
          ∙ ap₂ (λ d o. weight h minus 0 d o) (turned (first c % 2) (label c % 2)) (turned (first c / 2) (label c / 2))
          ∙ cylinder-weight h minus (label c) (other_label c) (bits.first_bit c) (bits.second_bit c);
      at_kept = factor-kept h minus count alive opened m all fine a kept gone first label pants kept_name
          ∙ split-weight h minus (label kept) (other_label kept) (other_label gone) (bits.first_bit kept) (bits.second_bit kept)
          (bits.second_bit gone)
          ∙ ap₂ (λ (xs ys : List ℕ). changed h minus (map label xs) (map other_label ys))
          (sym becomes.touched_second) (sym becomes.touched_first);
      kept_below = below-name count alive fine kept pants.kept_in;
      below = λ c has. below-name count alive (classes_of (count + 1) all) c has;
      forward = λ c has not_kept. subst (λ (zs : List ℕ). Contains zs c) (sym same_names) has;
      untouched = λ c has not_kept.
          fails-untouched p circles c (subst (λ (zs : List ℕ). Contains zs c) (sym same_names) has)
          (λ in_touched. not_kept (only-in-one kept c (touched_at code k 0 state m) becomes.touched_second in_touched));
      back = λ c has fails. subst (λ (zs : List ℕ). Contains zs c) same_names has;
      not_kept = λ c has fails. touched-is p circles c kept kept_touched fails;
    }
  where
    turned : (x y : ℕ) → x + y ≡ y + x
    turned x y = omega arith

-- the surfaces are these

abbrev by_classes : Code → ℕ → ℕ → List (ℕ × ℕ) → (ℕ → ℕ) → (ℕ → ℕ) → List ℕ → List ℕ → Surface
by_classes code k state m first second classes others = record {
  size = count_of code + 1;
  places = (points_at code k).alive;
  joins = joins_both code k state m;
  faces = map disc_of m
      ++ (marked_by first (names (count_of code) (is_alive code k) classes)
      ++ marked_by second (names (count_of code) (is_alive code k) others));
  lowers = saddle_strips code k;
  raises = [];
}

turned-value : (h minus : ℕ) (code : Code) (k state : ℕ) (m : List (ℕ × ℕ)) (first second : ℕ → ℕ) (classes others : List ℕ)
    → value h minus (by_classes code k state m first second classes others) ≡ value h minus (by_classes code k state m second first others classes)
turned-value h minus code k state m first second classes others =
    let xs = marked_by first (names (count_of code) (is_alive code k) classes) in
    let ys = marked_by second (names (count_of code) (is_alive code k) others) in
    value-reordered h minus (by_classes code k state m first second classes others) (by_classes code k state m second first others classes)
    record {
      size = refl;
      places = refl;
      joins = refl;
      faces = IsPermutation-append_right (map disc_of m) (xs ++ ys) (ys ++ xs) (IsPermutation-append_comm xs ys);
      lowers = IsPermutation-refl (saddle_strips code k);
      raises = IsPermutation-refl [];
    }

value-merges : (h minus : ℕ) (code : Code) (k state : ℕ) (m : List (ℕ × ℕ)) (label other_label : ℕ → ℕ) (kept gone : ℕ) → IsPairedAt code k m
    → AreBits label other_label → TwoBecomeOneAt code k state m 0 1 kept gone
    → value h minus (saddle_sheet code k state m label (opposite other_label)) ≡ edge_with h minus code k state m label other_label
value-merges h minus code k state m label other_label kept gone at bits becomes =
    let count = count_of code in
    let n = count + 1 in
    let fine = classes_of n (joins_with code k state m 0) in
    let pants = pants_of count (is_alive code k) (is_open code k) m (joins_both code k state m) fine (arc_there code k) label
    (opposite other_label) in
    ap (λ (cs : List ℕ). value h minus (by_classes code k state m label (opposite other_label) fine cs))
    (coarse-same code k state m 0 1 kept gone at (merging code k state m) becomes)
    ∙ value-edge n (factor h minus pants) (names count (is_alive code k) (classes_of n (joins_both code k state m)))
    (circles_before code k 0 state m) (is_touched_at code k 0 state m) (λ c. nat_eq (label c) (other_label c))
    (changed h minus (map label (touched_at code k 0 state m)) (map other_label (touched_at code k 1 state m))) kept
    (edge-merges h minus code k state m label other_label kept gone at bits becomes)

value-splits : (h minus : ℕ) (code : Code) (k state : ℕ) (m : List (ℕ × ℕ)) (label other_label : ℕ → ℕ) (kept gone : ℕ) → IsPairedAt code k m
    → AreBits label other_label → TwoBecomeOneAt code k state m 1 0 kept gone
    → value h minus (saddle_sheet code k state m label (opposite other_label)) ≡ edge_with h minus code k state m label other_label
value-splits h minus code k state m label other_label kept gone at bits becomes =
    let count = count_of code in
    let n = count + 1 in
    let fine = classes_of n (joins_with code k state m 1) in
    let pants = pants_of count (is_alive code k) (is_open code k) m (joins_both code k state m) fine (arc_there code k)
    (opposite other_label) label in
    ap (λ (cs : List ℕ). value h minus (by_classes code k state m label (opposite other_label) cs fine))
    (coarse-same code k state m 1 0 kept gone at (splitting code k state m) becomes)
    ∙ turned-value h minus code k state m label (opposite other_label) (classes_of n (joins_both code k state m)) fine
    ∙ value-edge n (factor h minus pants) (names count (is_alive code k) (classes_of n (joins_both code k state m)))
    (circles_before code k 0 state m) (is_touched_at code k 0 state m) (λ c. nat_eq (label c) (other_label c))
    (changed h minus (map label (touched_at code k 0 state m)) (map other_label (touched_at code k 1 state m))) kept
    (edge-splits h minus code k state m label other_label kept gone at bits becomes)

pub value-saddle : (h minus : ℕ) (code : Code) (k state : ℕ) (m : List (ℕ × ℕ)) (label other_label : ℕ → ℕ) → IsPairedAt code k m
    → AreBits label other_label → MergesOrSplitsAt code k state m
    → value h minus (saddle_sheet code k state m label (opposite other_label)) ≡ edge_with h minus code k state m label other_label
value-saddle h minus code k state m label other_label at bits (kept, gone, inl merges) =
    value-merges h minus code k state m label other_label kept gone at bits merges
value-saddle h minus code k state m label other_label at bits (kept, gone, inr splits) =
    value-splits h minus code k state m label other_label kept gone at bits splits
