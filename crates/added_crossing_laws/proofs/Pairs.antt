-- The new pairing of a pairing is one.
--
-- The new pairs at an open arc are as many as the other open arcs of its class. Near the crossing an arc that is open after it is an end of
-- one of the joins, and any other arc of two (`HaveDegrees-at`). So, by the ends that are free (`Slack`), a class with one open arc has
-- two, and each open arc is an end of exactly one new pair (`IsPairingOf-behind`).
use Rattle.std.proofs.Common.{◌≡◌, ◌≢◌, ℕ, suc, inl, inr, ◌+◌, ◌-◌, ◌*◌, ◌<◌, ◌≤◌, ◌∙◌, List, [], ◌∷◌, ◌++◌, length, refl, sym, ap, ap₂, subst, arith, Bool, true, false, cond, ◌&&◌, ◌||◌}
use Rattle.std.specs.Prelude.{nat_eq, nat_lt, slice_index, slice_index_or}
use Rattle.std.specs.List.{filter, sum_by, range_with_len, Contains}
use Rattle.std.proofs.lemmas.Bool.{cases_Bool, and_parts, eq-eqb, eqb-true, false_from_ne_true, both_ways}
use Rattle.std.proofs.lemmas.Bool.Decides.{nat_tests}
use Rattle.std.proofs.lemmas.List.Sums.{sum_by-cons, sum_by-append}
use Rattle.kh_types.specs.Bits.{one_if}
use Rattle.kh_types.specs.Code.{Code, arc_in, arc_count}
use Rattle.kh_types.specs.Classes.{classes_of}
use Rattle.kh_types.specs.Circles.{smoothing_of}
use Rattle.kh_types.specs.CircleSteps.{arc_at}
use Rattle.kh_types.specs.Darts.{HasArcsTwice}
use Rattle.kh_types.proofs.JoinedClasses.{IsNamed-classes_of}
use Rattle.kh_types.proofs.JoinedSlots.{arc_at-slot}
use Rattle.kh_types.proofs.ListSums.{sum_by-map, sum_by-filter, sum_by-flat_map, sum_by-plus, sum_by-single, sum_by-zeros, sum_by-alike, sum_by-turned, sum_by-range_alike}
use Rattle.surface_laws.specs.Points.{AreAmong}
use Rattle.added_crossing_laws.specs.Pairings.{ends_in, end_count, IsPairingOf}
use Rattle.added_crossing_laws.specs.Steps.{Step, those, after, is_near, near, is_mate, pair_with, pairs_at, pairs_among, new_pairing}
use Rattle.added_crossing_laws.specs.Codes.{ends_before, ends_at, is_open, points_at, step_at, smoothing_at, pairing_behind}
use Rattle.added_crossing_laws.proofs.Members.{IsOneOf, those-are, are-those}
use Rattle.added_crossing_laws.proofs.Classes.{class_in, AreAmong-below, class-is, together-is, positive-lt, positive-true}
use Rattle.added_crossing_laws.proofs.CutJoins.{open-near, IsStep}
use Rattle.added_crossing_laws.proofs.Slack.{zero_or, free_in, HasEven, AreEven-classes}
use Rattle.added_crossing_laws.proofs.CodeSteps.{IsStep-at, few-ends, ends_before-more}
use Rattle.added_crossing_laws.proofs.CodeSums.{joins-near, AreAmong-behind}

-- of a sum over points only one counts
pub only-one : (count : ℕ) (test : ℕ → Bool) (g : ℕ → ℕ) (x : ℕ) → IsOneOf count test x
    → sum_by (λ y. cond (nat_eq y x) (g y) 0) (those count test) ≡ g x
only-one count test g x is =
    sum_by-filter (λ y. cond (nat_eq y x) (g y) 0) test (range_with_len 1 count)
    ∙ sum_by-single (λ y. cond (test y) (cond (nat_eq y x) (g y) 0) 0) 1 count x is.above is.below
    (λ y above below other. zero (test y) y x (g y) other)
    ∙ ap₂ (λ b d. cond b (cond d (g x) 0) 0) is.passes (eq-eqb x x refl)
  where
    zero : (b : Bool) (y x s : ℕ) → y ≢ x → zero_or b (zero_or (nat_eq y x) s) ≡ 0
    zero b y x s other = grind (arith, nat_tests)

-- how many pairs have a point as an end: those with a greater point of its class, and those with a lesser one

split-mate : (b c d : Bool) → zero_or b (one_if c + one_if d) ≡ zero_or c (one_if b) + zero_or d (one_if b)
split-mate true true true = refl
split-mate true true false = refl
split-mate true false true = refl
split-mate true false false = refl
split-mate false true true = refl
split-mate false true false = refl
split-mate false false true = refl
split-mate false false false = refl

inner-sum : (points classes : List ℕ) (x y : ℕ)
    → sum_by (ends_in x) (pairs_at points classes y)
    ≡ sum_by (λ z. cond (nat_eq y x) (one_if (is_mate classes y z)) 0 + cond (nat_eq z x) (one_if (is_mate classes y z)) 0) points
inner-sum points classes x y =
    sum_by-map (ends_in x) (pair_with y) (filter (is_mate classes y) points)
    ∙ sum_by-filter (λ z. ends_in x (pair_with y z)) (is_mate classes y) points
    ∙ sum_by-alike (λ z. cond (is_mate classes y z) (ends_in x (pair_with y z)) 0)
    (λ z. cond (nat_eq y x) (one_if (is_mate classes y z)) 0 + cond (nat_eq z x) (one_if (is_mate classes y z)) 0)
    (λ z. split-mate (is_mate classes y z) (nat_eq y x) (nat_eq z x)) points

pull-out : (b : Bool) (f : ℕ → ℕ) (xs : List ℕ) → sum_by (λ z. cond b (f z) 0) xs ≡ cond b (sum_by f xs) 0
pull-out true f xs = refl
pull-out false f xs = sum_by-zeros (λ z. cond false (f z) 0) xs (λ z. refl)

end_count-pairs : (count : ℕ) (test : ℕ → Bool) (classes : List ℕ) (x : ℕ) → IsOneOf count test x
    → end_count (pairs_among (those count test) classes) x
    ≡ sum_by (λ z. one_if (is_mate classes x z)) (those count test) + sum_by (λ y. one_if (is_mate classes y x)) (those count test)
end_count-pairs count test classes x is =
    let points = those count test in
    let first : ℕ → ℕ → ℕ = λ y z. cond (nat_eq y x) (one_if (is_mate classes y z)) 0 in
    let second : ℕ → ℕ → ℕ = λ y z. cond (nat_eq z x) (one_if (is_mate classes y z)) 0 in
    sum_by-flat_map (ends_in x) (pairs_at points classes) points
    ∙ sum_by-alike (λ y. sum_by (ends_in x) (pairs_at points classes y))
    (λ y. sum_by (first y) points + sum_by (second y) points)
    (λ y. inner-sum points classes x y ∙ sum_by-plus (first y) (second y) points) points
    ∙ sum_by-plus (λ y. sum_by (first y) points) (λ y. sum_by (second y) points) points
    ∙ ap₂ (λ s t. s + t)
    (sum_by-alike (λ y. sum_by (first y) points) (λ y. cond (nat_eq y x) (sum_by (λ z. one_if (is_mate classes y z)) points) 0)
    (λ y. pull-out (nat_eq y x) (λ z. one_if (is_mate classes y z)) points) points
    ∙ only-one count test (λ y. sum_by (λ z. one_if (is_mate classes y z)) points) x is)
    (sum_by-turned second points points
    ∙ sum_by-alike (λ z. sum_by (λ y. second y z) points) (λ z. cond (nat_eq z x) (sum_by (λ y. one_if (is_mate classes y z)) points) 0)
    (λ z. pull-out (nat_eq z x) (λ y. one_if (is_mate classes y z)) points) points
    ∙ only-one count test (λ z. sum_by (λ y. one_if (is_mate classes y z)) points) x is)

in-class : (classes : List ℕ) (x y : ℕ)
    → one_if (nat_eq (slice_index classes y) (slice_index classes x))
    ≡ (one_if (is_mate classes x y) + one_if (is_mate classes y x)) + cond (nat_eq y x) 1 0
in-class classes x y =
    tested (slice_index classes x) (slice_index classes y) x y (λ same. ap (λ z. slice_index classes z) same)
  where
    tested : (c d x y : ℕ) → (y ≡ x → d ≡ c)
        → one_if (nat_eq d c) ≡ (one_if (nat_lt x y && nat_eq c d) + one_if (nat_lt y x && nat_eq d c)) + one_if (nat_eq y x)
    tested c d x y same = grind (arith, nat_tests)

-- with the point itself they are the points of its class
end_count-class : (count : ℕ) (test : ℕ → Bool) (classes : List ℕ) (x : ℕ) → IsOneOf count test x
    → sum_by (λ y. one_if (nat_eq (slice_index classes y) (slice_index classes x))) (those count test)
    ≡ end_count (pairs_among (those count test) classes) x + 1
end_count-class count test classes x is =
    let points = those count test in
    let both : ℕ → ℕ = λ y. one_if (is_mate classes x y) + one_if (is_mate classes y x) in
    sum_by-alike (λ y. one_if (nat_eq (slice_index classes y) (slice_index classes x))) (λ y. both y + cond (nat_eq y x) 1 0)
    (in-class classes x) points
    ∙ sum_by-plus both (λ y. cond (nat_eq y x) 1 0) points
    ∙ ap₂ (λ s t. s + t)
    (sum_by-plus (λ y. one_if (is_mate classes x y)) (λ y. one_if (is_mate classes y x)) points
    ∙ sym (end_count-pairs count test classes x is))
    (only-one count test (λ y. 1) x is)

-- near the crossing an open arc is an end of one of the joins, and another arc of two
pub record HaveDegrees (step : Step) (joins : List (ℕ × ℕ)) : Type 0 where
  pub few : (x : ℕ) → x < step.count + 1 → end_count joins x ≤ 2
  pub near_degree : (x : ℕ) → IsOneOf step.count (is_near step) x → 2 - end_count joins x ≡ cond (step.opened_next x) 1 0

pub range-first : (count : ℕ) (f : ℕ → ℕ) → f 0 ≡ 0 → sum_by f (range_with_len 0 (count + 1)) ≡ sum_by f (range_with_len 1 count)
range-first count f none =
    let size : count + 1 ≡ suc count = omega arith in
    ap (λ n. sum_by f (range_with_len 0 n)) size ∙ sum_by-cons f 0 (range_with_len 1 count)
    ∙ ap (λ s. s + sum_by f (range_with_len 1 count)) none ∙ omega arith

free-class : (step : Step) (joins : List (ℕ × ℕ)) (x : ℕ) → AreAmong (near step) joins → HaveDegrees step joins
    → IsOneOf step.count (is_near step) x
    → free_in (step.count + 1) (classes_of (step.count + 1) joins) (λ y. 2 - end_count joins y) (class_in (step.count + 1) joins x)
    ≡ sum_by (λ y. one_if (nat_eq (class_in (step.count + 1) joins y) (class_in (step.count + 1) joins x))) (after step).opened
free-class step joins x among degrees is =
    let n = step.count + 1 in
    let class = class_in n joins in
    let below = AreAmong-below step.count (is_near step) joins among in
    let free : ℕ → ℕ = λ y. cond (nat_eq (class y) (class x)) (2 - end_count joins y) 0 in
    let counted : ℕ → ℕ = λ y. cond (step.opened_next y) (one_if (nat_eq (class y) (class x))) 0 in
    let positive = (class-is step.count (is_near step) joins x among is).above in
    let least = (IsNamed-classes_of n joins below).least 0 (omega arith) in
    let none : free 0 ≡ 0 =
    ap (λ b. cond b (2 - end_count joins 0) 0)
    (false_from_ne_true (nat_eq (class 0) (class x))
    (λ same. omega (arith, eqb-true (class 0) (class x) same, positive, least))) in
    range-first step.count free none
    ∙ sum_by-range_alike free counted 1 step.count
    (λ y above y_below. elim (cases_Bool (nat_eq (class y) (class x))) [
      | inl same ↦
          let y_is = together-is step.count (is_near step) joins x y among is (omega (arith, y_below))
          (eqb-true (class y) (class x) same) in
          ap (λ b. cond b (2 - end_count joins y) 0) same ∙ degrees.near_degree y y_is
          ∙ ap (λ b. cond (step.opened_next y) (one_if b) 0) (sym same)
      | inr other ↦
          ap (λ b. cond b (2 - end_count joins y) 0) other ∙ sym (neither (step.opened_next y))
          ∙ ap (λ b. cond (step.opened_next y) (one_if b) 0) (sym other)
    ])
    ∙ sym (sum_by-filter (λ y. one_if (nat_eq (class y) (class x))) step.opened_next (range_with_len 1 step.count))
  where
    neither : (b : Bool) → zero_or b (one_if false) ≡ 0
    neither true = refl
    neither false = refl

even-one : (count end_count : ℕ) → count ≡ end_count + 1 → HasEven count → end_count ≡ 1
even-one count end_count is (inl none) = omega (arith, is, none)
even-one count end_count is (inr two) = omega (arith, is, two)

end_count-new : (step : Step) (joins : List (ℕ × ℕ)) (x : ℕ) → IsStep step → AreAmong (near step) joins
    → HaveDegrees step joins → Contains (after step).opened x → end_count (new_pairing step joins) x ≡ 1
end_count-new step joins x step_is among degrees has =
    let n = step.count + 1 in
    let classes = classes_of n joins in
    let x_open = those-are step.count step.opened_next x has in
    let x_near = those-are step.count (is_near step) x (open-near step x step_is has) in
    let free = free_in n classes (λ y. 2 - end_count joins y) (class_in n joins x) in
    even-one free (end_count (new_pairing step joins) x)
    (free-class step joins x among degrees x_near ∙ end_count-class step.count step.opened_next classes x x_open)
    (AreEven-classes n joins (AreAmong-below step.count (is_near step) joins among) degrees.few x (omega (arith, x_open.below)))

-- the degrees at a crossing of a code

pub end_count-none : (points : List ℕ) (pairs : List (ℕ × ℕ)) (x : ℕ) → AreAmong points pairs → (Contains points x → ⊥)
    → end_count pairs x ≡ 0
end_count-none points [] x among not = refl
end_count-none points (pair ∷ pairs) x among not =
    sum_by-cons (ends_in x) pair pairs
    ∙ ap₂ (λ s t. s + t)
    (ap₂ (λ (b c : Bool). one_if b + one_if c) (other points pair.0 x among.0.0 not) (other points pair.1 x among.0.1 not))
    (end_count-none points pairs x among.1 not)
  where
    other : (points : List ℕ) (y x : ℕ) → Contains points y → (Contains points x → ⊥) → nat_eq y x ≡ false
    other points y x has not =
        false_from_ne_true (nat_eq y x) (λ same. not (subst (λ z. Contains points z) (eqb-true y x same) has))

end_count-smoothing : (smoothing x : ℕ) (slots : List ℕ)
    → end_count (smoothing_of smoothing slots) x
    ≡ one_if (nat_eq (arc_in slots 0) x)
    + (one_if (nat_eq (arc_in slots 1) x) + (one_if (nat_eq (arc_in slots 2) x) + one_if (nat_eq (arc_in slots 3) x)))
end_count-smoothing smoothing x slots =
    by_case (nat_eq smoothing 0) (arc_in slots 0) (arc_in slots 1) (arc_in slots 2) (arc_in slots 3) x
  where
    two-pairs : (a b c d x : ℕ)
        → end_count ((a, b) ∷ (c, d) ∷ []) x
        ≡ (one_if (nat_eq a x) + one_if (nat_eq b x)) + ((one_if (nat_eq c x) + one_if (nat_eq d x)) + 0)
    two-pairs a b c d x =
        let first : ℕ × ℕ = (a, b) in
        let second : ℕ × ℕ = (c, d) in
        let tail : List (ℕ × ℕ) = second ∷ [] in
        sum_by-cons (ends_in x) first tail ∙ ap (λ s. ends_in x first + s) (sum_by-cons (ends_in x) second [])

    by_case : (is_zero : Bool) (a b c d x : ℕ)
        → end_count (cond is_zero ((a, b) ∷ (c, d) ∷ []) ((a, d) ∷ (b, c) ∷ [])) x
        ≡ one_if (nat_eq a x) + (one_if (nat_eq b x) + (one_if (nat_eq c x) + one_if (nat_eq d x)))
    by_case true a b c d x = two-pairs a b c d x ∙ omega arith
    by_case false a b c d x = two-pairs a d b c x ∙ omega arith

end_count-ends : (code : Code) (k smoothing x : ℕ) → end_count (smoothing_at code k smoothing) x ≡ ends_at code.crossings k x
end_count-ends code k smoothing x =
    let crossings = code.crossings in
    let slots = slice_index_or crossings k [] in
    let at : ℕ → ℕ = λ place. one_if (nat_eq (arc_at crossings place) x) in
    let slot : (s place : ℕ) → s < 4 → 4 * k + s ≡ place → one_if (nat_eq (arc_in slots s) x) ≡ at place =
    λ s place below is.
    ap (λ a. one_if (nat_eq a x)) (sym (arc_at-slot crossings k s below)) ∙ ap at is in
    let a = 4 * k in
    end_count-smoothing smoothing x slots
    ∙ ap₂ (λ s t. s + t) (slot 0 a (omega arith) (omega arith))
    (ap₂ (λ s t. s + t) (slot 1 (a + 1) (omega arith) (omega arith))
    (ap₂ (λ s t. s + t) (slot 2 (a + 1 + 1) (omega arith) (omega arith)) (slot 3 (a + 1 + 1 + 1) (omega arith) (omega arith))))
    ∙ sym (sum_by-cons at a (range_with_len (a + 1) 3)
    ∙ ap (λ s. at a + s)
    (sum_by-cons at (a + 1) (range_with_len (a + 1 + 1) 2)
    ∙ ap (λ s. at (a + 1) + s)
    (sum_by-cons at (a + 1 + 1) (range_with_len (a + 1 + 1 + 1) 1)
    ∙ ap (λ s. at (a + 1 + 1) + s) (sum_by-cons at (a + 1 + 1 + 1) [] ∙ omega arith))))

-- together
near-test : (m e d next : ℕ) → next ≡ e + d → next ≤ 2 → m ≡ cond (nat_eq e 1) 1 0 → (nat_eq e 1 || nat_lt 0 d) ≡ true
    → m + d ≡ next
near-test m e d next is few is_m near = grind (arith, nat_tests)

free-test : (m e d next : ℕ) → next ≡ e + d → next ≤ 2 → m ≡ cond (nat_eq e 1) 1 0 → (nat_eq e 1 || nat_lt 0 d) ≡ true
    → 2 - (m + d) ≡ cond (nat_eq next 1) 1 0
free-test m e d next is few is_m near = grind (arith, nat_tests)

end_count-old : (code : Code) (k x : ℕ) (m : List (ℕ × ℕ)) → IsPairingOf (points_at code k).opened m → 1 ≤ x
    → x < 1 + (arc_count code.crossings + code.loops) → end_count m x ≡ cond (is_open code k x) 1 0
end_count-old code k x m paired above below = elim (cases_Bool (is_open code k x)) [
  | inl open_too ↦
      paired.once x (are-those (arc_count code.crossings + code.loops) (is_open code k) x above below open_too)
      ∙ ap one_if (sym open_too)
  | inr not ↦
      end_count-none (points_at code k).opened m x paired.among
      (λ has.
      both_ways (is_open code k x) not (those-are (arc_count code.crossings + code.loops) (is_open code k) x has).passes)
      ∙ ap one_if (sym not)
]

HaveDegrees-at : (code : Code) (k smoothing : ℕ) (m : List (ℕ × ℕ)) → HasArcsTwice code.crossings → k < length code.crossings
    → IsPairingOf (points_at code k).opened m → HaveDegrees (step_at code k) (m ++ smoothing_at code k smoothing)
HaveDegrees-at code k smoothing m twice below paired =
    let count = arc_count code.crossings + code.loops in
    let crossings = code.crossings in
    let s = smoothing_at code k smoothing in
    let joins = m ++ s in
    let sum : (x : ℕ) → end_count joins x ≡ end_count m x + ends_at crossings k x =
    λ x. sum_by-append (ends_in x) m s ∙ ap (λ d. end_count m x + d) (end_count-ends code k smoothing x) in
    record {
      few = λ x x_below. elim (cases_Bool (is_near (step_at code k) x && nat_lt 0 x)) [
        | inl both ↦
            let parts = and_parts (is_near (step_at code k) x) (nat_lt 0 x) both in
            let above : 1 ≤ x = positive-lt x parts.1 in
            let few = few-ends crossings (k + 1) x twice above (omega (arith, below)) in
            omega (
              arith,
              sum x,
              near-test (end_count m x) (ends_before crossings k x) (ends_at crossings k x) (ends_before crossings (k + 1) x)
                  (ends_before-more crossings k x) few (end_count-old code k x m paired above (omega (arith, x_below))) parts.0,
              few,
            )
        | inr neither ↦
            omega (
              arith,
              end_count-none (near (step_at code k)) joins x (joins-near code k smoothing m twice below paired.among)
                  (λ has.
                  let is = those-are count (is_near (step_at code k)) x has in
                  both_ways (is_near (step_at code k) x && nat_lt 0 x) neither
                  (ap₂ (λ a b. a && b) is.passes (positive-true x is.above))),
            )
      ];
      near_degree = λ x is.
          ap (λ d. 2 - d) (sum x)
          ∙ free-test (end_count m x) (ends_before crossings k x) (ends_at crossings k x) (ends_before crossings (k + 1) x)
          (ends_before-more crossings k x) (few-ends crossings (k + 1) x twice is.above (omega (arith, below)))
          (end_count-old code k x m paired is.above is.below) is.passes;
    }

pub IsPairingOf-behind : (code : Code) (k smoothing : ℕ) (m : List (ℕ × ℕ)) → HasArcsTwice code.crossings → k < length code.crossings
    → IsPairingOf (points_at code k).opened m → IsPairingOf (points_at code (k + 1)).opened (pairing_behind code k smoothing m)
IsPairingOf-behind code k smoothing m twice below paired = record {
  among = AreAmong-behind code k smoothing m twice below paired.among;
  once = λ x has.
      end_count-new (step_at code k) (m ++ smoothing_at code k smoothing) x (IsStep-at code k twice below)
      (joins-near code k smoothing m twice below paired.among) (HaveDegrees-at code k smoothing m twice below paired) has;
}
