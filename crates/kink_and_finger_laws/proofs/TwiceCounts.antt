-- Where each slot holds an arc and each arc stands at least twice, each stands exactly twice, since there are twice as many slots.
use Rattle.std.proofs.Common.{◌≡◌, ◌≢◌, ℕ, zero, suc, inl, inr, ◌+◌, ◌*◌, ◌<◌, ◌≤◌, ◌∙◌, List, length, refl, sym, ap, arith, Bool, true, cond, not, ◌&&◌, eq-eqb}
use Rattle.std.specs.Prelude.{nat_eq}
use Rattle.std.specs.List.{count_by, sum_by, range_with_len}
use Rattle.std.proofs.lemmas.Bool.{cases_eq, ne_eqb}
use Rattle.std.proofs.lemmas.Bool.Decides.{nat_tests}
use Rattle.std.proofs.lemmas.List.Sums.{sum_by-cons}
use Rattle.kh_types.specs.declared.dart.Dart.{Dart}
use Rattle.kh_types.specs.Code.{arc_count, IsArc}
use Rattle.kh_types.specs.Darts.{dart_at, arc_of, times, IsDart}
use Rattle.kh_types.proofs.Lists.{count_by-map}
use Rattle.kh_types.proofs.ListSums.{sum_by-range_alike, sum_by-single, sum_by-turned}
use Rattle.code_passes.proofs.Sums.{sum_by-ones}
use Rattle.std.proofs.lemmas.List.FromFn.{length-range_with_len}
use Rattle.kh_types.proofs.RangeCounts.{but, count_by-but}
use Rattle.kh_types.proofs.DartPairs.{IsDart-at}

-- sums over a range

sum-from : (f : ℕ → ℕ) (a m : ℕ) → ((y : ℕ) → a ≤ y → y < a + m → 2 ≤ f y) → 2 * m ≤ sum_by f (range_with_len a m)
sum-from f a zero each = omega arith
sum-from f a (suc m) each =
    let rest = sum-from f (a + 1) m (λ y from below. each y (omega (arith, from)) (omega (arith, below))) in
    omega (arith, rest, each a (omega arith) (omega arith), sum_by-cons f a (range_with_len (a + 1) m))

-- with what one number has
sum-with : (f : ℕ → ℕ) (a m y : ℕ) → ((y : ℕ) → a ≤ y → y < a + m → 2 ≤ f y) → a ≤ y → y < a + m
    → 2 * m + f y ≤ sum_by f (range_with_len a m) + 2
sum-with f a zero y each from below = absurd (omega (arith, from, below))
sum-with f a (suc m) y each from below = elim (cases_eq a y) [
  | inl same ↦
      let rest = sum-from f (a + 1) m (λ z z_from z_below. each z (omega (arith, z_from)) (omega (arith, z_below))) in
      omega (arith, rest, ap f same, sum_by-cons f a (range_with_len (a + 1) m))
  | inr apart ↦
      let rest = sum-with f (a + 1) m y (λ z z_from z_below. each z (omega (arith, z_from)) (omega (arith, z_below)))
      (omega (arith, from, apart)) (omega (arith, below)) in
      omega (arith, rest, each a (omega arith) (omega arith), sum_by-cons f a (range_with_len (a + 1) m))
]

-- so the places are as many as the numbers that stand on them, with how often each stands
sum-places : (f : ℕ → ℕ) (m k : ℕ) → ((i : ℕ) → i < k → (1 ≤ f i) × (f i ≤ m))
    → sum_by (λ y. count_by (λ i. nat_eq (f i) y) (range_with_len 0 k)) (range_with_len 1 m) ≡ k
sum-places f m k within =
    sum_by-turned (λ y i. cond (nat_eq (f i) y) 1 0) (range_with_len 1 m) (range_with_len 0 k)
    ∙ sum_by-range_alike (λ i. sum_by (λ y. cond (nat_eq (f i) y) 1 0) (range_with_len 1 m)) (λ i. 1) 0 k
    (λ i from below.
    let here = within i (omega (arith, below)) in
    sum_by-single (λ y. cond (nat_eq (f i) y) 1 0) 1 m (f i) here.0 (omega (arith, here.1))
    (λ y y_from y_below other. ap (λ t. cond t 1 0) (ne_eqb (f i) y (λ same. other (sym same))))
    ∙ ap (λ t. cond t 1 0) (eq-eqb (f i) (f i) refl))
    ∙ sum_by-ones (range_with_len 0 k) ∙ length-range_with_len 0 k

exactly_two : (f : ℕ → ℕ) (m k : ℕ) → ((i : ℕ) → i < k → (1 ≤ f i) × (f i ≤ m)) → k ≡ 2 * m
    → ((y : ℕ) → 1 ≤ y → y < 1 + m → 2 ≤ count_by (λ i. nat_eq (f i) y) (range_with_len 0 k))
    → (y : ℕ) → 1 ≤ y → y < 1 + m → count_by (λ i. nat_eq (f i) y) (range_with_len 0 k) ≡ 2
exactly_two f m k within is_k each y from below =
    omega (
      arith,
      is_k,
      each y from below,
      sum-places f m k within,
      sum-with (λ z. count_by (λ i. nat_eq (f i) z) (range_with_len 0 k)) 1 m y each from below,
    )

-- how often an arc stands, by places
pub times-places : (crossings : List (List ℕ)) (arc : ℕ)
    → times crossings arc ≡ count_by (λ place. nat_eq (arc_of crossings (dart_at place)) arc) (range_with_len 0 (4 * length crossings))
times-places crossings arc =
    count_by-map (λ dart. nat_eq (arc_of crossings dart) arc) dart_at (range_with_len 0 (4 * length crossings))

-- two places of an arc
pub record HasTwoPlaces (crossings : List (List ℕ)) (arc : ℕ) : Type 0 where
  pub one : ℕ
  pub other : ℕ
  pub one_below : one < 4 * length crossings
  pub other_below : other < 4 * length crossings
  pub apart : one ≢ other
  pub one_on : arc_of crossings (dart_at one) ≡ arc
  pub other_on : arc_of crossings (dart_at other) ≡ arc

two-at_least : (crossings : List (List ℕ)) (arc : ℕ) → HasTwoPlaces crossings arc
    → 2 ≤ count_by (λ place. nat_eq (arc_of crossings (dart_at place)) arc) (range_with_len 0 (4 * length crossings))
two-at_least crossings arc two =
    let p : ℕ → Bool = λ place. nat_eq (arc_of crossings (dart_at place)) arc in
    let n = 4 * length crossings in
    let first = count_by-but p 0 n two.one (omega arith) (omega (arith, two.one_below))
    (eq-eqb (arc_of crossings (dart_at two.one)) arc two.one_on) in
    let second = count_by-but (but p two.one) 0 n two.other (omega arith) (omega (arith, two.other_below))
    (still (p two.other) two.one two.other (eq-eqb (arc_of crossings (dart_at two.other)) arc two.other_on) two.apart) in
    omega (arith, first, second)
  where
    still : (b : Bool) (m k : ℕ) → b ≡ true → m ≢ k → (b && not (nat_eq k m)) ≡ true
    still b m k passes other = grind (arith, nat_tests)

pub times-twice : (crossings : List (List ℕ))
    → ((dart : Dart) → IsDart crossings dart → IsArc crossings (arc_of crossings dart))
    → ((arc : ℕ) → IsArc crossings arc → HasTwoPlaces crossings arc) → (arc : ℕ) → IsArc crossings arc → times crossings arc ≡ 2
times-twice crossings slots two arc is =
    times-places crossings arc
    ∙ exactly_two (λ place. arc_of crossings (dart_at place)) (arc_count crossings) (4 * length crossings)
    (λ i below. let at = slots (dart_at i) (IsDart-at crossings i below) in (at.positive, at.within))
    (omega arith)
    (λ y from below. two-at_least crossings y (two y (record { positive = from; within = omega (arith, below) })))
    arc is.positive (omega (arith, is.within))
