-- The sizes of the degrees of generators, and which degrees have generators.
use Rattle.std.proofs.lemmas.Bool.Decides.{nat_tests}
use Rattle.std.proofs.Common.{◌≡◌, ℕ, ◌+◌, ◌-◌, ◌*◌, ◌/◌, ◌^◌, ◌<◌, ◌≤◌, ◌∙◌, [], ℤ, pos, negsuc, ◌+ℤ◌, ◌-ℤ◌, ◌⊎◌, inl, inr, map, suc, refl, sym, length, get_or, true, subst, arith, ap, List}
use Rattle.std.specs.List.{All, range_with_len}
use Rattle.std.specs.Ordering.{int_eq}
use Rattle.std.proofs.lemmas.Bool.{and_parts, cases_lt}
use Rattle.std.proofs.lemmas.Bool.Decides.{Decides-int_eq}
use Rattle.std.proofs.lemmas.Int.{ints}
use Rattle.std.proofs.lemmas.List.{nil_from_length}
use Rattle.std.proofs.lemmas.List.Elements.{All-weaker, filter_passes}
use Rattle.std.proofs.lemmas.List.FromFn.{length-range_with_len, length-map-range_with_len, get_or-map-range_with_len}
use Rattle.std.proofs.lemmas.List.Sums.{sum_by-le}
use Rattle.std.proofs.Math.Nat.{mod-lt}
use Rattle.kh_types.specs.declared.limits.TheConstants.{CROSSINGS, EXPONENT}
use Rattle.kh_types.specs.Code.{Code}
use Rattle.kh_types.specs.Bits.{bit, ones}
use Rattle.kh_types.specs.Components.{component_count}
use Rattle.kh_types.specs.Directions.{plus_count, minus_count}
use Rattle.kh_types.specs.Circles.{circle_count}
use Rattle.kh_types.specs.Generators.{Generator, one_count, homological_degree, quantum_degree, generators, has_degrees, generators_at}
use Rattle.kh_types.specs.Accepted.{IsAccepted}
use Rattle.kh_types.specs.Table.{IsWithin, from_minus}
use Rattle.kh_types.proofs.Lists.{All-some}
use Rattle.kh_types.proofs.CircleBound.{circle_count-le, circle_count-within}
use Rattle.kh_types.proofs.Ranges.{map-range_agree}
pub use Rattle.kh_types.proofs.DirectionLemmas.{plus_count-le}
use Rattle.std.proofs.lemmas.Simd.{map-map}

-- the numbers from -n to n by their places

pub IsWithin-place : (n k : ℕ) (i : ℤ) → k < 2 * n + 1 → i ≡ pos k -ℤ pos n → IsWithin n i
IsWithin-place n k i below is = (
  k,
  omega (arith, length-map-range_with_len (λ m. pos m -ℤ pos n) 0 (2 * n + 1)),
  get_or-map-range_with_len (λ m. pos m -ℤ pos n) 0 (2 * n + 1) k k i below (omega arith) ∙ sym is,
)

pub place-IsWithin : (n : ℕ) (i : ℤ) → IsWithin n i → (k : ℕ) × (k < 2 * n + 1) × (i ≡ pos k -ℤ pos n)
place-IsWithin n i has2 = grind (arith, nat_tests, length-map-range_with_len, get_or-map-range_with_len)

-- what two functions make of the numbers from -n to n, on which they agree
pub map-from_minus_agree : {X : Type 0} (f g : ℤ → X) (n : ℕ) → ((i : ℤ) → IsWithin n i → f i ≡ g i)
    → map f (from_minus n) ≡ map g (from_minus n)
map-from_minus_agree f g n same =
    map-map f (λ k. pos k -ℤ pos n) (range_with_len 0 (2 * n + 1))
    ∙ map-range_agree (λ k. f (pos k -ℤ pos n)) (λ k. g (pos k -ℤ pos n)) 0 (2 * n + 1)
    (λ k from below. same (pos k -ℤ pos n) (IsWithin-place n k (pos k -ℤ pos n) (omega arith) refl))
    ∙ sym (map-map g (λ k. pos k -ℤ pos n) (range_with_len 0 (2 * n + 1)))

-- an integer is from -n to n, or it is not
pub within_or_not : (n : ℕ) (i : ℤ) → IsWithin n i ⊎ (IsWithin n i → ⊥)
within_or_not n (pos m) = elim (cases_lt n m) [
  | inl past ↦ inr (λ within. let place = place-IsWithin n (pos m) within in omega (arith, ints, past, place.1, place.2))
  | inr small ↦ inl (IsWithin-place n (m + n) (pos m) (omega arith) (omega (arith, ints)))
]
within_or_not n (negsuc m) = elim (cases_lt m n) [
  | inl small ↦ inl (IsWithin-place n (n - suc m) (negsuc m) (omega arith) (omega (arith, ints)))
  | inr past ↦ inr (λ within. let place = place-IsWithin n (negsuc m) within in omega (arith, ints, past, place.1, place.2))
]

-- counts are at most what is counted

pub bit-le : (number place : ℕ) → bit number place ≤ 1
bit-le number place = let small : bit number place < 2 = mod-lt (number / 2 ^ place) (omega arith) in omega arith

pub ones-le : (count number : ℕ) → ones count number ≤ count
ones-le count number =
    let places = range_with_len 0 count in
    omega (arith, length-range_with_len 0 count, sum_by-le (bit number) 1 places (λ k d below. bit-le number (get_or places k d)))

pub one_count-le : (code : Code) (state : ℕ) → one_count code state ≤ length code.crossings
one_count-le code state = ones-le (length code.crossings) state

-- the degrees of a generator

pub homological_degree-within : (code : Code) (generator : Generator)
    → IsWithin (length code.crossings) (homological_degree code generator)
homological_degree-within code generator =
    let n = length code.crossings in
    let minus = minus_count code.crossings in
    let few = one_count-le code generator.state in
    IsWithin-place n (one_count code generator.state + (n - minus)) (homological_degree code generator) (omega arith)
    (omega (arith, ints))

-- a sum of at most c circles, at most n crossings that have their 1-smoothing, and the signs of n crossings
sum-within : (n c o r plus minus most : ℕ) → o ≤ c → r ≤ n → plus ≤ n → minus ≡ n - plus → c + 2 * n ≤ most
    → IsWithin most ((pos c -ℤ pos (2 * o)) +ℤ (pos (r + plus) -ℤ pos (2 * minus)))
sum-within n c o r plus minus most few low some rest fits =
    IsWithin-place most (c + (r + plus) + most - (2 * o + 2 * minus))
    ((pos c -ℤ pos (2 * o)) +ℤ (pos (r + plus) -ℤ pos (2 * minus))) (omega arith) (omega (arith, ints))

pub quantum_degree-within : (code : Code) (generator : Generator) (most : ℕ)
    → circle_count code generator.state + 2 * length code.crossings ≤ most → IsWithin most (quantum_degree code generator)
quantum_degree-within code generator most fits =
    let count = circle_count code generator.state in
    sum-within (length code.crossings) count (ones count generator.label) (one_count code generator.state)
    (plus_count code.crossings) (minus_count code.crossings) most (ones-le count generator.label)
    (one_count-le code generator.state) (plus_count-le code.crossings) refl fits

-- in an accepted code
pub quantum_degree-accepted : (code : Code) (generator : Generator) → IsAccepted code
    → IsWithin (3 * length code.crossings + component_count code.crossings + code.loops) (quantum_degree code generator)
quantum_degree-accepted code generator is =
    quantum_degree-within code generator (3 * length code.crossings + component_count code.crossings + code.loops)
    (omega (arith, circle_count-le code generator.state is.directed.slots))

pub quantum_degree-exponent : (code : Code) (generator : Generator) → IsAccepted code → length code.crossings ≤ CROSSINGS
    → IsWithin EXPONENT (quantum_degree code generator)
quantum_degree-exponent code generator is few =
    quantum_degree-within code generator EXPONENT (omega (arith, circle_count-within code generator.state is few))

-- the generators of two degrees have them
pub generators_at-degrees : (code : Code) (i j : ℤ)
    → All (λ generator. (homological_degree code generator ≡ i) × (quantum_degree code generator ≡ j)) (generators_at code i j)
generators_at-degrees code i j =
    All-weaker (λ generator. has_degrees code i j generator ≡ true)
    (λ generator. (homological_degree code generator ≡ i) × (quantum_degree code generator ≡ j))
    (λ generator passes.
    let h = homological_degree code generator in
    let q = quantum_degree code generator in
    let both = and_parts (int_eq h i) (int_eq q j) passes in
    ((Decides-int_eq h i).0 both.0, (Decides-int_eq q j).0 both.1))
    (generators_at code i j) (filter_passes (has_degrees code i j) (generators code))

-- so degrees with a generator are within the bounds
pub generators_at-within : (code : Code) (i j : ℤ) → IsAccepted code → length code.crossings ≤ CROSSINGS
    → 0 < length (generators_at code i j) → IsWithin (length code.crossings) i × IsWithin EXPONENT j
generators_at-within code i j is few some =
    let found = All-some (λ generator. (homological_degree code generator ≡ i) × (quantum_degree code generator ≡ j))
    (generators_at code i j) (generators_at-degrees code i j) some in (
      subst (λ (x : ℤ). IsWithin (length code.crossings) x) found.1.0 (homological_degree-within code found.0),
      subst (λ (x : ℤ). IsWithin EXPONENT x) found.1.1 (quantum_degree-exponent code found.0 is few),
    )

pub generators_at-outside : (code : Code) (i j : ℤ) → IsAccepted code → length code.crossings ≤ CROSSINGS
    → (IsWithin EXPONENT j → ⊥) → generators_at code i j ≡ []
generators_at-outside code i j is few outside = elim (cases_lt 0 (length (generators_at code i j))) [
  | inl some ↦ absurd (outside (generators_at-within code i j is few some).1)
  | inr none ↦ nil_from_length (generators_at code i j) (omega arith)
]

-- what a function makes of the numbers from -n to n, at a place
pub get_or-map-from_minus : {X : Type 0} (f : ℤ → X) (n k : ℕ) (d : X) → k < 2 * n + 1
    → get_or (map f (from_minus n)) k d ≡ f (pos k -ℤ pos n)
get_or-map-from_minus {X} f n k d below =
    ap (λ (xs : List X). get_or xs k d) (map-map f (λ m. pos m -ℤ pos n) (range_with_len 0 (2 * n + 1)))
    ∙ get_or-map-range_with_len (λ m. f (pos m -ℤ pos n)) 0 (2 * n + 1) k k d below (omega arith)
