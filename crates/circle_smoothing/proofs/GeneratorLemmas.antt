-- The number of generators, state by state and kind by kind. A state has a generator for each of its labels, so all generators
-- are as many as the labels of all states together. For sums by kinds, a number counts for its own kind alone: so by induction on
-- a list of numbers, the sum over the kinds of a value times how often the kind occurs is the sum of the values of the numbers'
-- kinds. In an accepted code each state has a kind within the limit, and the kind tells its number of circles: so the generators
-- of all kinds together are all generators. There are at most 2 to the power of the limits of crossings and of circles together.
use Rattle.std.proofs.lemmas.Bool.Decides.{nat_tests}
use Rattle.std.proofs.Common.{◌≡◌, ℕ, zero, suc, ◌+◌, ◌*◌, ◌^◌, ◌<◌, ◌≤◌, ◌∙◌, List, [], ◌∷◌, ap, ap₂, sym, refl, length, arith, Bool, cond, inl, inr, eq-eqb}
use Rattle.std.specs.Prelude.{nat_eq}
use Rattle.std.specs.List.{count_by, range_with_len, sum_by}
use Rattle.std.proofs.Math.Nat.{mul-le-mul_right}
use Rattle.std.proofs.Math.Path.{fun_ext}
use Rattle.std.proofs.Math.Pow.{pow_mono}
use Rattle.std.proofs.lemmas.Bool.{cases_eq, ne_eqb}
use Rattle.std.proofs.lemmas.List.{length-map}
use Rattle.std.proofs.lemmas.List.Concat.{length-flat_map}
use Rattle.std.proofs.lemmas.List.FromFn.{length-range_with_len}
use Rattle.std.proofs.lemmas.List.Sums.{sum_by-cons}
use Rattle.kh_types.specs.Accepted.{IsAccepted}
use Rattle.kh_types.specs.Circles.{circle_count}
use Rattle.kh_types.specs.Code.{Code}
use Rattle.kh_types.specs.Generators.{generators, generators_of, one_count, states}
use Rattle.kh_types.specs.declared.limits.TheConstants.{CIRCLES, CROSSINGS}
use Rattle.kh_types.proofs.CircleBound.{circle_count-within}
use Rattle.kh_types.proofs.QuantumDegrees.{one_count-le}
use Rattle.kh_types.proofs.Ranges.{sum_by-range_more}
use Rattle.kh_types.proofs.ListSums.{sum_by-zeros, sum_by-plus}
use Rattle.circle_smoothing.specs.GeneratorCounts.{generator_count, kind_generators, label_count}
use Rattle.circle_smoothing.specs.Kinds.{kind_circles, state_kind}
use Rattle.circle_smoothing.specs.declared.kinds.TheConstants.{KINDS}
use Rattle.circle_smoothing.proofs.KindLemmas.{kind_circles-kind_of, kind_count-states}

-- the generators of a state are as many as its labels
length-generators_of : (code : Code) (state : ℕ) → length (generators_of code state) ≡ label_count code state
length-generators_of code state = grind (arith, nat_tests, length-map, length-range_with_len)

-- so all generators are as many as they count to
pub length-generators : (code : Code) → length (generators code) ≡ generator_count code
length-generators code =
    length-flat_map (generators_of code) (states code)
    ∙ ap (λ (f : ℕ → ℕ). sum_by f (states code)) (fun_ext (length-generators_of code))

-- a sum over numbers by their kinds

one_if : Bool → ℕ
one_if holds = cond holds 1 0

-- of the numbers of a range only one counts
only_when : (ℕ → ℕ) → ℕ → ℕ → ℕ
only_when value wanted kind = one_if (nat_eq wanted kind) * value kind

when_other : (value : ℕ → ℕ) (wanted kind : ℕ) → (wanted ≡ kind → ⊥) → only_when value wanted kind ≡ 0
unfolding only_when one_if
when_other value wanted kind other = ap (λ b. one_if b * value kind) (ne_eqb wanted kind other) ∙ omega arith

when_same : (value : ℕ → ℕ) (wanted kind : ℕ) → wanted ≡ kind → only_when value wanted kind ≡ value wanted
unfolding only_when one_if
when_same value wanted kind same =
    ap (λ b. one_if b * value kind) (eq-eqb wanted kind same) ∙ omega (arith, ap value same)

none_of_these : (value : ℕ → ℕ) (wanted from count : ℕ) → wanted < from
    → sum_by (only_when value wanted) (range_with_len from count) ≡ 0
none_of_these value wanted from zero below = refl
none_of_these value wanted from (suc count) below =
    omega (
      arith,
      sum_by-cons (only_when value wanted) from (range_with_len (from + 1) count),
      when_other value wanted from (λ same. omega (arith, same, below)),
      none_of_these value wanted (from + 1) count (omega (arith, below)),
    )

only_one : (value : ℕ → ℕ) (wanted from count : ℕ) → from ≤ wanted → wanted < from + count
    → sum_by (only_when value wanted) (range_with_len from count) ≡ value wanted
only_one value wanted from zero above below = absurd (omega (arith, above, below))
only_one value wanted from (suc count) above below = elim (cases_eq wanted from) [
  | inl same ↦
      omega (
        arith,
        sum_by-cons (only_when value wanted) from (range_with_len (from + 1) count),
        when_same value wanted from same,
        none_of_these value wanted (from + 1) count (omega (arith, same)),
      )
  | inr other ↦
      omega (
        arith,
        sum_by-cons (only_when value wanted) from (range_with_len (from + 1) count),
        when_other value wanted from other,
        only_one value wanted (from + 1) count (omega (arith, above, other)) (omega (arith, below)),
      )
]

-- how often a kind stands among those of some numbers
abbrev pub counted : (ℕ → ℕ) → List ℕ → ℕ → ℕ
counted kind_of_number xs kind = count_by (λ x. nat_eq (kind_of_number x) kind) xs

one_more : (kind_of_number value : ℕ → ℕ) (x : ℕ) (xs : List ℕ) (kind : ℕ)
    → counted kind_of_number (x ∷ xs) kind * value kind
    ≡ only_when value (kind_of_number x) kind + counted kind_of_number xs kind * value kind
unfolding only_when one_if
one_more kind_of_number value x xs kind =
    let k = kind_of_number x in
    ap (λ c. c * value kind) (sum_by-cons (λ y. cond (nat_eq (kind_of_number y) kind) 1 0) x xs)
    ∙ omega arith

-- the sum of a value of each kind, as often as it is counted, is the sum over all numbers
pub sum_by-kinds : (kind_of_number value : ℕ → ℕ) (xs : List ℕ) (kinds : ℕ) → ((x : ℕ) → kind_of_number x < kinds)
    → sum_by (λ kind. counted kind_of_number xs kind * value kind) (range_with_len 0 kinds)
    ≡ sum_by (λ x. value (kind_of_number x)) xs
sum_by-kinds kind_of_number value [] kinds below = grind (arith, nat_tests, sum_by-zeros)
sum_by-kinds kind_of_number value (x ∷ xs) kinds below =
    ap (λ (f : ℕ → ℕ). sum_by f (range_with_len 0 kinds)) (fun_ext (one_more kind_of_number value x xs))
    ∙ sum_by-plus (only_when value (kind_of_number x)) (λ kind. counted kind_of_number xs kind * value kind) (range_with_len 0 kinds)
    ∙ ap₂ (λ a b. a + b) (only_one value (kind_of_number x) 0 kinds (omega arith) (omega (arith, below x)))
    (sum_by-kinds kind_of_number value xs kinds below)
    ∙ sym (sum_by-cons (λ y. value (kind_of_number y)) x xs)

-- the kind of a state of an accepted code
pub state_kind-below : (code : Code) (state : ℕ) → IsAccepted code → length code.crossings ≤ CROSSINGS → state_kind code state < KINDS
state_kind-below code state is few = grind (arith, nat_tests, one_count-le code state, circle_count-within code state is few)

-- the generators, kind by kind
pub generators-by_kinds : (code : Code) → IsAccepted code → length code.crossings ≤ CROSSINGS
    → sum_by (kind_generators code) (range_with_len 0 KINDS) ≡ generator_count code
generators-by_kinds code is few =
    let value : ℕ → ℕ = λ kind. 2 ^ kind_circles kind in
    ap (λ (f : ℕ → ℕ). sum_by f (range_with_len 0 KINDS))
    (fun_ext (λ kind. ap (λ c. c * value kind) (sym (kind_count-states code kind is few))))
    ∙ sum_by-kinds (state_kind code) value (states code) KINDS (λ state. state_kind-below code state is few)
    ∙ ap (λ (f : ℕ → ℕ). sum_by f (states code))
    (fun_ext (λ state. ap (λ c. 2 ^ c) (kind_circles-kind_of (one_count code state) (circle_count code state) (circle_count-within code state is few))))

sum_by-most : (f : ℕ → ℕ) (xs : List ℕ) (most : ℕ) → ((x : ℕ) → f x ≤ most) → sum_by f xs ≤ length xs * most
sum_by-most f [] most each = omega arith
sum_by-most f (x ∷ xs) most each = omega (arith, sum_by-cons f x xs, each x, sum_by-most f xs most each)

pub generator_count-le : (code : Code) → IsAccepted code → length code.crossings ≤ CROSSINGS
    → generator_count code ≤ 2 ^ (CROSSINGS + CIRCLES)
generator_count-le code is few =
    let states_few : 2 ^ length code.crossings ≤ 2 ^ CROSSINGS = pow_mono few in
    omega (
      arith,
      states_few,
      length-range_with_len 0 (2 ^ length code.crossings),
      sum_by-most (label_count code) (states code) (2 ^ CIRCLES) (λ state. pow_mono (circle_count-within code state is few)),
      mul-le-mul_right (2 ^ CIRCLES) states_few,
    )

pub count-more : (code : Code) (kind : ℕ)
    → sum_by (kind_generators code) (range_with_len 0 (kind + 1))
    ≡ sum_by (kind_generators code) (range_with_len 0 kind) + kind_generators code kind
count-more code kind = sum_by-range_more (kind_generators code) 0 kind kind (omega arith)

pub ruleset kind_steps = (count-more)
