-- Sums over states, kind by kind: states with as many ones and as many circles have one term, so the state sum is the sum of each
-- kind's term, taken as often as the kind is counted. One more in the count of a kind adds that kind's value to such a sum, and
-- all counts 0 make 0. One more kind adds its count times its value; bounds on the size of a sum and of a term come with that.
-- The counts of the first states, with one state more, have one more at its kind. By induction on the states, the sum by kinds is
-- the sum over the states, and the counts together are the number of states. For all states, and the terms of kinds, this gives
-- the state sum.
use Rattle.std.proofs.Common.{◌≡◌, ℕ, zero, suc, ◌+◌, ◌*◌, ◌^◌, ◌<◌, ◌≤◌, ◌∙◌, List, [], ◌∷◌, ◌++◌, map, length, get_or, take, ap, sym, refl, arith, ℤ, pos, ◌+ℤ◌, ◌*ℤ◌, Bool, cond, inl, inr, eq-eqb}
use Rattle.std.specs.Prelude.{nat_eq, replicate, unsigned_abs}
use Rattle.std.specs.List.{count_by, enumerate_from, range_with_len, sum}
use Rattle.std.proofs.Math.IntN.{suc_ℤ-*ℤ, zero-*ℤ, +ℤ_assoc}
use Rattle.std.proofs.Math.ListN.{set}
use Rattle.std.proofs.Math.Nat.{mul-le-mul_left}
use Rattle.std.proofs.Math.Pow.{pow_mono}
use Rattle.std.proofs.lemmas.Int.{ints, unsigned_abs-mul}
use Rattle.std.proofs.lemmas.List.Sums.{sum_by-set}
use Rattle.std.proofs.lemmas.Bool.{cases_eq, ne_eqb}
use Rattle.std.proofs.lemmas.List.FromFn.{fill_by_all, get_or-map-range_with_len, length-range_with_len}
use Rattle.std.proofs.lemmas.List.{get_or-replicate, get_or-set_other, get_or-set_same, length-map, length-replicate, length-set, length-take, map-append, take_more}
use Rattle.kh_types.specs.declared.limits.TheConstants.{CROSSINGS, CIRCLES}
use Rattle.kh_types.specs.Code.{Code}
use Rattle.kh_types.specs.Accepted.{IsAccepted}
use Rattle.kh_types.specs.Circles.{circle_count}
use Rattle.kh_types.specs.Directions.{plus_count, minus_count}
use Rattle.kh_types.specs.Generators.{one_count, states}
use Rattle.kh_types.specs.StateSum.{int_sum, term_of, state_term, state_sum}
use Rattle.kh_types.proofs.CircleBound.{circle_count-within}
use Rattle.kh_types.proofs.Lists.{enumerate_from-push}
use Rattle.kh_types.proofs.Ranges.{count_by-range_more, map_from_zero}
use Rattle.circle_smoothing.specs.Kinds.{kind_circles, kind_count, kind_of, kind_ones, state_kind}
use Rattle.circle_smoothing.specs.declared.kinds.TheConstants.{KINDS}
use Rattle.circle_smoothing.proofs.GeneratorLemmas.{state_kind-below}
use Rattle.circle_smoothing.proofs.KindLemmas.{kind_circles-kind_of, kind_count-states, kind_ones-kind_of}
use Rattle.jones_sum.specs.Kinds.{counted_sum, kind_term}

pub int_sum-push : (xs : List ℤ) (x : ℤ) → int_sum (xs ++ x ∷ []) ≡ int_sum xs +ℤ x
int_sum-push [] x = omega (arith, ints)
int_sum-push (y ∷ xs) x = ap (λ (z : ℤ). y +ℤ z) (int_sum-push xs x) ∙ sym (+ℤ_assoc y (int_sum xs) x)

-- one state more of a kind

counted_from : (ℕ → ℤ) → ℕ → List ℕ → ℤ
counted_from value from counts = int_sum (map (λ kind. pos kind.1 *ℤ value kind.0) (enumerate_from from counts))

one_more : (count : ℕ) (value rest : ℤ) → pos (count + 1) *ℤ value +ℤ rest ≡ (pos count *ℤ value +ℤ rest) +ℤ value
one_more count value rest =
    let e : count + 1 ≡ suc count = omega arith in
    let more : pos (count + 1) *ℤ value ≡ pos count *ℤ value +ℤ value = ap (λ n. pos n *ℤ value) e ∙ suc_ℤ-*ℤ (pos count) value in
    ap (λ (z : ℤ). z +ℤ rest) more ∙ omega (arith, ints)

counted_from-set : (value : ℕ → ℤ) (from : ℕ) (counts : List ℕ) (place kind : ℕ) → place < length counts → from + place ≡ kind
    → counted_from value from (set counts place (get_or counts place 0 + 1)) ≡ counted_from value from counts +ℤ value kind
unfolding counted_from
counted_from-set value from [] place kind below is = absurd (omega (arith, below))
counted_from-set value from (count ∷ counts) zero kind below is =
    let e : from ≡ kind = omega (arith, is) in
    one_more count (value from) (counted_from value (from + 1) counts)
    ∙ ap (λ (k : ℕ). (pos count *ℤ value from +ℤ counted_from value (from + 1) counts) +ℤ value k) e
counted_from-set value from (count ∷ counts) (suc place) kind below is =
    ap (λ (z : ℤ). pos count *ℤ value from +ℤ z)
    (counted_from-set value (from + 1) counts place kind (omega (arith, below)) (omega (arith, is)))
    ∙ sym (+ℤ_assoc (pos count *ℤ value from) (counted_from value (from + 1) counts) (value kind))

pub counted_sum-set : (value : ℕ → ℤ) (counts : List ℕ) (kind : ℕ) → kind < length counts
    → counted_sum value (set counts kind (get_or counts kind 0 + 1)) ≡ counted_sum value counts +ℤ value kind
unfolding counted_from
counted_sum-set value counts kind below = counted_from-set value 0 counts kind kind below (omega arith)

-- no states
counted_from-none : (value : ℕ → ℤ) (from n : ℕ) → counted_from value from (replicate n 0) ≡ pos 0
unfolding counted_from
counted_from-none value from zero = refl
counted_from-none value from (suc n) =
    ap (λ (z : ℤ). z +ℤ counted_from value (from + 1) (replicate n 0)) (zero-*ℤ (value from))
    ∙ ap (λ (z : ℤ). pos 0 +ℤ z) (counted_from-none value (from + 1) n)

pub counted_sum-none : (value : ℕ → ℤ) (n : ℕ) → counted_sum value (replicate n 0) ≡ pos 0
unfolding counted_from
counted_sum-none value n = counted_from-none value 0 n

-- the counts of one kind more
pub counted_sum-more : (value : ℕ → ℤ) (counts : List ℕ) (kind : ℕ) → kind < length counts
    → counted_sum value (take (kind + 1) counts) ≡ counted_sum value (take kind counts) +ℤ pos (get_or counts kind 0) *ℤ value kind
counted_sum-more value counts kind below =
    let front = take kind counts in
    let count = get_or counts kind 0 in
    let place : 0 + length front ≡ kind = omega (arith, length-take kind counts) in
    ap (counted_sum value) (take_more counts kind 0 below)
    ∙ ap (λ (pairs : List (ℕ × ℕ)). int_sum (map (λ kind. pos kind.1 *ℤ value kind.0) pairs)) (enumerate_from-push 0 front count)
    ∙ ap int_sum (map-append (λ kind. pos kind.1 *ℤ value kind.0) (enumerate_from 0 front) ((0 + length front, count) ∷ []))
    ∙ int_sum-push (map (λ kind. pos kind.1 *ℤ value kind.0) (enumerate_from 0 front)) (pos count *ℤ value (0 + length front))
    ∙ ap (λ (k : ℕ). counted_sum value front +ℤ pos count *ℤ value k) place

-- the size of a sum
pub unsigned_abs-add : (a b : ℤ) → unsigned_abs (a +ℤ b) ≤ unsigned_abs a + unsigned_abs b
unsigned_abs-add a b = omega (arith, ints)

-- a term as often as it is counted
pub times_within : (count most : ℕ) (term : ℤ) → unsigned_abs term ≤ most → unsigned_abs (pos count *ℤ term) ≤ count * most
times_within count most term within =
    let bound = mul-le-mul_left count within in omega (arith, unsigned_abs-mul (pos count) term, bound)

-- the sum of a value of the kinds of the first states
abbrev pub state_kind_sum : Code → (ℕ → ℤ) → ℕ → ℤ
state_kind_sum code value count = int_sum (map (λ state. value (state_kind code state)) (range_with_len 0 count))

-- one state more
pub state_kind_sum-more : (code : Code) (value : ℕ → ℤ) (state : ℕ)
    → state_kind_sum code value (state + 1) ≡ state_kind_sum code value state +ℤ value (state_kind code state)
state_kind_sum-more code value state =
    ap int_sum (map_from_zero (λ s. value (state_kind code s)) state)
    ∙ int_sum-push (map (λ s. value (state_kind code s)) (range_with_len 0 state)) (value (state_kind code state))

-- one state more, counted by its kind
pub counts_more : (code : Code) (value : ℕ → ℤ) (counts : List ℕ) (state kind : ℕ) → kind < length counts
    → kind ≡ state_kind code state → counted_sum value counts ≡ state_kind_sum code value state
    → counted_sum value (set counts kind (get_or counts kind 0 + 1)) ≡ state_kind_sum code value (state + 1)
counts_more code value counts state kind below is_kind before =
    counted_sum-set value counts kind below ∙ ap (λ (z : ℤ). z +ℤ value kind) before
    ∙ ap (λ (k : ℕ). state_kind_sum code value state +ℤ value k) is_kind ∙ sym (state_kind_sum-more code value state)

pub sum-one_more : (counts : List ℕ) (kind : ℕ) → kind < length counts
    → sum (set counts kind (get_or counts kind 0 + 1)) ≡ sum counts + 1
sum-one_more counts kind below = omega (arith, sum_by-set (λ x. x) counts kind (get_or counts kind 0 + 1) 0 below)

-- the counts of the kinds of the first states
counts_to : Code → ℕ → List ℕ
counts_to code count = map (λ kind. count_by (λ state. nat_eq (state_kind code state) kind) (range_with_len 0 count)) (range_with_len 0 KINDS)

length-counts_to : (code : Code) (count : ℕ) → length (counts_to code count) ≡ KINDS
unfolding counts_to
length-counts_to code count =
    length-map (range_with_len 0 KINDS) (λ kind. count_by (λ state. nat_eq (state_kind code state) kind) (range_with_len 0 count))
    ∙ length-range_with_len 0 KINDS

get_or-counts_to : (code : Code) (count kind : ℕ) → kind < KINDS
    → get_or (counts_to code count) kind 0 ≡ count_by (λ state. nat_eq (state_kind code state) kind) (range_with_len 0 count)
unfolding counts_to
get_or-counts_to code count kind below =
    get_or-map-range_with_len (λ kind. count_by (λ state. nat_eq (state_kind code state) kind) (range_with_len 0 count)) 0 KINDS kind
    kind 0 below (omega arith)

counts_to-none : (code : Code) → replicate KINDS 0 ≡ counts_to code 0
unfolding counts_to
counts_to-none code =
    let zeros : List ℕ = replicate KINDS 0 in
    let size : length zeros ≡ KINDS = length-replicate {A = ℕ} KINDS 0 in
    fill_by_all (λ kind. count_by (λ state. nat_eq (state_kind code state) kind) (range_with_len 0 0)) zeros KINDS 0
    size (λ kind below. get_or-replicate KINDS kind 0 0 below)

one_if : Bool → ℕ
one_if holds = cond holds 1 0

-- one state more is counted at its kind
counts_to-more : (code : Code) (state kind : ℕ) → kind < KINDS → kind ≡ state_kind code state
    → set (counts_to code state) kind (get_or (counts_to code state) kind 0 + 1) ≡ counts_to code (state + 1)
unfolding one_if counts_to
counts_to-more code state kind below is_kind =
    let before = counts_to code state in
    let size = length-counts_to code state in
    let within : kind < length before = omega (arith, below, size) in
    fill_by_all (λ k. count_by (λ s. nat_eq (state_kind code s) k) (range_with_len 0 (state + 1)))
    (set before kind (get_or before kind 0 + 1)) KINDS 0 (length-set before kind (get_or before kind 0 + 1) ∙ size)
    (λ k k_below.
    let more : count_by (λ s. nat_eq (state_kind code s) k) (range_with_len 0 (state + 1))
    ≡ count_by (λ s. nat_eq (state_kind code s) k) (range_with_len 0 state) + one_if (nat_eq (state_kind code state) k) =
    count_by-range_more (λ s. nat_eq (state_kind code s) k) 0 state state (omega arith) in
    elim (cases_eq k kind) [
      | inl same ↦
          let there : get_or (set before kind (get_or before kind 0 + 1)) k 0 ≡ get_or before kind 0 + 1 =
          ap (λ j. get_or (set before kind (get_or before kind 0 + 1)) j 0) same
          ∙ get_or-set_same before kind (get_or before kind 0 + 1) 0 within in
          let yes : one_if (nat_eq (state_kind code state) k) ≡ 1 =
          ap one_if (eq-eqb (state_kind code state) k (sym is_kind ∙ sym same)) in
          omega (arith, there, more, yes, ap (λ j. get_or before j 0) same, get_or-counts_to code state k k_below)
      | inr other ↦
          let no : one_if (nat_eq (state_kind code state) k) ≡ 0 =
          ap one_if (ne_eqb (state_kind code state) k (λ e. other (sym e ∙ sym is_kind))) in
          omega (
            arith,
            get_or-set_other before kind k (get_or before kind 0 + 1) 0 other,
            more,
            no,
            get_or-counts_to code state k k_below,
          )
    ])

-- so the sum by kinds is the sum over the states
counted_sum-states : (code : Code) (value : ℕ → ℤ) (count : ℕ) → IsAccepted code → length code.crossings ≤ CROSSINGS
    → counted_sum value (counts_to code count) ≡ state_kind_sum code value count
counted_sum-states code value zero is few =
    ap (counted_sum value) (sym (counts_to-none code)) ∙ counted_sum-none value KINDS
counted_sum-states code value (suc count) is few =
    let kind = state_kind code count in
    let below : kind < KINDS = state_kind-below code count is few in
    let within : kind < length (counts_to code count) = omega (arith, below, length-counts_to code count) in
    let next : suc count ≡ count + 1 = omega arith in
    ap (λ n. counted_sum value (counts_to code n)) next
    ∙ ap (counted_sum value) (sym (counts_to-more code count kind below refl))
    ∙ counts_more code value (counts_to code count) count kind within refl (counted_sum-states code value count is few)
    ∙ ap (state_kind_sum code value) (sym next)

sum-states : (code : Code) (count : ℕ) → IsAccepted code → length code.crossings ≤ CROSSINGS → sum (counts_to code count) ≡ count
sum-states code zero is few = ap sum (sym (counts_to-none code)) ∙ refl
sum-states code (suc count) is few =
    let kind = state_kind code count in
    let below : kind < KINDS = state_kind-below code count is few in
    let within : kind < length (counts_to code count) = omega (arith, below, length-counts_to code count) in
    let next : suc count ≡ count + 1 = omega arith in
    omega (
      arith,
      ap (λ n. sum (counts_to code n)) next,
      ap sum (counts_to-more code count kind below refl),
      sum-one_more (counts_to code count) kind within,
      sum-states code count is few,
    )

-- the counts of all kinds
counts-all : (code : Code) (counts : List ℕ) → IsAccepted code → length code.crossings ≤ CROSSINGS → length counts ≡ KINDS
    → ((kind : ℕ) → kind < KINDS → get_or counts kind 0 ≡ kind_count code (kind_ones kind) (kind_circles kind))
    → counts ≡ counts_to code (2 ^ length code.crossings)
unfolding counts_to
counts-all code counts is few size each =
    fill_by_all (λ kind. count_by (λ state. nat_eq (state_kind code state) kind) (states code)) counts KINDS 0 size
    (λ kind below. each kind below ∙ sym (kind_count-states code kind is few))

pub sum-counts : (code : Code) (counts : List ℕ) → IsAccepted code → length code.crossings ≤ CROSSINGS → length counts ≡ KINDS
    → ((kind : ℕ) → kind < KINDS → get_or counts kind 0 ≡ kind_count code (kind_ones kind) (kind_circles kind))
    → sum counts ≤ 2 ^ CROSSINGS
sum-counts code counts is few size each =
    let power : 2 ^ length code.crossings ≤ 2 ^ CROSSINGS = pow_mono few in
    omega (arith, power, ap sum (counts-all code counts is few size each), sum-states code (2 ^ length code.crossings) is few)

-- the state sum

int_sum-agree : (f g : ℕ → ℤ) (xs : List ℕ) → ((x : ℕ) → f x ≡ g x) → int_sum (map f xs) ≡ int_sum (map g xs)
int_sum-agree f g [] same = refl
int_sum-agree f g (x ∷ xs) same =
    ap (λ (z : ℤ). z +ℤ int_sum (map f xs)) (same x) ∙ ap (λ (z : ℤ). g x +ℤ z) (int_sum-agree f g xs same)

pub kind_term-kind_of : (plus minus : ℕ) (exponent : ℤ) (ones circles : ℕ) → circles ≤ CIRCLES
    → kind_term plus minus exponent (kind_of ones circles) ≡ term_of plus minus exponent ones circles
kind_term-kind_of plus minus exponent ones circles few =
    ap (λ (r : ℕ). term_of plus minus exponent r (kind_circles (kind_of ones circles))) (kind_ones-kind_of ones circles few)
    ∙ ap (λ (c : ℕ). term_of plus minus exponent ones c) (kind_circles-kind_of ones circles few)

pub state_kind_sum-state_sum : (code : Code) (exponent : ℤ) → IsAccepted code → length code.crossings ≤ CROSSINGS
    → state_kind_sum code (kind_term (plus_count code.crossings) (minus_count code.crossings) exponent) (2 ^ length code.crossings)
    ≡ state_sum code exponent
state_kind_sum-state_sum code exponent is few =
    let plus = plus_count code.crossings in
    let minus = minus_count code.crossings in
    int_sum-agree (λ state. kind_term plus minus exponent (state_kind code state)) (state_term code exponent) (states code)
    (λ state. kind_term-kind_of plus minus exponent (one_count code state) (circle_count code state)
    (circle_count-within code state is few))

-- the state sum from the counts of all kinds
pub counted_sum-state_sum : (code : Code) (counts : List ℕ) (exponent : ℤ) → IsAccepted code → length code.crossings ≤ CROSSINGS
    → length counts ≡ KINDS
    → ((kind : ℕ) → kind < KINDS → get_or counts kind 0 ≡ kind_count code (kind_ones kind) (kind_circles kind))
    → counted_sum (kind_term (plus_count code.crossings) (minus_count code.crossings) exponent) counts ≡ state_sum code exponent
counted_sum-state_sum code counts exponent is few size each =
    let value = kind_term (plus_count code.crossings) (minus_count code.crossings) exponent in
    ap (counted_sum value) (counts-all code counts is few size each)
    ∙ counted_sum-states code value (2 ^ length code.crossings) is few ∙ state_kind_sum-state_sum code exponent is few
