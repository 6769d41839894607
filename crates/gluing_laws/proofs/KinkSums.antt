-- The two terms that a kink makes of each term of the state sum.
use Rattle.std.proofs.Common.{◌≡◌, ℕ, zero, suc, ◌⊎◌, ◌+◌, ◌*◌, ◌%◌, ◌<◌, ◌∙◌, ℤ, pos, neg_ℤ, ◌+ℤ◌, ◌-ℤ◌, sym, map, ap, ap₂, arith, Bool, true, false, cond}
use Rattle.std.specs.Prelude.{nat_eq}
use Rattle.std.specs.List.{range_with_len}
use Rattle.std.proofs.lemmas.Bool.Decides.{nat_tests}
use Rattle.std.proofs.lemmas.Int.{ints}
use Rattle.std.proofs.lemmas.List.{map-append}
use Rattle.kh_types.specs.StateSum.{int_sum, circle_coefficient}
use Rattle.kh_types.proofs.Ranges.{range-append}
use Rattle.kh_types.proofs.IntSums.{int_sum-append}
use Rattle.gluing_laws.proofs.Terms.{term_at, signed_by_count}

-- one circle more
pub circle_coefficient-more : (k : ℕ) (x : ℤ)
    → circle_coefficient (k + 1) x ≡ circle_coefficient k (x -ℤ pos 1) + circle_coefficient k (x +ℤ pos 1)
circle_coefficient-more k x = let e : k + 1 ≡ suc k = omega arith in ap (λ n. circle_coefficient n x) e

-- signs

abbrev sign_by : Bool → ℕ → ℤ
sign_by even x = cond even (pos x) (neg_ℤ (pos x))

pub sign_by-add : (even : Bool) (x y : ℕ) → sign_by even (x + y) ≡ sign_by even x +ℤ sign_by even y
sign_by-add even x y = grind (arith, nat_tests)

pub signed_by-add : (k x y : ℕ) → signed_by_count k (x + y) ≡ signed_by_count k x +ℤ signed_by_count k y
signed_by-add k x y = sign_by-add (nat_eq (k % 2) 0) x y

parity-next : (k : ℕ)
    → ((nat_eq (k % 2) 0 ≡ true) × (nat_eq ((k + 1) % 2) 0 ≡ false))
    ⊎ ((nat_eq (k % 2) 0 ≡ false) × (nat_eq ((k + 1) % 2) 0 ≡ true))
parity-next k = grind (arith, nat_tests)

pub signed_by-next : (k x : ℕ) → signed_by_count (k + 1) x ≡ neg_ℤ (signed_by_count k x)
signed_by-next k x = grind (arith, nat_tests)

-- the two terms of a kink, the one with the closed circle and the one without, where u is the term without its shift
two_terms : (k : ℕ) (x y z : ℤ) (c : ℕ) → y ≡ x -ℤ pos 1 → z ≡ x -ℤ pos 2
    → signed_by_count k (circle_coefficient (c + 1) y) +ℤ signed_by_count (k + 1) (circle_coefficient c z) ≡ signed_by_count k (circle_coefficient c x)
two_terms k x y z c is_y is_z =
    let low : y -ℤ pos 1 ≡ z = omega (arith, ints) in
    let high : y +ℤ pos 1 ≡ x = omega (arith, ints) in
    ap₂ (λ s t. s +ℤ t)
    (ap (λ n. signed_by_count k n)
    (circle_coefficient-more c y ∙ ap₂ (λ v w. circle_coefficient c v + circle_coefficient c w) low high)
    ∙ signed_by-add k (circle_coefficient c z) (circle_coefficient c x))
    (signed_by-next k (circle_coefficient c z))
    ∙ cancelled (signed_by_count k (circle_coefficient c z)) (signed_by_count k (circle_coefficient c x))
  where
    cancelled : (s t : ℤ) → s +ℤ t +ℤ neg_ℤ s ≡ t
    cancelled s t = omega (arith, ints)

two_terms_back : (k : ℕ) (x y z : ℤ) (c : ℕ) → y ≡ x +ℤ pos 2 → z ≡ x +ℤ pos 1
    → signed_by_count (k + 1) (circle_coefficient c y) +ℤ signed_by_count (k + 2) (circle_coefficient (c + 1) z)
    ≡ signed_by_count k (circle_coefficient c x)
two_terms_back k x y z c is_y is_z =
    let low : z -ℤ pos 1 ≡ x = omega (arith, ints) in
    let high : z +ℤ pos 1 ≡ y = omega (arith, ints) in
    let e : k + 2 ≡ k + 1 + 1 = omega arith in
    let split = circle_coefficient-more c z ∙ ap₂ (λ v w. circle_coefficient c v + circle_coefficient c w) low high in
    let last : signed_by_count (k + 2) (circle_coefficient (c + 1) z)
    ≡ signed_by_count k (circle_coefficient c x) +ℤ signed_by_count k (circle_coefficient c y) =
    ap (λ n. signed_by_count n (circle_coefficient (c + 1) z)) e
    ∙ signed_by-next (k + 1) (circle_coefficient (c + 1) z)
    ∙ ap neg_ℤ (signed_by-next k (circle_coefficient (c + 1) z))
    ∙ twice (signed_by_count k (circle_coefficient (c + 1) z))
    ∙ ap (λ n. signed_by_count k n) split
    ∙ signed_by-add k (circle_coefficient c x) (circle_coefficient c y) in
    ap₂ (λ s t. s +ℤ t) (signed_by-next k (circle_coefficient c y)) last
    ∙ cancelled (signed_by_count k (circle_coefficient c y)) (signed_by_count k (circle_coefficient c x))
  where
    twice : (s : ℤ) → neg_ℤ (neg_ℤ s) ≡ s
    twice s = omega (arith, ints)

    cancelled : (s t : ℤ) → neg_ℤ s +ℤ (t +ℤ s) ≡ t
    cancelled s t = omega (arith, ints)

-- a positive kink: at its 0-smoothing there is one circle more, at its 1-smoothing one 1 more
pub term_of-positive_kink : (plus minus r circles : ℕ) (exponent : ℤ)
    → term_at (plus + 1) minus exponent r (circles + 1) +ℤ term_at (plus + 1) minus exponent (r + 1) circles
    ≡ term_at plus minus exponent r circles
term_of-positive_kink plus minus r circles exponent =
    let x = (exponent -ℤ pos (r + plus)) +ℤ pos (2 * minus) in
    let y = (exponent -ℤ pos (r + (plus + 1))) +ℤ pos (2 * minus) in
    let z = (exponent -ℤ pos (r + 1 + (plus + 1))) +ℤ pos (2 * minus) in
    let e : r + 1 + minus ≡ r + minus + 1 = omega arith in
    ap (λ k. signed_by_count (r + minus) (circle_coefficient (circles + 1) y) +ℤ signed_by_count k (circle_coefficient circles z)) e
    ∙ two_terms (r + minus) x y z circles (omega (arith, ints)) (omega (arith, ints))

-- a negative kink: at its 0-smoothing there are as many circles, at its 1-smoothing one circle and one 1 more
pub term_of-negative_kink : (plus minus r circles : ℕ) (exponent : ℤ)
    → term_at plus (minus + 1) exponent r circles +ℤ term_at plus (minus + 1) exponent (r + 1) (circles + 1)
    ≡ term_at plus minus exponent r circles
term_of-negative_kink plus minus r circles exponent =
    let x = (exponent -ℤ pos (r + plus)) +ℤ pos (2 * minus) in
    let y = (exponent -ℤ pos (r + plus)) +ℤ pos (2 * (minus + 1)) in
    let z = (exponent -ℤ pos (r + 1 + plus)) +ℤ pos (2 * (minus + 1)) in
    let first : r + (minus + 1) ≡ r + minus + 1 = omega arith in
    let second : r + 1 + (minus + 1) ≡ r + minus + 2 = omega arith in
    ap₂ (λ k l. signed_by_count k (circle_coefficient circles y) +ℤ signed_by_count l (circle_coefficient (circles + 1) z)) first second
    ∙ two_terms_back (r + minus) x y z circles (omega (arith, ints)) (omega (arith, ints))

-- sums over states

-- two ranges of one length, taken together
int_sum-two_ranges : (old new : ℕ → ℤ) (a b n : ℕ) → ((k : ℕ) → k < n → new (a + k) +ℤ new (b + k) ≡ old (a + k))
    → int_sum (map new (range_with_len a n)) +ℤ int_sum (map new (range_with_len b n)) ≡ int_sum (map old (range_with_len a n))
int_sum-two_ranges old new a b zero pairs = omega (arith, ints)
int_sum-two_ranges old new a b (suc n) pairs =
    let rest = int_sum-two_ranges old new (a + 1) (b + 1) n (λ k below.
    let first : a + 1 + k ≡ a + (k + 1) = omega arith in
    let second : b + 1 + k ≡ b + (k + 1) = omega arith in
    ap₂ (λ x y. new x +ℤ new y) first second ∙ pairs (k + 1) (omega arith) ∙ ap old (sym first)) in
    let first : a + 0 ≡ a = omega arith in
    let second : b + 0 ≡ b = omega arith in
    let here : new a +ℤ new b ≡ old a = sym (ap₂ (λ x y. new x +ℤ new y) first second) ∙ pairs 0 (omega arith) ∙ ap old first in
    sums_step (new a) (new b) (old a) (int_sum (map new (range_with_len (a + 1) n))) (int_sum (map new (range_with_len (b + 1) n)))
    (int_sum (map old (range_with_len (a + 1) n))) here rest
  where
    sums_step : (a b c x y z : ℤ) → a +ℤ b ≡ c → x +ℤ y ≡ z → a +ℤ x +ℤ (b +ℤ y) ≡ c +ℤ z
    sums_step a b c x y z here rest = omega (arith, ints)

-- where each state of the old crossings becomes two states, the new crossing's bit being the highest, and the terms of the two add
-- up to its term, the sums over all states are one
pub int_sum-doubled : (old new : ℕ → ℤ) (n : ℕ) → ((state : ℕ) → state < n → new state +ℤ new (n + state) ≡ old state)
    → int_sum (map new (range_with_len 0 (n + n))) ≡ int_sum (map old (range_with_len 0 n))
int_sum-doubled old new n pairs = grind (arith, nat_tests, range-append, map-append, int_sum-append, int_sum-two_ranges)
