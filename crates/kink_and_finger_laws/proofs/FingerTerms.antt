-- The four terms that a finger makes of each term of the state sum.
use Rattle.std.proofs.Common.{◌≡◌, ℕ, ◌+◌, ◌*◌, ◌∙◌, ℤ, pos, neg_ℤ, ◌+ℤ◌, ◌-ℤ◌, ap, ap₂, arith}
use Rattle.std.proofs.lemmas.Int.{ints}
use Rattle.kh_types.specs.StateSum.{circle_coefficient}
use Rattle.gluing_laws.proofs.Terms.{term_at, signed_by_count}
use Rattle.gluing_laws.proofs.KinkSums.{signed_by-add, signed_by-next, circle_coefficient-more}

-- two mixed states of one circle count, the straight one, and the one with a circle more
four : (k s n : ℕ) (x y z : ℤ) → y ≡ x +ℤ pos 1 → z ≡ x -ℤ pos 1
    → signed_by_count (k + 1) (circle_coefficient n y) +ℤ signed_by_count (k + 2) (circle_coefficient s x)
    +ℤ (signed_by_count (k + 2) (circle_coefficient (n + 1) x) +ℤ signed_by_count (k + 3) (circle_coefficient n z))
    ≡ signed_by_count k (circle_coefficient s x)
four k s n x y z is_y is_z =
    let e2 : k + 2 ≡ k + 1 + 1 = omega arith in
    let e3 : k + 3 ≡ k + 2 + 1 = omega arith in
    let low : x -ℤ pos 1 ≡ z = omega (arith, ints) in
    let high : x +ℤ pos 1 ≡ y = omega (arith, ints) in
    let even : (m : ℕ) → signed_by_count (k + 2) m ≡ signed_by_count k m =
    λ m. ap (λ j. signed_by_count j m) e2 ∙ signed_by-next (k + 1) m ∙ ap neg_ℤ (signed_by-next k m) ∙ twice (signed_by_count k m) in
    let first = signed_by-next k (circle_coefficient n y) in
    let second = even (circle_coefficient s x) in
    let third : signed_by_count (k + 2) (circle_coefficient (n + 1) x)
    ≡ signed_by_count k (circle_coefficient n z) +ℤ signed_by_count k (circle_coefficient n y) =
    even (circle_coefficient (n + 1) x)
    ∙ ap (λ m. signed_by_count k m) (circle_coefficient-more n x ∙ ap₂ (λ v w. circle_coefficient n v + circle_coefficient n w) low high)
    ∙ signed_by-add k (circle_coefficient n z) (circle_coefficient n y) in
    let fourth : signed_by_count (k + 3) (circle_coefficient n z) ≡ neg_ℤ (signed_by_count k (circle_coefficient n z)) =
    ap (λ j. signed_by_count j (circle_coefficient n z)) e3 ∙ signed_by-next (k + 2) (circle_coefficient n z)
    ∙ ap neg_ℤ (even (circle_coefficient n z)) in
    ap₂ (λ a b. a +ℤ b) (ap₂ (λ a b. a +ℤ b) first second) (ap₂ (λ a b. a +ℤ b) third fourth)
    ∙ cancelled (signed_by_count k (circle_coefficient n y)) (signed_by_count k (circle_coefficient s x)) (signed_by_count k (circle_coefficient n z))
  where
    twice : (s : ℤ) → neg_ℤ (neg_ℤ s) ≡ s
    twice s = omega (arith, ints)

    cancelled : (a b c : ℤ) → neg_ℤ a +ℤ b +ℤ (c +ℤ a +ℤ neg_ℤ c) ≡ b
    cancelled a b c = omega (arith, ints)

pub term_of-finger : (plus minus r s n : ℕ) (exponent : ℤ)
    → term_at (plus + 1) (minus + 1) exponent r n +ℤ term_at (plus + 1) (minus + 1) exponent (r + 1) s
    +ℤ (term_at (plus + 1) (minus + 1) exponent (r + 1) (n + 1) +ℤ term_at (plus + 1) (minus + 1) exponent (r + 2) n)
    ≡ term_at plus minus exponent r s
term_of-finger plus minus r s n exponent =
    let x = (exponent -ℤ pos (r + plus)) +ℤ pos (2 * minus) in
    let y = (exponent -ℤ pos (r + (plus + 1))) +ℤ pos (2 * (minus + 1)) in
    let w = (exponent -ℤ pos (r + 1 + (plus + 1))) +ℤ pos (2 * (minus + 1)) in
    let z = (exponent -ℤ pos (r + 2 + (plus + 1))) +ℤ pos (2 * (minus + 1)) in
    let w_is : (exponent -ℤ pos (r + 1 + (plus + 1))) +ℤ pos (2 * (minus + 1)) ≡ (exponent -ℤ pos (r + plus)) +ℤ pos (2 * minus) =
    omega (arith, ints) in
    let k1 : r + (minus + 1) ≡ r + minus + 1 = omega arith in
    let k2 : r + 1 + (minus + 1) ≡ r + minus + 2 = omega arith in
    let k3 : r + 2 + (minus + 1) ≡ r + minus + 3 = omega arith in
    ap₂ (λ a b. a +ℤ b)
    (ap₂ (λ a b. a +ℤ b) (ap (λ k. signed_by_count k (circle_coefficient n y)) k1)
    (ap₂ (λ k t. signed_by_count k (circle_coefficient s t)) k2 w_is))
    (ap₂ (λ a b. a +ℤ b) (ap₂ (λ k t. signed_by_count k (circle_coefficient (n + 1) t)) k2 w_is)
    (ap (λ k. signed_by_count k (circle_coefficient n z)) k3))
    ∙ four (r + minus) s n x y z (omega (arith, ints)) (omega (arith, ints))

-- the same, with the two states of one 1 in the other order
pub term_of-finger_other : (plus minus r s n : ℕ) (exponent : ℤ)
    → term_at (plus + 1) (minus + 1) exponent r n +ℤ term_at (plus + 1) (minus + 1) exponent (r + 1) (n + 1)
    +ℤ (term_at (plus + 1) (minus + 1) exponent (r + 1) s +ℤ term_at (plus + 1) (minus + 1) exponent (r + 2) n)
    ≡ term_at plus minus exponent r s
term_of-finger_other plus minus r s n exponent =
    exchanged (term_at (plus + 1) (minus + 1) exponent r n) (term_at (plus + 1) (minus + 1) exponent (r + 1) (n + 1))
    (term_at (plus + 1) (minus + 1) exponent (r + 1) s) (term_at (plus + 1) (minus + 1) exponent (r + 2) n)
    ∙ term_of-finger plus minus r s n exponent
  where
    exchanged : (a b c d : ℤ) → a +ℤ b +ℤ (c +ℤ d) ≡ a +ℤ c +ℤ (b +ℤ d)
    exchanged a b c d = omega (arith, ints)
