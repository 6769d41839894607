-- State sums at the opposite exponents.
use Rattle.std.proofs.lemmas.Bool.Decides.{nat_tests}
use Rattle.std.proofs.Common.{◌≡◌, ℕ, zero, suc, ◌+◌, ◌-◌, ◌*◌, ◌∙◌, ℤ, pos, neg_ℤ, ◌+ℤ◌, ◌-ℤ◌, refl, sym, ap, ap₂, arith}
use Rattle.std.specs.List.{range_with_len}
use Rattle.std.proofs.lemmas.Bool.Decides.{Decides-int_eq, Decides-like, same_from_decides}
use Rattle.std.proofs.lemmas.Int.{ints}
use Rattle.kh_types.specs.StateSum.{circle_coefficient, signed_by, term_of}
use Rattle.link_algebra.proofs.IntSums.{sum_over, sum-range_alike}

-- (q + q^-1) ^ k is the same at q^-1
pub circle_coefficient-opposite : (k : ℕ) (e d : ℤ) → d ≡ neg_ℤ e → circle_coefficient k d ≡ circle_coefficient k e
circle_coefficient-opposite zero e d is = grind (arith, nat_tests, same_from_decides, Decides-int_eq, Decides-like, ints)
circle_coefficient-opposite (suc k) e d is =
    ap₂ (λ x y. x + y) (circle_coefficient-opposite k (e +ℤ pos 1) (d -ℤ pos 1) (omega (arith, ints, is)))
    (circle_coefficient-opposite k (e -ℤ pos 1) (d +ℤ pos 1) (omega (arith, ints, is)))
    ∙ turned (circle_coefficient k (e +ℤ pos 1)) (circle_coefficient k (e -ℤ pos 1))
  where
    turned : (x y : ℕ) → x + y ≡ y + x
    turned x y = omega arith

signed_by-opposite : (i j : ℤ) (x : ℕ) → j ≡ neg_ℤ i → signed_by j x ≡ signed_by i x
signed_by-opposite i j x is = grind (arith, nat_tests)

-- the term of a state with all smoothings exchanged, where the signs are exchanged
pub term-opposite : (n plus minus other_plus other_minus r s c d : ℕ) (e : ℤ) → plus + minus ≡ n → other_plus ≡ minus
    → other_minus ≡ plus → s + r ≡ n → d ≡ c
    → term_of other_plus other_minus (neg_ℤ e) s d ≡ term_of plus minus e r c
term-opposite n plus minus other_plus other_minus r s c d e signs first second ones circles =
    let exponent = (e -ℤ pos (r + plus)) +ℤ pos (2 * minus) in
    let opposite = (neg_ℤ e -ℤ pos (s + other_plus)) +ℤ pos (2 * other_minus) in
    ap (λ k. signed_by (pos s -ℤ pos other_minus) (circle_coefficient k opposite)) circles
    ∙ ap (signed_by (pos s -ℤ pos other_minus))
    (circle_coefficient-opposite c exponent opposite (omega (arith, ints, signs, first, second, ones)))
    ∙ signed_by-opposite (pos r -ℤ pos minus) (pos s -ℤ pos other_minus) (circle_coefficient c exponent)
    (omega (arith, ints, signs, second, ones))

-- sums the other way round
shifted : (f : ℕ → ℤ) (a n : ℕ) → sum_over f (range_with_len (a + 1) n) ≡ sum_over (λ k. f (suc k)) (range_with_len a n)
shifted f a zero = refl
shifted f a (suc n) = grind (arith, nat_tests, shifted f (a + 1) n)

last : (f : ℕ → ℤ) (a n : ℕ) → sum_over f (range_with_len a (suc n)) ≡ sum_over f (range_with_len a n) +ℤ f (a + n)
last f a zero = grind (arith, nat_tests, ints)
last f a (suc n) =
    let e : a + 1 + n ≡ a + suc n = omega arith in
    ap (λ s. f a +ℤ s) (last f (a + 1) n ∙ ap (λ k. sum_over f (range_with_len (a + 1) n) +ℤ f k) e)
    ∙ regrouped (f a) (sum_over f (range_with_len (a + 1) n)) (f (a + suc n))
  where
    regrouped : (x y z : ℤ) → x +ℤ (y +ℤ z) ≡ (x +ℤ y) +ℤ z
    regrouped x y z = omega (arith, ints)

pub sum-flipped : (f : ℕ → ℤ) (n : ℕ) → sum_over f (range_with_len 0 n) ≡ sum_over (λ k. f (n - 1 - k)) (range_with_len 0 n)
sum-flipped f zero = refl
sum-flipped f (suc n) =
    let whole : n ≡ suc n - 1 - 0 = omega arith in
    last f 0 n ∙ ap (λ k. sum_over f (range_with_len 0 n) +ℤ f k) (let e : 0 + n ≡ n = omega arith in e)
    ∙ ap (λ s. s +ℤ f n)
    (sum-flipped f n
    ∙ sum-range_alike (λ k. f (n - 1 - k)) (λ k. f (suc n - 1 - suc k)) 0 n
    (λ k from below. ap f (let e : n - 1 - k ≡ suc n - 1 - suc k = omega arith in e))
    ∙ sym (shifted (λ k. f (suc n - 1 - k)) 0 n))
    ∙ turned (sum_over (λ k. f (suc n - 1 - k)) (range_with_len 1 n)) (f n)
    ∙ ap (λ s. s +ℤ sum_over (λ k. f (suc n - 1 - k)) (range_with_len 1 n)) (ap f whole)
  where
    turned : (x y : ℤ) → x +ℤ y ≡ y +ℤ x
    turned x y = omega (arith, ints)
