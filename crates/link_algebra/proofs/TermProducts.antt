-- Products of terms of state sums.
--
-- A term of a state sum is a sign, a power of q and a power of q + q^-1. The product of two has the product of signs, the sum of exponents,
-- and the sum of the numbers of circles: the last because coefficients of (q + q^-1)^c are made by c steps, and a product is made by the
-- steps of both.
use Rattle.std.proofs.lemmas.Bool.Decides.{nat_tests}
use Rattle.std.proofs.Common.{Bool, List, [], ap, ap₂, arith, cond, false, neg_ℤ, pos, refl, suc, sym, true, zero, ℕ, ℤ, ◌%◌, ◌*ℤ◌, ◌*◌, ◌+ℤ◌, ◌+◌, ◌-ℤ◌, ◌∙◌, ◌∷◌, ◌≡◌, ◌≢◌, ◌≤◌, ◌⊎◌}
use Rattle.std.proofs.Math.IntN.{+ℤ_idl, suc_ℤ-*ℤ, zero-*ℤ}
use Rattle.std.proofs.lemmas.Bool.Decides.{Decides-int_eq}
use Rattle.std.proofs.lemmas.Int.{ints}
use Rattle.std.specs.List.{range_with_len}
use Rattle.std.specs.Prelude.{nat_eq}
use Rattle.kh_types.specs.StateSum.{circle_coefficient, signed_by, term_of}
use Rattle.kh_types.specs.Table.{from_minus}
use Rattle.link_algebra.proofs.IntSums.{spread_right, sum-alike, sum-map, sum-plus, sum-single, sum_over}
use Rattle.kh_types.proofs.AlternatingSums.{signed_by-less}

-- a number with a sign
abbrev pub signed : Bool → ℤ → ℤ
signed keeps x = cond keeps x (neg_ℤ x)

abbrev pub is_even : ℕ → Bool
is_even n = nat_eq (n % 2) 0

pub signed_by-signed : (r m x : ℕ) → signed_by (pos r -ℤ pos m) x ≡ signed (is_even (r + m)) (pos x)
signed_by-signed r m x = signed_by-less (pos r -ℤ pos m) r m x refl

signed-product : (j k l : ℕ) (x y : ℤ) → l ≡ j + k → signed (is_even j) x *ℤ signed (is_even k) y ≡ signed (is_even l) (x *ℤ y)
signed-product j k l x y is = grind (arith, nat_tests)

sum-signed : {X : Type 0} (b : Bool) (f : X → ℤ) (xs : List X) → sum_over (λ x. signed b (f x)) xs ≡ signed b (sum_over f xs)
sum-signed true f xs = refl
sum-signed false f [] = refl
sum-signed false f (x ∷ xs) = ap (λ s. neg_ℤ (f x) +ℤ s) (sum-signed false f xs) ∙ both (f x) (sum_over f xs)
  where
    both : (a b : ℤ) → neg_ℤ a +ℤ neg_ℤ b ≡ neg_ℤ (a +ℤ b)
    both a b = omega (arith, ints)

-- the exponents of (q + q^-1) ^ c, moved by u, are from -most to most
pub record Fits (most c : ℕ) (u : ℤ) : Type 0 where
  pub low : ℕ
  pub from : u +ℤ pos most ≡ pos (c + low)
  pub within : 2 * c + low ≤ 2 * most

-- the sum over these exponents, with another function
abbrev sum_with : ℕ → ℕ → ℤ → (ℤ → ℤ) → ℤ → ℤ
sum_with most c u g e = sum_over (λ a. pos (circle_coefficient c (a -ℤ u)) *ℤ g (e -ℤ a)) (from_minus most)

no_circles : (x : ℤ) → x ≢ pos 0 → circle_coefficient 0 x ≡ 0
no_circles x other = grind (arith, nat_tests)

one_way : (x : ℤ) → x ≡ pos 0 → circle_coefficient 0 x ≡ 1
one_way x is = ap (λ b. cond b 1 0) ((Decides-int_eq x (pos 0)).1 is)

sum_with-zero : (most : ℕ) (u : ℤ) (g : ℤ → ℤ) (e : ℤ) → Fits most 0 u → sum_with most 0 u g e ≡ g (e -ℤ u)
sum_with-zero most u g e fits =
    let f = λ (a : ℤ). pos (circle_coefficient 0 (a -ℤ u)) *ℤ g (e -ℤ a) in
    let at = λ (k : ℕ). pos k -ℤ pos most in
    let there : at fits.low ≡ u = omega (arith, ints, fits.from) in
    let zero_there : at fits.low -ℤ u ≡ pos 0 = omega (arith, ints, fits.from) in
    sum-map f at (range_with_len 0 (2 * most + 1))
    ∙ sum-single (λ k. f (at k)) 0 (2 * most + 1) fits.low (omega arith) (omega (arith, fits.within))
    (λ k from below other.
    ap (λ c. pos c *ℤ g (e -ℤ at k)) (no_circles (at k -ℤ u) (λ is. other (omega (arith, ints, fits.from, is))))
    ∙ zero-*ℤ (g (e -ℤ at k)))
    ∙ ap (λ c. pos c *ℤ g (e -ℤ at fits.low)) (one_way (at fits.low -ℤ u) zero_there)
    ∙ once (g (e -ℤ at fits.low))
    ∙ ap (λ a. g (e -ℤ a)) there
  where
    once : (x : ℤ) → pos 1 *ℤ x ≡ x
    once x = suc_ℤ-*ℤ (pos zero) x ∙ ap (λ z. z +ℤ x) (zero-*ℤ x) ∙ +ℤ_idl x

sum_with-step : (most c : ℕ) (u : ℤ) (g : ℤ → ℤ) (e : ℤ)
    → sum_with most (suc c) u g e ≡ sum_with most c (u +ℤ pos 1) g e +ℤ sum_with most c (u -ℤ pos 1) g e
sum_with-step most c u g e =
    let f = λ (v a : ℤ). pos (circle_coefficient c (a -ℤ v)) *ℤ g (e -ℤ a) in
    sum-alike (λ a. pos (circle_coefficient (suc c) (a -ℤ u)) *ℤ g (e -ℤ a)) (λ a. f (u +ℤ pos 1) a +ℤ f (u -ℤ pos 1) a) (from_minus most)
    (λ a.
    let less : a -ℤ u -ℤ pos 1 ≡ a -ℤ (u +ℤ pos 1) = omega (arith, ints) in
    let more : a -ℤ u +ℤ pos 1 ≡ a -ℤ (u -ℤ pos 1) = omega (arith, ints) in
    ap (λ x. x *ℤ g (e -ℤ a))
    (both (circle_coefficient c (a -ℤ u -ℤ pos 1)) (circle_coefficient c (a -ℤ u +ℤ pos 1))
    ∙ ap₂ (λ x y. pos (circle_coefficient c x) +ℤ pos (circle_coefficient c y)) less more)
    ∙ spread_right (pos (circle_coefficient c (a -ℤ (u +ℤ pos 1)))) (pos (circle_coefficient c (a -ℤ (u -ℤ pos 1)))) (g (e -ℤ a)))
    ∙ sum-plus (f (u +ℤ pos 1)) (f (u -ℤ pos 1)) (from_minus most)
  where
    both : (m n : ℕ) → pos (m + n) ≡ pos m +ℤ pos n
    both m n = omega (arith, ints)

-- the coefficients of (q + q^-1) ^ (c + d) are those of the product
sum_with-circles : (most c d : ℕ) (u v e : ℤ) → Fits most c u
    → sum_with most c u (λ x. pos (circle_coefficient d (x -ℤ v))) e ≡ pos (circle_coefficient (c + d) (e -ℤ u -ℤ v))
sum_with-circles most zero d u v e fits = grind (arith, nat_tests, sum_with-zero)
sum_with-circles most (suc c) d u v e fits =
    let more : suc (c + d) ≡ suc c + d = omega arith in
    let x = e -ℤ u -ℤ v in
    let less : e -ℤ (u +ℤ pos 1) -ℤ v ≡ x -ℤ pos 1 = omega (arith, ints) in
    let greater : e -ℤ (u -ℤ pos 1) -ℤ v ≡ x +ℤ pos 1 = omega (arith, ints) in
    sum_with-step most c u (λ x. pos (circle_coefficient d (x -ℤ v))) e
    ∙ ap₂ (λ a b. a +ℤ b)
    (sum_with-circles most c d (u +ℤ pos 1) v e
    (record { low = fits.low + 2; from = omega (arith, ints, fits.from); within = omega (arith, fits.within) })
    ∙ ap (λ z. pos (circle_coefficient (c + d) z)) less)
    (sum_with-circles most c d (u -ℤ pos 1) v e
    (record { low = fits.low; from = omega (arith, ints, fits.from); within = omega (arith, fits.within) })
    ∙ ap (λ z. pos (circle_coefficient (c + d) z)) greater)
    ∙ both (circle_coefficient (c + d) (x -ℤ pos 1)) (circle_coefficient (c + d) (x +ℤ pos 1))
    ∙ ap (λ k. pos (circle_coefficient k x)) more
  where
    both : (m n : ℕ) → pos m +ℤ pos n ≡ pos (m + n)
    both m n = omega (arith, ints)

-- the product of two terms is the term with the sums of all counts
pub terms-product : (most p m q n : ℕ) (e : ℤ) (r s c d : ℕ) → Fits most c (pos (r + p) -ℤ pos (2 * m))
    → sum_over (λ a. term_of p m a r c *ℤ term_of q n (e -ℤ a) s d) (from_minus most)
    ≡ term_of (p + q) (m + n) e (r + s) (c + d)
terms-product most p m q n e r s c d fits =
    let u = pos (r + p) -ℤ pos (2 * m) in
    let v = pos (s + q) -ℤ pos (2 * n) in
    let first = is_even (r + m) in
    let second = is_even (s + n) in
    let all = is_even (r + s + (m + n)) in
    sum-alike (λ a. term_of p m a r c *ℤ term_of q n (e -ℤ a) s d)
    (λ a. signed all (pos (circle_coefficient c (a -ℤ u)) *ℤ pos (circle_coefficient d (e -ℤ a -ℤ v)))) (from_minus most)
    (λ a.
    let at : a -ℤ pos (r + p) +ℤ pos (2 * m) ≡ a -ℤ u = omega (arith, ints) in
    let rest : e -ℤ a -ℤ pos (s + q) +ℤ pos (2 * n) ≡ e -ℤ a -ℤ v = omega (arith, ints) in
    ap₂ (λ x y. x *ℤ y)
    (signed_by-signed r m (circle_coefficient c (a -ℤ pos (r + p) +ℤ pos (2 * m)))
    ∙ ap (λ z. signed first (pos (circle_coefficient c z))) at)
    (signed_by-signed s n (circle_coefficient d (e -ℤ a -ℤ pos (s + q) +ℤ pos (2 * n)))
    ∙ ap (λ z. signed second (pos (circle_coefficient d z))) rest)
    ∙ signed-product (r + m) (s + n) (r + s + (m + n)) (pos (circle_coefficient c (a -ℤ u)))
    (pos (circle_coefficient d (e -ℤ a -ℤ v))) (omega arith))
    ∙ sum-signed all (λ a. pos (circle_coefficient c (a -ℤ u)) *ℤ pos (circle_coefficient d (e -ℤ a -ℤ v))) (from_minus most)
    ∙ ap (signed all) (sum_with-circles most c d u v e fits)
    ∙ (let total : e -ℤ u -ℤ v ≡ e -ℤ pos (r + s + (p + q)) +ℤ pos (2 * (m + n)) = omega (arith, ints) in
    ap (λ z. signed all (pos (circle_coefficient (c + d) z))) total)
    ∙ sym (signed_by-signed (r + s) (m + n) (circle_coefficient (c + d) (e -ℤ pos (r + s + (p + q)) +ℤ pos (2 * (m + n)))))
