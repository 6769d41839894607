-- Sums of the values of a function: they add, they scale, and two of them are exchanged.
use Rattle.std.proofs.lemmas.Bool.Decides.{nat_tests}
use Rattle.std.proofs.Common.{◌≡◌, ℕ, zero, suc, ◌+◌, ◌*◌, ◌∙◌, refl, ap, sym, arith}
use Rattle.kh_types.specs.Residues.{Same}
use Rattle.kh_types.specs.Products.{sum_below}
use Rattle.kh_types.proofs.Residues.{same-add}

pub sum_below-same : (p n : ℕ) (f g : ℕ → ℕ) → ((k : ℕ) → Same p (f k) (g k)) → Same p (sum_below n f) (sum_below n g)
sum_below-same p zero f g same = refl
sum_below-same p (suc n) f g same =
    same-add p (f 0) (g 0) (sum_below n (λ k. f (suc k))) (sum_below n (λ k. g (suc k))) (same 0)
    (sum_below-same p n (λ k. f (suc k)) (λ k. g (suc k)) (λ k. same (suc k)))

pub sum_below-equal : (n : ℕ) (f g : ℕ → ℕ) → ((k : ℕ) → f k ≡ g k) → sum_below n f ≡ sum_below n g
sum_below-equal zero f g equal = refl
sum_below-equal (suc n) f g equal = grind (arith, nat_tests, sum_below-equal n (λ k. f (suc k)) (λ k. g (suc k)) (λ k. equal (suc k)))

pub sum_below-add : (n : ℕ) (f g : ℕ → ℕ) → sum_below n (λ k. f k + g k) ≡ sum_below n f + sum_below n g
sum_below-add zero f g = refl
sum_below-add (suc n) f g = grind (arith, nat_tests, sum_below-add n (λ k. f (suc k)) (λ k. g (suc k)))

pub sum_below-scaled : (n c : ℕ) (f : ℕ → ℕ) → sum_below n (λ k. c * f k) ≡ c * sum_below n f
sum_below-scaled zero c f = omega arith
sum_below-scaled (suc n) c f = grind (arith, nat_tests, sum_below-scaled n c (λ k. f (suc k)))

pub sum_below-zeros : (n : ℕ) (f : ℕ → ℕ) → ((k : ℕ) → f k ≡ 0) → sum_below n f ≡ 0
sum_below-zeros zero f zeros = refl
sum_below-zeros (suc n) f zeros = grind (arith, nat_tests, sum_below-zeros n (λ k. f (suc k)) (λ k. zeros (suc k)))

-- the order of two sums does not matter
pub sum_below-exchanged : (m n : ℕ) (f : ℕ → ℕ → ℕ)
    → sum_below m (λ i. sum_below n (λ k. f i k)) ≡ sum_below n (λ k. sum_below m (λ i. f i k))
sum_below-exchanged zero n f = sym (sum_below-zeros n (λ k. 0) (λ k. refl))
sum_below-exchanged (suc m) n f =
    ap (λ z. sum_below n (λ k. f 0 k) + z) (sum_below-exchanged m n (λ i k. f (suc i) k))
    ∙ sym (sum_below-add n (λ k. f 0 k) (λ k. sum_below m (λ i. f (suc i) k)))

-- a product with a factor that is 0
pub zero-times : (x y : ℕ) → x ≡ 0 → x * y ≡ 0
zero-times x y is = ap (λ k. k * y) is ∙ omega arith

pub times-zero : (x y : ℕ) → y ≡ 0 → x * y ≡ 0
times-zero x y is = ap (λ k. x * k) is ∙ omega arith
