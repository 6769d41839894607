-- Factors and what is left, of each component.
use Rattle.std.proofs.Common.{◌≡◌, ◌≢◌, ℕ, ◌+◌, ◌*◌, ◌%◌, ◌<◌, ◌≤◌, ◌∙◌, List, [], ◌∷◌, ◌++◌, take, length, refl, sym, ap, arith}
use Rattle.std.specs.Prelude.{slice_index}
use Rattle.std.proofs.Math.Nat.{mod-eq_of_lt, mod-mod}
use Rattle.std.proofs.lemmas.Bool.Decides.{nat_tests}
use Rattle.std.proofs.lemmas.List.{take_more}
use Rattle.kh_types.specs.Residues.{Same}
use Rattle.kh_types.proofs.Residues.{same-mul}
use Rattle.dotted_maps.specs.Parts.{product_over}
use Rattle.tangle_maps.specs.Seams.{factor_for}

factor-one : (load genus : ℕ) → load ≤ 1 → genus ≤ load → genus ≢ 1 → factor_for load genus ≡ 1
factor-one load genus most within not_one = grind (arith, nat_tests)

pub factor_one : (p value load genus : ℕ) → load ≤ 1 → genus ≤ load → genus ≢ 1 → value < p → value ≡ value * factor_for load genus % p
factor_one p value load genus most within not_one below =
    sym (ap (λ f. value * f % p) (factor-one load genus most within not_one) ∙ ap (λ x. x % p) (one_time value) ∙ mod-eq_of_lt below)
  where
    one_time : (x : ℕ) → x * 1 ≡ x
    one_time x = omega arith

pub product-push : (f : ℕ → ℕ) (xs : List ℕ) (x : ℕ) → product_over f (xs ++ x ∷ []) ≡ product_over f xs * f x
product-push f [] x = turned (f x)
  where
    turned : (a : ℕ) → a * 1 ≡ 1 * a
    turned a = omega arith
product-push f (y ∷ ys) x = ap (λ n. f y * n) (product-push f ys x) ∙ grouped (f y) (product_over f ys) (f x)
  where
    grouped : (a b c : ℕ) → a * (b * c) ≡ a * b * c
    grouped a b c = omega arith

pub weighed_none : (p value : ℕ) (f : ℕ → ℕ) → Same p value (value * product_over f [])
weighed_none p value f = ap (λ x. x % p) (one_time value)
  where
    one_time : (x : ℕ) → x ≡ x * 1
    one_time x = omega arith

pub weighed_more : (p value before after i load genus : ℕ) (f : ℕ → ℕ) (components : List ℕ) → i < length components
    → factor_for load genus ≡ f (slice_index components i)
    → Same p before (value * product_over f (take i components)) → after ≡ before * factor_for load genus % p
    → Same p after (value * product_over f (take (i + 1) components))
weighed_more p value before after i load genus f components within is so_far made =
    let x = slice_index components i in
    let some = product_over f (take i components) in
    ap (λ z. z % p) (made ∙ ap (λ z. before * z % p) is) ∙ mod-mod (before * f x) p
    ∙ same-mul p before (value * some) (f x) (f x) so_far refl
    ∙ ap (λ z. z % p) (grouped value some (f x) ∙ ap (λ z. value * z) (sym (product-push f (take i components) x))
    ∙ ap (λ xs. value * product_over f xs) (sym (take_more components i 0 within)))
  where
    grouped : (a b c : ℕ) → a * b * c ≡ a * (b * c)
    grouped a b c = omega arith
