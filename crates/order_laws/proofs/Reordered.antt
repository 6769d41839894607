-- Lists in another order: their elements and what is counted of them.
use Rattle.std.proofs.Common.{◌≡◌, ℕ, zero, suc, ◌<◌, ◌∙◌, List, [], ◌∷◌, ◌++◌, length, map, get_or, take, drop, refl, sym, subst, ap, arith, length-append, Bool, cond}
use Rattle.std.specs.List.{count_by, sum_by}
use Rattle.std.proofs.lemmas.List.{map-append}
use Rattle.std.proofs.lemmas.List.Sums.{sum_by-append, sum_by-cons}
use Rattle.order_laws.specs.Orders.{IsReordered}

-- a list in its own order
pub own-order : {A : Type 0} (xs : List A) → IsReordered xs xs
own-order [] = refl
own-order (x ∷ xs) = ([], xs, refl, own-order xs)

split-at : {A : Type 0} (k : ℕ) (xs : List A) (d : A) → k < length xs → xs ≡ take k xs ++ (get_or xs k d ∷ drop (suc k) xs)
split-at k [] d below = absurd (omega (arith, below))
split-at zero (x ∷ xs) d below = refl
split-at (suc k) (x ∷ xs) d below = ap (λ zs. x ∷ zs) (split-at k xs d (omega (arith, below)))

-- a list with the element at a place first
pub first-reordered : {A : Type 0} (k : ℕ) (xs : List A) (d : A) → k < length xs
    → IsReordered xs (get_or xs k d ∷ (take k xs ++ drop (suc k) xs))
first-reordered k xs d below = (take k xs, drop (suc k) xs, split-at k xs d below, own-order (take k xs ++ drop (suc k) xs))

-- a list in another order is as long
pub reordered-length : {A : Type 0} (xs ys : List A) → IsReordered xs ys → length xs ≡ length ys
reordered-length xs [] none = ap length none
reordered-length xs (y ∷ ys) (before, after, is, order) =
    omega (
      arith,
      ap length is,
      length-append before (y ∷ after),
      length-append before after,
      reordered-length (before ++ after) ys order,
    )

-- what is made of the elements stands in the same other order
pub reordered-map : {A B : Type 0} (f : A → B) (xs ys : List A) → IsReordered xs ys → IsReordered (map f xs) (map f ys)
reordered-map f xs [] none = ap (map f) none
reordered-map {A} {B} f xs (y ∷ ys) (before, after, is, order) = (
  map f before,
  map f after,
  ap (map f) is ∙ map-append f before (y ∷ after),
  subst (λ (zs : List B). IsReordered zs (map f ys)) (map-append f before after) (reordered-map f (before ++ after) ys order),
)

-- as many elements pass a test
pub reordered-count : {A : Type 0} (test : A → Bool) (xs ys : List A) → IsReordered xs ys → count_by test ys ≡ count_by test xs
reordered-count test xs [] none = ap (count_by test) (sym none)
reordered-count {A} test xs (y ∷ ys) (before, after, is, order) =
    let one : A → ℕ = λ x. cond (test x) 1 0 in
    omega (
      arith,
      ap (sum_by one) is,
      sum_by-append one before (y ∷ after),
      sum_by-append one before after,
      sum_by-cons one y after,
      sum_by-cons one y ys,
      reordered-count test (before ++ after) ys order,
    )
