-- Tests of all elements of lists, sums with one element taken out, and numbers of bits.
use Rattle.std.proofs.Common.{◌≡◌, ℕ, inl, inr, ◌+◌, ◌*◌, ◌∙◌, List, [], ◌∷◌, map, refl, sym, subst, ap, ap₂, arith, Bool, true, false, cond, not, ◌&&◌}
use Rattle.std.specs.Prelude.{nat_eq}
use Rattle.std.specs.List.{Contains, filter, list_all, sum_by}
use Rattle.std.proofs.lemmas.Bool.{and_from, and_parts, cases_eq, eq-eqb, eqb-true, ne_eqb, not-false}
use Rattle.std.proofs.lemmas.List.Sums.{sum_by-cons}
use Rattle.kh_types.specs.Edges.{is_other}
use Rattle.cell_laws.specs.Alike.{HasNoDoubles}
use Rattle.cell_laws.proofs.Members.{Contains-cases, Contains-first, Contains-later, sum_by-kept}
use Rattle.cell_laws.proofs.NoDoubles.{first-new, once-later}
use Rattle.square_laws.proofs.LabelNumbers.{number_from}
use Rattle.view_laws.specs.ViewLayers.{number_with}

pub all-from : {A : Type 0} (p : A → Bool) (xs : List A) → ((x : A) → Contains xs x → p x ≡ true) → list_all p xs ≡ true
all-from p [] each = refl
all-from p (x ∷ xs) each =
    and_from (p x) (list_all p xs) (each x (Contains-first x xs)) (all-from p xs (λ y has. each y (Contains-later x y xs has)))

pub all-at : {A : Type 0} (p : A → Bool) (xs : List A) (x : A) → list_all p xs ≡ true → Contains xs x → p x ≡ true
all-at p [] x all has = absurd (omega (arith, has.1))
all-at p (y ∷ ys) x all has =
    let parts = and_parts (p y) (list_all p ys) all in
    elim (Contains-cases y x ys has) [
      | inl here ↦ ap p (sym here) ∙ parts.0
      | inr later ↦ all-at p ys x parts.1 later
    ]

-- tests that agree on the elements
pub all-agree : {A : Type 0} (p q : A → Bool) (xs : List A) → ((x : A) → Contains xs x → p x ≡ q x) → list_all p xs ≡ list_all q xs
all-agree p q [] same = refl
all-agree p q (x ∷ xs) same =
    ap₂ (λ a b. a && b) (same x (Contains-first x xs)) (all-agree p q xs (λ y has. same y (Contains-later x y xs has)))

pub filter-agree : {A : Type 0} (p q : A → Bool) (xs : List A) → ((x : A) → Contains xs x → p x ≡ q x) → filter p xs ≡ filter q xs
filter-agree p q [] same = refl
filter-agree {A} p q (x ∷ xs) same =
    ap₂ (λ (b : Bool) (ys : List A). cond b (x ∷ ys) ys) (same x (Contains-first x xs))
    (filter-agree p q xs (λ y has. same y (Contains-later x y xs has)))

pub map-agree : {A B : Type 0} (f g : A → B) (xs : List A) → ((x : A) → Contains xs x → f x ≡ g x) → map f xs ≡ map g xs
map-agree f g [] same = refl
map-agree {A} {B} f g (x ∷ xs) same =
    ap₂ (λ (y : B) (ys : List B). y ∷ ys) (same x (Contains-first x xs)) (map-agree f g xs (λ y has. same y (Contains-later x y xs has)))

pub and-same : (a b c : Bool) → (a ≡ true → b ≡ c) → (a && b) ≡ (a && c)
and-same true b c same = same refl
and-same false b c same = refl

-- a sum, with one element taken out
pub sum-taken : (f : ℕ → ℕ) (xs : List ℕ) (z : ℕ) → HasNoDoubles xs → Contains xs z
    → sum_by f xs ≡ f z + sum_by f (filter (is_other z) xs)
sum-taken f [] z once has = absurd (omega (arith, has.1))
sum-taken f (x ∷ xs) z once has = elim (cases_eq x z) [
  | inl is ↦
      let same = subst (λ (y : ℕ). Contains xs y → ⊥) is (first-new x xs once) in
      sum_by-cons f x xs
      ∙ ap₂ (λ m n. m + n) (ap f is)
      (sym (sum_by-kept f (is_other z) xs
      (λ y y_has fails. absurd (same (subst (λ (w : ℕ). Contains xs w) (equal y fails) y_has)))))
      ∙ ap (λ b. f z + sum_by f (cond (not b) (x ∷ filter (is_other z) xs) (filter (is_other z) xs))) (sym (eq-eqb x z is))
  | inr other ↦
      let later : Contains xs z = elim (Contains-cases x z xs has) [
        | inl here ↦ absurd (other here)
        | inr rest ↦ rest
      ] in
      sum_by-cons f x xs
      ∙ ap (λ n. f x + n) (sum-taken f xs z (once-later x xs once) later)
      ∙ turned (f x) (f z) (sum_by f (filter (is_other z) xs))
      ∙ ap (λ n. f z + n) (sym (sum_by-cons f x (filter (is_other z) xs)))
      ∙ ap (λ b. f z + sum_by f (cond (not b) (x ∷ filter (is_other z) xs) (filter (is_other z) xs))) (sym (ne_eqb x z other))
]
  where
    turned : (a b c : ℕ) → a + (b + c) ≡ b + (a + c)
    turned a b c = omega arith

    equal : (y : ℕ) → is_other z y ≡ false → y ≡ z
    equal y fails = eqb-true y z (not-false (nat_eq y z) fails)

-- one number of bits under two names
pub number-same : (bs : List ℕ) → number_with bs ≡ number_from bs
number-same [] = refl
number-same (b ∷ bs) = ap (λ n. b + 2 * n) (number-same bs)

-- the empty list has no element
pub none-in : {A : Type 0} (x : A) → Contains [] x → ⊥
none-in x (k, below, is) = absurd (omega (arith, below))
