-- Relations between the elements of two lists at each place, and how often elements stand in lists.
-- What is made for a list, element by element, is related to it so: a loop adds at both ends (zip-push), and what is known of the one list
-- at a place, or of each element, then holds of the other (zip-at, zip-all, zip-back, zip-there). Counts by tests are compared in the same
-- way (zip-count).
use Rattle.std.proofs.Common.{◌≡◌, ℕ, inl, inr, zero, suc, ◌+◌, ◌<◌, ◌≤◌, ◌∙◌, List, [], ◌∷◌, ◌++◌, get_or, length, map, refl, sym, subst, ap, ap₂, arith, Bool, true, false, cond}
use Rattle.std.specs.Prelude.{All, nat_eq}
use Rattle.std.specs.List.{AllZip, Contains, count_by, filter}
use Rattle.std.proofs.lemmas.Bool.{cases_Bool, eq-eqb}
use Rattle.std.proofs.lemmas.List.Elements.{Contains-get_or}
use Rattle.std.proofs.lemmas.List.Sums.{sum_by-cons}
use Rattle.cell_laws.specs.Alike.{HasNoDoubles}
use Rattle.cell_laws.proofs.Members.{Contains-cases, Contains-first, Contains-later}
use Rattle.cell_laws.proofs.NoDoubles.{first-new, once-first, once-later}
use Rattle.cell_laws.proofs.Places.{IsTest}

pub zip-append : {A B : Type 0} (R : A → B → Type 0) (xs more : List A) (ys others : List B) → AllZip R xs ys → AllZip R more others
    → AllZip R (xs ++ more) (ys ++ others)
zip-append R [] more [] others first second = second
zip-append R [] more (y ∷ ys) others first second = absurd first
zip-append R (x ∷ xs) more [] others first second = absurd first
zip-append R (x ∷ xs) more (y ∷ ys) others first second = (first.0, zip-append R xs more ys others first.1 second)

pub zip-push : {A B : Type 0} (R : A → B → Type 0) (xs : List A) (x : A) (ys : List B) (y : B) → AllZip R xs ys → R x y
    → AllZip R (xs ++ x ∷ []) (ys ++ y ∷ [])
zip-push R xs x ys y all one = zip-append R xs (x ∷ []) ys (y ∷ []) all (one, tt)

pub zip-length : {A B : Type 0} (R : A → B → Type 0) (xs : List A) (ys : List B) → AllZip R xs ys → length ys ≡ length xs
zip-length R [] [] all = refl
zip-length R [] (y ∷ ys) all = absurd all
zip-length R (x ∷ xs) [] all = absurd all
zip-length R (x ∷ xs) (y ∷ ys) all = ap suc (zip-length R xs ys all.1)

pub zip-at : {A B : Type 0} (R : A → B → Type 0) (xs : List A) (ys : List B) (k : ℕ) (d : A) (e : B) → AllZip R xs ys → k < length xs
    → R (get_or xs k d) (get_or ys k e)
zip-at R [] ys k d e all within = absurd (omega (arith, within))
zip-at R (x ∷ xs) [] k d e all within = absurd all
zip-at R (x ∷ xs) (y ∷ ys) zero d e all within = all.0
zip-at R (x ∷ xs) (y ∷ ys) (suc k) d e all within = zip-at R xs ys k d e all.1 (omega (arith, within))

pub zip-equal : {A B C : Type 0} (R : A → B → Type 0) (f : A → C) (g : B → C) → ((x : A) (y : B) → R x y → g y ≡ f x)
    → (xs : List A) (ys : List B) → AllZip R xs ys → map g ys ≡ map f xs
zip-equal R f g same [] [] all = refl
zip-equal R f g same [] (y ∷ ys) all = absurd all
zip-equal R f g same (x ∷ xs) [] all = absurd all
zip-equal R f g same (x ∷ xs) (y ∷ ys) all = ap₂ (λ z zs. z ∷ zs) (same x y all.0) (zip-equal R f g same xs ys all.1)

pub zip-back : {A B : Type 0} (R : A → B → Type 0) (xs : List A) (ys : List B) (y : B) → AllZip R xs ys → Contains ys y
    → (x : A) × Contains xs x × R x y
zip-back R [] [] y all has = absurd (omega (arith, has.1))
zip-back R [] (z ∷ ys) y all has = absurd all
zip-back R (x ∷ xs) [] y all has = absurd all
zip-back R (x ∷ xs) (z ∷ ys) y all has = elim (Contains-cases z y ys has) [
  | inl here ↦ (x, Contains-first x xs, subst (λ w. R x w) here all.0)
  | inr later ↦
      let found = zip-back R xs ys y all.1 later in
      (found.0, Contains-later x found.0 xs found.1, found.2)
]

pub zip-there : {A B : Type 0} (R : A → B → Type 0) (xs : List A) (ys : List B) (x : A) → AllZip R xs ys → Contains xs x
    → (y : B) × Contains ys y × R x y
zip-there R [] ys x all has = absurd (omega (arith, has.1))
zip-there R (z ∷ xs) [] x all has = absurd all
zip-there R (z ∷ xs) (y ∷ ys) x all has = elim (Contains-cases z x xs has) [
  | inl here ↦ (y, Contains-first y ys, subst (λ w. R w y) here all.0)
  | inr later ↦
      let found = zip-there R xs ys x all.1 later in
      (found.0, Contains-later y found.0 ys found.1, found.2)
]

pub zip-all : {A B : Type 0} (R : A → B → Type 0) (P : B → Type 0) (xs : List A) (ys : List B)
    → ((x : A) (y : B) → Contains xs x → R x y → P y) → AllZip R xs ys → All P ys
zip-all R P xs ys each all = λ k d within.
    let found = zip-back R xs ys (get_or ys k d) all (Contains-get_or ys k d within) in
    each found.0 (get_or ys k d) found.1 found.2

pub zip-made : {A B C : Type 0} (R : A → B → Type 0) (f : C → A) (g : C → B) (zs : List C)
    → ((z : C) → Contains zs z → R (f z) (g z)) → AllZip R (map f zs) (map g zs)
zip-made R f g [] each = tt
zip-made R f g (z ∷ zs) each = (each z (Contains-first z zs), zip-made R f g zs (λ w has. each w (Contains-later z w zs has)))

pub zip-map : {A B C : Type 0} (R : A → C → Type 0) (f : B → C) (xs : List A) (ys : List B) → AllZip (λ x y. R x (f y)) xs ys
    → AllZip R xs (map f ys)
zip-map R f [] [] all = tt
zip-map R f [] (y ∷ ys) all = absurd all
zip-map R f (x ∷ xs) [] all = absurd all
zip-map R f (x ∷ xs) (y ∷ ys) all = (all.0, zip-map R f xs ys all.1)

-- what passes a test on one side passes another on the other side
one-less : (b c : Bool) (m n : ℕ) → (c ≡ true → b ≡ true) → m ≤ n → cond c 1 0 + m ≤ cond b 1 0 + n
one-less b true m n passes less = omega (arith, less, ap {B = ℕ} (λ d. cond d 1 0) (passes refl))
one-less true false m n passes less = omega (arith, less)
one-less false false m n passes less = omega (arith, less)

pub zip-count : {A B : Type 0} (R : A → B → Type 0) (p : A → Bool) (q : B → Bool) → ((x : A) (y : B) → R x y → q y ≡ true → p x ≡ true)
    → (xs : List A) (ys : List B) → AllZip R xs ys → count_by q ys ≤ count_by p xs
zip-count R p q passes [] [] all = omega arith
zip-count R p q passes [] (y ∷ ys) all = absurd all
zip-count R p q passes (x ∷ xs) [] all = absurd all
zip-count R p q passes (x ∷ xs) (y ∷ ys) all =
    omega (
      arith,
      sum_by-cons (λ z. cond (p z) 1 0) x xs,
      sum_by-cons (λ z. cond (q z) 1 0) y ys,
      one-less (p x) (q y) (count_by q ys) (count_by p xs) (passes x y all.0) (zip-count R p q passes xs ys all.1),
    )

-- counts

kept-less : {A : Type 0} (q : A → Bool) (x : A) (b : Bool) (kept : List A) (n : ℕ) → count_by q kept ≤ n
    → count_by q (cond b (x ∷ kept) kept) ≤ cond (q x) 1 0 + n
kept-less q x true kept n less = omega (arith, sum_by-cons (λ z. cond (q z) 1 0) x kept, less)
kept-less q x false kept n less = omega (arith, less)

pub count-filter : {A : Type 0} (q p : A → Bool) (xs : List A) → count_by q (filter p xs) ≤ count_by q xs
count-filter q p [] = omega arith
count-filter q p (x ∷ xs) =
    omega (
      arith,
      sum_by-cons (λ z. cond (q z) 1 0) x xs,
      kept-less q x (p x) (filter p xs) (count_by q xs) (count-filter q p xs),
    )

count-none : {A : Type 0} (same : A → A → Bool) (z : A) (xs : List A) → IsTest same → (Contains xs z → ⊥)
    → count_by (same z) xs ≡ 0
count-none same z [] test none = refl
count-none same z (x ∷ xs) test none = elim (cases_Bool (same z x)) [
  | inl passes ↦ absurd (none (subst (λ w. Contains (x ∷ xs) w) (sym (test.one z x passes)) (Contains-first x xs)))
  | inr fails ↦
      omega (
        arith,
        sum_by-cons (λ w. cond (same z w) 1 0) x xs,
        ap {B = ℕ} (λ b. cond b 1 0) fails,
        count-none same z xs test (λ has. none (Contains-later x z xs has)),
      )
]

pub once-count : {A : Type 0} (same : A → A → Bool) (z : A) (xs : List A) → IsTest same → HasNoDoubles xs → count_by (same z) xs ≤ 1
once-count same z [] test once = omega arith
once-count same z (x ∷ xs) test once = elim (cases_Bool (same z x)) [
  | inl passes ↦
      omega (
        arith,
        sum_by-cons (λ w. cond (same z w) 1 0) x xs,
        ap {B = ℕ} (λ b. cond b 1 0) passes,
        count-none same z xs test
            (subst (λ w. Contains xs w → ⊥) (sym (test.one z x passes)) (first-new x xs once)),
      )
  | inr fails ↦
      omega (
        arith,
        sum_by-cons (λ w. cond (same z w) 1 0) x xs,
        ap {B = ℕ} (λ b. cond b 1 0) fails,
        once-count same z xs test (once-later x xs once),
      )
]

pub counted-by : {A : Type 0} (p : A → Bool) (x : A) (xs : List A) → p x ≡ true → Contains xs x → 1 ≤ count_by p xs
counted-by p x [] passes has = absurd (omega (arith, has.1))
counted-by p x (y ∷ xs) passes has = elim (Contains-cases y x xs has) [
  | inl here ↦
      omega (arith, sum_by-cons (λ z. cond (p z) 1 0) y xs, ap {B = ℕ} (λ b. cond b 1 0) (ap p here ∙ passes))
  | inr later ↦ omega (arith, sum_by-cons (λ z. cond (p z) 1 0) y xs, counted-by p x xs passes later)
]

counted : (x : ℕ) (xs : List ℕ) → Contains xs x → 1 ≤ count_by (λ y. nat_eq y x) xs
counted x [] has = absurd (omega (arith, has.1))
counted x (y ∷ xs) has = elim (Contains-cases y x xs has) [
  | inl here ↦ omega (arith, sum_by-cons (λ z. cond (nat_eq z x) 1 0) y xs, ap {B = ℕ} (λ b. cond b 1 0) (eq-eqb y x here))
  | inr later ↦ omega (arith, sum_by-cons (λ z. cond (nat_eq z x) 1 0) y xs, counted x xs later)
]

pub counts-once : (xs : List ℕ) → ((x : ℕ) → count_by (λ y. nat_eq y x) xs ≤ 1) → HasNoDoubles xs
counts-once [] few = λ k l d less within. absurd (omega (arith, within))
counts-once (x ∷ xs) few =
    once-first x xs
    (λ has. absurd (omega (
      arith,
      few x,
      sum_by-cons (λ z. cond (nat_eq z x) 1 0) x xs,
      ap {B = ℕ} (λ b. cond b 1 0) (eq-eqb x x refl),
      counted x xs has,
    )))
    (counts-once xs (λ y. omega (arith, few y, sum_by-cons (λ z. cond (nat_eq z y) 1 0) x xs)))
