-- The place of an element in a list, by a test of equality.
use Rattle.std.proofs.Common.{◌≡◌, ℕ, suc, inl, inr, ◌+◌, ◌<◌, ◌∙◌, List, [], ◌∷◌, get_or, length, refl, sym, ap, arith, Bool, true, cond, not}
use Rattle.std.specs.Prelude.{nat_eq}
use Rattle.std.specs.List.{Contains, position_or_len}
use Rattle.std.proofs.lemmas.Bool.{both_ways, cases_Bool, eq-eqb, eqb-true}
use Rattle.std.proofs.lemmas.List.{get_or_default}
use Rattle.cell_laws.specs.Alike.{HasNoDoubles}
use Rattle.cell_laws.proofs.Matched.{place-once}
use Rattle.cell_laws.proofs.Members.{Contains-cases}

-- a test tells whether two elements are one
pub record IsTest {A : Type 0} (same : A → A → Bool) : Type 0 where
  pub one : (x y : A) → same x y ≡ true → x ≡ y
  pub self : (x : A) → same x x ≡ true

pub record IsPlace {A : Type 0} (same : A → A → Bool) (d z : A) (xs : List A) : Type 0 where
  pub within : position_or_len (same z) xs < length xs
  pub there : get_or xs (position_or_len (same z) xs) d ≡ z

pub place-found : {A : Type 0} (same : A → A → Bool) (d z : A) (xs : List A) → IsTest same → Contains xs z → IsPlace same d z xs
place-found same d z [] test has = absurd (omega (arith, has.1))
place-found {A} same d z (x ∷ xs) test has = elim (cases_Bool (same z x)) [
  | inl passes ↦
      let here : position_or_len (same z) (x ∷ xs) ≡ 0 = ap (λ b. cond (not b) (1 + position_or_len (same z) xs) 0) passes in
      record { within = omega (arith, here); there = ap (λ k. get_or (x ∷ xs) k d) here ∙ sym (test.one z x passes) }
  | inr fails ↦
      let later : position_or_len (same z) (x ∷ xs) ≡ suc (position_or_len (same z) xs) =
      ap (λ b. cond (not b) (1 + position_or_len (same z) xs) 0) fails ∙ one_more (position_or_len (same z) xs) in
      elim (Contains-cases x z xs has) [
        | inl here ↦ absurd (both_ways (same z x) fails (ap (same z) here ∙ test.self z))
        | inr rest ↦
            let found = place-found same d z xs test rest in
            record { within = omega (arith, later, found.within); there = ap (λ k. get_or (x ∷ xs) k d) later ∙ found.there }
      ]
]
  where
    one_more : (n : ℕ) → 1 + n ≡ suc n
    one_more n = omega arith

pub place-at : {A : Type 0} (same : A → A → Bool) (d : A) (xs : List A) (i : ℕ) → IsTest same → HasNoDoubles xs → i < length xs
    → position_or_len (same (get_or xs i d)) xs ≡ i
place-at same d xs i test once below =
    let found = place-found same d (get_or xs i d) xs test (i, below, get_or_default xs i (get_or xs i d) d below) in
    place-once xs (position_or_len (same (get_or xs i d)) xs) i d once found.within below found.there

pub numbers-test : IsTest nat_eq
numbers-test = record { one = λ x y passes. eqb-true x y passes; self = λ x. eq-eqb x x refl }
