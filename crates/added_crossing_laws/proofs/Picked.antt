-- The value at the first of some numbers that has a key.
use Rattle.std.proofs.Common.{◌≡◌, ℕ, inl, inr, ◌+◌, ◌∙◌, List, [], ◌∷◌, refl, sym, ap, arith, false, cond}
use Rattle.std.specs.Prelude.{nat_eq}
use Rattle.std.specs.List.{list_any, Contains}
use Rattle.std.proofs.lemmas.Bool.{cases_Bool, both_ways, or_parts, eq-eqb, eqb-true}
use Rattle.kh_types.proofs.Lists.{Contains-later, Contains-cases}

abbrev pub pick : (ℕ → ℕ) → (ℕ → ℕ) → ℕ → List ℕ → ℕ → ℕ
pick key value none [] k = none + k
pick key value none (x ∷ xs) k = cond (nat_eq (key x) k) (value x) (pick key value none xs k)

-- elements with one key have one value
abbrev pub HaveOneValue : (ℕ → ℕ) → (ℕ → ℕ) → List ℕ → Type 0
HaveOneValue key value xs = (x y : ℕ) → Contains xs x → Contains xs y → key x ≡ key y → value x ≡ value y

pub pick-has : (key value : ℕ → ℕ) (none : ℕ) (xs : List ℕ) (k x : ℕ) → HaveOneValue key value xs → Contains xs x → key x ≡ k
    → pick key value none xs k ≡ value x
pick-has key value none [] k x alike (i, below, is) is_key = absurd (omega (arith, below))
pick-has key value none (y ∷ ys) k x alike has is_key = elim (cases_Bool (nat_eq (key y) k)) [
  | inl same ↦
      ap (λ b. cond b (value y) (pick key value none ys k)) same
      ∙ alike y x (0, omega arith, refl) has (eqb-true (key y) k same ∙ sym is_key)
  | inr other ↦
      ap (λ b. cond b (value y) (pick key value none ys k)) other
      ∙ (elim (Contains-cases y x ys has) [
        | inl is ↦ absurd (both_ways (nat_eq (key y) k) other (eq-eqb (key y) k (ap key is ∙ is_key)))
        | inr later ↦
            pick-has key value none ys k x
            (λ a b a_has b_has. alike a b (Contains-later y a ys a_has) (Contains-later y b ys b_has)) later is_key
      ])
]

pub pick-none : (key value : ℕ → ℕ) (none : ℕ) (xs : List ℕ) (k : ℕ) → list_any (λ x. nat_eq (key x) k) xs ≡ false
    → pick key value none xs k ≡ none + k
pick-none key value none [] k fails = refl
pick-none key value none (y ∷ ys) k fails =
    let parts = or_parts (nat_eq (key y) k) (list_any (λ x. nat_eq (key x) k) ys) fails in
    ap (λ b. cond b (value y) (pick key value none ys k)) parts.0 ∙ pick-none key value none ys k parts.1
