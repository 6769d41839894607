-- Walks along a direction, from a name until it comes back to that name.
use Rattle.std.proofs.Common.{◌≡◌, ℕ, zero, suc, ◌⊎◌, inl, inr, ◌+◌, ◌≤◌, List, [], ◌∷◌, length, refl, sym, arith, Bool, true, false}
use Rattle.std.specs.Prelude.{nat_eq, if◌then◌else◌}
use Rattle.std.proofs.lemmas.Bool.{eqb-true, both_ways, eq-eqb}
use Rattle.orient_arcs.specs.Renumbered.{walk}
use Rattle.orient_arcs.proofs.Members.{IsIn, IsIn-same, AreDistinct, length-among}

-- each name has a next, and no two have the same
pub record AreNext (next : ℕ → ℕ) (heads : List ℕ) : Type 0 where
  pub closed : (x : ℕ) → IsIn x heads → IsIn (next x) heads
  pub once : (x y : ℕ) → IsIn x heads → IsIn y heads → next x ≡ next y → x ≡ y

-- each name of a list is the next of the one before, the first one is a given name, and a last name is the next of the last of them,
-- or the given name where there is none
abbrev pub AreLed : (ℕ → ℕ) → ℕ → ℕ → List ℕ → Type 0
AreLed next last from [] = from ≡ last
AreLed next last from (x ∷ xs) = (x ≡ from) × AreLed next last (next x) xs

-- each name of a list but the first is the next of one of the others
abbrev pub AreFed : (ℕ → ℕ) → ℕ → ℕ → List ℕ → Type 0
AreFed next first x seen = (y : ℕ) → IsIn y (x ∷ seen) → (y ≡ first) ⊎ ((z : ℕ) × IsIn z seen × (next z ≡ y))

-- what a walk is, that goes on from a name, after others
pub record IsWalk (next : ℕ → ℕ) (heads seen : List ℕ) (first x : ℕ) (names : List ℕ) : Type 0 where
  pub led : AreLed next first x names
  pub named : (y : ℕ) → IsIn y names → IsIn y heads
  pub fresh : (y : ℕ) → IsIn y names → IsIn y seen → ⊥
  pub distinct : AreDistinct names

module _ (next : ℕ → ℕ) (heads : List ℕ) (are : AreNext next heads) (first : ℕ) where
  -- one step more
  walk-step : (fuel x : ℕ) (seen : List ℕ) → IsIn x heads → (IsIn x seen → ⊥)
      → ((y : ℕ) → IsIn y seen → IsIn y heads) → AreDistinct seen → AreFed next first x seen
      → (IsIn (next x) heads → (IsIn (next x) (x ∷ seen) → ⊥) → ((y : ℕ) → IsIn y (x ∷ seen) → IsIn y heads)
      → AreDistinct (x ∷ seen) → AreFed next first (next x) (x ∷ seen)
      → IsWalk next heads (x ∷ seen) first (next x) (walk next first fuel (next x)))
      → (b : Bool) → nat_eq (next x) first ≡ b
      → IsWalk next heads seen first x (x ∷ (if b then [] else walk next first fuel (next x)))
  walk-step fuel x seen is out among distinct fed goes_on true holds = record {
    led = (refl, eqb-true (next x) first holds);
    named = λ y y_in. elim y_in [ inl same ↦ IsIn-same y x heads (sym same) is | inr later ↦ absurd later ];
    fresh = λ y y_in seen_in. elim y_in [ inl same ↦ out (IsIn-same x y seen same seen_in) | inr later ↦ later ];
    distinct = (λ none. none, tt);
  }
  walk-step fuel x seen is out among distinct fed goes_on false fails =
      let more : (y : ℕ) → IsIn y (x ∷ seen) → IsIn y heads =
      λ y y_in. elim y_in [ inl same ↦ IsIn-same y x heads (sym same) is | inr later ↦ among y later ] in
      let new : IsIn (next x) (x ∷ seen) → ⊥ =
      λ old. elim (fed (next x) old) [
        | inl is_first ↦ both_ways (nat_eq (next x) first) fails (eq-eqb (next x) first is_first)
        | inr by_other ↦
            out (IsIn-same x by_other.0 seen (are.once by_other.0 x (among by_other.0 by_other.1) is by_other.2) by_other.1)
      ] in
      let rest = goes_on (are.closed x is) new more (out, distinct)
      (λ y y_in. elim y_in [
        | inl same ↦ inr (x, inl refl, sym same)
        | inr later ↦ elim (fed y later) [
          | inl is_first ↦ inl is_first
          | inr by_other ↦ inr (by_other.0, inr by_other.1, by_other.2)
        ]
      ]) in
      record {
        led = (refl, rest.led);
        named = λ y y_in. elim y_in [ inl same ↦ IsIn-same y x heads (sym same) is | inr later ↦ rest.named y later ];
        fresh = λ y y_in seen_in. elim y_in [
          | inl same ↦ out (IsIn-same x y seen same seen_in)
          | inr later ↦ rest.fresh y later (inr seen_in)
        ];
        distinct = (λ x_in. rest.fresh x x_in (inl refl), rest.distinct);
      }

  pub IsWalk-walk : (fuel x : ℕ) (seen : List ℕ) → length heads ≤ fuel + length seen → IsIn x heads → (IsIn x seen → ⊥)
      → ((y : ℕ) → IsIn y seen → IsIn y heads) → AreDistinct seen → AreFed next first x seen
      → IsWalk next heads seen first x (walk next first fuel x)
  IsWalk-walk zero x seen enough is out among distinct fed =
      let few = length-among (x ∷ seen) heads (out, distinct)
      (λ y y_in. elim y_in [ inl same ↦ IsIn-same y x heads (sym same) is | inr later ↦ among y later ]) in
      absurd (omega (arith, enough, few))
  IsWalk-walk (suc fuel) x seen enough is out among distinct fed =
      walk-step fuel x seen is out among distinct fed
      (λ next_is new more more_distinct next_fed.
      IsWalk-walk fuel (next x) (x ∷ seen) (omega (arith, enough)) next_is new more more_distinct next_fed)
      (nat_eq (next x) first) refl
