-- What closes where one arc does, at one state of the inner crossings.
use Rattle.std.proofs.Common.{◌≡◌, ◌≢◌, ℕ, zero, suc, ◌≤◌, [], ◌∷◌, length, refl, sym, ap, subst, arith, Bool, true, false, cond}
use Rattle.std.specs.Prelude.{nat_eq, if◌then◌else◌}
use Rattle.std.specs.List.{Contains}
use Rattle.std.proofs.lemmas.Bool.{eq-eqb, eqb-true, ne_eqb}
use Rattle.view_laws.specs.Fronts.{closed_one}

pub closed-is : (side closed inside z : ℕ) → Contains (closed_one side closed inside) z → (inside ≡ closed) × (z ≡ side)
closed-is side closed inside z has = by (nat_eq inside closed) refl has
  where
    by : (b : Bool) → nat_eq inside closed ≡ b → Contains (cond b (side ∷ []) []) z → (inside ≡ closed) × (z ≡ side)
    by true test (zero, below, is) = (eqb-true inside closed test, sym is)
    by true test (suc k, below, is) = absurd (omega (arith, below))
    by false test (k, below, is) = absurd (omega (arith, below))

pub closed-there : (side closed inside : ℕ) → inside ≡ closed → Contains (closed_one side closed inside) side
closed-there side closed inside is =
    subst (λ (b : Bool). Contains (cond b (side ∷ []) []) side) (sym (eq-eqb inside closed is)) (0, omega arith, refl)

pub closed-few : (side closed inside : ℕ) → length (closed_one side closed inside) ≤ 1
closed-few side closed inside = by (nat_eq inside closed)
  where
    by : (b : Bool) → length (cond b (side ∷ []) []) ≤ 1
    by true = omega arith
    by false = omega arith

pub closes-there : (side closing : ℕ) → closed_one side closing closing ≡ side ∷ []
closes-there side closing = ap (λ (b : Bool). if b then side ∷ [] else []) (eq-eqb closing closing refl)

pub closes-elsewhere : (side closing t : ℕ) → t ≢ closing → closed_one side closing t ≡ []
closes-elsewhere side closing t differ = ap (λ (b : Bool). if b then side ∷ [] else []) (ne_eqb t closing differ)
