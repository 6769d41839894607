-- The last item of a list.
use Rattle.std.proofs.Common.{◌≡◌, ℕ, zero, suc, ◌+◌, List, [], ◌∷◌, length, get_or, refl, arith}
use Rattle.std.specs.Prelude.{Option, Some}
use Rattle.std.specs.List.{last_or}

-- it stands one before the end
pub last-at : {X : Type 0} (first : Option X) (items : List X) (n : ℕ) (d : X) → n + 1 ≡ length items
    → last_or first items ≡ Some (get_or items n d)
last-at first [] n d end = absurd (omega (arith, end))
last-at first (x ∷ []) zero d end = refl
last-at first (x ∷ y ∷ items) zero d end = absurd (omega (arith, end))
last-at first (x ∷ items) (suc n) d end = last-at (Some x) items n d (omega (arith, end))
