-- Searches among the four slots of a crossing.
use Rattle.std.proofs.lemmas.Bool.Decides.{nat_tests}
use Rattle.std.proofs.Common.{◌≡◌, ℕ, ◌∙◌, List, arith, refl, ap, ap₂, Bool, not}
use Rattle.std.specs.Prelude.{nat_eq, ◌&&◌, ◌||◌, if◌then◌else◌, Some, None}
use Rattle.std.specs.List.{find, list_any, range_with_len}
use Rattle.slide_laws.specs.Triangles.{dart_at_slot, is_at_crossing, is_triangle, step}

pub list_any_four : (p : ℕ → Bool) → list_any p (range_with_len 0 4) ≡ (p 0 || (p 1 || (p 2 || p 3)))
list_any_four p = grind (arith, nat_tests)

pub find_four : (p : ℕ → Bool)
    → find p (range_with_len 0 4)
    ≡ (if p 0 then Some 0 else if p 1 then Some 1 else if p 2 then Some 2 else if p 3 then Some 3 else None)
find_four p = refl

-- the test of a triangle by its three darts and the one that follows the last
pub triangle_is : (crossings : List (List ℕ)) (first second third slot x y z back : ℕ) (apart at : Bool)
    → x ≡ dart_at_slot first slot → y ≡ step crossings x → z ≡ step crossings y → back ≡ step crossings z
    → apart ≡ (not (nat_eq first second) && (not (nat_eq first third) && not (nat_eq second third)))
    → at ≡ ((is_at_crossing y second && is_at_crossing z third) || (is_at_crossing y third && is_at_crossing z second))
    → (apart && (nat_eq back x && at)) ≡ is_triangle crossings first second third slot
triangle_is crossings first second third slot x y z back apart at x_is y_is z_is back_is apart_is at_is =
    let y_at = y_is ∙ ap (step crossings) x_is in
    let z_at = z_is ∙ ap (step crossings) y_at in
    let back_at = back_is ∙ ap (step crossings) z_at in
    let corners = at_is ∙ ap₂ (λ (u v : ℕ). (is_at_crossing u second && is_at_crossing v third) || (is_at_crossing u third && is_at_crossing v second)) y_at z_at in
    ap₂ (λ (a b : Bool). a && b) apart_is
    (ap₂ (λ (a b : Bool). a && b) (ap₂ (λ (u v : ℕ). nat_eq u v) back_at x_is) corners)
