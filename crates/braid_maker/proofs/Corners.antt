-- The four corners of a crossing of a braid, counterclockwise from the lower left, and the darts at them.
use Rattle.std.proofs.Common.{◌≡◌, ℕ, zero, suc, ◌+◌, ◌-◌, ◌*◌, ◌/◌, ◌%◌, ◌<◌, ◌∙◌, [], ◌∷◌, length, refl, ap, arith, Bool, true, false, cond}
use Rattle.std.specs.Prelude.{nat_eq, slice_index, slice_index_or, if◌then◌else◌}
use Rattle.std.proofs.lemmas.List.FromFn.{get_or-map-range_with_len, length-map-range_with_len}
use Rattle.kh_types.specs.Darts.{arc_of, dart_at}
use Rattle.braid_maker.specs.Words.{arc_below, crossing_of_letter, closed_crossings}

-- the arc at a corner: 0 is the lower left, 1 the lower right, 2 the upper right, 3 the upper left
abbrev pub corner_arc : ℕ → (ℕ → ℕ) → ℕ → ℕ → ℕ
corner_arc n left place corner =
    cond (nat_eq corner 0) (arc_below n left (left place) place)
    (cond (nat_eq corner 1) (arc_below n left (left place + 1) place)
    (cond (nat_eq corner 2) (2 * place + 2) (2 * place + 1)))

-- the place of the dart at a corner, and the corner of a dart
abbrev pub corner_place : (ℕ → Bool) → ℕ → ℕ → ℕ
corner_place is_over place corner = 4 * place + (corner + cond (is_over place) 3 0) % 4

abbrev pub corner_of : (ℕ → Bool) → ℕ → ℕ
corner_of is_over dart = (dart % 4 + cond (is_over (dart / 4)) 1 0) % 4

back : (b : Bool) (dart : ℕ) → 4 * (dart / 4) + ((dart % 4 + cond b 1 0) % 4 + cond b 3 0) % 4 ≡ dart
back true dart = omega arith
back false dart = omega arith

pub corner_place-of : (is_over : ℕ → Bool) (dart : ℕ) → corner_place is_over (dart / 4) (corner_of is_over dart) ≡ dart
corner_place-of is_over dart = back (is_over (dart / 4)) dart

pub corner_place-crossing : (is_over : ℕ → Bool) (place corner : ℕ) → corner_place is_over place corner / 4 ≡ place
corner_place-crossing is_over place corner = omega arith

forth : (b : Bool) (place corner : ℕ) → corner < 4
    → ((4 * place + (corner + cond b 3 0) % 4) % 4 + cond b 1 0) % 4 ≡ corner
forth true place corner below = omega (arith, below)
forth false place corner below = omega (arith, below)

pub corner_of-place : (is_over : ℕ → Bool) (place corner : ℕ) → corner < 4
    → corner_of is_over (corner_place is_over place corner) ≡ corner
corner_of-place is_over place corner below =
    ap (λ k. (corner_place is_over place corner % 4 + cond (is_over k) 1 0) % 4) (corner_place-crossing is_over place corner)
    ∙ forth (is_over place) place corner below

pub length-crossings : (n : ℕ) (left : ℕ → ℕ) (is_over : ℕ → Bool) → length (closed_crossings n left is_over) ≡ n
length-crossings n left is_over = length-map-range_with_len (crossing_of_letter n left is_over) 0 n

pick : (b : Bool) (lower_left lower_right upper_left upper_right corner : ℕ) → corner < 4
    → slice_index (if b then lower_right ∷ upper_right ∷ upper_left ∷ lower_left ∷ []
    else lower_left ∷ lower_right ∷ upper_right ∷ upper_left ∷ []) ((corner + cond b 3 0) % 4)
    ≡ cond (nat_eq corner 0) lower_left (cond (nat_eq corner 1) lower_right (cond (nat_eq corner 2) upper_right upper_left))
pick true ll lr ul ur zero below = refl
pick true ll lr ul ur (suc zero) below = refl
pick true ll lr ul ur (suc (suc zero)) below = refl
pick true ll lr ul ur (suc (suc (suc zero))) below = refl
pick true ll lr ul ur (suc (suc (suc (suc c)))) below = absurd (omega (arith, below))
pick false ll lr ul ur zero below = refl
pick false ll lr ul ur (suc zero) below = refl
pick false ll lr ul ur (suc (suc zero)) below = refl
pick false ll lr ul ur (suc (suc (suc zero))) below = refl
pick false ll lr ul ur (suc (suc (suc (suc c)))) below = absurd (omega (arith, below))

pub arc-corner : (n : ℕ) (left : ℕ → ℕ) (is_over : ℕ → Bool) (place corner : ℕ) → place < n → corner < 4
    → arc_of (closed_crossings n left is_over) (dart_at (corner_place is_over place corner)) ≡ corner_arc n left place corner
arc-corner n left is_over place corner below small =
    let dart = corner_place is_over place corner in
    let at : dart / 4 + 1 - 1 ≡ place = omega arith in
    let slot : dart % 4 ≡ (corner + cond (is_over place) 3 0) % 4 = omega arith in
    ap (λ k. slice_index (slice_index_or (closed_crossings n left is_over) k []) (dart % 4)) at
    ∙ ap (λ xs. slice_index xs (dart % 4)) (get_or-map-range_with_len (crossing_of_letter n left is_over) 0 n place place [] below (omega arith))
    ∙ ap (λ s. slice_index (crossing_of_letter n left is_over place) s) slot
    ∙ pick (is_over place) (arc_below n left (left place) place) (arc_below n left (left place + 1) place) (2 * place + 1)
    (2 * place + 2) corner small
