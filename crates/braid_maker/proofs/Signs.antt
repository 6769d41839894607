-- The signs of a closed braid are those of its letters.
use Rattle.std.proofs.Common.{◌≡◌, ◌≢◌, ℕ, ◌+◌, ◌-◌, ◌*◌, ◌<◌, ◌∙◌, ℤ, List, [], ◌∷◌, length, get_or, sym, ap, arith, Bool, true, false, cond, if◌then◌else◌}
use Rattle.std.specs.Prelude.{nat_eq}
use Rattle.std.proofs.lemmas.Bool.Decides.{nat_tests}
use Rattle.std.proofs.lemmas.List.{length-map}
use Rattle.std.proofs.lemmas.List.FromFn.{get_or-map-range_with_len, length-map-range_with_len}
use Rattle.kh_types.specs.Code.{IsCrossing, arc_in}
use Rattle.kh_types.specs.Darts.{arc_of, dart_at}
use Rattle.kh_types.specs.Directions.{is_positive}
use Rattle.orient_arcs.proofs.Bridge.{sign-kept}
use Rattle.code_passes.specs.Parts.{Parts}
use Rattle.orient_arcs.specs.Renumbered.{renamed_crossing}
use Rattle.braid_maker.specs.Words.{arc_below, closed_crossings, crossing_of_letter, previous, touches}
use Rattle.braid_maker.specs.Braids.{left_of, lower_left_is_over}
use Rattle.braid_maker.specs.Closures.{arc_name, closure, closure_parts, named_parts, straight_count}
use Rattle.braid_maker.proofs.Accepted.{ArePaired-closure}
use Rattle.braid_maker.proofs.CircleJoins.{arc_at-slot}
use Rattle.braid_maker.proofs.Names.{AreAlike-named}

-- the arc above a crossing at one position is not that above the same crossing at the other
above-apart : (place prev : ℕ) (b : Bool) → (prev ≡ place → b ≡ true) → cond b (2 * prev + 1) (2 * prev + 2) ≢ 2 * place + 2
above-apart place prev true own same = omega (arith, same)
above-apart place prev false own same = by (own (omega (arith, same)))
  where
    by : false ≡ true → ⊥
    by e = grind (arith, e)

above-apart_left : (place prev : ℕ) (b : Bool) → (prev ≡ place → b ≡ false) → cond b (2 * prev + 1) (2 * prev + 2) ≢ 2 * place + 1
above-apart_left place prev false own same = omega (arith, same)
above-apart_left place prev true own same = by (own (omega (arith, same)))
  where
    by : true ≡ false → ⊥
    by e = grind (arith, e)

-- an over strand comes in on one arc and goes out on another
over-apart : (n : ℕ) (left : ℕ → ℕ) (is_over : ℕ → Bool) (place : ℕ)
    → arc_in (crossing_of_letter n left is_over place) 1 ≢ arc_in (crossing_of_letter n left is_over place) 3
over-apart n left is_over place =
    let before_left = previous n (touches left (left place)) 0 place in
    let before_right = previous n (touches left (left place + 1)) 0 place in
    by (is_over place) (arc_below n left (left place) place) (arc_below n left (left place + 1) place) (2 * place + 1) (2 * place + 2)
    (above-apart place before_left (nat_eq (left before_left) (left place)) (λ e. ap (λ k. nat_eq (left k) (left place)) e ∙ same (left place)))
    (above-apart_left place before_right (nat_eq (left before_right) (left place + 1))
    (λ e. ap (λ k. nat_eq (left k) (left place + 1)) e ∙ other (left place)))
  where
    same : (x : ℕ) → nat_eq x x ≡ true
    same x = grind (arith, nat_tests)

    other : (x : ℕ) → nat_eq x (x + 1) ≡ false
    other x = grind (arith, nat_tests)

    by : (b : Bool) (ll lr ul ur : ℕ) → ll ≢ ur → lr ≢ ul
        → arc_in (if b then lr ∷ ur ∷ ul ∷ ll ∷ [] else ll ∷ lr ∷ ur ∷ ul ∷ []) 1
        ≢ arc_in (if b then lr ∷ ur ∷ ul ∷ ll ∷ [] else ll ∷ lr ∷ ur ∷ ul ∷ []) 3
    by true ll lr ul ur first second = λ e. first (sym e)
    by false ll lr ul ur first second = second

-- so it does under the names of arcs
names-apart : (strands n : ℕ) (left : ℕ → ℕ) (is_over : ℕ → Bool) (loops place : ℕ) → place < n
    → arc_in (get_or (named_parts strands n left is_over loops).crossings place []) 1
    ≢ arc_in (get_or (named_parts strands n left is_over loops).crossings place []) 3
names-apart strands n left is_over loops place below same =
    let crossings = closed_crossings n left is_over in
    let others = (named_parts strands n left is_over loops).crossings in
    let size : length crossings ≡ n = length-map-range_with_len (crossing_of_letter n left is_over) 0 n in
    let own : get_or crossings place [] ≡ crossing_of_letter n left is_over place =
    get_or-map-range_with_len (crossing_of_letter n left is_over) 0 n place place [] below (omega arith) in
    let slot : (s : ℕ) → s < 4 → arc_of crossings (dart_at (4 * place + s)) ≡ arc_in (crossing_of_letter n left is_over place) s =
    λ s s_below. arc_at-slot crossings place s s_below ∙ ap (λ slots. arc_in slots s) own in
    over-apart n left is_over place
    (sym (slot 1 (omega arith))
    ∙ (AreAlike-named strands n left is_over loops).back (4 * place + 1) (4 * place + 3) (omega (arith, below, size)) (omega (arith, below, size))
    (arc_at-slot others place 1 (omega arith) ∙ same ∙ sym (arc_at-slot others place 3 (omega arith)))
    ∙ slot 3 (omega arith))

-- each crossing of a closure has the sign of its letter
pub sign-closure : (strands : ℕ) (letters : List ℤ) (crossing : ℕ) → IsCrossing (closure strands letters).crossings crossing
    → is_positive (closure strands letters).crossings crossing ≡ lower_left_is_over letters (crossing - 1)
sign-closure strands letters crossing is =
    let n = length letters in
    let over = lower_left_is_over letters in
    let parts : Parts = closure_parts strands letters in
    let place = crossing - 1 in
    let size : length parts.crossings ≡ n =
    length-map (closed_crossings n (left_of letters) over) (renamed_crossing (arc_name n (left_of letters) strands))
    ∙ length-map-range_with_len (crossing_of_letter n (left_of letters) over) 0 n in
    let new_size : length (closure strands letters).crossings ≡ length parts.crossings = length-map parts.crossings _ in
    let below : place < n = omega (arith, size, new_size, is.positive, is.within) in
    sign-kept parts (ArePaired-closure strands letters) crossing
    (record { positive = is.positive; within = omega (arith, new_size, is.within) })
    (names-apart strands n (left_of letters) over (straight_count strands letters) place below)
    ∙ get_or-map-range_with_len over 0 n place place false below (omega arith)
