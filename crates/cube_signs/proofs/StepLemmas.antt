-- The steps of the loops over the edges out of states.
use Rattle.std.proofs.lemmas.Bool.Decides.{nat_tests}
use Rattle.std.proofs.Common.{◌≡◌, ℕ, ◌+◌, ◌^◌, ◌<◌, ◌∙◌, List, [], ◌∷◌, ◌++◌, length, get_or, subst, sym, ap, arith, Option}
use Rattle.std.specs.Prelude.{slice_index_or}
use Rattle.std.proofs.lemmas.Bool.{cases_lt}
use Rattle.std.proofs.lemmas.List.{get_or-map, get_or_append_left, get_or_push, length-map}
use Rattle.arrayvec.specs.ArrayVec.{ArrayVec}
use Rattle.kh_types.specs.Bits.{bit}
use Rattle.kh_types.specs.Code.{Code, IsCrossing, place_of}
use Rattle.kh_types.specs.Edges.{state_behind}
use Rattle.circle_smoothing.specs.declared.change.Edge.{Edge}
use Rattle.cube_signs.specs.Columns.{AreSmall}
use Rattle.cube_signs.specs.Steps.{steps_in, HasSteps, HaveSteps}

-- what holds of each element, and of one more
pub each-more : {X : Type 0} (P : ℕ → X → Type 0) (xs : List X) (x d : X) (count : ℕ) → length xs ≡ count
    → ((k : ℕ) → k < count → P k (get_or xs k d)) → P count x → (k : ℕ) → k < count + 1 → P k (get_or (xs ++ x ∷ []) k d)
each-more P xs x d count size holds more k below = grind (arith, nat_tests, cases_lt, get_or_append_left, get_or_push)

-- the state behind an edge, by the place of its crossing
pub state_behind-place : (state place : ℕ) → state_behind state (place + 1) ≡ state + 2 ^ place
state_behind-place state place = grind (arith, nat_tests)

pub IsCrossing-place : (crossings : List (List ℕ)) (place : ℕ) → place < length crossings → IsCrossing crossings (place + 1)
IsCrossing-place crossings place below = record { positive = omega arith; within = omega arith }

pub bit-place : (state place : ℕ) → bit state place ≡ 0 → bit state (place_of (place + 1)) ≡ 0
bit-place state place has2 = grind (arith, nat_tests)

-- the steps out of a state in memory
pub row-steps : (code : Code) (rows : List (ArrayVec (Option Edge))) (state : ℕ) (row : ArrayVec (Option Edge)) (steps : List (Option Edge))
    → HaveSteps code (2 ^ length code.crossings) (steps_in rows) → state < 2 ^ length code.crossings → row ≡ get_or rows state row
    → steps ≡ row.items → HasSteps code state (length code.crossings) steps
row-steps code rows state row steps have below is is_steps =
    let items : ArrayVec (Option Edge) → List (Option Edge) = λ row. row.items in
    let within : state < length rows = omega (arith, below, have.size, length-map rows items) in
    let at : slice_index_or (steps_in rows) state [] ≡ steps =
    get_or-map items rows state row [] within ∙ ap items (sym is) ∙ sym is_steps in
    subst (HasSteps code state (length code.crossings)) at (have.each state below)

pub AreSmall-steps : (code : Code) (state count : ℕ) (steps : List (Option Edge)) → HasSteps code state count steps → AreSmall steps
AreSmall-steps code state count steps has = grind (arith, nat_tests)
