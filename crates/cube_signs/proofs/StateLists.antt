-- The steps of the loops over all states.
use Rattle.std.proofs.lemmas.Bool.Decides.{nat_tests}
use Rattle.std.proofs.Common.{◌≡◌, ℕ, ◌+◌, ◌^◌, ◌<◌, ◌≤◌, ◌∙◌, List, [], ◌∷◌, ◌++◌, length, get_or, map, sym, ap₂, arith}
use Rattle.std.specs.List.{range_with_len}
use Rattle.std.proofs.lemmas.List.FromFn.{get_or-map-range_with_len, length-map-range_with_len}
use Rattle.kh_types.specs.Code.{Code}
use Rattle.kh_types.specs.Generators.{states}
use Rattle.kh_types.proofs.Ranges.{map_from_zero}
use Rattle.circle_smoothing.specs.CircleNumbers.{Resolution}
use Rattle.cube_signs.specs.Shapes.{resolution_of, resolutions, shape_of}
use Rattle.cube_signs.specs.declared.shape.Shape.{Shape}

-- what a function makes of the numbers up to one, and of all up to a limit
pub images-more : {X : Type 0} (f : ℕ → X) (made next : List X) (more : X) (place : ℕ) → made ≡ map f (range_with_len 0 place)
    → more ≡ f place → next ≡ made ++ more ∷ [] → next ≡ map f (range_with_len 0 (place + 1))
images-more {X} f made next more place is_made is_more is_next =
    is_next ∙ ap₂ (λ (xs : List X) (x : X). xs ++ x ∷ []) is_made is_more ∙ sym (map_from_zero f place)

-- the circles of all states
pub resolutions-more : (code : Code) (made next : List Resolution) (more : Resolution) (state : ℕ)
    → made ≡ map (resolution_of code) (range_with_len 0 state) → more.code ≡ code → more.state ≡ state → next ≡ made ++ more ∷ []
    → next ≡ map (resolution_of code) (range_with_len 0 (state + 1))
resolutions-more code made next more state is_made is_code is_state is_next = grind (arith, nat_tests, images-more)

pub length-resolutions : (code : Code) → length (resolutions code) ≡ 2 ^ length code.crossings
length-resolutions code = length-map-range_with_len (resolution_of code) 0 (2 ^ length code.crossings)

pub resolution-at : (code : Code) (all : List Resolution) (state : ℕ) (one : Resolution) → all ≡ resolutions code
    → state < length all → one ≡ get_or all state one → one ≡ resolution_of code state
resolution-at code all state one is_all below is = grind (arith, nat_tests, get_or-map-range_with_len, length-resolutions)

-- their shapes
pub shapes-more : (code : Code) (made next : List Shape) (more : Shape) (state : ℕ)
    → made ≡ map (shape_of code) (range_with_len 0 state) → more ≡ shape_of code state → next ≡ made ++ more ∷ []
    → next ≡ map (shape_of code) (range_with_len 0 (state + 1))
shapes-more code made next more state is_made is_more is_next = grind (arith, nat_tests, images-more)

pub shapes-all : (code : Code) (all : List Resolution) (made : List Shape) (state : ℕ) → all ≡ resolutions code
    → made ≡ map (shape_of code) (range_with_len 0 state) → length all ≤ state → state ≤ length all
    → made ≡ map (shape_of code) (states code)
shapes-all code all made state is_all is_made from below = grind (arith, nat_tests, length-resolutions)

pub ruleset shape_steps = (resolution-at, shapes-more, shapes-all)
