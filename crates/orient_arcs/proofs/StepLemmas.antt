-- The steps of renumbering.
use Rattle.std.proofs.lemmas.Bool.Decides.{nat_tests}
use Rattle.std.proofs.Common.{◌≡◌, ℕ, zero, suc, ◌+◌, ◌*◌, ◌<◌, ◌≤◌, ◌∙◌, List, [], ◌∷◌, ◌++◌, length, map, take, get_or, max, refl, sym, ap, ap₂, arith, false}
use Rattle.std.specs.Prelude.{nat_eq, ◌||◌, if◌then◌else◌}
use Rattle.std.specs.List.{flat_map, list_any, range_with_len}
use Rattle.std.proofs.lemmas.List.{take_more, map_push}
use Rattle.kh_types.proofs.Ranges.{flat_map-range_more}
use Rattle.code_passes.specs.Passes.{Pass}
use Rattle.code_passes.specs.Parts.{Parts, passes_at, passes_through}
use Rattle.orient_arcs.specs.Renumbered.{bound_of, is_in, walk, number_in, order_of, renamed_crossing, renumber}
use Rattle.kh_types.specs.Code.{Code}

pub bound_of_push : (passes : List Pass) (pass : Pass) → bound_of (passes ++ pass ∷ []) ≡ max (bound_of passes) (pass.enters + 1)
bound_of_push [] pass = omega arith
bound_of_push (p ∷ passes) pass = let rest = bound_of_push passes pass in omega (arith, rest)

pub passes_more : (parts : Parts) (n : ℕ) → flat_map (passes_at parts) (range_with_len 0 (n + 1))
    ≡ flat_map (passes_at parts) (range_with_len 0 n) ++ passes_at parts n
passes_more parts n = flat_map-range_more (passes_at parts) 0 n n (omega arith)

pub length_passes : (parts : Parts) (n : ℕ) → length (flat_map (passes_at parts) (range_with_len 0 n)) ≡ 2 * n
length_passes parts n = from 0 n
  where
    from : (a m : ℕ) → length (flat_map (passes_at parts) (range_with_len a m)) ≡ 2 * m
    from a zero = omega arith
    from a (suc m) = let rest = from (a + 1) m in omega (arith, rest)

pub map_take_more : {X Y : Type 0} (f : X → Y) (xs : List X) (k : ℕ) (d : X) → k < length xs
    → map f (take (k + 1) xs) ≡ map f (take k xs) ++ f (get_or xs k d) ∷ []
map_take_more f xs k d below =
    ap (λ ys. map f ys) (take_more xs k d below) ∙ map_push f (take k xs) (get_or xs k d)

pub is_in_map : (passes : List Pass) (name : ℕ)
    → list_any (λ (pass : Pass). nat_eq name pass.enters) passes ≡ is_in (map (λ (pass : Pass). pass.enters) passes) name
is_in_map [] name = refl
is_in_map (p ∷ passes) name = ap (λ b. nat_eq name p.enters || b) (is_in_map passes name)

-- one step of a walk, and its last
pub walk_step : (order : List ℕ) (next : ℕ → ℕ) (first fuel less name : ℕ) → fuel ≡ suc less → nat_eq (next name) first ≡ false
    → (order ++ name ∷ []) ++ walk next first less (next name) ≡ order ++ walk next first fuel name
walk_step order next first fuel less name size other =
    assoc order
    ∙ ap (λ b. order ++ name ∷ (if b then [] else walk next first less (next name))) (sym other)
    ∙ ap (λ k. order ++ walk next first k name) (sym size)
  where
    assoc : (xs : List ℕ) → (xs ++ name ∷ []) ++ walk next first less (next name) ≡ xs ++ name ∷ walk next first less (next name)
    assoc [] = refl
    assoc (x ∷ xs) = ap (λ ys. x ∷ ys) (assoc xs)

pub length_walk : (next : ℕ → ℕ) (first fuel less name : ℕ) → fuel ≡ suc less → 1 ≤ length (walk next first fuel name)
length_walk next first fuel less name size = grind (arith, nat_tests)

pub code_is : (parts : Parts) (passes : List Pass) (order : List ℕ) (crossings : List (List ℕ)) (loops : ℕ) → passes ≡ passes_through parts
    → order ≡ order_of passes → crossings ≡ map (renamed_crossing (number_in order)) parts.crossings → loops ≡ parts.loops
    → (let code : Code = record { crossings = crossings; loops = loops } in code ≡ renumber parts)
code_is parts passes order crossings loops are ordered made same =
    let code : List (List ℕ) → ℕ → Code = λ cs k. record { crossings = cs; loops = k } in
    ap₂ code (made ∙ ap (λ os. map (renamed_crossing (number_in os)) parts.crossings) (ordered ∙ ap order_of are)) same

pub bound_of_take : (passes : List Pass) (at bound : ℕ) (pass default : Pass) → at < length passes → get_or passes at default ≡ pass
    → bound ≡ bound_of (take at passes) → max bound (pass.enters + 1) ≡ bound_of (take (at + 1) passes)
bound_of_take passes at bound pass default below is so_far =
    ap₂ (λ b (p : Pass). max b (p.enters + 1)) so_far (sym is)
    ∙ sym (bound_of_push (take at passes) (get_or passes at default))
    ∙ ap bound_of (sym (take_more passes at default below))
