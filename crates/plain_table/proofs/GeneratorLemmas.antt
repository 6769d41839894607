-- The steps of the loops over states and labels.
use Rattle.std.proofs.Common.{◌≡◌, ℕ, ◌+◌, ◌∷◌, [], ◌++◌, List, map, ap, ◌∙◌, arith}
use Rattle.std.specs.List.{range_with_len, flat_map}
use Rattle.std.proofs.lemmas.List.{append_assoc, map-append, map_push}
use Rattle.kh_types.specs.Code.{Code}
use Rattle.kh_types.specs.Generators.{Generator, generator_of, generators_of}
use Rattle.plain_table.specs.declared.generators.Placed.{Placed}
use Rattle.plain_table.specs.Placed.{placed_in, placed_by, shared_in}
use Rattle.kh_types.proofs.Ranges.{flat_map-range_more, map_from_zero}

-- the generators of the states up to one more
pub states_more : (code : Code) (made next : List Placed) (state : ℕ)
    → made ≡ map (placed_in code) (flat_map (generators_of code) (range_with_len 0 state))
    → next ≡ made ++ map (placed_in code) (generators_of code state)
    → next ≡ map (placed_in code) (flat_map (generators_of code) (range_with_len 0 (state + 1)))
states_more code made next state is_made is_next =
    let front : List Generator = flat_map (generators_of code) (range_with_len 0 state) in
    let last : List Generator = generators_of code state in
    let all : flat_map (generators_of code) (range_with_len 0 (state + 1)) ≡ front ++ last =
    flat_map-range_more (generators_of code) 0 state state (omega arith) in
    rw (all, map-append (placed_in code) front last, ← is_made) is_next

-- the generators of a state with the labels up to one more
pub labels_more : (code : Code) (start made next : List Placed) (state label : ℕ)
    → made ≡ start ++ map (placed_in code) (map (generator_of state) (range_with_len 0 label))
    → next ≡ made ++ placed_by (shared_in code state) (generator_of state label) ∷ []
    → next ≡ start ++ map (placed_in code) (map (generator_of state) (range_with_len 0 (label + 1)))
labels_more code start made next state label is_made is_next =
    let front : List Placed = map (placed_in code) (map (generator_of state) (range_with_len 0 label)) in
    let last : Placed = placed_in code (generator_of state label) in
    let all : map (placed_in code) (map (generator_of state) (range_with_len 0 (label + 1))) ≡ front ++ last ∷ [] =
    ap (map (placed_in code)) (map_from_zero (generator_of state) label)
    ∙ map_push (placed_in code) (map (generator_of state) (range_with_len 0 label)) (generator_of state label) in
    rw (all, ← append_assoc start front (last ∷ []), ← is_made) is_next
