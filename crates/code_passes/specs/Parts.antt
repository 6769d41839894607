-- Crossings over arc names, with directions, and the passes through them.
use Rattle.std.specs.Prelude.{◌≡◌, ℕ, ◌+◌, ◌≤◌, List, [], ◌∷◌, length, map, slice_index_or, Bool, false, if◌then◌else◌, nat_eq, pos, neg_ℤ}
use Rattle.std.specs.List.{count_by, flat_map, range_with_len}
use Rattle.kh_types.specs.Code.{Code, arc_in, crossing_numbers}
use Rattle.kh_types.specs.Directions.{is_positive}
use Rattle.code_passes.specs.Passes.{Pass}

-- crossings, each the list of the arc names at its slots, with whether it is positive, and a number of loops; any numbers may be
-- names. Definitions read the slots 0 to 3 of a crossing and nothing behind them
pub record Parts : Type 0 where
  pub crossings : List (List ℕ)
  pub positive : List Bool
  pub loops : ℕ

-- the slots of the crossing at a place, each by its name
abbrev pub slots_in : List (List ℕ) → ℕ → List ℕ
slots_in crossings place = slice_index_or crossings place []

-- whether the crossing at a place is positive
abbrev pub is_positive_at : List Bool → ℕ → Bool
is_positive_at positive place = slice_index_or positive place false

-- the under pass of the crossing at a place, from slot 0 to slot 2
abbrev pub under_pass : List ℕ → ℕ → Pass
under_pass slots place = record { label = neg_ℤ (pos (place + 1)); enters = arc_in slots 0; leaves = arc_in slots 2 }

-- its over pass, from slot 3 to slot 1 where it is positive, else from slot 1 to slot 3
abbrev pub over_pass : List ℕ → Bool → ℕ → Pass
over_pass slots positive place = record {
  label = pos (place + 1);
  enters = arc_in slots (if positive then 3 else 1);
  leaves = arc_in slots (if positive then 1 else 3);
}

-- both passes of the crossing at a place
abbrev pub passes_at : Parts → ℕ → List Pass
passes_at parts place =
    let slots = slots_in parts.crossings place in
    under_pass slots place ∷ over_pass slots (is_positive_at parts.positive place) place ∷ []

-- all passes, by crossing
abbrev pub passes_through : Parts → List Pass
passes_through parts = flat_map (passes_at parts) (range_with_len 0 (length parts.crossings))

-- how often a name is the head of an arc, which is where a pass enters, and how often a tail
abbrev pub head_count : Parts → ℕ → ℕ
head_count parts name = count_by (λ (pass : Pass). nat_eq pass.enters name) (passes_through parts)

abbrev pub tail_count : Parts → ℕ → ℕ
tail_count parts name = count_by (λ (pass : Pass). nat_eq pass.leaves name) (passes_through parts)

-- each name that stands at all stands twice, once as a head and once as a tail
pub record ArePaired (parts : Parts) : Type 0 where
  pub heads : (name : ℕ) → head_count parts name ≤ 1
  pub tails : (name : ℕ) → tail_count parts name ≡ head_count parts name

-- a code's crossings with their own directions
abbrev pub parts_of : Code → Parts
parts_of code = record {
  crossings = code.crossings;
  positive = map (is_positive code.crossings) (crossing_numbers code.crossings);
  loops = code.loops;
}
