-- Crossings that are dropped: arcs are joined straight through them.
use Rattle.std.specs.Prelude.{ℕ, ◌+◌, ◌*◌, ◌%◌, List, [], ◌∷◌, length, map, nat_eq, Bool, not, ◌&&◌, ◌||◌, slice_index}
use Rattle.std.specs.List.{filter, flat_map, list_any, count_by, range_with_len}
use Rattle.kh_types.specs.Classes.{classes_of, is_least}
use Rattle.kh_types.specs.Code.{Code, arc_in, arc_count, arcs}
use Rattle.kh_types.specs.Components.{passes_of}
use Rattle.kh_types.specs.Darts.{partner_at}
use Rattle.kh_types.specs.Directions.{positive_at}
use Rattle.code_passes.specs.Parts.{Parts, slots_in}

-- the passes of the crossings that are gone, by their places: each joins two arcs straight through
abbrev pub straight_pairs : List (List ℕ) → (ℕ → Bool) → List (ℕ × ℕ)
straight_pairs crossings gone =
    flat_map (λ place. passes_of (slots_in crossings place)) (filter gone (range_with_len 0 (length crossings)))

-- each arc's class of arcs that are joined straight through, by its least arc
abbrev pub straight_names : List (List ℕ) → (ℕ → Bool) → List ℕ
straight_names crossings gone = classes_of (arc_count crossings + 1) (straight_pairs crossings gone)

-- a crossing with other names of its arcs
abbrev pub renamed_slots : List ℕ → List ℕ → List ℕ
renamed_slots names slots =
    slice_index names (arc_in slots 0) ∷ slice_index names (arc_in slots 1) ∷ slice_index names (arc_in slots 2)
    ∷ slice_index names (arc_in slots 3) ∷ []

-- the places of the crossings that stay, in their order
abbrev pub kept_places : List (List ℕ) → (ℕ → Bool) → List ℕ
kept_places crossings gone = filter (λ place. not (gone place)) (range_with_len 0 (length crossings))

-- these crossings, with each arc under the name of its class
abbrev pub kept_crossings : List (List ℕ) → (ℕ → Bool) → List (List ℕ)
kept_crossings crossings gone =
    map (λ place. renamed_slots (straight_names crossings gone) (slots_in crossings place)) (kept_places crossings gone)

-- whether each of these crossings is positive
abbrev pub kept_signs : List (List ℕ) → (ℕ → Bool) → List Bool
kept_signs crossings gone = map (positive_at crossings) (kept_places crossings gone)

-- whether a name stands at some crossing
abbrev pub stands_in : List (List ℕ) → ℕ → Bool
stands_in crossings name =
    list_any (λ slots. nat_eq (arc_in slots 0) name || (nat_eq (arc_in slots 1) name
    || (nat_eq (arc_in slots 2) name || nat_eq (arc_in slots 3) name))) crossings

-- whether an arc names a class that stands at no crossing that stays: such a class is a ring, and becomes a loop
abbrev pub is_ring : List (List ℕ) → (ℕ → Bool) → ℕ → Bool
is_ring crossings gone arc =
    is_least (straight_names crossings gone) arc && not (stands_in (kept_crossings crossings gone) arc)

-- how many rings there are
abbrev pub ring_count : List (List ℕ) → (ℕ → Bool) → ℕ
ring_count crossings gone = count_by (is_ring crossings gone) (arcs crossings)

-- the code without the crossings at some places
abbrev pub dropped : Code → (ℕ → Bool) → Parts
dropped code gone = record {
  crossings = kept_crossings code.crossings gone;
  positive = kept_signs code.crossings gone;
  loops = code.loops + ring_count code.crossings gone;
}

-- the slot after a slot, counterclockwise
abbrev pub after : ℕ → ℕ
after slot = (slot + 1) % 4

-- one arc stands at a slot of a crossing and at the slot after it
abbrev pub is_kink_at : List ℕ → ℕ → Bool
is_kink_at slots slot = nat_eq (arc_in slots slot) (arc_in slots (after slot))

-- so for some slot
abbrev pub is_kink : List ℕ → Bool
is_kink slots = list_any (is_kink_at slots) (range_with_len 0 4)

-- the code without its crossing at a place
abbrev pub without_kink : Code → ℕ → Parts
without_kink code place = dropped code (nat_eq place)

-- two crossings meet in a bigon from a slot of the first and a slot of the second
abbrev pub is_bigon_at : List (List ℕ) → ℕ → ℕ → ℕ → ℕ → Bool
is_bigon_at crossings first second p q =
    nat_eq (partner_at crossings (4 * first + p)) (4 * second + after q)
    && (nat_eq (partner_at crossings (4 * second + q)) (4 * first + after p) && nat_eq ((p + q) % 2) 1)

-- two crossings that differ meet in a bigon from some slots
abbrev pub is_bigon : List (List ℕ) → ℕ → ℕ → Bool
is_bigon crossings first second =
    not (nat_eq first second)
    && list_any (λ p. list_any (is_bigon_at crossings first second p) (range_with_len 0 4)) (range_with_len 0 4)

-- whether a place is one of two
abbrev pub is_of_two : ℕ → ℕ → ℕ → Bool
is_of_two first second place = nat_eq first place || nat_eq second place

-- the code without its crossings at two places
abbrev pub without_finger : Code → ℕ → ℕ → Parts
without_finger code first second = dropped code (is_of_two first second)
