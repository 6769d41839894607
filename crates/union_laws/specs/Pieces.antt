-- A code in parts that share no arc, each as a code of its own; above all its first connected piece, and the others.
use Rattle.std.specs.Prelude.{◌≡◌, ℕ, ◌+◌, ◌<◌, List, ◌++◌, length, map, nat_eq, Bool, not}
use Rattle.std.specs.List.{filter, range_with_len}
use Rattle.kh_types.specs.Code.{Code}
use Rattle.kh_types.specs.Directions.{is_positive}
use Rattle.gluing_laws.specs.Arcs.{arc_by_place}
use Rattle.code_passes.specs.Parts.{Parts, slots_in}
use Rattle.orient_arcs.specs.Renumbered.{renumber}
use Rattle.face_walk.specs.FaceNumbers.{piece_number}

-- the places of the crossings that are kept, of those of a code
abbrev pub kept_places : (ℕ → Bool) → List (List ℕ) → List ℕ
kept_places keep crossings = filter keep (range_with_len 0 (length crossings))

-- the crossings there
abbrev pub kept_crossings : (ℕ → Bool) → List (List ℕ) → List (List ℕ)
kept_crossings keep crossings = map (slots_in crossings) (kept_places keep crossings)

-- those that are kept, then the others
abbrev pub kept_first : (ℕ → Bool) → List (List ℕ) → List (List ℕ)
kept_first keep crossings = kept_crossings keep crossings ++ kept_crossings (λ place. not (keep place)) crossings

-- the crossings that are kept, over the arcs of the code as names, each with its sign, and so many loops
abbrev pub kept_parts : (ℕ → Bool) → Code → ℕ → Parts
kept_parts keep code loops = record {
  crossings = kept_crossings keep code.crossings;
  positive = map (λ place. is_positive code.crossings (place + 1)) (kept_places keep code.crossings);
  loops = loops;
}

-- these as a code: their arcs are numbered anew
abbrev pub part_of : (ℕ → Bool) → Code → ℕ → Code
part_of keep code loops = renumber (kept_parts keep code loops)

-- no arc joins a crossing that is kept to one that is not
abbrev pub IsCut : (ℕ → Bool) → List (List ℕ) → Type 0
IsCut keep crossings =
    (place other slot other_slot : ℕ) → place < length crossings → other < length crossings → slot < 4 → other_slot < 4
    → arc_by_place crossings place slot ≡ arc_by_place crossings other other_slot → keep place ≡ keep other

-- whether the crossing at a place is in the first piece, that of the first crossing
abbrev pub is_in_first_piece : List (List ℕ) → ℕ → Bool
is_in_first_piece crossings place = nat_eq (piece_number crossings (place + 1)) 0

-- the first piece as a code, without loops
abbrev pub first_piece : Code → Code
first_piece code = part_of (is_in_first_piece code.crossings) code 0

-- the other pieces as a code, with all loops
abbrev pub other_pieces : Code → Code
other_pieces code = part_of (λ place. not (is_in_first_piece code.crossings place)) code code.loops
