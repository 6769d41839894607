-- Faces and connected pieces.
use Rattle.std.specs.Prelude.{ℕ, ◌+◌, ◌*◌, ◌/◌, List, length, map}
use Rattle.std.specs.List.{range_with_len}
use Rattle.kh_types.specs.Classes.{classes_of, class_count}
use Rattle.kh_types.specs.Darts.{partner_at, face_step}

-- a dart and the one that follows in its face, for a partner function
abbrev pub face_pair : (ℕ → ℕ) → ℕ → ℕ × ℕ
face_pair partner place = (place, face_step partner place)

-- the crossings at the two ends of a dart's arc
abbrev pub piece_pair : (ℕ → ℕ) → ℕ → ℕ × ℕ
piece_pair partner place = (place / 4, partner place / 4)

-- the face of each of 4n darts, by the place of its least dart, for a partner function: two darts are in one class where one face
-- step leads from one to the other
abbrev pub open_faces : ℕ → (ℕ → ℕ) → List ℕ
open_faces n partner = classes_of (4 * n) (map (face_pair partner) (range_with_len 0 (4 * n)))

-- the piece of each of n crossings, by the place of its least crossing, for a partner function: two crossings are in one class
-- where an arc has its ends at them
abbrev pub open_pieces : ℕ → (ℕ → ℕ) → List ℕ
open_pieces n partner = classes_of n (map (piece_pair partner) (range_with_len 0 (4 * n)))

-- the faces of a code are those of its partner function
abbrev pub faces_of : List (List ℕ) → List ℕ
faces_of crossings = open_faces (length crossings) (partner_at crossings)

-- the number of faces; loops count for none
abbrev pub face_count : List (List ℕ) → ℕ
face_count crossings = class_count (faces_of crossings)

-- the connected pieces of a code are those of its partner function
abbrev pub pieces_of : List (List ℕ) → List ℕ
pieces_of crossings = open_pieces (length crossings) (partner_at crossings)

-- the number of connected pieces; loops count for none
abbrev pub piece_count : List (List ℕ) → ℕ
piece_count crossings = class_count (pieces_of crossings)

-- n crossings in k pieces on the sphere have n + 2k faces: two for each piece, and one more for each crossing
abbrev pub planar_face_count : List (List ℕ) → ℕ
planar_face_count crossings = length crossings + 2 * piece_count crossings
