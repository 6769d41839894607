-- The numbers of faces and pieces.
use Rattle.std.specs.Prelude.{ℕ, List, nat_eq}
use Rattle.std.specs.List.{count_by}
use Rattle.kh_types.specs.Code.{place_of}
use Rattle.kh_types.specs.Darts.{dart_place, darts}
use Rattle.kh_types.specs.Directions.{head_of, tail_of}
use Rattle.kh_types.specs.Faces.{faces_of, pieces_of}
use Rattle.kh_types.specs.declared.dart.Dart.{Dart}
use Rattle.face_walk.specs.ClassNumbers.{class_number}

-- the number of the face that a dart is of: faces are numbered from 0, in the order of their least darts
abbrev pub face_number : List (List ℕ) → Dart → ℕ
face_number crossings dart = class_number (faces_of crossings) (dart_place dart)

-- the length of a face: how many darts it has
abbrev pub face_length : List (List ℕ) → ℕ → ℕ
face_length crossings face = count_by (λ dart. nat_eq (face_number crossings dart) face) (darts crossings)

-- the face at the left of an arc is that of its tail
abbrev pub left_face : List (List ℕ) → ℕ → ℕ
left_face crossings arc = face_number crossings (tail_of crossings arc)

-- the face at the right of an arc is that of its head
abbrev pub right_face : List (List ℕ) → ℕ → ℕ
right_face crossings arc = face_number crossings (head_of crossings arc)

-- the number of the piece that a crossing is in: pieces are numbered from 0, in the order of their least crossings
abbrev pub piece_number : List (List ℕ) → ℕ → ℕ
piece_number crossings crossing = class_number (pieces_of crossings) (place_of crossing)
