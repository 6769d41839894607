-- Labels as numbers, whose bits stand at the places of circles in their list, and as functions of arcs.
use Rattle.std.specs.Prelude.{ℕ, ◌+◌, ◌*◌, List, [], ◌∷◌, nat_eq, slice_index}
use Rattle.std.specs.List.{position_or_len}
use Rattle.kh_types.specs.Bits.{bit}
use Rattle.kh_types.specs.Classes.{classes_of}
use Rattle.surface_laws.specs.Points.{least_points}

-- the label of an arc, where labels of circles are the bits of a number: the bit at the place of its circle
abbrev pub label_at : ℕ → List ℕ → List (ℕ × ℕ) → ℕ → ℕ → ℕ
label_at size points joins number x =
    bit number (position_or_len (nat_eq (slice_index (classes_of size joins) x)) (least_points size points joins))

-- the number whose bits are the labels of some circles, in their order
abbrev pub number_of : (ℕ → ℕ) → List ℕ → ℕ
number_of label [] = 0
number_of label (circle ∷ circles) = label circle + 2 * number_of label circles
