-- The labels behind an edge of the cube, by arithmetic on the bits of the label before it.
use Rattle.std.specs.Prelude.{ℕ, ◌+◌, ◌*◌, ◌/◌, ◌%◌, ◌^◌, List, [], ◌∷◌, nat_eq, ◌&&◌, if◌then◌else◌}
use Rattle.kh_types.specs.Bits.{bit}
use Rattle.circle_smoothing.specs.declared.change.Edge.{Edge}
use Rattle.circle_smoothing.specs.declared.change.Edge.TheVariants.{Merge, Split}

-- a label without the bit at a place: the bits above it move down by one
abbrev pub without_bit : ℕ → ℕ → ℕ
without_bit place label = label % 2 ^ place + 2 ^ place * (label / 2 ^ (place + 1))

-- a label with a new bit 0 at a place: the bits from there on move up by one
abbrev pub with_gap : ℕ → ℕ → ℕ
with_gap place label = label % 2 ^ place + 2 ^ (place + 1) * (label / 2 ^ place)

-- the labels behind a merge of the circles a and b, a below b: none where both have v-; else one, in which the circle a has v-
-- where one of the two had it, and the others keep theirs (Bar-Natan 2002, section 3)
abbrev pub merged_labels : ℕ → ℕ → ℕ → List ℕ
merged_labels a b label =
    if nat_eq (bit label a) 1 && nat_eq (bit label b) 1 then [] else (without_bit b label + 2 ^ a * bit label b) ∷ []

-- the labels behind a split of the circle a into a and b, a below b, ascending: where a has v+, one with v- on a alone and one with
-- v- on b alone; where it has v-, one with v- on both; the others keep theirs (Bar-Natan 2002, section 3)
abbrev pub split_labels : ℕ → ℕ → ℕ → List ℕ
split_labels a b label =
    if nat_eq (bit label a) 1 then (with_gap b label + 2 ^ b) ∷ []
    else (with_gap b label + 2 ^ a) ∷ (with_gap b label + 2 ^ b) ∷ []

-- the labels behind an edge
abbrev pub labels_behind : Edge → ℕ → List ℕ
labels_behind (Merge a b to) label = merged_labels a b label
labels_behind (Split from a b) label = split_labels a b label

-- how many more circles have v- behind an edge than before it: as many in a merge, one more in a split
abbrev pub minuses_gained : Edge → ℕ
minuses_gained (Merge a b to) = 0
minuses_gained (Split from a b) = 1
