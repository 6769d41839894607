-- Labels by their numbers of v-.
use Rattle.std.specs.Prelude.{ℕ, ◌^◌, ◌+◌, List, map, take, nat_eq, slice_index}
use Rattle.std.specs.List.{count_by, filter, range_with_len}
use Rattle.kh_types.specs.Bits.{ones}

-- how many v- each label of some circles has
abbrev pub weights_of : ℕ → List ℕ
weights_of circles = map (ones circles) (range_with_len 0 (2 ^ circles))

-- how many of the numbers before a place are the same as the one there
abbrev pub same_before : List ℕ → ℕ → ℕ
same_before numbers place = count_by (nat_eq (slice_index numbers place)) (take place numbers)

-- for each label of a list of weights, how many labels before it have as many v-
abbrev pub ranks_of : List ℕ → ℕ → List ℕ
ranks_of weights count = map (same_before weights) (range_with_len 0 count)

-- the labels below a number that have this many v-
abbrev pub labels_with : List ℕ → ℕ → ℕ → List ℕ
labels_with weights weight count = filter (λ label. nat_eq (slice_index weights label) weight) (range_with_len 0 count)

-- all labels of some circles that have this many v-
abbrev pub labels_of : ℕ → ℕ → List ℕ
labels_of circles weight = labels_with (weights_of circles) weight (2 ^ circles)

-- the same for each number of v- that a label of so many circles can have
abbrev pub labels_by_weight : ℕ → List (List ℕ)
labels_by_weight circles = map (labels_of circles) (range_with_len 0 (circles + 1))
