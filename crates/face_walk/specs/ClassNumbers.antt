-- Classes numbered from 0.
use Rattle.std.specs.Prelude.{ℕ, List, length, map, nat_eq, slice_index}
use Rattle.std.specs.List.{filter, position_or_len, range_with_len}
use Rattle.kh_types.specs.Classes.{is_least}

-- the least numbers of the classes, ascending
abbrev pub least_numbers : List ℕ → List ℕ
least_numbers classes = filter (is_least classes) (range_with_len 0 (length classes))

-- the number of the class of x, from 0: the place of the least number of that class among the least numbers of all classes
abbrev pub class_number : List ℕ → ℕ → ℕ
class_number classes x = position_or_len (nat_eq (slice_index classes x)) (least_numbers classes)

-- the numbers of the classes of all, in order
abbrev pub class_numbers : List ℕ → List ℕ
class_numbers classes = map (class_number classes) (range_with_len 0 (length classes))
