-- Which labels and signs are good.
use Rattle.std.specs.Prelude.{ℕ, ◌/◌, ◌||◌, Bool, not, List, length, take, nat_abs, nat_eq, nat_lt, ℤ, pos, neg_ℤ, slice_index_or, Option}
use Rattle.std.specs.List.{find, list_any, range_with_len}
use Rattle.std.specs.Ordering.{int_eq}

-- the number at a place of a list
abbrev pub listed_number : List ℤ → ℕ → ℤ
listed_number numbers at = slice_index_or numbers at (pos 0)

-- a label names none of some crossings: it is 0, or greater in size than their number
abbrev pub names_none : ℕ → ℤ → Bool
names_none crossings label = nat_eq (nat_abs label) 0 || nat_lt crossings (nat_abs label)

-- the label at a place is bad: it names no crossing, where there is one for any two labels, or it equals an earlier label
abbrev pub is_bad_label : List ℤ → ℕ → Bool
is_bad_label labels at =
    names_none (length labels / 2) (listed_number labels at) || list_any (int_eq (listed_number labels at)) (take at labels)

-- the place of the first bad label, if there is one
abbrev pub bad_label : List ℤ → Option ℕ
bad_label labels = find (is_bad_label labels) (range_with_len 0 (length labels))

-- a sign is bad: it is neither 1 nor -1
abbrev pub is_bad_sign : ℤ → Bool
is_bad_sign sign = not (int_eq sign (pos 1) || int_eq sign (neg_ℤ (pos 1)))

-- the place of the first bad sign, if there is one
abbrev pub bad_sign : List ℤ → Option ℕ
bad_sign signs = find (λ at. is_bad_sign (listed_number signs at)) (range_with_len 0 (length signs))
