-- Numbers as lists of bits: states, labels and choices of one bit for each crossing, whose bit for a crossing stands at its place.
use Rattle.std.specs.Prelude.{Bool, cond, ℕ, ◌/◌, ◌%◌, ◌^◌}
use Rattle.std.specs.List.{sum_by, range_with_len}

-- the bit of a number at a place, counted from 0
abbrev pub bit : ℕ → ℕ → ℕ
bit number place = number / 2 ^ place % 2

-- how many of the lowest bits of a number are 1
abbrev pub ones : ℕ → ℕ → ℕ
ones count number = sum_by (bit number) (range_with_len 0 count)

-- 1 where a test passes, else 0
abbrev pub one_if : Bool → ℕ
one_if passes = cond passes 1 0
