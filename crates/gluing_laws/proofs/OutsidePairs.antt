-- What the smoothings of all crossings but those of a triangle join.
use Rattle.std.specs.Prelude.{ℕ, List, [], nat_eq, Bool, ◌||◌, if◌then◌else◌}
use Rattle.std.specs.List.{flat_map, enumerate_from}
use Rattle.kh_types.specs.Bits.{bit}
use Rattle.kh_types.specs.Circles.{smoothing_of}

-- whether a place is one of three
abbrev pub is_one_of : ℕ → ℕ → ℕ → ℕ → Bool
is_one_of c d e place = nat_eq place c || (nat_eq place d || nat_eq place e)

-- what the smoothing of a crossing joins, if it does not stand at one of three places
abbrev pub outside_at : ℕ → ℕ → ℕ → ℕ → ℕ × List ℕ → List (ℕ × ℕ)
outside_at c d e state at = if is_one_of c d e at.0 then [] else smoothing_of (bit state at.0) at.1

-- what the smoothings of all crossings but those at three places join
abbrev pub outside_of : List (List ℕ) → ℕ → ℕ → ℕ → ℕ → List (ℕ × ℕ)
outside_of crossings c d e state = flat_map (outside_at c d e state) (enumerate_from 0 crossings)
