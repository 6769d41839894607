-- The checkerboard choice of a closed braid, as a number.
use Rattle.std.specs.Prelude.{ℕ, zero, suc, ◌+◌, ◌*◌, ◌%◌, Bool, if◌then◌else◌}

-- the number with given bits
abbrev pub number_with : (ℕ → ℕ) → ℕ → ℕ
number_with bits zero = 0
number_with bits (suc n) = bits 0 % 2 + 2 * number_with (λ i. bits (i + 1)) n

-- the checkerboard choice of a closed braid: a crossing has the parity of its left position, and one more where the strand from the
-- lower left is over
abbrev pub bit_of : (ℕ → ℕ) → (ℕ → Bool) → ℕ → ℕ
bit_of left is_over place = if is_over place then left place + 1 else left place

-- that choice as a number, whose bits are those of the crossings
abbrev pub choice_of : ℕ → (ℕ → ℕ) → (ℕ → Bool) → ℕ
choice_of n left is_over = number_with (bit_of left is_over) n
