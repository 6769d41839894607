-- The sections of a text between bytes of a sort, as the way of the code.
use Rattle.std.specs.Prelude.{ℕ, Bool, not, if◌then◌else◌, List, [], ◌∷◌}
use Rattle.std.specs.List.{take_while}

-- a byte is of another sort
abbrev pub is_unlike : (ℕ → Bool) → ℕ → Bool
is_unlike is byte = not (is byte)

-- the bytes of a text before the first of a sort
abbrev pub first_section : (ℕ → Bool) → List ℕ → List ℕ
first_section is text = take_while (is_unlike is) text

-- a byte before the first of some sections
abbrev pub before_first : ℕ → List (List ℕ) → List (List ℕ)
before_first byte [] = (byte ∷ []) ∷ []
before_first byte (section ∷ sections) = (byte ∷ section) ∷ sections

-- the sections of a text, of which each byte of the sort ends one, and the last is left out where it is empty
abbrev pub sections_of : (ℕ → Bool) → List ℕ → List (List ℕ)
sections_of is [] = []
sections_of is (byte ∷ bytes) = if is byte then [] ∷ sections_of is bytes else before_first byte (sections_of is bytes)
