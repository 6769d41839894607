-- The lines of a text: it is cut at line feeds.
use Rattle.std.specs.Prelude.{◌≡◌, ℕ, ◌==◌, Bool, IsFalse, List, [], ◌∷◌, ◌++◌, codes}
use Rattle.std.specs.List.{AllByRecursion, flat_map, list_any}
use Rattle.kh_lex.specs.Sections.{sections_of}

-- a byte is a line feed
abbrev pub is_line_feed : ℕ → Bool
is_line_feed byte = byte == 10

-- bytes have no line feed
abbrev pub HasNoLineFeed : List ℕ → Type 0
HasNoLineFeed bytes = IsFalse (list_any is_line_feed bytes)

-- a line with a line feed behind it
abbrev pub with_feed : List ℕ → List ℕ
with_feed line = line ++ codes "\n"

-- what follows the last line feed is a line where it is not empty
abbrev pub last_line : List ℕ → List (List ℕ)
last_line [] = []
last_line (byte ∷ bytes) = (byte ∷ bytes) ∷ []

-- lines cut a text: the text is some lines, each with a line feed behind it, and then what follows the last line feed; these
-- lines are the first, and what follows is the last where it is not empty; there is no other line feed
pub record CutsLines (text : List ℕ) (lines : List (List ℕ)) : Type 0 where
  pub first : List (List ℕ)
  pub last : List ℕ
  pub parts : text ≡ flat_map with_feed first ++ last
  pub all : lines ≡ first ++ last_line last
  pub first_whole : AllByRecursion HasNoLineFeed first
  pub last_whole : HasNoLineFeed last

-- the lines of a text, as the way of the code
abbrev pub lines_of : List ℕ → List (List ℕ)
lines_of text = sections_of is_line_feed text
