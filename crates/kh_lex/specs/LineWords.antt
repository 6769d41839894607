-- The words of a line: what gaps separate.
use Rattle.std.specs.Prelude.{◌≡◌, ℕ, ◌<◌, ◌==◌, ◌||◌, Bool, true, false, filter, IsTrue, IsFalse, not, List, [], ◌∷◌, ◌++◌, length}
use Rattle.std.specs.List.{list_all, list_any}
use Rattle.kh_lex.specs.Sections.{sections_of}

-- a byte is a gap between words: a space, a tab or a carriage return
abbrev pub is_gap : ℕ → Bool
is_gap byte = (byte == 32) || (byte == 9) || (byte == 13)

-- bytes begin with a gap, or there are none
abbrev pub ends_word : List ℕ → Bool
ends_word [] = true
ends_word (byte ∷ bytes) = is_gap byte

-- a word is the first of a line and leaves a rest: behind gaps, of which there may be none, stand its bytes, and then the
-- rest; there is one byte at least, none of them is a gap, and the rest does not go on with another
pub record IsFirstWord (line word rest : List ℕ) : Type 0 where
  pub gaps : List ℕ
  pub parts : line ≡ gaps ++ (word ++ rest)
  pub all_gaps : IsTrue (list_all is_gap gaps)
  pub some : 0 < length word
  pub solid : IsFalse (list_any is_gap word)
  pub longest : IsTrue (ends_word rest)

-- words cut a line: it is all gaps, if there is no word; else the first word leaves a rest, and the later words cut that
abbrev pub CutsWords : List ℕ → List (List ℕ) → Type 0
CutsWords line [] = IsTrue (list_all is_gap line)
CutsWords line (word ∷ words) = (rest : List ℕ) × IsFirstWord line word rest × CutsWords rest words

-- a line has words: it is not all gaps
abbrev pub has_words : List ℕ → Bool
has_words line = not (list_all is_gap line)

-- there are bytes
abbrev pub has_bytes : List ℕ → Bool
has_bytes [] = false
has_bytes (byte ∷ bytes) = true

-- the words of a line, as the way of the code: its sections between gaps that are not empty
abbrev pub words_of : List ℕ → List (List ℕ)
words_of line = filter has_bytes (sections_of is_gap line)
