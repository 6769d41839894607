-- The lines of a table's text.
use Rattle.std.specs.Prelude.{ℕ, if◌then◌else◌, List, [], ◌∷◌, ◌++◌, codes}
use Rattle.std.specs.Fmt.{decimal}
use Rattle.kh_lex.specs.Lines.{is_line_feed}

-- the first line of a text: the bytes through its first line feed, and all where it has none
abbrev pub first_line : List ℕ → List ℕ
first_line [] = []
first_line (byte ∷ more) = if is_line_feed byte then byte ∷ [] else byte ∷ first_line more

-- the line of a field with so many elements
abbrev pub field_text : ℕ → List ℕ
field_text field = codes "field " ++ (decimal field ++ codes "\n")
