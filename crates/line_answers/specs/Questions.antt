-- What a list of codes asks: each line that is not blank, over each of some fields.
use Rattle.std.specs.Prelude.{ℕ, ◌+◌, if◌then◌else◌, List, [], ◌∷◌, map}
use Rattle.std.specs.List.{flat_map}
use Rattle.line_reader.specs.Lines.{has_code}

-- a line of a list, with its number
pub record NumberedLine : Type 0 where
  pub number : ℕ
  pub bytes : List ℕ

-- this number and these bytes
abbrev pub numbered_line : ℕ → List ℕ → NumberedLine
numbered_line number bytes = record { number = number; bytes = bytes }

-- lines with their numbers, of which the first is given
abbrev pub numbered : ℕ → List (List ℕ) → List NumberedLine
numbered number [] = []
numbered number (bytes ∷ lines) = numbered_line number bytes ∷ numbered (number + 1) lines

-- a line, which is asked over the field of so many elements
pub record Question : Type 0 where
  pub line : NumberedLine
  pub field : ℕ

-- a line over a field
abbrev pub question : NumberedLine → ℕ → Question
question line field = record { line = line; field = field }

-- what a line asks: its code over each of the fields, if it is not blank
abbrev pub asked_by : List ℕ → NumberedLine → List Question
asked_by fields line = if has_code line.bytes then map (question line) fields else []

-- what lines ask, numbered from 1
abbrev pub questions : List ℕ → List (List ℕ) → List Question
questions fields lines = flat_map (asked_by fields) (numbered 1 lines)
