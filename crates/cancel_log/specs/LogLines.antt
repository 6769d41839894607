-- The lines of a log of cancellations: what each can say, and its text.
use Rattle.std.specs.Prelude.{◌≡◌, ◌≢◌, ◌<◌, ◌^◌, ℕ, ℤ, List, ◌++◌, codes, unsigned_abs}
use Rattle.std.specs.Fmt.{decimal, signed_decimal}
use Rattle.kh_types.specs.Complex.{Pivot}
use Rattle.kh_types.specs.Table.{Table, table_text}
use Rattle.kh_lex.specs.Lines.{lines_of}
use Rattle.cancel_log.specs.declared.limits.TheConstants.{DEGREE_DIGITS, PLACE_DIGITS}
use Rattle.cancel_log.specs.declared.line.LogLine.{LogLine}
use Rattle.cancel_log.specs.declared.line.LogLine.TheVariants.{Cancel, Begin, Close, Other}

-- the line that a log begins with
abbrev pub log_line : List ℕ
log_line = codes "log 1"

-- the line of a field with p elements
abbrev pub field_line : ℕ → List ℕ
field_line p = codes "field " ++ decimal p

-- the line with which the block at the quantum degree j begins
abbrev pub block_line : ℤ → List ℕ
block_line j = codes "block " ++ signed_decimal j

-- the line that cancels a pivot: its degree, its column, its row
abbrev pub cancel_line : Pivot → List ℕ
cancel_line pivot =
    codes "cancel " ++ (signed_decimal pivot.degree ++ (codes " " ++ (decimal pivot.column ++ (codes " " ++ decimal pivot.row))))

-- the line with which the table begins
abbrev pub close_line : List ℕ
close_line = codes "table 2"

-- the lines of the text of a table
abbrev pub table_lines_of : Table → List (List ℕ)
table_lines_of homology = lines_of (table_text homology)

-- a degree has as many digits as a line has room for, or fewer
abbrev pub IsShortDegree : ℤ → Type 0
IsShortDegree degree = unsigned_abs degree < 10 ^ DEGREE_DIGITS

-- the numbers of a pivot have as many digits as a line has room for, or fewer
pub record IsShortPivot (pivot : Pivot) : Type 0 where
  pub degree : IsShortDegree pivot.degree
  pub column : pivot.column < 10 ^ PLACE_DIGITS
  pub row : pivot.row < 10 ^ PLACE_DIGITS

-- what a line behind the third says: it cancels a pivot, begins a block or closes the blocks, by exactly this text; or none of these
abbrev pub Says : List ℕ → LogLine → Type 0
Says line (Cancel pivot) = (line ≡ cancel_line pivot) × IsShortPivot pivot
Says line (Begin j) = (line ≡ block_line j) × IsShortDegree j
Says line Close = line ≡ close_line
Says line Other =
    ((pivot : Pivot) → IsShortPivot pivot → line ≢ cancel_line pivot) × ((j : ℤ) → IsShortDegree j → line ≢ block_line j)
    × (line ≢ close_line)
