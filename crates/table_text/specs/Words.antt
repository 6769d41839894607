-- The words of a line, and what its parts can only be, as the way of the code.
use Rattle.std.specs.Prelude.{◌≡◌, ℕ, ◌+◌, ◌≤◌, ◌⊎◌, nat_eq, Bool, ◌||◌, List, [], ◌++◌, length, take, drop, Option, None, Some, Result, Ok, Err}
use Rattle.std.specs.List.{All, position_or_len}
use Rattle.prime_field.specs.Residues.{IsSmallPrime}
use Rattle.kh_types.specs.Table.{Row, Table, row_text}
use Rattle.homology_tables.specs.Tables.{IsBefore}
use Rattle.table_text.specs.Lines.{field_text, first_line}
use Rattle.table_text.specs.Versions.{IsRowIn, IsTableIn, table_lines}
use Rattle.table_text.specs.declared.stop.TableStop.{TableStop}
use Rattle.table_text.specs.declared.stop.TableStop.TheVariants.{Text, NoMemory}
use Rattle.table_text.specs.declared.version.Version.{Version}

-- a byte ends a word: a space or a line feed
abbrev pub is_end : ℕ → Bool
is_end byte = nat_eq byte 32 || nat_eq byte 10

-- the first word of a text
abbrev pub word_of : List ℕ → List ℕ
word_of text = take (position_or_len is_end text) text

-- a text without its first word and the byte that ends it
abbrev pub behind_word : List ℕ → List ℕ
behind_word text = drop (position_or_len is_end text + 1) text

-- the field whose line a line is, if there is one
abbrev pub IsFieldIn : List ℕ → Option ℕ → Type 0
IsFieldIn line (Some field) = IsSmallPrime field × (line ≡ field_text field)
IsFieldIn line None = (field : ℕ) → IsSmallPrime field → line ≡ field_text field → ⊥

-- a row can stand behind rows of a table in a version: it can stand in texts of the version, and each of the rows comes before it
pub record CanFollow (version : Version) (rows : List Row) (row : Row) : Type 0 where
  pub within : IsRowIn version row
  pub above : All (λ earlier. IsBefore earlier row) rows

-- the row that can follow rows and whose line a line is, if there is one
abbrev pub IsNextRow : Version → List Row → List ℕ → Option Row → Type 0
IsNextRow version rows line (Some row) = CanFollow version rows row × (line ≡ row_text row)
IsNextRow version rows line None = (row : Row) → CanFollow version rows row → line ≡ row_text row → ⊥

-- lines are those of a table that can be written in a version
abbrev pub AreTableLines : Version → List ℕ → Type 0
AreTableLines version lines = (table : Table) × IsTableIn version table × (lines ≡ table_lines table)

-- the first wrong one of lines, behind the line of the version, begins at a place
pub record HasWrongLineIn (version : Version) (lines : List ℕ) (place : ℕ) : Type 0 where
  pub within : place ≤ length lines
  pub before : (take place lines ≡ []) ⊎ AreTableLines version (take place lines)
  pub line : ¬ AreTableLines version (take place lines ++ first_line (drop place lines))

-- what the reading of lines comes to, behind the line of the version
abbrev pub IsReadingIn : Version → List ℕ → Result Table TableStop → Type 0
IsReadingIn version lines (Ok table) = IsTableIn version table × (lines ≡ table_lines table)
IsReadingIn version lines (Err (Text place)) = HasWrongLineIn version lines place
IsReadingIn version lines (Err NoMemory) = ⊥
