-- What the reading of a text comes to: a table, or the first line that is wrong.
use Rattle.std.specs.Prelude.{◌≡◌, ◌≢◌, ℕ, ◌≤◌, ◌⊎◌, List, [], ◌++◌, length, take, drop, Result, Ok, Err}
use Rattle.kh_types.specs.Table.{Table}
use Rattle.table_text.specs.Lines.{first_line}
use Rattle.table_text.specs.Versions.{IsTableIn, version_line, version_text}
use Rattle.table_text.specs.declared.stop.TableStop.{TableStop}
use Rattle.table_text.specs.declared.stop.TableStop.TheVariants.{Text, NoMemory}
use Rattle.table_text.specs.declared.version.Version.{Version}

-- a text is that of a table in a version in which the table can be written
pub record Writes (text : List ℕ) (homology : Table) (version : Version) : Type 0 where
  pub table : IsTableIn version homology
  pub same : text ≡ version_text version homology

-- a text is that of a table, in one of the versions
abbrev pub IsTextOf : List ℕ → Table → Type 0
IsTextOf text table = (version : Version) × Writes text table version

-- a text is some table's
abbrev pub IsTableText : List ℕ → Type 0
IsTableText text = (table : Table) × IsTextOf text table

-- the first wrong line of a text begins at a place: before it there is nothing, the line of version 2 alone or the text of a table;
-- with it there is no text of a table, nor, where it is the first line, the line of version 2
pub record HasWrongTableLine (text : List ℕ) (place : ℕ) : Type 0 where
  pub within : place ≤ length text
  pub before : (take place text ≡ []) ⊎ ((take place text ≡ version_line) ⊎ IsTableText (take place text))
  pub line : ¬ IsTableText (take place text ++ first_line (drop place text))
  pub first : place ≡ 0 → first_line text ≢ version_line

-- what the reading of a text comes to; running out of memory is no reading
abbrev pub IsTableReading : List ℕ → Result Table TableStop → Type 0
IsTableReading text (Ok table) = IsTextOf text table
IsTableReading text (Err (Text place)) = HasWrongTableLine text place
IsTableReading text (Err NoMemory) = ⊥
