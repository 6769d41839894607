-- The versions of tables' texts.
use Rattle.std.specs.Prelude.{ℕ, List, ◌++◌, codes}
use Rattle.std.specs.List.{All, flat_map}
use Rattle.kh_types.specs.declared.limits.TheConstants.{CROSSINGS, EXPONENT}
use Rattle.kh_types.specs.Table.{IsWithin, Row, Table, row_text}
use Rattle.homology_tables.specs.Tables.{IsRow, IsTable}
use Rattle.table_text.specs.Lines.{field_text}
use Rattle.table_text.specs.declared.limits.TheConstants.{FIRST_CROSSINGS, FIRST_EXPONENT}
use Rattle.table_text.specs.declared.version.Version.{Version}
use Rattle.table_text.specs.declared.version.Version.TheVariants.{First, Second}

-- the line that a text of version 2 begins with
abbrev pub version_line : List ℕ
version_line = codes "table 2\n"

-- the greatest size of a quantum degree in texts of a version
abbrev pub far : Version → ℕ
far First = FIRST_EXPONENT
far Second = EXPONENT

-- the greatest size of a homological degree in texts of a version
abbrev pub wide : Version → ℕ
wide First = FIRST_CROSSINGS
wide Second = CROSSINGS

-- a row can stand in texts of a version: it is within the limits, and its degrees are within the version's ranges
pub record IsRowIn (version : Version) (line : Row) : Type 0 where
  pub row : IsRow line
  pub j : IsWithin (far version) line.j
  pub i : IsWithin (wide version) line.i

-- a table can be written in a version: each of its rows can
pub record IsTableIn (version : Version) (homology : Table) : Type 0 where
  pub table : IsTable homology
  pub rows : All (IsRowIn version) homology.rows

-- the lines of a table: that of its field, then those of its rows
abbrev pub table_lines : Table → List ℕ
table_lines homology = field_text homology.field ++ flat_map row_text homology.rows

-- the text of a table in a version: its lines, in version 2 behind the line of the version
abbrev pub version_text : Version → Table → List ℕ
version_text First homology = table_lines homology
version_text Second homology = version_line ++ table_lines homology
