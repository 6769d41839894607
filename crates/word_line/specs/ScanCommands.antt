-- What words ask of `kh-scan`.
use Rattle.std.specs.Prelude.{◌≡◌, ⊤, ℕ, List, [], ◌∷◌, ◌++◌, codes}
use Rattle.std.specs.List.{All}
use Rattle.word_line.specs.declared.scan_command.Fields.{Fields}
use Rattle.word_line.specs.declared.scan_command.Fields.TheVariants as fields
use Rattle.word_line.specs.declared.scan_command.ScanCommand.{ScanCommand}
use Rattle.word_line.specs.declared.scan_command.ScanCommand.TheVariants.{Alone, Each}
use Rattle.word_line.specs.Pieces.{Piece, IsLine, positional, apart, joined, positionals}
use Rattle.word_line.specs.Pieces as key
use Rattle.word_line.specs.Values.{IsFieldSize, IsGiven, NamesField, values_in}

-- a value names fields: one of them, by its digit, or all by the word `all`
abbrev pub NamesFields : List ℕ → Fields → Type 0
NamesFields value (fields.One size) = NamesField value size
NamesFields value fields.All = value ≡ codes "all"

-- a part of a line of `kh-scan`: its only option is `--field`
abbrev pub IsScanPart : Piece → Type 0
IsScanPart (positional word) = ⊤
IsScanPart (apart k value) = k ≡ key.field
IsScanPart (joined k value) = k ≡ key.field

-- what positionals and the values of `--field` ask for: without a positional the table of one diagram, over the field that the value
-- names, and with the positional `each` the tables of a list, over the fields that it names; without a value the field has 2 elements
abbrev pub AsksFor : List (List ℕ) → List (List ℕ) → ScanCommand → Type 0
AsksFor names values (Alone size) = (names ≡ []) × IsGiven NamesField 2 values size
AsksFor names values (Each given) = (names ≡ codes "each" ∷ []) × IsGiven NamesFields (fields.One 2) values given

-- words mean a command of `kh-scan`: they are a line whose only option is `--field`, and whose positionals and values ask for it
pub record IsScanCommand (words : List (List ℕ)) (command : ScanCommand) : Type 0 where
  pub pieces : List Piece
  pub behind : List (List ℕ)
  pub line : IsLine words pieces behind
  pub options : All IsScanPart pieces
  pub asked : AsksFor (positionals pieces ++ behind) (values_in key.field pieces) command

-- words mean no command of `kh-scan`
abbrev pub IsScanUsage : List (List ℕ) → Type 0
IsScanUsage words = (command : ScanCommand) → IsScanCommand words command → ⊥

-- each field that a command of `kh-scan` names by its number of elements is one of the four
abbrev pub HasFieldSizes : ScanCommand → Type 0
HasFieldSizes (Alone size) = IsFieldSize size
HasFieldSizes (Each (fields.One size)) = IsFieldSize size
HasFieldSizes (Each fields.All) = ⊤
