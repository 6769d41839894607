-- The reading of the texts that a line of `kh-scan` gives, as the way of the code.
use Rattle.std.specs.Prelude.{ℕ, if◌then◌else◌, List, codes, Option, None, Some}
use Rattle.std.specs.Option.{option_map}
use Rattle.std.specs.Str.{bytes_eq}
use Rattle.word_line.specs.Reading.{field_in, field_of, given_by}
use Rattle.word_line.specs.declared.scan_command.Fields.{Fields}
use Rattle.word_line.specs.declared.scan_command.Fields.TheVariants as fields
use Rattle.word_line.specs.declared.scan_command.ScanCommand.{ScanCommand}
use Rattle.word_line.specs.declared.scan_command.ScanCommand.TheVariants.{Alone, Each}

-- the fields that a value names
abbrev pub fields_of : List ℕ → Option Fields
fields_of value = if bytes_eq value (codes "all") then Some fields.All else option_map (λ size. fields.One size) (field_of value)

-- the fields of a value; the one of two elements where there is none
abbrev pub fields_in : Option (List ℕ) → Option Fields
fields_in = given_by fields_of (fields.One 2)

-- the command of the texts that a line of `kh-scan` gives: its positional, and the value of `--field`
abbrev pub scan_command_given : Option (List ℕ) → Option (List ℕ) → Option ScanCommand
scan_command_given None field = option_map (λ size. Alone size) (field_in field)
scan_command_given (Some name) field = if bytes_eq name (codes "each") then option_map (λ given. Each given) (fields_in field) else None
