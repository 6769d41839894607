-- The line of words of `kh-scan`, as `clap` sees it.
use Rattle.std.specs.Prelude.{Option, codes}
use Rattle.clap.specs.Matches.{first_value}
use Rattle.clap.specs.Simple.{App, new_rule, with_rule}
use Rattle.clap.specs.declared.parser.matches.Found.{Found}
use Rattle.word_line.specs.Line.{bare_line, option_rule}
use Rattle.word_line.specs.ScanReading.{scan_command_given}
use Rattle.word_line.specs.declared.scan_command.ScanCommand.{ScanCommand}

-- the line with the positional alone, which may be absent
abbrev pub each_line : App
each_line = with_rule (bare_line (codes "kh-scan")) (new_rule (codes "task"))

-- the command line: one positional, which may be absent, and one option with a value; all words are its own, and it has no help
abbrev pub scan_line : App
scan_line = with_rule each_line (option_rule (codes "field"))

-- the command of what `clap` found
abbrev pub scan_command_found : Found → Option ScanCommand
scan_command_found found = scan_command_given (first_value found (codes "task")) (first_value found (codes "field"))
