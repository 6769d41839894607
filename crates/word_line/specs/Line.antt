-- The program's line of words, as `clap` sees it.
use Rattle.std.specs.Prelude.{ℕ, List, true, codes, Option, Some}
use Rattle.clap.specs.Walk.{Rule}
use Rattle.clap.specs.Matches.{first_value}
use Rattle.clap.specs.declared.parser.matches.Found.{Found}
use Rattle.clap.specs.declared.error.kind.ErrorKind.{ErrorKind}
use Rattle.clap.specs.declared.error.kind.ErrorKind.TheVariants as kind
use Rattle.word_line.specs.declared.command.WordStop.{WordStop}
use Rattle.word_line.specs.declared.command.WordStop.TheVariants.{Usage, NoMemory}
use Rattle.word_line.specs.Reading.{command_given}
use Rattle.word_line.specs.declared.command.Command.{Command}
use Rattle.clap.specs.Simple.{App, new_app, new_rule, with_rule, on_top}

-- the positional
abbrev pub task_rule : Rule
task_rule = record (new_rule (codes "task")) { required = true }

-- an option of a name
abbrev pub option_rule : List ℕ → Rule
option_rule name = record (new_rule name) { long = Some name }

-- a line of a program that all words are of, without help
abbrev pub bare_line : List ℕ → App
bare_line program = on_top (λ s. record s { no_binary_name = true; disable_help_flag = true }) (new_app program)

-- the line with the positional alone
abbrev pub task_line : App
task_line = with_rule (bare_line (codes "kh")) task_rule

-- the command line: one required positional, and five options with a value; all words are its own, and it has no help
abbrev pub kh_line : App
kh_line = with_rule (with_rule (with_rule (with_rule (with_rule task_line (option_rule (codes "field"))) (option_rule (codes "workers")))
    (option_rule (codes "to"))) (option_rule (codes "number"))) (option_rule (codes "mark"))

-- the command of what `clap` found
abbrev pub command_found : Found → Option Command
command_found found = command_given (first_value found (codes "task")) (first_value found (codes "field"))
    (first_value found (codes "workers")) (first_value found (codes "to")) (first_value found (codes "number"))
    (first_value found (codes "mark"))

-- why words of which `clap` finds this fault give no command: want of memory is that, and all else is that they mean none
abbrev pub stop_of : ErrorKind → WordStop
stop_of kind.OutOfMemory = NoMemory
stop_of _ = Usage
