-- The reading of a script, line by line, as the way of the code.
use Rattle.std.specs.Prelude.{ℕ, ◌+◌, nat_lt, if◌then◌else◌, List, [], ◌∷◌, ◌++◌, length, Option, None, Some, Result, Ok, Err}
use Rattle.std.specs.Option.{option_map, option_map_or, option_to_list}
use Rattle.undo_stack.specs.declared.limits.TheConstants.{SCRIPT_LINES}
use Rattle.undo_stack.specs.declared.stop.ScriptStop.{ScriptStop}
use Rattle.undo_stack.specs.declared.stop.ScriptStop.TheVariants.{LineLimit, Line}
use Rattle.kh_lex.specs.Lines.{lines_of}
use Rattle.kh_lex.specs.LineWords.{words_of}

-- the command that words mean, by a meaning, or the fault of the line that has them; no words are none
abbrev pub line_command : {T : Type 0} → (List (List ℕ) → Option T) → ℕ → List (List ℕ) → Result (Option T) ScriptStop
line_command meaning number [] = Ok None
line_command meaning number (word ∷ words) =
    option_map_or (λ command. Ok (Some command)) (meaning (word ∷ words)) (Err (Line number))

-- commands, and then those of the rest of a text
abbrev pub led_by : {T : Type 0} → List T → Result (List T) ScriptStop → Result (List T) ScriptStop
led_by first (Ok commands) = Ok (first ++ commands)
led_by first (Err stop) = Err stop

-- the command of a line with its number, if there is one
abbrev pub with_number : {T : Type 0} → ℕ → Option T → List (ℕ × T)
with_number number command = option_to_list (option_map (λ c. (number, c)) command)

-- what a line gives, and then what those behind it give
abbrev pub then_lines : {T : Type 0} → ℕ → Result (Option T) ScriptStop → Result (List (ℕ × T)) ScriptStop
    → Result (List (ℕ × T)) ScriptStop
then_lines number (Ok command) rest = led_by (with_number number command) rest
then_lines number (Err stop) rest = Err stop

-- the commands of lines, of which the first has a number, or the fault of the first that is wrong
abbrev pub commands_from : {T : Type 0} → (List (List ℕ) → Option T) → ℕ → List (List ℕ) → Result (List (ℕ × T)) ScriptStop
commands_from meaning number [] = Ok []
commands_from meaning number (line ∷ lines) =
    then_lines number (line_command meaning number (words_of line)) (commands_from meaning (number + 1) lines)

-- what a text reads as, by a meaning
abbrev pub script_reading : {T : Type 0} → (List (List ℕ) → Option T) → List ℕ → Result (List (ℕ × T)) ScriptStop
script_reading meaning text =
    if nat_lt SCRIPT_LINES (length (lines_of text)) then Err (LineLimit (length (lines_of text)))
    else commands_from meaning 1 (lines_of text)
