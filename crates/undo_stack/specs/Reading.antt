-- What the reading of a script comes to, given what it is that words spell a command. The order and the limit are this
-- project's rule.
use Rattle.std.specs.Prelude.{◌≡◌, ℕ, ◌<◌, ◌≤◌, List, ◌∷◌, ◌++◌, length, filter, Result, Ok, Err}
use Rattle.std.specs.List.{AllZip, enumerate_from}
use Rattle.undo_stack.specs.declared.limits.TheConstants.{SCRIPT_LINES}
use Rattle.undo_stack.specs.declared.stop.ScriptStop.{ScriptStop}
use Rattle.undo_stack.specs.declared.stop.ScriptStop.TheVariants.{LineLimit, Line, NoMemory}
use Rattle.kh_lex.specs.Lines.{CutsLines}
use Rattle.kh_lex.specs.LineWords.{CutsWords, has_words}

-- those of some lines that have words, each with its number, from 1
abbrev pub worded_lines : List (List ℕ) → List (ℕ × List ℕ)
worded_lines lines = filter (λ line. has_words line.1) (enumerate_from 1 lines)

-- a line is a command: words cut it, and they spell the command
pub record IsCommandLine {T : Type 0} (Spells : List (List ℕ) → T → Type 0) (line : List ℕ) (command : T) : Type 0 where
  pub words : List (List ℕ)
  pub cut : CutsWords line words
  pub spelled : Spells words command

-- a line with its number is a command with that number
abbrev pub IsNumbered : {T : Type 0} → (List (List ℕ) → T → Type 0) → ℕ × List ℕ → ℕ × T → Type 0
IsNumbered Spells line command = (command.0 ≡ line.0) × IsCommandLine Spells line.1 command.1

-- a text reads as commands: lines cut it, of which there are no more than the limit, and each line that has words is a
-- command, in order and with its number
pub record ReadsAsScript {T : Type 0} (Spells : List (List ℕ) → T → Type 0) (text : List ℕ) (commands : List (ℕ × T)) : Type 0 where
  pub lines : List (List ℕ)
  pub cut : CutsLines text lines
  pub few : length lines ≤ SCRIPT_LINES
  pub each : AllZip (IsNumbered Spells) (worded_lines lines) commands

-- a text has too many lines: so many cut it, and these are above the limit
pub record HasManyLines (text : List ℕ) (count : ℕ) : Type 0 where
  pub lines : List (List ℕ)
  pub cut : CutsLines text lines
  pub counted : count ≡ length lines
  pub above : SCRIPT_LINES < count

-- of lines that have words, the first wrong one has a number: it is no command, and each line before it is one
pub record IsFirstWrong {T : Type 0} (Spells : List (List ℕ) → T → Type 0) (lines : List (ℕ × List ℕ)) (number : ℕ) : Type 0 where
  pub before : List (ℕ × List ℕ)
  pub line : List ℕ
  pub after : List (ℕ × List ℕ)
  pub parts : lines ≡ before ++ (number, line) ∷ after
  pub wrong : (command : T) → ¬ IsCommandLine Spells line command
  pub commands : List (ℕ × T)
  pub earlier : AllZip (IsNumbered Spells) before commands

-- a text has a wrong line: lines cut it, of which there are no more than the limit, and the first wrong one has the number
pub record HasWrongLine {T : Type 0} (Spells : List (List ℕ) → T → Type 0) (text : List ℕ) (number : ℕ) : Type 0 where
  pub lines : List (List ℕ)
  pub cut : CutsLines text lines
  pub few : length lines ≤ SCRIPT_LINES
  pub first : IsFirstWrong Spells (worded_lines lines) number

-- what the reading of a text comes to; running out of memory is no reading
abbrev pub IsScriptReading : {T : Type 0} → (List (List ℕ) → T → Type 0) → List ℕ → Result (List (ℕ × T)) ScriptStop → Type 0
IsScriptReading Spells text (Ok commands) = ReadsAsScript Spells text commands
IsScriptReading Spells text (Err (LineLimit count)) = HasManyLines text count
IsScriptReading Spells text (Err (Line number)) = HasWrongLine Spells text number
IsScriptReading Spells text (Err NoMemory) = ⊥
