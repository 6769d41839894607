-- The command that words mean.
use Rattle.std.specs.Prelude.{◌≡◌, ℕ, List, [], ◌∷◌, ◌++◌, None}
use Rattle.word_line.specs.declared.command.Command.{Command}
use Rattle.word_line.specs.declared.command.Form.TheVariants.{Pd}
use Rattle.word_line.specs.Pieces.{Piece, IsLine, positionals}
use Rattle.word_line.specs.Pieces as key
use Rattle.word_line.specs.Values.{HasMark, HasNumber, IsGiven, NamesField, NamesForm, NamesMark, NamesNumber, NamesWorkers, task_name, values_in}

-- words mean a command: they are a line whose one positional is the name of its task, and which gives each option at most once, a
-- value that says what the command has; without an option the field has 2 elements, there is 1 worker, the form is that of planar
-- diagram texts, and there is no number and no mark; `bench` has a number, and `reduced` a mark
pub record IsCommand (words : List (List ℕ)) (command : Command) : Type 0 where
  pub pieces : List Piece
  pub behind : List (List ℕ)
  pub line : IsLine words pieces behind
  pub task : positionals pieces ++ behind ≡ task_name command.task ∷ []
  pub field : IsGiven NamesField 2 (values_in key.field pieces) command.field
  pub workers : IsGiven NamesWorkers 1 (values_in key.workers pieces) command.workers
  pub to : IsGiven NamesForm Pd (values_in key.to pieces) command.to
  pub number : IsGiven NamesNumber None (values_in key.number pieces) command.number
  pub mark : IsGiven NamesMark None (values_in key.mark pieces) command.mark
  pub needed : HasNumber command.task command.number
  pub marked : HasMark command.task command.mark

-- words mean no command
abbrev pub IsUsage : List (List ℕ) → Type 0
IsUsage words = (command : Command) → IsCommand words command → ⊥
