-- The lines of a schedule: `look W J`, `commit W` and `forget W`.
use Rattle.std.specs.Prelude.{◌≡◌, ℕ, ◌≤◌, List, [], ◌∷◌, codes, ℤ, Result}
use Rattle.kh_types.specs.declared.limits.TheConstants.{WORKERS}
use Rattle.undo_stack.specs.declared.schedule.ScheduleLine.{ScheduleLine}
use Rattle.undo_stack.specs.declared.schedule.ScheduleLine.TheVariants.{Look, Commit, Forget}
use Rattle.undo_stack.specs.declared.stop.ScriptStop.{ScriptStop}
use Rattle.kh_lex.specs.Numerals.{WritesNumber, WritesSigned}
use Rattle.undo_stack.specs.Reading.{IsScriptReading}

-- a word names a worker: one or two digits, and the number is one of a worker, from 1 on
pub record NamesWorker (word : List ℕ) (worker : ℕ) : Type 0 where
  pub written : WritesNumber 2 word worker
  pub from_one : 1 ≤ worker
  pub within : worker ≤ WORKERS

-- a word names a block by its quantum degree: one to three digits, with an optional minus sign before them
abbrev pub NamesBlock : List ℕ → ℤ → Type 0
NamesBlock word block = WritesSigned 3 word block

-- words spell a line of a schedule: they are `look`, a word that names its worker and a word that names its block; or `commit`
-- or `forget`, and a word that names its worker
abbrev pub SpellsLine : List (List ℕ) → ScheduleLine → Type 0
SpellsLine words (Look worker block) =
    (first second : List ℕ) × (words ≡ codes "look" ∷ first ∷ second ∷ []) × NamesWorker first worker × NamesBlock second block
SpellsLine words (Commit worker) = (first : List ℕ) × (words ≡ codes "commit" ∷ first ∷ []) × NamesWorker first worker
SpellsLine words (Forget worker) = (first : List ℕ) × (words ≡ codes "forget" ∷ first ∷ []) × NamesWorker first worker

-- what the reading of the text of a schedule comes to
abbrev pub IsSchedule : List ℕ → Result (List (ℕ × ScheduleLine)) ScriptStop → Type 0
IsSchedule text reading = IsScriptReading SpellsLine text reading

-- the worker of a line
abbrev pub worker_in : ScheduleLine → ℕ
worker_in (Look worker block) = worker
worker_in (Commit worker) = worker
worker_in (Forget worker) = worker

-- the worker of a line with its number is one that there is, from 1 on
abbrev pub HasWorker : ℕ × ScheduleLine → Type 0
HasWorker line = (1 ≤ worker_in line.1) × (worker_in line.1 ≤ WORKERS)
