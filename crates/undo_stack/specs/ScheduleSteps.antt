-- The reading of a schedule, as the way of the code.
use Rattle.std.specs.Prelude.{ℕ, nat_le, ◌&&◌, if◌then◌else◌, List, [], ◌∷◌, codes, Option, None, Some, Result, ℤ, bytes_eq}
use Rattle.std.specs.Option.{option_map, option_and_then}
use Rattle.kh_types.specs.declared.limits.TheConstants.{WORKERS}
use Rattle.undo_stack.specs.declared.schedule.ScheduleLine.{ScheduleLine}
use Rattle.undo_stack.specs.declared.schedule.ScheduleLine.TheVariants.{Look, Commit, Forget}
use Rattle.undo_stack.specs.declared.stop.ScriptStop.{ScriptStop}
use Rattle.kh_lex.specs.Numerals.{numeral_of, signed_numeral_of}
use Rattle.undo_stack.specs.Steps.{script_reading}

-- the worker that a word names
abbrev pub worker_named : List ℕ → Option ℕ
worker_named word =
    option_and_then (λ worker. if nat_le 1 worker && nat_le worker WORKERS then Some worker else None) (numeral_of 2 word)

-- the block that a word names
abbrev pub block_named : List ℕ → Option ℤ
block_named word = signed_numeral_of 3 word

-- the line of a name and two words
abbrev pub line_of_three : List ℕ → List ℕ → List ℕ → Option ScheduleLine
line_of_three name first second =
    if bytes_eq name (codes "look")
    then option_and_then (λ worker. option_map (Look worker) (block_named second)) (worker_named first)
    else None

-- the line of a name and one word
abbrev pub line_of_two : List ℕ → List ℕ → Option ScheduleLine
line_of_two name first =
    if bytes_eq name (codes "commit") then option_map Commit (worker_named first)
    else if bytes_eq name (codes "forget") then option_map Forget (worker_named first)
    else None

-- the line of a schedule that words spell, if they spell one
abbrev pub schedule_line_of : List (List ℕ) → Option ScheduleLine
schedule_line_of (name ∷ first ∷ second ∷ []) = line_of_three name first second
schedule_line_of (name ∷ first ∷ []) = line_of_two name first
schedule_line_of _ = None

-- what the text of a schedule reads as
abbrev pub schedule_of : List ℕ → Result (List (ℕ × ScheduleLine)) ScriptStop
schedule_of text = script_reading schedule_line_of text
