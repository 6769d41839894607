-- What the first lines of a log can lack, as the way of the code.
use Rattle.std.specs.Prelude.{◌≡◌, ◌≢◌, ◌<◌, ◌≤◌, ℕ, List, ◌∷◌, length, Option, None, Some}
use Rattle.kh_types.specs.Code.{Code}
use Rattle.kh_types.specs.declared.limits.TheConstants.{INPUT_BYTES}
use Rattle.prime_field.specs.Residues.{IsSmallPrime}
use Rattle.cancel_log.specs.LinesLeft.{LinesLeft, TakesLine}
use Rattle.cancel_log.specs.LogLines.{field_line}
use Rattle.cancel_log.specs.Verdicts.{NamesDiagram}
use Rattle.cancel_log.specs.declared.cause.LogCause.TheVariants as causes
use Rattle.cancel_log.specs.declared.stop.LogStop.{LogStop}
use Rattle.cancel_log.specs.declared.stop.LogStop.TheVariants.{Line}

-- the field whose line a line is, if there is one
abbrev pub IsFieldLine : List ℕ → Option ℕ → Type 0
IsFieldLine line (Some field) = IsSmallPrime field × (line ≡ field_line field)
IsFieldLine line None = (field : ℕ) → IsSmallPrime field → line ≢ field_line field

-- the next line is that of no field
abbrev pub LacksFieldLine : List (List ℕ) → Type 0
LacksFieldLine lines = (p : ℕ) (later : List (List ℕ)) → IsSmallPrime p → lines ≢ field_line p ∷ later

-- the line that is taken names a diagram
pub record NamesNext (old new : LinesLeft) (code : Code) : Type 0 where
  pub text : List ℕ
  pub taken : TakesLine old text new
  pub names : NamesDiagram text code

-- the next line names no diagram, though it has few enough bytes
pub record NamesNone (lines : List (List ℕ)) : Type 0 where
  pub text : List ℕ
  pub others : List (List ℕ)
  pub parts : lines ≡ text ∷ others
  pub few : length text ≤ INPUT_BYTES
  pub none : (code : Code) → ¬ NamesDiagram text code

-- no line is next that has few enough bytes
abbrev pub LacksFewBytes : List (List ℕ) → Type 0
LacksFewBytes lines = (text : List ℕ) (later : List (List ℕ)) → lines ≡ text ∷ later → INPUT_BYTES < length text

-- why no diagram was taken, as it is told
abbrev pub LacksDiagramLine : List (List ℕ) → LogStop → Type 0
LacksDiagramLine lines (Line number causes.Text) = (number ≡ 2) × LacksFewBytes lines
LacksDiagramLine lines (Line number causes.Diagram) = (number ≡ 2) × NamesNone lines
LacksDiagramLine lines stop = ⊥
