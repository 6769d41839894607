-- What a log of cancellations comes to: the table that it proves, or the first line that fails, and why.
use Rattle.std.specs.Prelude.{◌≡◌, ◌≢◌, ◌<◌, ◌≤◌, ◌⊎◌, ℕ, ◌+◌, List, [], ◌∷◌, ◌++◌, length, take, slice_get, All, IsTrue, Result, Ok, Err}
use Rattle.kh_types.specs.Acceptance.{accepted}
use Rattle.kh_types.specs.Code.{Code}
use Rattle.kh_types.specs.Table.{Table, table}
use Rattle.kh_types.specs.declared.limits.TheConstants.{INPUT_BYTES}
use Rattle.prime_field.specs.Residues.{IsSmallPrime}
use Rattle.kh_lex.specs.Lines.{CutsLines}
use Rattle.pd_code.specs.Reading.{ReadsAsPd}
use Rattle.circle_smoothing.specs.GeneratorCounts.{generator_count}
use Rattle.circle_smoothing.specs.declared.limits.TheConstants.{GENERATORS}
use Rattle.cube_signs.specs.Blocks.{block_degrees}
use Rattle.shared_block.specs.AllBlocks.{IsFinished, degrees_of_blocks}
use Rattle.shared_block.specs.BlockHistories.{BlockHistory}
use Rattle.cancel_log.specs.LogLines.{Says, close_line, field_line, log_line, table_lines_of}
use Rattle.cancel_log.specs.LogBlocks.{IsWrong, Stand, lines_of_blocks}
use Rattle.cancel_log.specs.declared.cause.LogCause.{LogCause}
use Rattle.cancel_log.specs.declared.cause.LogCause.TheVariants as causes
use Rattle.cancel_log.specs.declared.line.LogLine.{LogLine}
use Rattle.cancel_log.specs.declared.stop.LogStop.{LogStop}
use Rattle.cancel_log.specs.declared.stop.LogStop.TheVariants.{Line, SizeLimit, NoMemory}

-- a text reads as a planar diagram, and the code is accepted
pub record NamesDiagram (text : List ℕ) (code : Code) : Type 0 where
  pub few : length text ≤ INPUT_BYTES
  pub reads : ReadsAsPd text code
  pub accepted : IsTrue (accepted code)

-- lines begin as a log: `log 1`, a text that names a diagram, and `field P`; then come others
pub record BeginsAsLog (lines : List (List ℕ)) (code : Code) (p : ℕ) (others : List (List ℕ)) : Type 0 where
  pub text : List ℕ
  pub diagram : NamesDiagram text code
  pub field : IsSmallPrime p
  pub parts : lines ≡ log_line ∷ text ∷ field_line p ∷ others

-- the first line is not `log 1`
abbrev pub LacksLogLine : List (List ℕ) → Type 0
LacksLogLine lines = (others : List (List ℕ)) → lines ≢ log_line ∷ others

-- behind it comes no line, or one that has too many bytes for a diagram's text
pub record LacksShortText (lines : List (List ℕ)) : Type 0 where
  pub others : List (List ℕ)
  pub parts : lines ≡ log_line ∷ others
  pub long : (text : List ℕ) (later : List (List ℕ)) → others ≡ text ∷ later → INPUT_BYTES < length text

-- the second line is short enough, and names no diagram
pub record LacksDiagram (lines : List (List ℕ)) : Type 0 where
  pub text : List ℕ
  pub others : List (List ℕ)
  pub parts : lines ≡ log_line ∷ text ∷ others
  pub few : length text ≤ INPUT_BYTES
  pub none : (code : Code) → ¬ NamesDiagram text code

-- the second line names a diagram, and the third no field
pub record LacksField (lines : List (List ℕ)) : Type 0 where
  pub text : List ℕ
  pub code : Code
  pub others : List (List ℕ)
  pub parts : lines ≡ log_line ∷ text ∷ others
  pub diagram : NamesDiagram text code
  pub none : (p : ℕ) (later : List (List ℕ)) → IsSmallPrime p → others ≢ field_line p ∷ later

-- blocks prove a table: they stand, all of them are cancelled to zero, and none is missing
pub record AreProved (p : ℕ) (code : Code) (blocks : List BlockHistory) : Type 0 where
  pub stand : Stand p code blocks
  pub zero : All (IsFinished p) blocks
  pub degrees : degrees_of_blocks blocks ≡ block_degrees code

-- lines prove the homology table of a diagram, which is within the limit on generators: they are those of all its blocks, each
-- cancelled to zero by a legal history, and behind them those of the table
pub record ProveTable (p : ℕ) (code : Code) (others : List (List ℕ)) : Type 0 where
  pub within : generator_count code ≤ GENERATORS
  pub blocks : List BlockHistory
  pub proved : AreProved p code blocks
  pub parts : others ≡ lines_of_blocks blocks ++ table_lines_of (table p code)

-- a log of a diagram over the field of p elements: it begins as one, and the other lines prove the table
pub record IsLogOf (p : ℕ) (code : Code) (lines : List (List ℕ)) : Type 0 where
  pub others : List (List ℕ)
  pub begins : BeginsAsLog lines code p others
  pub prove : ProveTable p code others

-- a text is a log of a diagram over the field of p elements: the lines that cut it are
pub record IsLog (p : ℕ) (code : Code) (text : List ℕ) : Type 0 where
  pub lines : List (List ℕ)
  pub cut : CutsLines text lines
  pub log : IsLogOf p code lines

-- lines of a diagram within the limit on generators tell of blocks that stand; then come later ones
pub record TellOf (p : ℕ) (code : Code) (others : List (List ℕ)) (blocks : List BlockHistory) (later : List (List ℕ)) : Type 0 where
  pub within : generator_count code ≤ GENERATORS
  pub stand : Stand p code blocks
  pub parts : others ≡ lines_of_blocks blocks ++ later

-- the number of the line behind those of blocks, which begin at the fourth
abbrev pub number_behind : List BlockHistory → ℕ
number_behind blocks = 4 + length (lines_of_blocks blocks)

-- behind blocks that stand, where a line has this number, there is none
pub record EndEarly (p : ℕ) (code : Code) (others : List (List ℕ)) (number : ℕ) : Type 0 where
  pub blocks : List BlockHistory
  pub tell : TellOf p code others blocks []
  pub numbered : number ≡ number_behind blocks

-- behind blocks that stand, a line with this number is wrong, for this cause
pub record HaveWrongLine (p : ℕ) (code : Code) (others : List (List ℕ)) (number : ℕ) (cause : LogCause) : Type 0 where
  pub blocks : List BlockHistory
  pub line : List ℕ
  pub later : List (List ℕ)
  pub tell : TellOf p code others blocks (line ∷ later)
  pub said : LogLine
  pub says : Says line said
  pub wrong : IsWrong p code blocks said cause
  pub numbered : number ≡ number_behind blocks

-- two lists of lines are the same up to a place, and there they differ, or one has a line and the other none
pub record DifferFirst (lines others : List (List ℕ)) (place : ℕ) : Type 0 where
  pub before : take place lines ≡ take place others
  pub differ : slice_get lines place ≢ slice_get others place

-- behind blocks that prove a table, lines begin as one, and where a line has this number they are first not those of that table
pub record HaveWrongTable (p : ℕ) (code : Code) (others : List (List ℕ)) (number : ℕ) : Type 0 where
  pub blocks : List BlockHistory
  pub later : List (List ℕ)
  pub tell : TellOf p code others blocks (close_line ∷ later)
  pub proved : AreProved p code blocks
  pub place : ℕ
  pub first : DifferFirst (close_line ∷ later) (table_lines_of (table p code)) place
  pub numbered : number ≡ number_behind blocks + place

-- one of the first three lines fails, the first that does
abbrev pub FailsAtStart : List (List ℕ) → Result Table LogStop → Type 0
FailsAtStart lines (Err (Line number causes.Text)) =
    ((number ≡ 1) × LacksLogLine lines) ⊎ (((number ≡ 2) × LacksShortText lines) ⊎ ((number ≡ 3) × LacksField lines))
FailsAtStart lines (Err (Line number causes.Diagram)) = (number ≡ 2) × LacksDiagram lines
FailsAtStart lines verdict = ⊥

-- what the lines from the fourth on come to, in a log of this diagram and field: they prove the table; the diagram has too many
-- generators, so many; or a line fails
abbrev pub IsVerdictBehind : ℕ → Code → List (List ℕ) → Result Table LogStop → Type 0
IsVerdictBehind p code others (Ok homology) = ProveTable p code others × (homology ≡ table p code)
IsVerdictBehind p code others (Err (SizeLimit generators)) = (generators ≡ generator_count code) × (GENERATORS < generators)
IsVerdictBehind p code others (Err (Line number causes.Text)) =
    EndEarly p code others number ⊎ HaveWrongLine p code others number causes.Text
IsVerdictBehind p code others (Err (Line number causes.Table)) = HaveWrongTable p code others number
IsVerdictBehind p code others (Err (Line number cause)) = HaveWrongLine p code others number cause
IsVerdictBehind p code others (Err NoMemory) = ⊥

-- lines begin as a log, and those from the fourth on come to this
pub record GoesOn (lines : List (List ℕ)) (verdict : Result Table LogStop) : Type 0 where
  pub code : Code
  pub p : ℕ
  pub others : List (List ℕ)
  pub begins : BeginsAsLog lines code p others
  pub behind : IsVerdictBehind p code others verdict

-- what the lines of a log come to: one of the first three fails, or they go on; running out of memory is no verdict
abbrev pub IsVerdictOn : List (List ℕ) → Result Table LogStop → Type 0
IsVerdictOn lines verdict = FailsAtStart lines verdict ⊎ GoesOn lines verdict

-- what the text of a log comes to, by the lines that cut it
pub record IsVerdict (text : List ℕ) (verdict : Result Table LogStop) : Type 0 where
  pub lines : List (List ℕ)
  pub cut : CutsLines text lines
  pub reached : IsVerdictOn lines verdict
