-- Where the reading of a log's blocks stands, and what a line does there, as the way of the code.
use Rattle.std.specs.Prelude.{◌≡◌, ℕ, ◌+◌, ℤ, pos, List, [], ◌∷◌, ◌++◌, length, nat_eq, nat_lt, Bool, true, false, ◌&&◌, if◌then◌else◌, slice_index_or, Option, None, Some, Result, Ok, Err}
use Rattle.std.specs.Ordering.{int_eq}
use Rattle.kh_types.specs.Code.{Code}
use Rattle.kh_types.specs.Complex.{Pivot, is_zero}
use Rattle.kh_types.specs.Table.{Row, rows_at}
use Rattle.cube_signs.specs.Blocks.{block_degrees}
use Rattle.shared_block.specs.BlockHistories.{BlockHistory, HasLegalHistory, block_with, complex_of}
use Rattle.shared_block.specs.Commits.{is_pivot, with_pivot}
use Rattle.cancel_log.specs.LinesLeft.{LinesLeft}
use Rattle.cancel_log.specs.LogBlocks.{lines_of_blocks}
use Rattle.cancel_log.specs.LogLines.{close_line}
use Rattle.cancel_log.specs.Verdicts.{AreProved, number_behind}
use Rattle.cancel_log.specs.declared.cause.LogCause.{LogCause}
use Rattle.cancel_log.specs.declared.cause.LogCause.TheVariants.{Text, Block, Entry, Open}
use Rattle.cancel_log.specs.declared.line.LogLine.{LogLine}
use Rattle.cancel_log.specs.declared.line.LogLine.TheVariants.{Cancel, Begin, Close, Other}

-- how many blocks have begun, the last of them with its history so far, and the table's rows of those before it
pub record Standing : Type 0 where
  pub begun : ℕ
  pub current : Option BlockHistory
  pub rows : List Row

-- before the first block
abbrev pub standing_first : Standing
standing_first = record { begun = 0; current = None; rows = [] }

-- rows, with those of the last block
abbrev pub rows_and : ℕ → List Row → Option BlockHistory → List Row
rows_and p rows None = rows
rows_and p rows (Some held) = rows ++ rows_at p held.diagram held.degree

-- whether the last block is cancelled to zero, or none has begun
abbrev pub is_closed : ℕ → Option BlockHistory → Bool
is_closed p None = true
is_closed p (Some held) = is_zero (complex_of p held)

-- a line that cancels
abbrev pub cancel_in : ℕ → Standing → Pivot → Option BlockHistory → Result Standing LogCause
cancel_in p standing pivot None = Err Text
cancel_in p standing pivot (Some held) =
    if is_pivot (complex_of p held) pivot then Ok (record standing { current = Some (with_pivot held pivot) }) else Err Entry

-- whether j is the quantum degree of the next block
abbrev pub is_next : Code → ℕ → ℤ → Bool
is_next code begun j =
    nat_lt begun (length (block_degrees code)) && int_eq (slice_index_or (block_degrees code) begun (pos 0)) j

-- a line that begins a block
abbrev pub begin_in : ℕ → Code → Standing → ℤ → Result Standing LogCause
begin_in p code standing j =
    if is_closed p standing.current
    then if is_next code standing.begun j
    then Ok (record {
      begun = standing.begun + 1;
      current = Some (block_with code j []);
      rows = rows_and p standing.rows standing.current;
    })
    else Err Block
    else Err Open

-- whether all blocks have begun
abbrev pub is_last : Code → ℕ → Bool
is_last code begun = nat_eq begun (length (block_degrees code))

-- a line that closes
abbrev pub close_in : ℕ → Code → Standing → Option BlockHistory → Result Standing LogCause
close_in p code standing None = if is_last code standing.begun then Ok standing else Err Text
close_in p code standing (Some held) =
    if is_zero (complex_of p held)
    then if is_last code standing.begun
    then Ok (record { begun = standing.begun; current = None; rows = rows_and p standing.rows (Some held) })
    else Err Block
    else Err Open

-- what a line does
abbrev pub step : ℕ → Code → Standing → LogLine → Result Standing LogCause
step p code standing (Cancel pivot) = cancel_in p standing pivot standing.current
step p code standing (Begin j) = begin_in p code standing j
step p code standing Close = close_in p code standing standing.current
step p code standing Other = Err Text

-- what the code of a line answers: the cause, if it fails, and then nothing has changed
abbrev pub Does : Result Standing LogCause → Standing → Option LogCause → Standing → Type 0
Does (Ok next) old fault new = (fault ≡ None) × (new ≡ next)
Does (Err cause) old fault new = (fault ≡ Some cause) × (new ≡ old)

-- whether a line closes the blocks
abbrev pub is_close : LogLine → Bool
is_close (Cancel pivot) = false
is_close (Begin j) = false
is_close Close = true
is_close Other = false

-- lines tell of blocks that prove a table, and the line behind them closes; what is left comes behind it
pub record HasProved (p : ℕ) (code : Code) (others : List (List ℕ)) (left : LinesLeft) : Type 0 where
  pub blocks : List BlockHistory
  pub proved : AreProved p code blocks
  pub parts : others ≡ lines_of_blocks blocks ++ close_line ∷ left.rest
  pub numbered : left.number ≡ number_behind blocks + 1

-- a block is that of a diagram at a quantum degree, cancelled to zero by a legal history
pub record IsFinishedBlock (p : ℕ) (code : Code) (j : ℤ) (held : BlockHistory) : Type 0 where
  pub diagram : held.diagram ≡ code
  pub degree : held.degree ≡ j
  pub zero : is_zero (complex_of p held) ≡ true
  pub legal : HasLegalHistory p held
