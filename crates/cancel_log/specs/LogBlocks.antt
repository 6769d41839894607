-- The blocks of a log: what its lines tell of them, and which line can not follow.
use Rattle.std.specs.Prelude.{◌≡◌, ◌≢◌, ℕ, ◌-◌, ℤ, List, [], ◌∷◌, ◌++◌, length, map, take, All}
use Rattle.std.specs.List.{flat_map}
use mathlib.Core.List.{IsPrefix}
use Rattle.kh_types.specs.Code.{Code}
use Rattle.kh_types.specs.Complex.{IsPivot, Pivot}
use Rattle.cube_signs.specs.Blocks.{block_degrees}
use Rattle.shared_block.specs.AllBlocks.{IsFinished, degrees_of_blocks}
use Rattle.shared_block.specs.BlockHistories.{BlockHistory, HasLegalHistory, complex_of}
use Rattle.cancel_log.specs.LogLines.{IsShortDegree, IsShortPivot, block_line, cancel_line}
use Rattle.cancel_log.specs.declared.cause.LogCause.{LogCause}
use Rattle.cancel_log.specs.declared.cause.LogCause.TheVariants.{Text, Open, Block, Entry}
use Rattle.cancel_log.specs.declared.line.LogLine.{LogLine}
use Rattle.cancel_log.specs.declared.line.LogLine.TheVariants.{Cancel, Begin, Close, Other}

-- the lines that tell of a block: that of its quantum degree, then one for each pivot of its history
abbrev pub block_lines : BlockHistory → List (List ℕ)
block_lines held = block_line held.degree ∷ map cancel_line held.history

-- the lines that tell of blocks, one after another
abbrev pub lines_of_blocks : List BlockHistory → List (List ℕ)
lines_of_blocks blocks = flat_map block_lines blocks

-- the numbers of a block have as many digits as lines have room for, or fewer
pub record IsShortBlock (held : BlockHistory) : Type 0 where
  pub degree : IsShortDegree held.degree
  pub history : All IsShortPivot held.history

-- all blocks but the last
abbrev pub earlier_blocks : List BlockHistory → List BlockHistory
earlier_blocks blocks = take (length blocks - 1) blocks

-- blocks stand: they are blocks of the diagram, at its quantum degrees from the first on; each history is legal from the block
-- of the cube, and leaves it zero in all blocks but the last; and their numbers are short enough for their lines
pub record Stand (p : ℕ) (code : Code) (blocks : List BlockHistory) : Type 0 where
  pub diagram : All (λ held. held.diagram ≡ code) blocks
  pub degrees : IsPrefix (degrees_of_blocks blocks) (block_degrees code)
  pub short : All IsShortBlock blocks
  pub legal : All (HasLegalHistory p) blocks
  pub earlier : All (IsFinished p) (earlier_blocks blocks)

-- the block at j is the next: behind the degrees of the blocks comes j
abbrev pub IsNextDegree : Code → List BlockHistory → ℤ → Type 0
IsNextDegree code blocks j = IsPrefix (degrees_of_blocks blocks ++ j ∷ []) (block_degrees code)

-- a pivot is an entry other than 0 of what the history of the last block leaves
pub record IsLastPivot (p : ℕ) (blocks : List BlockHistory) (pivot : Pivot) : Type 0 where
  pub before : List BlockHistory
  pub last : BlockHistory
  pub parts : blocks ≡ before ++ last ∷ []
  pub entry : IsPivot (complex_of p last) pivot

-- what a line says is wrong behind blocks that stand. Text: it says nothing that a line can say; or no block has begun, and it
-- cancels, or closes though the diagram has blocks. Open: it begins a block or closes, and not all blocks are cancelled to zero.
-- Block: they are, and it begins another block than the next, or closes where one is missing. Entry: it cancels no entry other than 0
abbrev pub IsWrong : ℕ → Code → List BlockHistory → LogLine → LogCause → Type 0
IsWrong p code blocks Other Text = Unit {0}
IsWrong p code blocks (Cancel pivot) Text = blocks ≡ []
IsWrong p code blocks (Cancel pivot) Entry = (blocks ≢ []) × ¬ IsLastPivot p blocks pivot
IsWrong p code blocks (Begin j) Open = ¬ All (IsFinished p) blocks
IsWrong p code blocks (Begin j) Block = All (IsFinished p) blocks × ¬ IsNextDegree code blocks j
IsWrong p code blocks Close Text = (blocks ≡ []) × (block_degrees code ≢ [])
IsWrong p code blocks Close Open = ¬ All (IsFinished p) blocks
IsWrong p code blocks Close Block = (blocks ≢ []) × All (IsFinished p) blocks × (degrees_of_blocks blocks ≢ block_degrees code)
IsWrong p code blocks said cause = ⊥
