-- The blocks of a diagram together, with what has been cancelled in each.
use Rattle.std.specs.Prelude.{◌≡◌, ℕ, ℤ, List, [], map, true, All}
use mathlib.Core.List.{IsPrefix}
use Rattle.kh_types.specs.Code.{Code}
use Rattle.kh_types.specs.Complex.{is_zero}
use Rattle.cube_signs.specs.Blocks.{block_degrees}
use Rattle.shared_block.specs.BlockHistories.{BlockHistory, block_with, complex_of}

-- the blocks of a diagram before any cancellation: one for each quantum degree that has a generator, ascending
abbrev pub opening_blocks : Code → List BlockHistory
opening_blocks code = map (λ j. block_with code j []) (block_degrees code)

-- the quantum degrees of blocks, one after another
abbrev pub degrees_of_blocks : List BlockHistory → List ℤ
degrees_of_blocks blocks = map (λ held. held.degree) blocks

-- blocks are those of a diagram, whatever was cancelled in them: each is a block of this diagram, and their degrees are the quantum
-- degrees that have a generator, ascending
pub record AreBlocksOf (code : Code) (blocks : List BlockHistory) : Type 0 where
  pub diagram : All (λ held. held.diagram ≡ code) blocks
  pub degrees : degrees_of_blocks blocks ≡ block_degrees code

-- a block after some cancellations, or none: diagram and degree stay, and the history goes on
pub record IsLaterOf (before after : BlockHistory) : Type 0 where
  pub diagram : after.diagram ≡ before.diagram
  pub degree : after.degree ≡ before.degree
  pub history : IsPrefix before.history after.history

-- the history leaves no entry other than 0 in the block
abbrev pub IsFinished : ℕ → BlockHistory → Type 0
IsFinished p held = is_zero (complex_of p held) ≡ true
