-- A block, some pivots of whose history the lines of a log have named, as the way of the code.
use Rattle.std.specs.Prelude.{◌≡◌, ℕ, ◌<◌, ◌≤◌, length, take}
use Rattle.std.specs.List.{Contains}
use Rattle.kh_types.specs.Code.{Code}
use Rattle.cube_signs.specs.Blocks.{block_degrees}
use Rattle.shared_block.specs.AllBlocks.{IsFinished}
use Rattle.shared_block.specs.BlockHistories.{BlockHistory, block_with}

-- the block with the first so many pivots of its history
abbrev pub named_of : BlockHistory → ℕ → BlockHistory
named_of held named = block_with held.diagram held.degree (take named held.history)

-- lines have named so many pivots of a block's history: it is a block of the diagram, and where they have not named all, the
-- history leaves it zero
pub record IsNamedSoFar (p : ℕ) (code : Code) (held : BlockHistory) (named : ℕ) : Type 0 where
  pub diagram : held.diagram ≡ code
  pub degree : Contains (block_degrees code) held.degree
  pub few : named ≤ length held.history
  pub ahead : named < length held.history → IsFinished p held
