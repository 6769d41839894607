-- The parts of an event: what is seen at a quantum degree, and what a commit to it leaves.
use Rattle.std.specs.Prelude.{◌≡◌, ◌≢◌, ℕ, ◌+◌, ◌<◌, ℤ, length, slice_index_or, Option, None, Some}
use Rattle.shared_block.specs.BlockHistories.{BlockCopy, BlockHistory, IsCopyOf}
use Rattle.shared_block.specs.declared.commit_answer.CommitAnswer.{CommitAnswer}
use Rattle.shared_block.specs.declared.commit_answer.CommitAnswer.TheVariants.{Committed as BlockCommitted, Stale as BlockStale, Foreign as BlockForeign}
use Rattle.commit_core.specs.Rows.{turns_of}
use Rattle.commit_core.specs.States.{CoreState, block_at, with_commit}
use Rattle.commit_core.specs.declared.answer.Answer.{Answer}
use Rattle.commit_core.specs.declared.answer.Answer.TheVariants.{Looked, Zero, Committed, Stale, Idle, Forgot, NoBlock}

-- the block at a quantum degree stands at a place of the list of blocks
pub record IsBlockAt (state : CoreState) (j : ℤ) (place : ℕ) : Type 0 where
  pub block : BlockHistory
  pub there : block_at state j ≡ Some block
  pub below : place < length state.blocks
  pub is : (d : BlockHistory) → slice_index_or state.blocks place d ≡ block

-- what is seen at a quantum degree: no block; a block that has had all its turns; or a copy of the block for some pivot
abbrev pub IsSight : ℕ → CoreState → ℤ → Option (Option BlockCopy) → Type 0
IsSight p state j None = block_at state j ≡ None
IsSight p state j (Some None) =
    (held : BlockHistory) × (block_at state j ≡ Some held) × (length held.history ≡ turns_of p held)
IsSight p state j (Some (Some copy)) =
    (held : BlockHistory) × (block_at state j ≡ Some held) × (length held.history ≢ turns_of p held) × IsCopyOf p held copy

-- a copy is committed to the block at a quantum degree: Stale, and nothing changes, or Committed, and its pivot stands at the end
-- of the history
abbrev pub CommitsToBlock : CoreState → ℤ → BlockCopy → Answer → CoreState → Type 0
CommitsToBlock before j copy (Stale looked now) after =
    (block : BlockHistory) × (block_at before j ≡ Some block) × (looked ≡ copy.version) × (now ≡ length block.history)
    × (looked ≢ now) × (after ≡ before)
CommitsToBlock before j copy (Committed version) after =
    (block : BlockHistory) × (block_at before j ≡ Some block) × (copy.version ≡ length block.history)
    × (version ≡ length block.history + 1) × (after ≡ with_commit before j copy.parts.pivot)
CommitsToBlock before j copy NoBlock after = ⊥
CommitsToBlock before j copy Zero after = ⊥
CommitsToBlock before j copy (Looked version) after = ⊥
CommitsToBlock before j copy Idle after = ⊥
CommitsToBlock before j copy Forgot after = ⊥

-- a block's answer to a commit, as the core gives it; a block never finds what a worker of the core holds foreign
abbrev pub IsSameAnswer : CommitAnswer → Answer → Type 0
IsSameAnswer (BlockCommitted version) answer = answer ≡ Committed version
IsSameAnswer (BlockStale looked now) answer = answer ≡ Stale looked now
IsSameAnswer (BlockForeign degree column) answer = ⊥
