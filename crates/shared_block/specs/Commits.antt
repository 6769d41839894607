-- What a commit to a block answers, and what it leaves.
use Rattle.std.specs.Prelude.{◌≡◌, ◌≢◌, ℕ, ◌+◌, [], ◌∷◌, ◌++◌, length, nat_eq, Bool, not}
use Rattle.kh_types.specs.Complex.{Complex, Pivot, entry_of}
use Rattle.sparse_block.specs.Least.{IsLeast}
use Rattle.cancel_step.specs.Foreign.{ShowsAt}
use Rattle.shared_block.specs.BlockHistories.{BlockCopy, BlockHistory, block_with, complex_of}
use Rattle.shared_block.specs.declared.commit_answer.CommitAnswer.{CommitAnswer}
use Rattle.shared_block.specs.declared.commit_answer.CommitAnswer.TheVariants.{Committed, Stale, Foreign}

-- the block with one more pivot at the end of its history; diagram and degree stay
abbrev pub with_pivot : BlockHistory → Pivot → BlockHistory
with_pivot held pivot = block_with held.diagram held.degree (held.history ++ pivot ∷ [])

-- whether a pivot is an entry other than 0; past the places of its degrees a complex has the entry 0
abbrev pub is_pivot : Complex → Pivot → Bool
is_pivot complex pivot = not (nat_eq (entry_of complex pivot.degree pivot.row pivot.column) 0)

-- the answer is Stale
abbrev pub IsStale : CommitAnswer → Type 0
IsStale (Committed version) = ⊥
IsStale (Stale looked now) = Unit {0}
IsStale (Foreign degree column) = ⊥

-- the answer is Foreign
abbrev pub IsForeignAnswer : CommitAnswer → Type 0
IsForeignAnswer (Committed version) = ⊥
IsForeignAnswer (Stale looked now) = ⊥
IsForeignAnswer (Foreign degree column) = Unit {0}

-- the copy was made at another version than that of the block
abbrev pub IsOld : BlockHistory → BlockCopy → Type 0
IsOld held copy = copy.version ≢ length held.history

-- Committed: the pivot stands at the end of the history, and the version is one more. Stale: the version of the copy and that of
-- the block are told. Foreign: the degree of the pivot and the least column at which a difference shows are told. After both the
-- block is unchanged
abbrev pub Answers : ℕ → BlockHistory → BlockCopy → CommitAnswer → BlockHistory → Type 0
Answers p before copy (Committed version) after =
    (after ≡ with_pivot before copy.parts.pivot) × (version ≡ length before.history + 1)
Answers p before copy (Stale looked now) after =
    (after ≡ before) × (looked ≡ copy.version) × (now ≡ length before.history)
Answers p before copy (Foreign degree column) after =
    (after ≡ before) × (degree ≡ copy.parts.pivot.degree) × IsLeast (ShowsAt copy.parts (complex_of p before)) column
