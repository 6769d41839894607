-- The rows of the core's table: what each event comes to, and the state behind it.
use Rattle.std.specs.Prelude.{◌≡◌, ◌≢◌, ℕ, ◌+◌, ℤ, List, [], ◌∷◌, length, None, Some}
use Rattle.shared_block.specs.BlockHistories.{BlockHistory, IsCopyOf, opening_of}
use Rattle.history_laws.specs.RankSums.{rank_sum}
use Rattle.commit_core.specs.States.{Holding, CoreState, block_at, held_by, holding_of, with_commit, with_held}
use Rattle.commit_core.specs.declared.event.Event.{Event}
use Rattle.commit_core.specs.declared.event.Event.TheVariants.{Look, Commit, Forget}
use Rattle.commit_core.specs.declared.answer.Answer.{Answer}
use Rattle.commit_core.specs.declared.answer.Answer.TheVariants.{Looked, Zero, Committed, Stale, Idle, Forgot, NoBlock}

-- how many turns a block takes: the ranks of all its differentials together, as the cube has them
abbrev pub turns_of : ℕ → BlockHistory → ℕ
turns_of p held = rank_sum p (opening_of p held)

-- a worker looks at the block at j. There is none: NoBlock. Its history has as many pivots as it takes turns: Zero. After both the
-- worker holds nothing. Else Looked, with the length of the history, and the worker holds a copy of the block for some pivot
abbrev pub LooksAt : ℕ → CoreState → ℕ → ℤ → Answer → CoreState → Type 0
LooksAt p before worker j NoBlock after = (block_at before j ≡ None) × (after ≡ with_held before worker None)
LooksAt p before worker j Zero after =
    (held : BlockHistory) × (block_at before j ≡ Some held) × (length held.history ≡ turns_of p held)
    × (after ≡ with_held before worker None)
LooksAt p before worker j (Looked version) after =
    (held : BlockHistory) × (block_at before j ≡ Some held) × (length held.history ≢ turns_of p held)
    × (version ≡ length held.history)
    × ((copy : _) × IsCopyOf p held copy × (after ≡ with_held before worker (Some (holding_of j copy))))
LooksAt p before worker j (Committed version) after = ⊥
LooksAt p before worker j (Stale looked now) after = ⊥
LooksAt p before worker j Idle after = ⊥
LooksAt p before worker j Forgot after = ⊥

-- a worker commits. It holds nothing: Idle, and nothing changes. The version of its copy is not the length of the block's history:
-- Stale, with both. Else Committed, with one more, and its pivot stands at the end of the history. After both it holds nothing
abbrev pub Commits : CoreState → ℕ → Answer → CoreState → Type 0
Commits before worker Idle after = (held_by before worker ≡ None) × (after ≡ before)
Commits before worker (Stale looked now) after =
    (held : Holding) × (block : BlockHistory) × (held_by before worker ≡ Some held) × (block_at before held.block ≡ Some block)
    × (looked ≡ held.copy.version) × (now ≡ length block.history) × (looked ≢ now) × (after ≡ with_held before worker None)
Commits before worker (Committed version) after =
    (held : Holding) × (block : BlockHistory) × (held_by before worker ≡ Some held) × (block_at before held.block ≡ Some block)
    × (held.copy.version ≡ length block.history) × (version ≡ length block.history + 1)
    × (after ≡ with_held (with_commit before held.block held.copy.parts.pivot) worker None)
Commits before worker NoBlock after = ⊥
Commits before worker Zero after = ⊥
Commits before worker (Looked version) after = ⊥
Commits before worker Forgot after = ⊥

-- a worker forgets what it holds: Forgot, or Idle where it holds nothing
abbrev pub Forgets : CoreState → ℕ → Answer → CoreState → Type 0
Forgets before worker Forgot after = ((held : Holding) × (held_by before worker ≡ Some held)) × (after ≡ with_held before worker None)
Forgets before worker Idle after = (held_by before worker ≡ None) × (after ≡ before)
Forgets before worker NoBlock after = ⊥
Forgets before worker Zero after = ⊥
Forgets before worker (Looked version) after = ⊥
Forgets before worker (Stale looked now) after = ⊥
Forgets before worker (Committed version) after = ⊥

-- an event comes to an answer and a state
abbrev pub ComesTo : ℕ → CoreState → Event → Answer → CoreState → Type 0
ComesTo p before (Look worker j hint) answer after = LooksAt p before worker j answer after
ComesTo p before (Commit worker) answer after = Commits before worker answer after
ComesTo p before (Forget worker) answer after = Forgets before worker answer after

-- events come to answers, one after another, and to a state at their end
abbrev pub IsCoreRun : ℕ → CoreState → List Event → List Answer → CoreState → Type 0
IsCoreRun p before [] [] after = after ≡ before
IsCoreRun p before [] (answer ∷ answers) after = ⊥
IsCoreRun p before (event ∷ events) [] after = ⊥
IsCoreRun p before (event ∷ events) (answer ∷ answers) after =
    (middle : CoreState) × ComesTo p before event answer middle × IsCoreRun p middle events answers after
