-- The states of the core: a history for each block, and what each worker holds.
use Rattle.std.specs.Prelude.{◌≡◌, ℕ, ◌-◌, ◌≤◌, ℤ, List, length, map, take, replicate, if◌then◌else◌, slice_index_or, slice_set, Option, None, Some, IfSome, All}
use Rattle.std.specs.List.{find}
use Rattle.std.specs.Ordering.{int_eq}
use Rattle.kh_types.specs.Code.{Code}
use Rattle.kh_types.specs.Complex.{Pivot}
use Rattle.shared_block.specs.BlockHistories.{BlockCopy, BlockHistory, HasLegalHistory, IsCopyOf, block_with}
use Rattle.shared_block.specs.Commits.{with_pivot}
use Rattle.shared_block.specs.AllBlocks.{AreBlocksOf, opening_blocks}
use Rattle.commit_core.specs.declared.event.Event.{Event}
use Rattle.commit_core.specs.declared.event.Event.TheVariants.{Look, Commit, Forget}

-- what a worker holds: a copy that it made of the block at a quantum degree
pub record Holding : Type 0 where
  pub block : ℤ
  pub copy : BlockCopy

-- these two
abbrev pub holding_of : ℤ → BlockCopy → Holding
holding_of j copy = record { block = j; copy = copy }

-- the diagram, a block for each quantum degree that has a generator, ascending, and for each worker, from worker 1 on, what it holds
pub record CoreState : Type 0 where
  pub diagram : Code
  pub blocks : List BlockHistory
  pub workers : List (Option Holding)

-- these three
abbrev pub state_of : Code → List BlockHistory → List (Option Holding) → CoreState
state_of code blocks workers = record { diagram = code; blocks = blocks; workers = workers }

-- at first no block has a history, and no worker holds anything
abbrev pub opening_state : Code → ℕ → CoreState
opening_state code workers = state_of code (opening_blocks code) (replicate workers None)

-- the block at a quantum degree, if there is one
abbrev pub block_at : CoreState → ℤ → Option BlockHistory
block_at state j = find (λ held. int_eq held.degree j) state.blocks

-- what a worker holds
abbrev pub held_by : CoreState → ℕ → Option Holding
held_by state worker = slice_index_or state.workers (worker - 1) None

-- the worker holds this from now on, and all else stays
abbrev pub with_held : CoreState → ℕ → Option Holding → CoreState
with_held state worker held = state_of state.diagram state.blocks (slice_set state.workers (worker - 1) held)

-- the history of the block at a quantum degree has one more pivot at its end, and all else stays
abbrev pub with_commit : CoreState → ℤ → Pivot → CoreState
with_commit state j pivot =
    state_of state.diagram (map (λ held. if int_eq held.degree j then with_pivot held pivot else held) state.blocks) state.workers

-- what a worker holds was copied of the block that the first pivots of its history left, as many as the version of the copy
pub record IsHeldOf (p : ℕ) (state : CoreState) (held : Holding) : Type 0 where
  pub block : BlockHistory
  pub there : block_at state held.block ≡ Some block
  pub earlier : held.copy.version ≤ length block.history
  pub copy_is : IsCopyOf p (block_with block.diagram block.degree (take held.copy.version block.history)) held.copy

-- the worker that an event is of
abbrev pub event_worker : Event → ℕ
event_worker (Look worker j hint) = worker
event_worker (Commit worker) = worker
event_worker (Forget worker) = worker

-- what a core keeps: its blocks are those of the diagram, each with a legal history, and what a worker holds was copied of what the
-- first pivots of its block's history left
pub record IsSound (p : ℕ) (state : CoreState) : Type 0 where
  pub blocks : AreBlocksOf state.diagram state.blocks
  pub legal : All (HasLegalHistory p) state.blocks
  pub holdings : All (λ held. IfSome held (IsHeldOf p state)) state.workers
