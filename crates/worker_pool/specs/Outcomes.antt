-- What the cancellation of all blocks of a diagram comes to.
use Rattle.std.specs.Prelude.{◌≡◌, ℕ, ◌≤◌, ℤ, List, length, map, All, Result, Ok, Err}
use Rattle.std.specs.List.{AllZip, Contains}
use Rattle.kh_types.specs.Code.{Code}
use Rattle.cube_signs.specs.Blocks.{block_degrees}
use Rattle.shared_block.specs.BlockHistories.{BlockHistory, HasLegalHistory}
use Rattle.shared_block.specs.AllBlocks.{AreBlocksOf, IsFinished}
use Rattle.worker_pool.specs.declared.finished.DoneBlock.{DoneBlock}
use Rattle.worker_pool.specs.declared.finished.Finished.{Finished}
use Rattle.worker_pool.specs.declared.outcome.Cancelled.{Cancelled}
use Rattle.worker_pool.specs.declared.outcome.PoolStop.{PoolStop}
use Rattle.worker_pool.specs.declared.outcome.PoolStop.TheVariants.{SizeLimit, NoMemory}

-- out of memory
abbrev pub no_memory : PoolStop
no_memory = NoMemory

-- there are so many generators, more than the limit
abbrev pub size_limit : ℕ → PoolStop
size_limit generators = SizeLimit generators

-- the call stopped at the limit on generators
abbrev pub IsSizeLimit : {A : Type 0} → Result A PoolStop → Type 0
IsSizeLimit (Ok made) = ⊥
IsSizeLimit (Err (SizeLimit generators)) = Unit {0}
IsSizeLimit (Err NoMemory) = ⊥

-- where the call stopped at the limit on generators, it tells this number of them
abbrev pub TellsCount : {A : Type 0} → ℕ → Result A PoolStop → Type 0
TellsCount count (Ok made) = Unit {0}
TellsCount count (Err (SizeLimit generators)) = generators ≡ count
TellsCount count (Err NoMemory) = Unit {0}

-- which block it is: that of this diagram at this quantum degree
abbrev pub origin_of : BlockHistory → Code × ℤ
origin_of held = (held.diagram, held.degree)

-- each is a quantum degree that has a generator
abbrev pub AreDegreesOf : Code → List ℤ → Type 0
AreDegreesOf code degrees = All (Contains (block_degrees code)) degrees

-- blocks are those of a diagram at some quantum degrees, in their order, whatever was cancelled in them
abbrev pub AreBlocksAt : Code → List ℤ → List BlockHistory → Type 0
AreBlocksAt code degrees blocks = map origin_of blocks ≡ map (λ j. (code, j)) degrees

-- no more pivots are counted as by workers than the block's history has
abbrev pub HasCommitted : BlockHistory → ℕ → Type 0
HasCommitted held count = count ≤ length held.history

-- a block is cancelled to zero, and a count of pivots by workers is told, within its history
pub record IsDone {F : Type 0} (p : ℕ) (one : DoneBlock F) : Type 0 where
  pub zero : IsFinished p one.block
  pub counted : HasCommitted one.block one.committed

-- blocks are those of a diagram, each cancelled to zero by a legal history, and for each a count of pivots by workers is told, within
-- its history
pub record AreCancelled {F : Type 0} (p : ℕ) (code : Code) (made : Cancelled F) : Type 0 where
  pub of_diagram : AreBlocksOf code made.blocks.items
  pub zero : All (IsFinished p) made.blocks.items
  pub legal : All (HasLegalHistory p) made.blocks.items
  pub counts : AllZip HasCommitted made.blocks.items made.committed.items

-- each block is cancelled to zero, and for each a count of pivots by workers is told, within its history
pub record AreDone {F : Type 0} (p : ℕ) (done : Finished F) : Type 0 where
  pub zero : All (IsFinished p) done.blocks.items
  pub counts : AllZip HasCommitted done.blocks.items done.committed.items
