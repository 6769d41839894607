-- Slots for the blocks of a diagram, one at each of some quantum degrees.
use Rattle.std.specs.Prelude.{◌≡◌, ℕ, ◌<◌, ℤ, pos, List, [], length, slice_index_or, All, Option, None, IfSome}
use Rattle.std.specs.List.{AllByRecursion, AllZip}
use Rattle.kh_types.specs.Code.{Code}
use Rattle.shared_block.specs.BlockHistories.{BlockHistory, block_with}
use Rattle.worker_pool.specs.Outcomes.{IsDone, origin_of}
use Rattle.worker_pool.specs.declared.finished.DoneBlock.{DoneBlock}
use Rattle.worker_pool.specs.declared.finished.Finished.{Finished}

-- the slot of a degree has its block, before any cancellation, or nothing yet
abbrev pub IsSlotOf : Code → ℤ → Option BlockHistory → Type 0
IsSlotOf code j slot = IfSome slot (λ held. held ≡ block_with code j [])

-- one slot for each degree, in their order
abbrev pub AreSlotsOf : Code → List ℤ → List (Option BlockHistory) → Type 0
AreSlotsOf code degrees slots = AllZip (IsSlotOf code) degrees slots

-- there are so many slots, with nothing yet
pub record AreEmpty {A : Type 0} (count : ℕ) (slots : List (Option A)) : Type 0 where
  pub size : length slots ≡ count
  pub empty : All (λ slot. slot ≡ None) slots

-- all are blocks of this diagram
abbrev pub AreFrom : Code → List (Code × ℤ) → Type 0
AreFrom code origins = AllByRecursion (λ origin. origin.0 ≡ code) origins

-- the block of a diagram at a degree, cancelled to zero, with a count of pivots by workers
pub record IsDoneBlock {F : Type 0} (p : ℕ) (code : Code) (j : ℤ) (one : DoneBlock F) : Type 0 where
  pub origin : origin_of one.block ≡ (code, j)
  pub done : IsDone p one

-- the slot of a degree has its block, cancelled to zero, or nothing yet
abbrev pub IsDoneSlot : {F : Type 0} → ℕ → Code → ℤ → Option (DoneBlock F) → Type 0
IsDoneSlot p code j slot = IfSome slot (IsDoneBlock p code j)

-- one slot for each degree, in their order
abbrev pub AreDoneSlots : {F : Type 0} → ℕ → Code → List ℤ → List (Option (DoneBlock F)) → Type 0
AreDoneSlots p code degrees slots = AllZip (IsDoneSlot p code) degrees slots

-- a place is that of a block's degree
pub record IsPlaceOf {F : Type 0} (degrees : List ℤ) (place : ℕ) (one : DoneBlock F) : Type 0 where
  pub within : place < length degrees
  pub degree : slice_index_or degrees place (pos 0) ≡ one.block.degree

-- finished blocks have this one at a place, with its count of pivots by workers
pub record HaveAt {F : Type 0} (done : Finished F) (place : ℕ) (one : DoneBlock F) : Type 0 where
  pub within : place < length done.blocks.items
  pub block : slice_index_or done.blocks.items place one.block ≡ one.block
  pub counted : place < length done.committed.items
  pub count : slice_index_or done.committed.items place one.committed ≡ one.committed

-- what is in a slot stands among finished blocks at the place of the slot
abbrev pub StandInOrder : {F : Type 0} → List (Option (DoneBlock F)) → Finished F → Type 0
StandInOrder slots done = (place : ℕ) → IfSome (slice_index_or slots place None) (HaveAt done place)
