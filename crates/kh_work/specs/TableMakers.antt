-- Who makes homology tables.
use Rattle.std.specs.Prelude.{◌≡◌, ℕ, ◌≤◌, Result, IfOk}
use Rattle.std.specs.Fn.{Shared}
use denote.Ref.{Bor}
use Rattle.kh_types.specs.Code.{Code}
use Rattle.kh_types.specs.Table.{Table, table}
use Rattle.kh_types.specs.declared.memory.NoMemory.{NoMemory}
use Rattle.kh_types.specs.declared.limits.TheConstants.{WORKERS}

-- from 2 to WORKERS workers, who may have to wait for each other
abbrev pub AreSeveral : ℕ → Type 0
AreSeveral count = (2 ≤ count) × (count ≤ WORKERS)

-- a maker may be called with a field, several workers and a small diagram (that the number is one of a field, and the diagram small, its
-- argument types say), and whatever table it makes is the homology table of the diagram over the field. For one worker it may not be called
pub record IsTableMaker {M : Type 0} (calls : Shared M (ℕ × (ℕ × (Bor Code × Unit {0}))) (Result Table NoMemory)) (maker : M) : Type 0 where
  pub may_be_called : (field workers : ℕ) (small : Bor Code) → AreSeveral workers → calls.pre maker (field, (workers, (small, tt)))
  pub makes : (field workers : ℕ) (small : Bor Code) (made : Result Table NoMemory) → AreSeveral workers
      → calls.post maker (field, (workers, (small, tt))) made → IfOk made (λ homology. homology ≡ table field small.now)
