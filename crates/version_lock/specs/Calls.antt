-- A lock and its seats as the clauses of the calls see them.
use Rattle.std.specs.Prelude.{◌≡◌, ℕ, ◌<◌, List, [], ◌∷◌, ◌++◌, ◌⊎◌, length, Option, Some}
use mathlib.Core.List.{IsPrefix}
use Rattle.atomic_table.specs.Seated.{TableId}
use Rattle.version_lock.specs.declared.rule.View.{View}
use Rattle.version_lock.specs.declared.commit_seen.CommitSeen.{CommitSeen}
use Rattle.version_lock.specs.declared.commit_seen.CommitSeen.TheVariants.{Committed, Stale}

-- which lock it is, its value's origin, the length of the history that it was made with, and the number of its seats
pub record LockFacts (O : Type 0) : Type 0 where
  pub table : TableId
  pub origin : O
  pub first : ℕ
  pub seats : ℕ

-- whose seat it is, the history so far as it was seen, the places of its own entries, and how many seats it stands for
pub record SeatFacts (O E : Type 0) : Type 0 where
  pub table : TableId
  pub origin : Option O
  pub seen : List E
  pub mine : List ℕ
  pub share : ℕ

module _ {O E : Type 0} where
  abbrev pub lock_facts : TableId → O → List E → ℕ → LockFacts O
  lock_facts table origin opening seats = record { table = table; origin = origin; first = length opening; seats = seats }

  abbrev pub seat_facts : TableId → View O E → SeatFacts O E
  seat_facts table v = record { table = table; origin = v.origin; seen = v.seen; mine = v.mine; share = v.share }

  -- the seat is one of this lock
  abbrev pub IsSeatOf : LockFacts O → SeatFacts O E → Type 0
  IsSeatOf lock seat = (seat.table ≡ lock.table) × (seat.origin ≡ Some lock.origin)

  -- Committed: the entry went to the end of what the seat had seen, its place is the seat's, and the version is the length now.
  -- Stale: the history had become longer than what the seat had seen, it has seen that now, and committed nothing
  abbrev pub CommitsTo : E → SeatFacts O E → CommitSeen → SeatFacts O E → Type 0
  CommitsTo entry before (Committed version) after =
      (after.seen ≡ before.seen ++ entry ∷ []) × (after.mine ≡ before.mine ++ length before.seen ∷ []) × (version ≡ length after.seen)
  CommitsTo entry before (Stale looked now) after =
      IsPrefix before.seen after.seen × (after.mine ≡ before.mine) × (looked ≡ length before.seen) × (now ≡ length after.seen) × (looked < now)

-- of two lists one is a prefix of the other, and this is the longer
abbrev pub IsLongerOf : {E : Type 0} → List E → List E → List E → Type 0
IsLongerOf xs ys kept = ((kept ≡ xs) × IsPrefix ys xs) ⊎ ((kept ≡ ys) × IsPrefix xs ys)
