-- Rows of seats: a worker's seats, one at each of many locks.
use Rattle.std.specs.Prelude.{◌≡◌, ◌+◌, List, [], ◌∷◌, ◌++◌, length, All}
use Rattle.std.specs.Global.{Vec}
use Rattle.std.specs.List.{AllZip}
use Rattle.version_lock.specs.Calls.{LockFacts, SeatFacts, IsSeatOf}

module _ {O E : Type 0} where
  -- the seat is one of this lock, and stands for one
  pub record IsOneSeatOf (lock : LockFacts O) (seat : SeatFacts O E) : Type 0 where
    pub belongs : IsSeatOf lock seat
    pub share : seat.share ≡ 1

  -- a row has one seat at each lock, in the order of the locks
  abbrev pub IsRowOf : List (LockFacts O) → List (SeatFacts O E) → Type 0
  IsRowOf locks row = AllZip IsOneSeatOf locks row

  -- the caller's row and those of the workers are rows at these locks, and no lock has other seats
  pub record AreSeated (locks : List (LockFacts O)) (kept : List (SeatFacts O E)) (rows : List (Vec (SeatFacts O E))) : Type 0 where
    pub caller : IsRowOf locks kept
    pub workers : All (λ row. IsRowOf locks row.items) rows
    pub seats : All (λ lock. lock.seats ≡ length rows + 1) locks

  -- a row has gained one seat, of this lock
  pub record Gains (lock : LockFacts O) (before after : Vec (SeatFacts O E)) : Type 0 where
    pub seat : SeatFacts O E
    pub is_one : IsOneSeatOf lock seat
    pub gained : after.items ≡ before.items ++ seat ∷ []

  -- a row has lost its last seat, of this lock
  abbrev pub Loses : LockFacts O → Vec (SeatFacts O E) → Vec (SeatFacts O E) → Type 0
  Loses lock before after = Gains lock after before

  -- the last seat of a row is one of this lock
  pub record EndsAt (lock : LockFacts O) (row : Vec (SeatFacts O E)) : Type 0 where
    pub front : List (SeatFacts O E)
    pub seat : SeatFacts O E
    pub is_one : IsOneSeatOf lock seat
    pub parts : row.items ≡ front ++ seat ∷ []
