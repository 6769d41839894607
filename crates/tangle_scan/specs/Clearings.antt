-- What clearing asks for and what it gives, a record each way: for a pivot, for all columns of its turn, for one column, and for a way.
use Rattle.std.specs.Prelude.{◌≡◌, ℕ, ◌<◌, List, length, IfSome, Bool, true, false, Option}
use Rattle.std.specs.Global.{Vec}
use Rattle.scan_laws.specs.Eliminating.{IsEliminating}
use Rattle.tangle_maps.specs.declared.way.Way.{Way}
use Rattle.tangle_maps.specs.Ways.{HasReducedMaps, IsMultiple, IsWay}
use Rattle.tangle_scan.specs.declared.clearing.pivots.Pivot.{Pivot}
use Rattle.tangle_scan.specs.declared.clearing.rows.Rowed.{Rowed}
use Rattle.tangle_scan.specs.declared.clearing.turns.Start.{Start}
use Rattle.tangle_scan.specs.declared.clearing.turns.Turn.{Turn}
use Rattle.tangle_scan.specs.declared.complex.Entry.{Entry}
use Rattle.tangle_scan.specs.declared.complex.Front.{Front}
use Rattle.tangle_scan.specs.Held.{IsColumn, IsFront, IsPivot, is_alive_at, scan_at}
use Rattle.tangle_scan.specs.Eliminations.{AreCleared, AreColumns, AreMore, AreTaken, HasHead, HasHeadsOf, IsChanged, IsCleared, IsClearStep, IsLess, IsLessIf, IsNext, IsNoted, IsRowed, IsStart, IsTurn}

-- a pivot can be cancelled: it is one of a complex at a front, with its rows
pub record CanEliminate (p : ℕ) (front : Front) (rowed : Rowed) (pivot : Pivot) : Type 0 where
  pub front_is : IsFront front
  pub rowed_is : IsRowed p front rowed
  pub pivot_is : IsPivot rowed.complex pivot.tail pivot.head pivot.number

-- a pivot was cancelled: by a step of the theorem, of this pivot's tail and head, and what is left is a complex there, with its rows
pub record HasEliminated (p : ℕ) (front : Front) (old : Rowed) (pivot : Pivot) (new : Rowed) : Type 0 where
  pub step : IsEliminating p 0 0 front.diagram (scan_at front old.complex) (scan_at front new.complex)
  pub tail : step.tail ≡ pivot.tail
  pub head : step.head ≡ pivot.head
  pub rowed_is : IsRowed p front new

-- columns can be cleared in a turn: there is one for each of its objects, and all are noted
pub record CanClearColumns (p : ℕ) (turn : Turn) (columns : List (Vec Entry)) (rows : List (Vec ℕ)) : Type 0 where
  pub turn_is : IsTurn p turn
  pub columns_are : AreColumns p turn.objects.now columns rows

-- the columns that are named were cleared; there is one for each object still, and all are noted
pub record HasCleared (p : ℕ) (turn : Turn) (named : List ℕ) (old new : List (Vec Entry)) (rows : List (Vec ℕ)) : Type 0 where
  pub cleared : AreCleared p turn named old new
  pub columns_are : AreColumns p turn.objects.now new rows

-- the column at a place was cleared, if there is one; there is one for each object still, and all are noted
pub record HasClearedAt (p : ℕ) (turn : Turn) (x : ℕ) (old new : List (Vec Entry)) (rows : List (Vec ℕ)) : Type 0 where
  pub step : IsClearStep p turn x old new
  pub columns_are : AreColumns p turn.objects.now new rows

-- the column out of the object at x in a turn: its maps lead to the turn's objects, and it is noted in rows, of which each object has one
pub record IsColumnOf (p : ℕ) (turn : Turn) (x : ℕ) (column : List Entry) (rows : List (Vec ℕ)) : Type 0 where
  pub maps : IsColumn p (length turn.objects.now) column
  pub size : length rows ≡ length turn.objects.now
  pub noted : IsNoted turn.objects.now rows x column

-- a column can be cleared: it is that of an object of the turn
pub record CanClearColumn (p : ℕ) (turn : Turn) (x : ℕ) (column : List Entry) (rows : List (Vec ℕ)) : Type 0 where
  pub turn_is : IsTurn p turn
  pub place : x < length turn.objects.now
  pub column_is : IsColumnOf p turn x column rows

-- a column was cleared, and is as it was if it did not lead to the pivot's head; it is the object's still, and rows name what they did
pub record IsClearedColumn (p : ℕ) (turn : Turn) (x : ℕ) (old new : List Entry) (before after : List (Vec ℕ)) : Type 0 where
  pub cleared : IsCleared p turn x old new
  pub idle : (HasHead old turn.pivot.head → ⊥) → new ≡ old
  pub column_is : IsColumnOf p turn x new after
  pub more : AreMore before after

-- all ways from a start can be taken off a column: it is that of the start's object
pub record CanTakeWays (p : ℕ) (turn : Turn) (start : Start) (column : List Entry) (rows : List (Vec ℕ)) : Type 0 where
  pub turn_is : IsTurn p turn
  pub start_is : IsStart p turn start
  pub column_is : IsColumnOf p turn start.place column rows

-- all ways from a start were taken off a column; it is the object's still, and rows name what they did
pub record HasTakenWays (p : ℕ) (turn : Turn) (start : Start) (old new : List Entry) (before after : List (Vec ℕ)) : Type 0 where
  pub taken : AreTaken p turn start.place start.first.now turn.column.now old new
  pub column_is : IsColumnOf p turn start.place new after
  pub more : AreMore before after

-- a start in a turn, and an entry of the pivot's column: the way leads from the one through the pivot and over the other
pub record IsPassage (p : ℕ) (turn : Turn) (start : Start) (entry : Entry) : Type 0 where
  pub turn_is : IsTurn p turn
  pub start_is : IsStart p turn start
  pub next_is : IsNext p turn entry

-- the way over an entry can be taken off a column, if the entry's head is there: the column is that of the start's object
pub record CanTakeOver (p : ℕ) (turn : Turn) (start : Start) (entry : Entry) (column : List Entry) (rows : List (Vec ℕ)) : Type 0 where
  pub passage : IsPassage p turn start entry
  pub column_is : IsColumnOf p turn start.place column rows

-- the way over an entry was taken off a column, if the entry's head is there; the column is noted still, and rows name what they did
pub record HasTakenOver (p : ℕ) (turn : Turn) (start : Start) (entry : Entry) (old new : List Entry) (before after : List (Vec ℕ)) : Type 0 where
  pub changed : IsChanged (IsLessIf p turn start.place start.first.now entry) (is_alive_at turn.objects.now entry.head ≡ true) p entry.head
      old new
  pub more : AreMore before after
  pub noted : IsNoted turn.objects.now after start.place new

-- a way can be taken off a column: it leads to an object that is there, and the column's maps lead to the turn's objects
pub record CanTakeWay (p : ℕ) (turn : Turn) (start : Start) (entry : Entry) (column : List Entry) : Type 0 where
  pub passage : IsPassage p turn start entry
  pub alive : is_alive_at turn.objects.now entry.head ≡ true
  pub maps : IsColumn p (length turn.objects.now) column

-- a way was taken off a column, and it is told whether this may lead to a new head
pub record HasTakenWay (p : ℕ) (turn : Turn) (start : Start) (entry : Entry) (old new : List Entry) (is_new : Bool) : Type 0 where
  pub changed : IsChanged (IsLess p turn start.place entry.head start.first.now entry.terms.items) (Unit {0}) p entry.head old new
  pub same_heads : is_new ≡ false → HasHeadsOf old new

-- a way is known: its pairings fit, its maps are reduced, and the number that is given, if any, is what its first map is times the identity
pub record IsKnownWay (p : ℕ) (way : Way) (multiple : Option ℕ) : Type 0 where
  pub fits : IsWay way
  pub maps : HasReducedMaps p way
  pub multiple_is : IfSome multiple (λ m. IsMultiple m way)
