-- What eliminating makes of the columns and the rows in memory.
use Rattle.std.specs.Prelude.{◌≡◌, ◌≢◌, ℕ, ◌+◌, ◌*◌, ◌^◌, ◌<◌, ◌≤◌, ◌⊎◌, List, [], length, map, slice_index_or, slice_set, All, IfSome, true, false, Some}
use Rattle.std.specs.List.{count_by, Contains}
use Rattle.std.specs.Global.{Vec}
use Rattle.kh_types.specs.Code.{Code}
use Rattle.kh_types.specs.Rank.{inverse}
use Rattle.kh_types.specs.Residues.{Same}
use Rattle.surface_laws.specs.Points.{discs}
use Rattle.dotted_maps.specs.declared.term.Term.{Term}
use Rattle.dotted_maps.specs.Maps.{AreDotted, coefficient_in, composed_in}
use Rattle.scan_laws.specs.Scans.{HasDots, Scan}
use Rattle.scan_laws.specs.Steps.{LeadsTo}
use Rattle.tangle_maps.specs.declared.way.Way.{Way}
use Rattle.tangle_maps.specs.Pairings.{joins_of, opened_points, paired_arcs}
use Rattle.tangle_maps.specs.Sums.{AreReduced, number_in}
use Rattle.tangle_scan.specs.declared.clearing.turns.Start.{Start}
use Rattle.tangle_scan.specs.declared.clearing.turns.Turn.{Turn}
use Rattle.tangle_scan.specs.declared.complex.Entry.{Entry}
use Rattle.tangle_scan.specs.declared.complex.TangleComplex.{TangleComplex}
use Rattle.tangle_scan.specs.declared.clearing.turns.Taken.{Taken}
use Rattle.tangle_scan.specs.declared.complex.Front.{Front}
use Rattle.tangle_scan.specs.declared.complex.Object.{Object}
use Rattle.tangle_scan.specs.declared.clearing.pivots.Pivot.{Pivot}
use Rattle.tangle_scan.specs.declared.clearing.rows.Rowed.{Rowed}
use Rattle.tangle_scan.specs.Held.{IsColumn, IsComplexAt, column_at, has_head, is_alive_at, partners_at, scan_at, terms_to}

-- a column has an entry to a head
abbrev pub HasHead : List Entry → ℕ → Type 0
HasHead column y = Contains (map (λ entry. entry.head) column) y

-- it has one at most to each
abbrev pub HasOneEach : List Entry → Type 0
HasOneEach column = (y : ℕ) → count_by (has_head y) column ≤ 1

-- the maps out of the object at a place, of these columns
abbrev pub column_in : List (Vec Entry) → ℕ → List Entry
column_in columns x = slice_index_or (map (λ column. column.items) columns) x []

-- the columns that a row names
abbrev pub named_in : List (Vec ℕ) → ℕ → List ℕ
named_in rows y = slice_index_or (map (λ row. row.items) rows) y []

-- rows name what others do, and perhaps more
pub record AreMore (old new : List (Vec ℕ)) : Type 0 where
  pub size : length new ≡ length old
  pub kept : (y x : ℕ) → Contains (named_in old y) x → Contains (named_in new y) x

-- the row of each object that is there, and to which the column out of x leads, names x
abbrev pub IsNoted : List Object → List (Vec ℕ) → ℕ → List Entry → Type 0
IsNoted objects rows x column =
    (y : ℕ) → is_alive_at objects y ≡ true → HasHead column y → Contains (named_in rows y) x

-- a row for each object, and all columns are noted
pub record HasRows (complex : TangleComplex) (rows : List (Vec ℕ)) : Type 0 where
  pub size : length rows ≡ length complex.objects.items
  pub noted : (x : ℕ) → x < length complex.objects.items → IsNoted complex.objects.items rows x (column_at complex x)

-- what a search needs of a complex with its rows: their sizes, and heads that are objects
pub record IsIndexed (rowed : Rowed) : Type 0 where
  pub columns : length rowed.complex.columns.items ≡ length rowed.complex.objects.items
  pub rows : length rowed.rows.items ≡ length rowed.complex.objects.items
  pub heads : All (λ column. All (λ entry. entry.head < length rowed.complex.objects.items) column.items) rowed.complex.columns.items
  pub once : All (λ column. HasOneEach column.items) rowed.complex.columns.items

-- the maps between all objects of a scan are sums of dotted discs
abbrev pub AllHaveDots : Code → Scan → Type 0
AllHaveDots code scan = (x y : ℕ) → Contains scan.numbers x → Contains scan.numbers y → HasDots code scan x y

-- a complex at a front, whose maps are sums of dotted discs, with its rows
pub record IsRowed (p : ℕ) (front : Front) (rowed : Rowed) : Type 0 where
  pub complex : IsComplexAt p front rowed.complex
  pub dots : AllHaveDots front.diagram (scan_at front rowed.complex)
  pub rows : HasRows rowed.complex rowed.rows.items

-- and steps lead there from another complex
pub record IsRowedFrom (p : ℕ) (front : Front) (start : TangleComplex) (rowed : Rowed) : Type 0 where
  pub is : IsRowed p front rowed
  pub leads : LeadsTo p 0 0 front.diagram (scan_at front start) (scan_at front rowed.complex)

-- an object that is not there any more
abbrev pub killed : Object → Object
killed object =
    record { pairing = object.pairing; degree = object.degree; shift = object.shift; smoothing = object.smoothing; is_alive = false }

-- objects are others of which one is not there any more
abbrev pub IsKilled : ℕ → List Object → List Object → Type 0
IsKilled x old new = (d : Object) → new ≡ slice_set old x (killed (slice_index_or old x d))

-- a pivot is taken out of a complex with its rows: its objects are not there any more, and the column of its tail and the names in the row
-- of its head are what was taken, and the others stay
pub record IsTakenOut (pivot : Pivot) (old new : Rowed) (taken : Taken) : Type 0 where
  pub between : List Object
  pub no_tail : IsKilled pivot.tail old.complex.objects.items between
  pub no_head : IsKilled pivot.head between new.complex.objects.items
  pub column : taken.column.items ≡ column_in old.complex.columns.items pivot.tail
  pub size : length new.complex.columns.items ≡ length old.complex.columns.items
  pub none : column_in new.complex.columns.items pivot.tail ≡ []
  pub others : (z : ℕ) → z ≢ pivot.tail → column_in new.complex.columns.items z ≡ column_in old.complex.columns.items z
  pub names : taken.named.items ≡ named_in old.rows.items pivot.head
  pub rows_size : length new.rows.items ≡ length old.rows.items
  pub rows_left : (z : ℕ) → z ≢ pivot.head → named_in new.rows.items z ≡ named_in old.rows.items z

-- a turn is that of a pivot which was taken out of the complex at a front, and left these objects
pub record IsTurnOf (front : Front) (objects : List Object) (pivot : Pivot) (taken : Taken) (turn : Turn) : Type 0 where
  pub opened : turn.opened.now ≡ front.opened.items
  pub objects_are : turn.objects.now ≡ objects
  pub pivot_is : turn.pivot ≡ pivot
  pub column : turn.column.now ≡ taken.column.items

-- the map new is old less a way through a pivot, between objects with these partners: modulo p its coefficients, and the inverse of the
-- pivot's number times those of the way's composition, are together those of old
pub record IsLessOver (p number : ℕ) (opened from over to : List ℕ) (first second old new : List Term) : Type 0 where
  pub coefficients : (kept : ℕ) → kept < 2 ^ length (discs (opened_points opened) (joins_of from opened) (joins_of to opened))
      → Same p
      (coefficient_in new kept
      + inverse p number
      * composed_in 0 0 (opened_points opened) (joins_of from opened) (joins_of over opened) (joins_of to opened) first second kept)
      (coefficient_in old kept)
  pub dots : AreDotted (opened_points opened) (joins_of from opened) (joins_of to opened) old
      → AreDotted (opened_points opened) (joins_of from opened) (joins_of to opened) new

-- the same for the way from the object at x through the pivot of a turn to the object at z
abbrev pub IsLess : ℕ → Turn → ℕ → ℕ → List Term → List Term → List Term → List Term → Type 0
IsLess p turn x z first second old new =
    IsLessOver p turn.pivot.number turn.opened.now (partners_at turn.objects.now x) (partners_at turn.objects.now turn.pivot.tail)
    (partners_at turn.objects.now z) first second old new

-- in a column the map to y became another, as a relation says, and the others stay; a head is new only if y is and may be
pub record IsChanged (Next : List Term → List Term → Type 0) (MayBe : Type 0) (p y : ℕ) (old new : List Entry) : Type 0 where
  pub here : Next (terms_to old y) (terms_to new y)
  pub others : (z : ℕ) → z ≢ y → terms_to new z ≡ terms_to old z
  pub heads : (z : ℕ) → HasHead new z → HasHead old z ⊎ ((z ≡ y) × MayBe)
  pub column : (n : ℕ) → y < n → IsColumn p n old → IsColumn p n new

-- the heads of one column are heads of another
abbrev pub HasHeadsOf : List Entry → List Entry → Type 0
HasHeadsOf old new = (z : ℕ) → HasHead new z → HasHead old z

-- the head of the entry at a place
abbrev pub head_at : List Entry → ℕ → ℕ
head_at column at = slice_index_or (map (λ entry. entry.head) column) at 0

-- a column without some entries of 0
pub record IsTrimmed (p : ℕ) (old new : List Entry) : Type 0 where
  pub terms : (z : ℕ) → terms_to new z ≡ terms_to old z
  pub heads : HasHeadsOf old new
  pub column : (n : ℕ) → IsColumn p n old → IsColumn p n new

-- an entry of the pivot's column has dots of discs, if its head is there
abbrev pub IsDottedTo : Turn → Entry → Type 0
IsDottedTo turn entry =
    is_alive_at turn.objects.now entry.head ≡ true
    → AreDotted (opened_points turn.opened.now) (joins_of (partners_at turn.objects.now turn.pivot.tail) turn.opened.now)
    (joins_of (partners_at turn.objects.now entry.head) turn.opened.now) entry.terms.items

-- a turn: the objects pair the opened arcs, the pivot's tail and its head are not there any more, and its number is one from 1 to p - 1; its
-- column has maps to these objects, with dots of discs where the head is there
pub record IsTurn (p : ℕ) (turn : Turn) : Type 0 where
  pub pairs : All (λ object. turn.opened.now ≡ paired_arcs object.pairing.partners) turn.objects.now
  pub tail : turn.pivot.tail < length turn.objects.now
  pub tail_dead : is_alive_at turn.objects.now turn.pivot.tail ≡ false
  pub dead : is_alive_at turn.objects.now turn.pivot.head ≡ false
  pub some : 0 < turn.pivot.number
  pub below : turn.pivot.number < p
  pub column : IsColumn p (length turn.objects.now) turn.column.now
  pub dots : All (IsDottedTo turn) turn.column.now

-- a way through the pivot of a turn, from the object at x to that at z
pub record IsThrough (turn : Turn) (x z : ℕ) (first second : List Term) (way : Way) : Type 0 where
  pub opened : way.opened.now ≡ turn.opened.now
  pub source : way.from.now.partners ≡ partners_at turn.objects.now x
  pub middle : way.over.now.partners ≡ partners_at turn.objects.now turn.pivot.tail
  pub target : way.to.now.partners ≡ partners_at turn.objects.now z
  pub front : way.first.now ≡ first
  pub back : way.second.now ≡ second

-- a map from the object at a place to the pivot's head is a number times the identity
pub record IsMultipleAt (turn : Turn) (place : ℕ) (first : List Term) (number : ℕ) : Type 0 where
  pub partners : partners_at turn.objects.now place ≡ partners_at turn.objects.now turn.pivot.tail
  pub told : number_in first ≡ Some number

-- the first map of a way within a turn: from an object, and reduced; the number that is given, if any, is what it is times the identity
pub record IsStart (p : ℕ) (turn : Turn) (start : Start) : Type 0 where
  pub place : start.place < length turn.objects.now
  pub first : AreReduced p start.first.now
  pub multiple : IfSome start.multiple (IsMultipleAt turn start.place start.first.now)

-- an entry of the pivot's column: to an object, reduced, and with dots of discs
pub record IsNext (p : ℕ) (turn : Turn) (entry : Entry) : Type 0 where
  pub head : entry.head < length turn.objects.now
  pub terms : AreReduced p entry.terms.items
  pub dots : IsDottedTo turn entry

-- what is to be done with one entry of the pivot's column: if its head is there, the way over it is taken off
abbrev pub IsLessIf : ℕ → Turn → ℕ → List Term → Entry → List Term → List Term → Type 0
IsLessIf p turn x first entry old new =
    is_alive_at turn.objects.now entry.head ≡ true → IsLess p turn x entry.head first entry.terms.items old new

-- the ways over some entries of the pivot's column are taken off a column
pub record AreTaken (p : ℕ) (turn : Turn) (x : ℕ) (first : List Term) (entries old new : List Entry) : Type 0 where
  pub less : (z : ℕ) → is_alive_at turn.objects.now z ≡ true
      → IsLess p turn x z first (terms_to entries z) (terms_to old z) (terms_to new z)
  pub heads : (z : ℕ) → HasHead new z → HasHead old z ⊎ (HasHead entries z × (is_alive_at turn.objects.now z ≡ true))

-- a column out of x is cleared: it does not lead to the pivot's head any more, and all ways through the pivot are taken off
pub record IsCleared (p : ℕ) (turn : Turn) (x : ℕ) (old new : List Entry) : Type 0 where
  pub gone : HasHead new turn.pivot.head → ⊥
  pub less : (z : ℕ) → is_alive_at turn.objects.now z ≡ true
      → IsLess p turn x z (terms_to old turn.pivot.head) (terms_to turn.column.now z) (terms_to old z) (terms_to new z)
  pub heads : (z : ℕ) → HasHead new z → HasHead old z ⊎ (HasHead old turn.pivot.head × HasHead turn.column.now z)

-- columns as they are within a turn: one for each object, and all are noted
pub record AreColumns (p : ℕ) (objects : List Object) (columns : List (Vec Entry)) (rows : List (Vec ℕ)) : Type 0 where
  pub size : length columns ≡ length objects
  pub rows_size : length rows ≡ length objects
  pub each : (x : ℕ) → x < length objects → IsColumn p (length objects) (column_in columns x)
  pub noted : (x : ℕ) → x < length objects → IsNoted objects rows x (column_in columns x)

-- one column is cleared, and stays as it is if it does not lead to the pivot's head; the others stay
pub record IsClearStep (p : ℕ) (turn : Turn) (x : ℕ) (old new : List (Vec Entry)) : Type 0 where
  pub cleared : x < length turn.objects.now → IsCleared p turn x (column_in old x) (column_in new x)
  pub idle : (HasHead (column_in old x) turn.pivot.head → ⊥) → column_in new x ≡ column_in old x
  pub others : (z : ℕ) → z ≢ x → column_in new z ≡ column_in old z

-- a column is cleared, or it is as it was and none of those that are named
abbrev pub IsClearedOr : ℕ → Turn → List ℕ → ℕ → List Entry → List Entry → Type 0
IsClearedOr p turn named x old new = IsCleared p turn x old new ⊎ ((new ≡ old) × (Contains named x → ⊥))

-- the columns that are named are cleared, and the others are as they were or cleared too
abbrev pub AreCleared : ℕ → Turn → List ℕ → List (Vec Entry) → List (Vec Entry) → Type 0
AreCleared p turn named old new =
    (x : ℕ) → x < length turn.objects.now → IsClearedOr p turn named x (column_in old x) (column_in new x)

-- an entry of the column out of a tail is a number times the identity
pub record IsCandidate (objects : List Object) (tail : ℕ) (entry : Entry) (head number : ℕ) : Type 0 where
  pub is_head : entry.head ≡ head
  pub alive : is_alive_at objects head ≡ true
  pub partners : partners_at objects head ≡ partners_at objects tail
  pub told : number_in entry.terms.items ≡ Some number
