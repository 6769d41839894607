-- Column reduction: each column of a matrix less a combination of reduced columns before it, so that no two end at one row (Zomorodian
-- and Carlsson 2005, section 4; here with columns and rows as in a complex).
use Rattle.std.specs.Prelude.{◌≡◌, ◌≢◌, ℕ, ◌+◌, ◌*◌, ◌<◌, ◌≤◌, ℤ, pos, ◌+ℤ◌, ◌<ℤ◌, List, [], ◌∷◌, ◌++◌, length, map, nat_eq, Bool, true, false, slice_index_or}
use Rattle.std.specs.List.{list_any, AllByRecursion}
use Rattle.kh_types.specs.Complex.{Complex, Pivot, degree_of, entry_of, pivot_at}
use Rattle.kh_types.specs.History.{IsLegal, replay}
use Rattle.kh_types.specs.Residues.{Same}
use Rattle.sparse_block.specs.Complexes.{place_count}

-- a column after its reduction: its number in the matrix, the row of its last entry, and its numbers at all rows
pub record ReducedColumn : Type 0 where
  pub column : ℕ
  pub row : ℕ
  pub values : ℕ → ℕ

-- each number of a line is 0
abbrev pub IsZeroLine : (ℕ → ℕ) → Type 0
IsZeroLine values = (row : ℕ) → values row ≡ 0

-- each number of a line is below p
abbrev pub IsLineBelow : ℕ → (ℕ → ℕ) → Type 0
IsLineBelow p values = (row : ℕ) → values row < p

-- a line ends at a row: it has a number other than 0 there, and 0 at all greater rows
pub record EndsAt (row : ℕ) (values : ℕ → ℕ) : Type 0 where
  pub other : values row ≢ 0
  pub zeros : (greater : ℕ) → row < greater → values greater ≡ 0

-- the numbers of a reduced column are below p, and end at its row
pub record IsReducedColumn (p : ℕ) (line : ReducedColumn) : Type 0 where
  pub below : IsLineBelow p line.values
  pub ends : EndsAt line.row line.values

-- a row is the last one of some reduced column
abbrev pub is_last_row : ℕ → List ReducedColumn → Bool
is_last_row row reduced = list_any (λ line. nat_eq row line.row) reduced

-- a place is the column of some reduced column's pivot
abbrev pub is_pivot_column : ℕ → List ReducedColumn → Bool
is_pivot_column column reduced = list_any (λ line. nat_eq column line.column) reduced

-- no two end at one row
abbrev pub EndApart : List ReducedColumn → Type 0
EndApart [] = Unit {0}
EndApart (line ∷ lines) = (is_last_row line.row lines ≡ false) × EndApart lines

-- reduced columns, no two of which end at one row
pub record AreReducedColumns (p : ℕ) (reduced : List ReducedColumn) : Type 0 where
  pub each : AllByRecursion (IsReducedColumn p) reduced
  pub apart : EndApart reduced

-- a line is 0 in the last rows of reduced columns
abbrev pub IsDeadIn : List ReducedColumn → (ℕ → ℕ) → Type 0
IsDeadIn reduced values = (row : ℕ) → is_last_row row reduced ≡ true → values row ≡ 0

-- the number at a row of a combination of reduced columns, each with a factor that is given by its last row
abbrev pub combination : (ℕ → ℕ) → List ReducedColumn → ℕ → ℕ
combination factor [] row = 0
combination factor (line ∷ lines) row = factor line.row * line.values row + combination factor lines row

-- a line is what is left of another: the other is the line and a combination of reduced columns, modulo p
pub record IsLeftOf (p : ℕ) (reduced : List ReducedColumn) (whole left : ℕ → ℕ) : Type 0 where
  pub factor : ℕ → ℕ
  pub sum : (row : ℕ) → Same p (whole row) (left row + combination factor reduced row)

-- the numbers of a column of the matrix out of degree i
abbrev pub column_numbers : Complex → ℤ → ℕ → ℕ → ℕ
column_numbers complex i column row = entry_of complex i row column

-- the pivots of reduced columns of degree i: each at its last row
abbrev pub pivots_of : ℤ → List ReducedColumn → List Pivot
pivots_of i reduced = map (λ line. pivot_at i line.column line.row) reduced

-- reduced columns leave nothing of the columns of degree i from `least` on, before `next`
abbrev pub LeaveNothing : ℕ → Complex → ℤ → ℕ → ℕ → List ReducedColumn → Type 0
LeaveNothing p before i least next reduced =
    (column : ℕ) → least ≤ column → column < next → IsLeftOf p reduced (column_numbers before i column) (λ row. 0)

-- the columns of degree i from `least` on, before `count`, in their order: each reduced column is what those before it leave of its own,
-- and of the columns between them they leave nothing
abbrev pub ComeInOrder : ℕ → Complex → ℤ → ℕ → ℕ → List ReducedColumn → List ReducedColumn → Type 0
ComeInOrder p before i count least earlier [] = (least ≤ count) × LeaveNothing p before i least count earlier
ComeInOrder p before i count least earlier (line ∷ lines) =
    (least ≤ line.column) × LeaveNothing p before i least line.column earlier
    × IsLeftOf p earlier (column_numbers before i line.column) line.values
    × ComeInOrder p before i count (line.column + 1) (earlier ++ line ∷ []) lines

-- the first columns of degree i, as many as count, are reduced, one after another, and `after` is what the pivots leave: they are a
-- legal history; the entries of `after` are 0 in the last rows and in the first columns; and each later column of `after` is what is left
-- of the same column of `before`
pub record AreReduced (p : ℕ) (before : Complex) (i : ℤ) (count : ℕ) (reduced : List ReducedColumn) (after : Complex) : Type 0 where
  pub legal : IsLegal p before (pivots_of i reduced)
  pub replayed : after ≡ replay p before (pivots_of i reduced)
  pub columns : AreReducedColumns p reduced
  pub order : ComeInOrder p before i count 0 [] reduced
  pub dead : (column : ℕ) → IsDeadIn reduced (column_numbers after i column)
  pub cleared : (column : ℕ) → column < count → IsZeroLine (column_numbers after i column)
  pub left : (column : ℕ) → count ≤ column → IsLeftOf p reduced (column_numbers before i column) (column_numbers after i column)

-- one reduced column more
abbrev pub with_column : List ReducedColumn → ℕ → ℕ → (ℕ → ℕ) → List ReducedColumn
with_column reduced column row values = reduced ++ record { column = column; row = row; values = values } ∷ []

-- all columns of degree i are reduced
abbrev pub IsReducedDegree : ℕ → Complex → ℤ → List ReducedColumn → Complex → Type 0
IsReducedDegree p before i reduced after = AreReduced p before i (place_count before i) reduced after

-- the matrix out of degree i has only entries 0
abbrev pub HasNoEntry : Complex → ℤ → Type 0
HasNoEntry complex i = (column : ℕ) → IsZeroLine (column_numbers complex i column)

-- the matrices out of the degrees below i have only entries 0
abbrev pub HaveNoEntryBelow : Complex → ℤ → Type 0
HaveNoEntryBelow complex i = (j : ℤ) → j <ℤ i → HasNoEntry complex j

-- a place of degree i is alive
abbrev pub is_place_alive : Complex → ℤ → ℕ → Bool
is_place_alive complex i place = slice_index_or (degree_of complex i).alive place false

-- from degree i up, one degree after another is reduced
abbrev pub AreReducedUp : ℕ → Complex → ℤ → List (List ReducedColumn) → Complex → Type 0
AreReducedUp p before i [] after = after ≡ before
AreReducedUp p before i (reduced ∷ later) after =
    (between : Complex) × IsReducedDegree p before i reduced between × AreReducedUp p between (i +ℤ pos 1) later after

-- the pivots of reduced degrees, from degree i up, but those of the greatest degree first
abbrev pub pivots_from_greatest : ℤ → List (List ReducedColumn) → List Pivot
pivots_from_greatest i [] = []
pivots_from_greatest i (reduced ∷ later) = pivots_from_greatest (i +ℤ pos 1) later ++ pivots_of i reduced

-- all degrees of a complex are reduced, from the least up, and these are their pivots, those of the greatest degree first
pub record IsReducedComplex (p : ℕ) (before : Complex) (pivots : List Pivot) (after : Complex) : Type 0 where
  pub degrees : List (List ReducedColumn)
  pub count : length degrees ≡ length before.degrees
  pub up : AreReducedUp p before before.low degrees after
  pub listed : pivots ≡ pivots_from_greatest before.low degrees
