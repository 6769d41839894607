-- What the program holds of a scan, and the scan of the theorem that it stands for.
use Rattle.std.specs.Prelude.{◌≡◌, ℕ, ◌+◌, ◌*◌, ◌<◌, ◌≤◌, pos, ◌+ℤ◌, ◌≤ℤ◌, List, [], length, map, nat_eq, slice_index_or, Bool, true, false, All, Some}
use Rattle.std.specs.List.{count_by, filter, find, range_with_len}
use Rattle.std.specs.Option.{option_map_or}
use Rattle.kh_types.specs.Code.{Code, arc_count}
use Rattle.kh_types.specs.Darts.{HasArcsTwice}
use Rattle.dotted_maps.specs.declared.term.Term.{Term}
use Rattle.added_crossing_laws.specs.Codes.{points_at}
use Rattle.scan_laws.specs.Scans as scans
use Rattle.scan_laws.specs.Scans.{Scan, first_object}
use Rattle.tangle_maps.specs.declared.pairing.TheConstants.{POINTS}
use Rattle.tangle_maps.specs.Pairings.{joins_of, paired_arcs}
use Rattle.tangle_maps.specs.Sums.{AreReduced, number_in}
use Rattle.tangle_scan.specs.declared.complex.Entry.{Entry}
use Rattle.tangle_scan.specs.declared.complex.TangleComplex.{TangleComplex}
use Rattle.tangle_scan.specs.declared.complex.Front.{Front}
use Rattle.tangle_scan.specs.declared.complex.Object.{Object}

-- an object in memory, as one of the theorem, where these arcs are open
abbrev pub object_of : List ℕ → Object → scans.Object
object_of opened object = record {
  pairs = joins_of object.pairing.partners opened;
  degree = object.degree;
  shift = object.shift;
}

-- the object at a place
abbrev pub object_at : List ℕ → List Object → ℕ → scans.Object
object_at opened objects x = slice_index_or (map (object_of opened) objects) x first_object

-- whether the object at a place is there, and the places of those that are
abbrev pub is_alive_at : List Object → ℕ → Bool
is_alive_at objects x = slice_index_or (map (λ object. object.is_alive) objects) x false

abbrev pub alive_places : List Object → List ℕ
alive_places objects = filter (is_alive_at objects) (range_with_len 0 (length objects))

-- the partners of the object at a place
abbrev pub partners_at : List Object → ℕ → List ℕ
partners_at objects x = slice_index_or (map (λ object. object.pairing.partners) objects) x []

-- the homological degree of the object at a place
abbrev pub degree_at : List Object → ℕ → ℕ
degree_at objects x = slice_index_or (map (λ object. object.degree) objects) x 0

-- whether an entry leads to the object at a place
abbrev pub has_head : ℕ → Entry → Bool
has_head y entry = nat_eq entry.head y

-- the terms of the map to the object at a place, where these are the maps out of an object
abbrev pub terms_to : List Entry → ℕ → List Term
terms_to column y = option_map_or (λ entry. entry.terms.items) (find (has_head y) column) []

-- the maps out of the object at a place
abbrev pub column_at : TangleComplex → ℕ → List Entry
column_at complex x = slice_index_or (map (λ column. column.items) complex.columns.items) x []

-- the terms of the map from one place to another
abbrev pub terms_between : TangleComplex → ℕ → ℕ → List Term
terms_between complex x y = terms_to (column_at complex x) y

-- the scan of the theorem that a complex is after so many crossings, where these arcs are open
abbrev pub scan_behind : ℕ → List ℕ → TangleComplex → Scan
scan_behind done opened complex = record {
  done = done;
  numbers = alive_places complex.objects.items;
  object = object_at opened complex.objects.items;
  terms = terms_between complex;
}

-- the maps out of one of n objects: their heads are objects, no two are the same, and their terms are reduced
pub record IsColumn (p n : ℕ) (column : List Entry) : Type 0 where
  pub heads : All (λ entry. entry.head < n) column
  pub once : (y : ℕ) → count_by (has_head y) column ≤ 1
  pub reduced : All (λ entry. AreReduced p entry.terms.items) column

-- the objects after so many crossings: each pairs the open arcs, and its degree and its shift are small
pub record AreObjects (done : ℕ) (opened : List ℕ) (objects : List Object) : Type 0 where
  pub pairs : All (λ object. opened ≡ paired_arcs object.pairing.partners) objects
  pub degrees : All (λ object. object.degree ≤ done) objects
  pub least : All (λ object. pos 0 ≤ℤ (object.shift +ℤ pos (2 * done))) objects
  pub most : All (λ object. object.shift ≤ℤ pos (2 * done)) objects

-- the maps out of the object at a place lead to objects of the next degree
abbrev pub RaisesDegree : TangleComplex → ℕ → Type 0
RaisesDegree complex x =
    All (λ entry. degree_at complex.objects.items entry.head ≡ degree_at complex.objects.items x + 1) (column_at complex x)

-- a complex in memory after so many crossings: its objects, a column for each, and maps that raise the degree by one
pub record IsComplexBehind (p done : ℕ) (opened : List ℕ) (complex : TangleComplex) : Type 0 where
  pub objects : AreObjects done opened complex.objects.items
  pub size : length complex.columns.items ≡ length complex.objects.items
  pub columns : All (λ column. IsColumn p (length complex.objects.items) column.items) complex.columns.items
  pub raises : (x : ℕ) → x < length complex.objects.items → RaisesDegree complex x

-- the arcs that are open after the first k crossings of a code, each of whose arcs has two ends, and which a program can number
pub record IsOpenAt (code : Code) (k : ℕ) (opened : List ℕ) : Type 0 where
  pub twice : HasArcsTwice code.crossings
  pub fits : arc_count code.crossings + 1 ≤ POINTS
  pub within : k ≤ length code.crossings
  pub open_arcs : opened ≡ (points_at code k).opened

abbrev pub IsFront : Front → Type 0
IsFront front = IsOpenAt front.diagram front.done front.opened.items

-- a complex in memory at a front, and the scan that it is
abbrev pub IsComplexAt : ℕ → Front → TangleComplex → Type 0
IsComplexAt p front complex = IsComplexBehind p front.done front.opened.items complex

abbrev pub scan_at : Front → TangleComplex → Scan
scan_at front complex = scan_behind front.done front.opened.items complex

-- the map from one object to another is a number times the identity, as the program tells it: both are there, and have the same
-- partners, and its one term has no dots
pub record IsPivot (complex : TangleComplex) (tail head number : ℕ) : Type 0 where
  pub is_there : is_alive_at complex.objects.items tail ≡ true
  pub leads_there : is_alive_at complex.objects.items head ≡ true
  pub partners : partners_at complex.objects.items head ≡ partners_at complex.objects.items tail
  pub told : number_in (terms_between complex tail head) ≡ Some number

-- no map is a number other than 0 times the identity
abbrev pub HasNoPivot : TangleComplex → Type 0
HasNoPivot complex = (tail head number : ℕ) → IsPivot complex tail head number → ⊥
