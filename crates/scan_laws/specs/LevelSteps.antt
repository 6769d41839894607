-- The steps of a scan that keep survivors, and those among them that keep dimensions.
use Rattle.std.specs.Prelude.{◌≡◌, ℕ, ◌<◌, ℤ, pos, ◌+ℤ◌, List, length}
use Rattle.std.specs.List.{Contains}
use Rattle.kh_types.specs.Code.{Code}
use Rattle.kh_types.specs.Directions.{minus_count, plus_count}
use Rattle.kh_types.specs.Residues.{Same}
use Rattle.dotted_maps.specs.Maps.{coefficient_in}
use Rattle.cell_laws.specs.Layers.{Layer}
use Rattle.cell_laws.specs.Shortest.{IsShortest}
use Rattle.order_laws.specs.Orders.{IsReordered, listed_by}
use Rattle.scan_laws.specs.Scans.{Object, Scan, dot_sets, first_scan}
use Rattle.scan_laws.specs.Complexes.{complex_of}
use Rattle.scan_laws.specs.Adding.{IsAdding}
use Rattle.scan_laws.specs.Eliminating.{IsEliminating, cancelled_pairs}
use Rattle.scan_laws.specs.Steps.{IsLast, IsRenumbering, Leads}

-- the level of an object: its shift and its degree together. At one outer state, and with equal labels, the quantum degrees of two objects
-- differ as their levels do
abbrev pub level_of : Object → ℤ
level_of object = object.shift +ℤ pos object.degree

-- an entry is eliminated between objects of one level
pub record IsLevel (p hd hh : ℕ) (code : Code) (scan next : Scan) : Type 0 where
  pub less : IsEliminating p hd hh code scan next
  pub level : level_of (scan.object less.head) ≡ level_of (scan.object less.tail)

-- an entry is eliminated that is a shortest one at each pair of generators that it cancels
pub record IsShort (p hd hh : ℕ) (code : Code) (plus minus : ℕ) (scan next : Scan) : Type 0 where
  pub less : IsEliminating p hd hh code scan next
  pub shortest : (pair : Layer × Layer) → Contains (cancelled_pairs code scan less.tail less.head) pair
      → IsShortest (complex_of p hd hh code plus minus scan) pair

-- one step before the last stage: a crossing is added, an entry is eliminated between objects of one level, or objects get other numbers
pub data IsLevelStep (p hd hh : ℕ) (code : Code) (scan next : Scan) : Type 0 where
  added : IsAdding p hd hh code scan next → IsLevelStep p hd hh code scan next
  level : IsLevel p hd hh code scan next → IsLevelStep p hd hh code scan next
  renumbered : IsRenumbering p hd hh code scan next → IsLevelStep p hd hh code scan next

-- one step of any stage: such a one, or a shortest entry is eliminated
pub data IsFilteredStep (p hd hh : ℕ) (code : Code) (plus minus : ℕ) (scan next : Scan) : Type 0 where
  level_step : IsLevelStep p hd hh code scan next → IsFilteredStep p hd hh code plus minus scan next
  short : IsShort p hd hh code plus minus scan next → IsFilteredStep p hd hh code plus minus scan next

-- such steps lead to a scan from before the first crossing
abbrev pub IsLevelReached : ℕ → ℕ → ℕ → Code → Scan → Type 0
IsLevelReached p hd hh code scan = Leads (IsLevelStep p hd hh code) first_scan scan

abbrev pub IsFilteredReached : ℕ → ℕ → ℕ → Code → ℕ → ℕ → Scan → Type 0
IsFilteredReached p hd hh code plus minus scan = Leads (IsFilteredStep p hd hh code plus minus) first_scan scan

-- a scan is before its last stage where all crossings are done and no map is left between objects of one level: all coefficients there
-- are 0
pub record IsLevelLast (p : ℕ) (code : Code) (scan : Scan) : Type 0 where
  pub done : scan.done ≡ length code.crossings
  pub terms : (x y kept : ℕ) → Contains scan.numbers x → Contains scan.numbers y
      → level_of (scan.object y) ≡ level_of (scan.object x) → kept < dot_sets code scan x y
      → Same p (coefficient_in (scan.terms x y) kept) 0

-- before the last stage of a scan that takes the crossings of a code in some order
pub record IsEndOfLevelScan (p hd hh : ℕ) (code : Code) (crossings : List (List ℕ)) (scan : Scan) : Type 0 where
  pub order : IsReordered code.crossings crossings
  pub reached : IsLevelReached p hd hh (listed_by code crossings) scan
  pub last : IsLevelLast p (listed_by code crossings) scan

-- the end of a scan that does, with the numbers of positive and of negative crossings of the code
pub record IsEndOfFilteredScan (p hd hh : ℕ) (code : Code) (crossings : List (List ℕ)) (scan : Scan) : Type 0 where
  pub order : IsReordered code.crossings crossings
  pub reached : IsFilteredReached p hd hh (listed_by code crossings) (plus_count code.crossings) (minus_count code.crossings) scan
  pub last : IsLast p hd hh (listed_by code crossings) scan
