-- A scan in memory: where it is, the complex there, and that steps lead to it.
use Rattle.std.specs.Prelude.{◌≡◌, ℕ, pos, [], ◌∷◌, length, map, true}
use Rattle.std.specs.List.{range_with_len}
use Rattle.kh_types.specs.Code.{Code}
use Rattle.scan_laws.specs.Scans.{Scan}
use Rattle.scan_laws.specs.Steps.{IsReached}
use Rattle.tangle_maps.specs.declared.pairing.TheConstants.{POINTS}
use Rattle.tangle_scan.specs.declared.complex.TangleComplex.{TangleComplex}
use Rattle.tangle_scan.specs.declared.complex.Object.{Object}
use Rattle.tangle_scan.specs.declared.complex.Front.{Front}
use Rattle.tangle_scan.specs.Held.{HasNoPivot, IsComplexAt, IsFront, scan_at}

-- a front and a complex there
pub record Scanned : Type 0 where
  pub front : Front
  pub complex : TangleComplex

abbrev pub scanned : Front → TangleComplex → Scanned
scanned front complex = record { front = front; complex = complex }

-- the scan of the theorem that they are
abbrev pub scan_of : Scanned → Scan
scan_of held = scan_at held.front held.complex

-- the front is one of its diagram, the complex is one there, and steps of the theorem lead to it from before the first crossing
pub record IsScanned (p : ℕ) (held : Scanned) : Type 0 where
  pub front : IsFront held.front
  pub complex : IsComplexAt p held.front held.complex
  pub reached : IsReached p 0 0 held.front.diagram (scan_of held)

-- so many crossings of a diagram are done
pub record IsBehind (diagram : Code) (done : ℕ) (held : Scanned) : Type 0 where
  pub of : held.front.diagram ≡ diagram
  pub at : held.front.done ≡ done

-- an object before the first crossing pairs no arcs
pub record IsFirstObject (object : Object) : Type 0 where
  pub partners : object.pairing.partners ≡ range_with_len 0 POINTS
  pub degree : object.degree ≡ 0
  pub shift : object.shift ≡ pos 0
  pub alive : object.is_alive ≡ true

-- the complex there: one object, and no map
pub record IsFirstComplex (complex : TangleComplex) : Type 0 where
  pub object : Object
  pub objects : complex.objects.items ≡ object ∷ []
  pub first : IsFirstObject object
  pub columns : map (λ column. column.items) complex.columns.items ≡ [] ∷ []

-- a scan is finished where all crossings are done, and no map is a number other than 0 times the identity
pub record IsFinished (held : Scanned) : Type 0 where
  pub done : held.front.done ≡ length held.front.diagram.crossings
  pub none : HasNoPivot held.complex
