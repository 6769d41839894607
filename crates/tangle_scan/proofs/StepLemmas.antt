-- Steps after steps, and what a scan in memory keeps through them.
use Rattle.std.proofs.Common.{◌≡◌, ℕ, List, [], ◌∷◌, sym, subst}
use Rattle.kh_types.specs.Code.{Code}
use Rattle.scan_laws.specs.Adding.{IsAdding}
use Rattle.scan_laws.specs.Scans.{Scan}
use Rattle.scan_laws.specs.Steps.{AreSteps, IsReached, IsScanStep, LeadsTo, last_of}
use Rattle.scan_laws.proofs.Whole.{reached-step}
use Rattle.tangle_scan.specs.declared.complex.TangleComplex.{TangleComplex}
use Rattle.tangle_scan.specs.declared.complex.Front.{Front}
use Rattle.tangle_scan.specs.Held.{IsComplexAt, IsFront, scan_at}
use Rattle.tangle_scan.specs.Scanned.{IsScanned, Scanned, scan_of, scanned}

reached-steps : (p : ℕ) (code : Code) (scan : Scan) (later : List Scan) → IsReached p 0 0 code scan → AreSteps p 0 0 code scan later
    → IsReached p 0 0 code (last_of scan later)
reached-steps p code scan [] reached steps = reached
reached-steps p code scan (next ∷ later) reached steps =
    reached-steps p code next later (reached-step p 0 0 code scan next reached steps.0) steps.1

reached-leads : (p : ℕ) (code : Code) (scan other : Scan) → IsReached p 0 0 code scan → LeadsTo p 0 0 code scan other → IsReached p 0 0 code other
reached-leads p code scan other reached leads =
    subst (IsReached p 0 0 code) leads.last (reached-steps p code scan leads.later reached leads.steps)

pub scanned-added : (p : ℕ) (held : Scanned) (front : Front) (complex : TangleComplex) → IsScanned p held → IsFront front
    → front.diagram ≡ held.front.diagram → IsComplexAt p front complex
    → IsAdding p 0 0 held.front.diagram (scan_of held) (scan_at front complex) → IsScanned p (scanned front complex)
scanned-added p held front complex kept is_front diagram is_complex adding =
    record {
      front = is_front;
      complex = is_complex;
      reached = subst (λ (code : Code). IsReached p 0 0 code (scan_at front complex)) (sym diagram)
          (reached-step p 0 0 held.front.diagram (scan_of held) (scan_at front complex) kept.reached (IsScanStep.added adding));
    }

pub scanned-leads : (p : ℕ) (held : Scanned) (complex : TangleComplex) → IsScanned p held → IsComplexAt p held.front complex
    → LeadsTo p 0 0 held.front.diagram (scan_of held) (scan_at held.front complex) → IsScanned p (scanned held.front complex)
scanned-leads p held complex kept is_complex leads =
    record {
      front = kept.front;
      complex = is_complex;
      reached = reached-leads p held.front.diagram (scan_of held) (scan_at held.front complex) kept.reached leads;
    }
