-- A legal history leaves a complex; histories put together; the degrees and places that they keep.
use Rattle.std.proofs.Common.{◌≡◌, ℕ, ◌∙◌, List, [], ◌∷◌, ◌++◌, ℤ, length, refl}
use Rattle.kh_types.specs.Complex.{Complex, Pivot, IsComplex, IsPivot, degree_of, cancel}
use Rattle.kh_types.specs.History.{IsLegal, replay}
use Rattle.kh_types.proofs.CancelLemmas.{places-cancel, degrees-cancel}
use Rattle.prime_field.specs.Residues.{IsField}
use Rattle.sparse_block.proofs.CancelledComplexes.{complex-cancel}

pub complex-replay : (p : ℕ) (complex : Complex) (history : List Pivot) → IsField p → IsComplex p complex
    → IsLegal p complex history → IsComplex p (replay p complex history)
complex-replay p complex [] field is legal = is
complex-replay p complex (pivot ∷ later) field is legal =
    complex-replay p (cancel p complex pivot) later field (complex-cancel p complex pivot field is legal.0) legal.1

-- a history of two parts
pub replay-append : (p : ℕ) (complex : Complex) (first second : List Pivot)
    → replay p complex (first ++ second) ≡ replay p (replay p complex first) second
replay-append p complex [] second = refl
replay-append p complex (pivot ∷ later) second = replay-append p (cancel p complex pivot) later second

pub legal-append : (p : ℕ) (complex : Complex) (first second : List Pivot) → IsLegal p complex first
    → IsLegal p (replay p complex first) second → IsLegal p complex (first ++ second)
legal-append p complex [] second legal more = more
legal-append p complex (pivot ∷ later) second legal more =
    (legal.0, legal-append p (cancel p complex pivot) later second legal.1 more)

pub legal-parts : (p : ℕ) (complex : Complex) (first second : List Pivot) → IsLegal p complex (first ++ second)
    → IsLegal p complex first × IsLegal p (replay p complex first) second
legal-parts p complex [] second legal = (tt, legal)
legal-parts p complex (pivot ∷ later) second legal =
    let parts = legal-parts p (cancel p complex pivot) later second legal.1 in
    ((legal.0, parts.0), parts.1)

-- one pivot more
pub legal-push : (p : ℕ) (complex : Complex) (history : List Pivot) (pivot : Pivot) → IsLegal p complex history
    → IsPivot (replay p complex history) pivot → IsLegal p complex (history ++ pivot ∷ [])
legal-push p complex history pivot legal is_pivot = legal-append p complex history (pivot ∷ []) legal (is_pivot, tt)

pub replay-push : (p : ℕ) (complex : Complex) (history : List Pivot) (pivot : Pivot)
    → replay p complex (history ++ pivot ∷ []) ≡ cancel p (replay p complex history) pivot
replay-push p complex history pivot = replay-append p complex history (pivot ∷ [])

-- degrees and places
pub low-replay : (p : ℕ) (complex : Complex) (history : List Pivot) → (replay p complex history).low ≡ complex.low
low-replay p complex [] = refl
low-replay p complex (pivot ∷ later) = low-replay p (cancel p complex pivot) later

pub degrees-replay : (p : ℕ) (complex : Complex) (history : List Pivot)
    → length (replay p complex history).degrees ≡ length complex.degrees
degrees-replay p complex [] = refl
degrees-replay p complex (pivot ∷ later) =
    degrees-replay p (cancel p complex pivot) later ∙ degrees-cancel p complex pivot

pub places-replay : (p : ℕ) (complex : Complex) (history : List Pivot) (i : ℤ)
    → length (degree_of (replay p complex history) i).alive ≡ length (degree_of complex i).alive
places-replay p complex [] i = refl
places-replay p complex (pivot ∷ later) i =
    places-replay p (cancel p complex pivot) later i ∙ places-cancel p complex pivot i
