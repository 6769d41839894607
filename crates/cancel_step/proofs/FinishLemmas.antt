-- What stays as pivots are cancelled from the greatest degree down. The pivot's own column is empty afterwards, and columns that are
-- empty stay so; hence degrees that are empty from the greatest down stay empty. In the end comes a cancellation that may lack memory,
-- and then changes nothing: either way the result comes by cancelling.
use Rattle.std.proofs.lemmas.Bool.Decides.{nat_tests}
use Rattle.std.proofs.Common.{◌≡◌, ℕ, ◌∙◌, [], refl, arith, Result}
use Rattle.std.specs.Prelude.{OnErr, OnOk}
use Rattle.kh_types.specs.Complex.{Complex, IsComplex, IsPivot, Pivot, cancel}
use Rattle.prime_field.specs.Residues.{IsField}
use Rattle.sparse_block.specs.Complexes.{NamedComplex, column_of}
use Rattle.sparse_block.specs.Entries.{entries_of}
use Rattle.sparse_block.specs.Histories.{ComesByCancelling}
use Rattle.sparse_block.proofs.CancelledMatrices.{pivot_column-cancel}
use Rattle.sparse_block.proofs.ComesLemmas.{comes-none, comes-one, empty-comes, high-comes}
use Rattle.sparse_block.proofs.PastLemmas.{entries-zeros}
use Rattle.sparse_block.proofs.ReadingLemmas.{number-column_of}
use Rattle.cancel_step.proofs.ReadingLemmas.{AreEmptyDown}

-- the pivot's own column is empty afterwards
pub empty-pivot_column : (p : ℕ) (complex : Complex) (pivot : Pivot) → IsField p → IsComplex p complex → IsPivot complex pivot
    → entries_of (column_of (cancel p complex pivot) pivot.degree pivot.column) ≡ []
empty-pivot_column p complex pivot field is is_pivot =
    entries-zeros (column_of (cancel p complex pivot) pivot.degree pivot.column)
    (λ row.
    number-column_of (cancel p complex pivot) pivot.degree row pivot.column
    ∙ pivot_column-cancel p complex pivot pivot.degree row pivot.column field is is_pivot refl refl)

-- the first degrees from the greatest down stay empty
pub empty_down-comes : (p : ℕ) (before after : Complex) (count : ℕ) → IsField p → IsComplex p before
    → ComesByCancelling p before after → AreEmptyDown before count → AreEmptyDown after count
empty_down-comes p before after count field is comes empty = grind (arith, nat_tests, high-comes, empty-comes)

-- a cancellation that may lack memory

pub comes-try : {T E : Type 0} (p : ℕ) (before after : NamedComplex) (pivot : Pivot) (result : Result T E)
    → IsPivot before.complex pivot → OnOk result (after.complex ≡ cancel p before.complex pivot) → OnErr result (after ≡ before)
    → ComesByCancelling p before.complex after.complex
comes-try p before after pivot result is_pivot ok unchanged = grind (arith, nat_tests, comes-one, comes-none)

pub empty-try : {T E : Type 0} (p : ℕ) (before after : Complex) (pivot : Pivot) (result : Result T E) → IsField p
    → IsComplex p before → IsPivot before pivot → OnOk result (after ≡ cancel p before pivot)
    → OnOk result (entries_of (column_of after pivot.degree pivot.column) ≡ [])
empty-try p before after pivot result field is is_pivot ok = grind (arith, nat_tests, empty-pivot_column)
