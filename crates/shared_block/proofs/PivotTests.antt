-- The test of a pivot, by the value in its column.
use Rattle.std.proofs.Common.{◌≡◌, ℕ, List, ◌∙◌, ap, not, sym, true, false}
use Rattle.std.specs.Prelude.{nat_eq}
use Rattle.std.proofs.lemmas.Bool.{eq-eqb, ne_eqb}
use Rattle.kh_types.specs.Complex.{Complex, IsPivot, Pivot, entry_of}
use Rattle.sparse_block.specs.Complexes.{column_of}
use Rattle.sparse_block.specs.Entries.{Entry, entries_of, value_at}
use Rattle.sparse_block.proofs.EntryLemmas.{value_at-entries_of}
use Rattle.sparse_block.proofs.ReadingLemmas.{number-column_of}
use Rattle.shared_block.specs.Commits.{is_pivot}

pub tested : (complex : Complex) (pivot : Pivot) (entries : List Entry) (value : ℕ)
    → entries ≡ entries_of (column_of complex pivot.degree pivot.column) → value ≡ value_at entries pivot.row
    → not (nat_eq value 0) ≡ is_pivot complex pivot
tested complex pivot entries value are is =
    ap (λ (n : ℕ). not (nat_eq n 0))
    (is ∙ ap (λ (es : List Entry). value_at es pivot.row) are
    ∙ value_at-entries_of (column_of complex pivot.degree pivot.column) pivot.row
    ∙ number-column_of complex pivot.degree pivot.row pivot.column)

-- the test passes exactly at a pivot

pub IsPivot-passes : (complex : Complex) (pivot : Pivot) → is_pivot complex pivot ≡ true → IsPivot complex pivot
IsPivot-passes complex pivot passes none =
    let so : true ≡ false = sym passes ∙ ap not (eq-eqb (entry_of complex pivot.degree pivot.row pivot.column) 0 none) in
    absurd (cc)

pub passes-IsPivot : (complex : Complex) (pivot : Pivot) → IsPivot complex pivot → is_pivot complex pivot ≡ true
passes-IsPivot complex pivot other = ap not (ne_eqb (entry_of complex pivot.degree pivot.row pivot.column) 0 other)

pub ruleset passing = (IsPivot-passes)
