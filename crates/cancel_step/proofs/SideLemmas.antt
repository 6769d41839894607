-- A column and a row are one thing seen from two sides: what is said here of a line of a side holds of both.
use Rattle.std.proofs.lemmas.Bool.Decides.{nat_tests}
use Rattle.std.proofs.Common.{arith, ◌≡◌, ℕ, ◌*◌, ◌∙◌, List, ℤ, pos, ◌+ℤ◌, ap, sym}
use Rattle.std.specs.Prelude.{slice_index}
use Rattle.kh_types.specs.Complex.{Complex, IsComplex, IsPivot, Pivot, cancel, entry_of}
use Rattle.kh_types.specs.Rank.{minus_mod}
use Rattle.prime_field.specs.Residues.{IsField, inverse_mod, product_mod}
use Rattle.sparse_block.specs.Complexes.{place_count}
use Rattle.sparse_block.specs.Entries.{Entry, AreEntries, entries_of, value_at}
use Rattle.sparse_block.proofs.EntryLemmas.{value_at-entries_of}
use Rattle.sparse_block.proofs.ReadingLemmas.{column-entries, number-column_of, row-entries}
use Rattle.sparse_block.specs.LinePairs.{line_less}
use Rattle.cancel_step.specs.Sides.{line_on, other_side, place_on}
use Rattle.cancel_step.specs.declared.side.Side.{Side}
use Rattle.sparse_block.proofs.EntryValues.{entries-agree}
use Rattle.sparse_block.proofs.CancelledNumbers.{entry-along_column, entry-along_row, entry-cancel}
use Rattle.sparse_block.proofs.PairLemmas.{number-line_less}

-- how many places a line of a side has
abbrev pub size_on : Side → Complex → ℤ → ℕ
size_on Side.Columns complex i = place_count complex (i +ℤ pos 1)
size_on Side.Rows complex i = place_count complex i

-- the entry of a line at a place
abbrev pub entry_on : Side → Complex → ℤ → ℕ → ℕ → ℕ
entry_on Side.Columns complex i line place = entry_of complex i place line
entry_on Side.Rows complex i line place = entry_of complex i line place

pub entries-on : (side : Side) (p : ℕ) (complex : Complex) (i : ℤ) (line : ℕ) → IsComplex p complex
    → AreEntries p (size_on side complex i) (entries_of (line_on side complex i line))
entries-on Side.Columns p complex i line is = column-entries p complex i line is
entries-on Side.Rows p complex i line is = row-entries p complex i line is

pub number-on : (side : Side) (complex : Complex) (i : ℤ) (line place : ℕ)
    → slice_index (line_on side complex i line) place ≡ entry_on side complex i line place
number-on side complex i line place = grind (arith, nat_tests, number-column_of)

pub value-on : (side : Side) (complex : Complex) (i : ℤ) (line place : ℕ)
    → value_at (entries_of (line_on side complex i line)) place ≡ entry_on side complex i line place
value-on side complex i line place = grind (arith, nat_tests, value_at-entries_of, number-on)

pub entry-across : (side : Side) (complex : Complex) (i : ℤ) (line place : ℕ)
    → entry_on (other_side side) complex i place line ≡ entry_on side complex i line place
entry-across side complex i line place = grind (arith, nat_tests)

pub entry-pivot : (side : Side) (complex : Complex) (pivot : Pivot)
    → entry_on side complex pivot.degree (place_on side pivot) (place_on (other_side side) pivot)
    ≡ entry_of complex pivot.degree pivot.row pivot.column
entry-pivot side complex pivot = grind (arith, nat_tests)

-- the pivot stands in its own line of a side
pub pivot-on : (side : Side) (complex : Complex) (pivot : Pivot)
    → value_at (entries_of (line_on side complex pivot.degree (place_on side pivot))) (place_on (other_side side) pivot)
    ≡ entry_of complex pivot.degree pivot.row pivot.column
pivot-on side complex pivot = grind (arith, nat_tests, value-on, entry-pivot)

-- a line less the multiple of the pivot's line that clears the place of the pivot is the line after the cancellation

module _ (p : ℕ) (complex : Complex) (pivot : Pivot) (field : IsField p) (is : IsComplex p complex) (is_pivot : IsPivot complex pivot)
  where
    entry-along : (side : Side) (line place : ℕ)
        → minus_mod p (entry_on side complex pivot.degree line place)
        (product_mod p (entry_on side complex pivot.degree line (place_on (other_side side) pivot))
        (inverse_mod p (entry_of complex pivot.degree pivot.row pivot.column))
        * entry_on side complex pivot.degree (place_on side pivot) place)
        ≡ entry_on side (cancel p complex pivot) pivot.degree line place
    entry-along Side.Columns line place =
        entry-along_column p pivot.row pivot.column (entry_of complex pivot.degree) field (is.below pivot.degree) is_pivot place line
        ∙ sym (entry-cancel p complex pivot place line is is_pivot)
    entry-along Side.Rows line place =
        entry-along_row p pivot.row pivot.column (entry_of complex pivot.degree) field (is.below pivot.degree) is_pivot line place
        ∙ sym (entry-cancel p complex pivot line place is is_pivot)

    pub line-less : (side : Side) (size line factor : ℕ) (entries others : List Entry)
        → entries ≡ entries_of (line_on side complex pivot.degree line)
        → others ≡ entries_of (line_on side complex pivot.degree (place_on side pivot))
        → AreEntries p size entries → AreEntries p size others
        → factor ≡ product_mod p (entry_on side complex pivot.degree line (place_on (other_side side) pivot))
        (inverse_mod p (entry_of complex pivot.degree pivot.row pivot.column))
        → entries_of (line_less p size entries factor others)
        ≡ entries_of (line_on side (cancel p complex pivot) pivot.degree line)
    line-less side size line factor entries others are_line are_pivot are are_others is_factor =
        let i = pivot.degree in
        let entry : ℕ → ℕ → ℕ = entry_on side complex i in
        let value : (line : ℕ) (es : List Entry) (k : ℕ) → es ≡ entries_of (line_on side complex i line) → value_at es k ≡ entry line k =
        λ line es k same. ap (λ (es : List Entry). value_at es k) same ∙ value-on side complex i line k in
        let own = place_on side pivot in
        entries-agree (line_less p size entries factor others) (line_on side (cancel p complex pivot) i line)
        (λ k.
        number-line_less p size entries others factor k are are_others
        ∙ ap (λ (x : ℕ). minus_mod p x (factor * value_at others k)) (value line entries k are_line)
        ∙ ap (λ (y : ℕ). minus_mod p (entry line k) (factor * y)) (value own others k are_pivot)
        ∙ ap (λ (f : ℕ). minus_mod p (entry line k) (f * entry own k)) is_factor
        ∙ entry-along side line k
        ∙ sym (number-on side (cancel p complex pivot) i line k))
