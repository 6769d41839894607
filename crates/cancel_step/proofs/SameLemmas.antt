-- A complex in which no difference shows has the copied parts, and its cancellation changes them alike.
use Rattle.std.proofs.lemmas.Bool.Decides.{nat_tests}
use Rattle.std.proofs.Common.{◌≡◌, ℕ, ◌<◌, ◌∙◌, ◌⊎◌, inl, inr, List, length, map, get_or, ap, sym, subst, refl, arith}
use Rattle.std.specs.Prelude.{IfSome, Option, Some, slice_index}
use Rattle.std.proofs.lemmas.List.{length-map}
use Rattle.kh_types.specs.Complex.{Complex, IsComplex, IsPivot, cancel}
use Rattle.prime_field.specs.Residues.{IsField}
use Rattle.sparse_block.specs.Entries.{Entry, entries_of, value_at}
use Rattle.sparse_block.specs.Changes.{PlacedLine}
use Rattle.sparse_block.specs.Complexes.{column_of, row_of}
use Rattle.sparse_block.proofs.EntryLemmas.{value_at-entries_of}
use Rattle.cancel_step.specs.Copies.{Copied, WasCopied, WasPatched, columns_across, line_across, rows_across}
use Rattle.cancel_step.specs.Lines.{AreLines, entries_with, line_cleared}
use Rattle.cancel_step.specs.Updates.{IsAlone, IsUpdated}
use Rattle.cancel_step.specs.Foreign.{IsForeign, IsOtherColumn, IsOtherRowAt, ShowsAt}
use Rattle.cancel_step.specs.Sides.{line_on, lines_across, other_side, place_on}
use Rattle.cancel_step.specs.declared.patched.Update.{Update}
use Rattle.cancel_step.specs.declared.side.Side.{Side}
use Rattle.sparse_block.proofs.EntryValues.{entries-agree, numbers-agree}
use Rattle.cancel_step.proofs.ForeignLemmas.{none-shows, number-unless_other, same-unless_other}
use Rattle.cancel_step.proofs.CopiedLemmas.{across-cleared, across-lines, blank, entries_across, in-across, line-across_at, map-alike, parts-copied, parts_on}
use Rattle.cancel_step.proofs.SideLemmas.{size_on}

-- a complex in which no difference shows has the copied parts

module _ (p : ℕ) (complex : Complex) (parts : Copied) (is : IsComplex p complex) (was : WasCopied p parts)
    (same : (column : ℕ) → ShowsAt parts complex column → ⊥) where
  copy-same : (side : Side) (e : Entry) (k : ℕ) (d : PlacedLine) → k < length (parts_on side parts)
      → get_or (parts_on side parts) k d ≡ line_across (line_on side was.complex parts.pivot.degree) e
      → entries_of (line_on side was.complex parts.pivot.degree e.place)
      ≡ entries_of (line_on side complex parts.pivot.degree e.place)
  copy-same Side.Columns e k d inside is_line =
      let i = parts.pivot.degree in
      same-unless_other (entries_of (column_of was.complex i e.place)) (entries_of (column_of complex i e.place))
      (λ other.
      none-shows (IsOtherColumn complex i) parts.columns k e.place d (λ shows. same e.place (inl shows)) inside
      (subst (λ (copy : PlacedLine). IsOtherColumn complex i copy e.place) (sym is_line) (refl, other)))
  copy-same Side.Rows e k d inside is_line =
      let i = parts.pivot.degree in
      let row = row_of was.complex i e.place in
      entries-agree row (row_of complex i e.place)
      (λ column.
      sym (value_at-entries_of row column)
      ∙ number-unless_other (value_at (entries_of row) column) (slice_index (row_of complex i e.place) column)
      (λ other.
      none-shows (IsOtherRowAt complex i) parts.rows k column d (λ shows. same column (inr shows)) inside
      (subst (λ (line : PlacedLine). IsOtherRowAt complex i line column) (sym is_line) other)))

  line-same : (side : Side) (k : ℕ) (d : Entry) → k < length (entries_across side was.complex parts.pivot)
      → entries_of (line_on side was.complex parts.pivot.degree (get_or (entries_across side was.complex parts.pivot) k d).place)
      ≡ entries_of (line_on side complex parts.pivot.degree (get_or (entries_across side was.complex parts.pivot) k d).place)
  line-same side k d within =
      let line : ℕ → List ℕ = line_on side was.complex parts.pivot.degree in
      let es : List Entry = entries_across side was.complex parts.pivot in
      let e : PlacedLine = line_across line d in
      copy-same side (get_or es k d) k e
      (omega (
        arith,
        within,
        ap (λ (lines : List PlacedLine). length lines) (parts-copied side p parts was),
        length-map es (line_across line),
      ))
      (ap (λ (lines : List PlacedLine). get_or lines k e) (parts-copied side p parts was) ∙ line-across_at line es k d e within)

  pivot_line-same : (side : Side) → entries_of (line_on side was.complex parts.pivot.degree (place_on side parts.pivot))
      ≡ entries_of (line_on side complex parts.pivot.degree (place_on side parts.pivot))
  pivot_line-same side =
      let has = in-across side p was.complex parts.pivot was.is_complex was.is_pivot in
      subst
      (λ (place : ℕ). entries_of (line_on side was.complex parts.pivot.degree place)
      ≡ entries_of (line_on side complex parts.pivot.degree place))
      has.is_place (line-same side has.at blank has.within)

  pub pivot-same : IsPivot complex parts.pivot
  pivot-same none =
      was.is_pivot
      (numbers-agree (row_of was.complex parts.pivot.degree parts.pivot.row) (row_of complex parts.pivot.degree parts.pivot.row)
      parts.pivot.column (pivot_line-same Side.Rows) ∙ none)

  across-same : (side : Side)
      → lines_across side was.complex parts.pivot was.complex ≡ lines_across side complex parts.pivot complex
  across-same side = grind (arith, nat_tests, entries_across, map-alike, line-same, pivot_line-same)

  -- and its cancellation changes them alike
  across-patched : (side : Side) → IsField p → lines_across side was.complex parts.pivot (cancel p was.complex parts.pivot)
      ≡ lines_across side complex parts.pivot (cancel p complex parts.pivot)
  across-patched side field =
      let size = size_on side was.complex parts.pivot.degree in
      let lines = across-lines side p was.complex parts.pivot was.is_complex in
      sym (across-cleared side p was.complex parts.pivot was.is_complex was.is_pivot field size lines)
      ∙ ap
      (λ (lines : List PlacedLine).
      map (line_cleared p size (entries_with lines (place_on side parts.pivot)) (place_on (other_side side) parts.pivot)) lines)
      (across-same side)
      ∙ across-cleared side p complex parts.pivot is pivot-same field size (subst (AreLines p size) (across-same side) lines)

  -- a pivot that stands alone in the copied parts does so in the complex

  parts-count : (side : Side) → length (parts_on side parts) ≡ length (entries_across side complex parts.pivot)
  parts-count side =
      ap (λ (lines : List PlacedLine). length lines) (parts-copied side p parts was ∙ across-same side)
      ∙ length-map (entries_across side complex parts.pivot) (line_across (line_on side complex parts.pivot.degree))

  pub alone-same : IsAlone parts → (length (entries_of (column_of complex parts.pivot.degree parts.pivot.column)) ≡ 1)
      ⊎ (length (entries_of (row_of complex parts.pivot.degree parts.pivot.row)) ≡ 1)
  alone-same alone =
      elim alone [
        | inl one ↦ inr (sym (parts-count Side.Columns) ∙ one)
        | inr one ↦ inl (sym (parts-count Side.Rows) ∙ one)
      ]

-- so the lines of an update are those of the complex after the cancellation
pub updated-fits : (p : ℕ) (complex : Complex) → IsField p → IsComplex p complex → (look inside : Copied) (update : Option Update)
    (made : Update) → look ≡ inside → IsUpdated p inside update → update ≡ Some made → ¬ IsForeign look complex
    → (made.columns.items ≡ columns_across complex look.pivot (cancel p complex look.pivot))
    × (made.rows.items ≡ rows_across complex look.pivot (cancel p complex look.pivot))
updated-fits p complex field is look inside update made is_look updated is_made fits =
    let patched : WasPatched p look made.columns.items made.rows.items =
    subst (λ (parts : Copied). WasPatched p parts made.columns.items made.rows.items) (sym is_look)
    (subst
    (λ (update : Option Update). IfSome update (λ made. WasPatched p inside made.columns.items made.rows.items)) is_made
    updated.updated) in
    let shows : (column : ℕ) → ShowsAt look complex column → ⊥ = λ column shows. fits (column, shows) in (
      patched.are_columns ∙ across-patched p complex look is patched.from shows Side.Columns field,
      patched.are_rows ∙ across-patched p complex look is patched.from shows Side.Rows field,
    )
