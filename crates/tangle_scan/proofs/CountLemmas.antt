-- What is counted for a code is what the scan counts.
use Rattle.std.proofs.Common.{◌≡◌, ℕ, ◌∙◌, List, ℤ, sym, ap, ap₂}
use Rattle.std.proofs.Math.Path.{fun_ext}
use Rattle.kh_types.specs.Code.{Code}
use Rattle.kh_types.specs.Directions.{minus_count, plus_count}
use Rattle.kh_types.specs.Table as tables
use Rattle.kh_types.specs.Table.{Row}
use Rattle.scan_laws.specs.Counts.{counted, counted_table}
use Rattle.tangle_scan.specs.declared.complex.TangleComplex.{TangleComplex}
use Rattle.tangle_scan.specs.declared.finished.counting.Counted.{Counted}
use Rattle.tangle_scan.specs.CountedRows.{IsCountedFor, all_rows_by, dims_of}
use Rattle.tangle_scan.specs.Held.{scan_behind}
use Rattle.tangle_scan.specs.Tallies.{count_at, tallied}
use Rattle.tangle_scan.proofs.TallyLemmas.{counted-tallied}

module _ (code : Code) (done : ℕ) (opened : List ℕ) (complex : TangleComplex) (made : Counted)
    (is : IsCountedFor code complex.objects.items made) where
  dims-with : (i j : ℤ) → dims_of made i j ≡ tallied (count_at code.loops (plus_count code.crossings) (minus_count code.crossings) i j)
      made.tallies.items
  dims-with i j =
      ap (λ loops. tallied (count_at loops made.plus made.minus i j) made.tallies.items) is.loops
      ∙ ap₂ (λ (plus minus : ℕ). tallied (count_at code.loops plus minus i j) made.tallies.items) is.plus is.minus

  dims-counted : (i j : ℤ) → dims_of made i j ≡ counted code (scan_behind done opened complex) i j
  dims-counted i j =
      let plus = plus_count code.crossings in
      let minus = minus_count code.crossings in
      dims-with i j ∙ is.tallies (count_at code.loops plus minus i j)
      ∙ sym (counted-tallied code.loops plus minus opened i j complex.objects.items)

  pub table-counted : (p : ℕ) (rows : List Row) → rows ≡ all_rows_by (dims_of made) made.crossings
      → (let homology : tables.Table = record { field = p; rows = rows } in homology)
      ≡ counted_table p code (scan_behind done opened complex)
  table-counted p rows are =
      ap (λ (all : List Row). let homology : tables.Table = record { field = p; rows = all } in homology)
      (are
      ∙ ap₂ (λ (dims : ℤ → ℤ → ℕ) (n : ℕ). all_rows_by dims n) (fun_ext (λ i. fun_ext (λ j. dims-counted i j))) is.crossings)
