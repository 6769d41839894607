-- The complex that names and columns make is one before any cancellation, and its columns are those that are listed.
use Rattle.std.proofs.Common.{◌≡◌, ℕ, ◌+◌, ◌<◌, ◌∙◌, inl, inr, List, [], ℤ, pos, ◌+ℤ◌, length, get_or, map, refl, ap, sym, subst, arith, Bool}
use Rattle.std.specs.Prelude.{slice_index_or}
use Rattle.std.specs.Global.{Vec}
use Rattle.std.proofs.Math.ListN.{get_or-map}
use Rattle.std.proofs.lemmas.Bool.Decides.{leb_tells}
use Rattle.std.proofs.lemmas.Int.{ints}
use Rattle.std.proofs.lemmas.List.{ext_get_or, get_or_past, length-map}
use Rattle.smallvec.specs.SmallVec.{SmallVec}
use Rattle.kh_types.specs.Complex.{Complex, Degree, IsComplex, empty_degree, entry_in}
use Rattle.kh_types.specs.Generators.{Generator}
use Rattle.kh_types.proofs.ComplexLemmas.{degree_of-number}
use Rattle.kh_types.proofs.MatrixTests.{entry-past_rows}
use Rattle.prime_field.specs.Residues.{IsField}
use Rattle.sparse_block.specs.Complexes.{MakeComplex, all_alive, degrees_from, matrix_from, place_count, sparse_complex}
use Rattle.sparse_block.specs.Entries.{Entry, AreEntries}
use Rattle.sparse_block.specs.Inside.{entries_in, lines_in, row_entries}
use Rattle.sparse_block.specs.Opening.{IsColumnOf, IsOpening}
use Rattle.sparse_block.proofs.AscendingLemmas.{entries-ascend, entries-from_ascend}
use Rattle.sparse_block.proofs.BuildLemmas.{kept-built, sizes-all_alive}
use Rattle.sparse_block.proofs.DegreeLemmas.{degree_of-at, length-at, length-degrees_from, length-same}
use Rattle.sparse_block.proofs.EntryValues.{value_at-past}
use Rattle.sparse_block.proofs.LineLemmas.{line-entries_in, lines-lines_in}
use Rattle.sparse_block.proofs.MatrixLemmas.{entry-matrix_from, length-matrix_from}

module _ (p : ℕ) (low : ℤ) (names : List (List Generator)) (lines : List (List (List Entry))) (field : IsField p)
    (can : MakeComplex p low names lines) where
  abbrev complex : Complex
  complex = (sparse_complex low names lines).complex

  is_complex : IsComplex p complex
  is_complex =
      (kept-built p low names (all_alive names) lines (map row_entries (degrees_from (all_alive names) lines))
      (omega (arith, field.above_one)) can.some can.end can.counts can.sizes can.entries can.squares refl refl).is_complex

  abbrev places : Degree → List Bool
  places degree = degree.alive

  are_alive : map (λ (degree : Degree). degree.alive) complex.degrees ≡ all_alive names
  are_alive =
      let count : length (map places complex.degrees) ≡ length (all_alive names) =
      length-map complex.degrees places ∙ length-degrees_from (all_alive names) lines in
      ext_get_or [] (map places complex.degrees) (all_alive names) count
      (λ k within.
      get_or-map places complex.degrees k empty_degree ∙ ap places (sym (degree_of-number complex k))
      ∙ ap places (degree_of-at low (low +ℤ pos k) (all_alive names) lines k refl))

  pub opening-sparse : IsOpening p (sparse_complex low names lines)
  opening-sparse =
      record { some = can.some; end = can.end; counts = can.counts; is_complex = is_complex; alive = are_alive }

  height : (k : ℕ) → length (slice_index_or (all_alive names) (k + 1) []) ≡ length (slice_index_or names (k + 1) [])
  height k = length-at (all_alive names) names (k + 1) (sizes-all_alive names)

  column-entries : (k column : ℕ)
      → AreEntries p (length (slice_index_or names (k + 1) [])) (slice_index_or (slice_index_or lines k []) column [])
  column-entries k column =
      let columns = slice_index_or lines k [] in
      let size = length (slice_index_or names (k + 1) []) in
      elim (leb_tells (length columns) column) [
        | inl past ↦
            subst (AreEntries p size) (sym (get_or_past columns column [] past.1)) (entries-from_ascend p 0 size [] tt)
        | inr within ↦ can.entries k column [] (omega (arith, within.1))
      ]

  pub column-sparse : (k column : ℕ)
      → IsColumnOf p (sparse_complex low names lines).complex (low +ℤ pos k) column
      (slice_index_or (slice_index_or lines k []) column [])
  column-sparse k column =
      let columns = slice_index_or lines k [] in
      let rows = length (slice_index_or (all_alive names) (k + 1) []) in
      let size = length (slice_index_or names (k + 1) []) in
      let next : low +ℤ pos k +ℤ pos 1 ≡ low +ℤ pos (k + 1) = omega (arith, ints) in
      let count : place_count complex (low +ℤ pos k +ℤ pos 1) ≡ size =
      ap (λ (degree : Degree). length degree.alive) (degree_of-at low (low +ℤ pos k +ℤ pos 1) (all_alive names) lines (k + 1) next)
      ∙ height k in
      record {
        are = subst (λ (n : ℕ). AreEntries p n (slice_index_or columns column [])) (sym count) (column-entries k column);
        values = λ row.
            sym (ap (λ (degree : Degree). entry_in degree.matrix row column)
            (degree_of-at low (low +ℤ pos k) (all_alive names) lines k refl)
            ∙ elim (leb_tells rows row) [
              | inl past ↦
                  entry-past_rows (matrix_from rows columns) row column (omega (arith, past.1, length-matrix_from rows columns))
                  ∙ sym (value_at-past p 0 size row (slice_index_or columns column [])
                  (entries-ascend p size (slice_index_or columns column []) (column-entries k column))
                  (omega (arith, past.1, height k)))
              | inr within ↦ entry-matrix_from rows row column columns (omega (arith, within.1))
            ]);
      }

-- the columns of a degree in memory
module _ (names : List (List Generator)) (columns : List (Vec (SmallVec Entry))) (k place : ℕ) (degree : Vec (SmallVec Entry))
    (sizes : map length (lines_in columns) ≡ map length names) (within : k < length names)
    (there : place < length (slice_index_or names k [])) (at : degree ≡ get_or columns k degree) where
  degree-lines : entries_in degree.items ≡ slice_index_or (lines_in columns) k []
  degree-lines =
      let size = length-same (lines_in columns) names sizes in
      let count : length (lines_in columns) ≡ length columns =
      length-map columns (λ (degree : Vec (SmallVec Entry)). entries_in degree.items) in
      sym (lines-lines_in columns k degree (omega (arith, within, size, count)) at)

  pub place-of_degree : place < length degree.items
  place-of_degree =
      omega (
        arith,
        there,
        length-at (lines_in columns) names k sizes,
        ap length degree-lines,
        length-map degree.items (λ (line : SmallVec Entry). line.items),
      )

  pub column-of_degree : (line : SmallVec Entry) → line ≡ get_or degree.items place line
      → slice_index_or (slice_index_or (lines_in columns) k []) place [] ≡ line.items
  column-of_degree line is =
      ap (λ (lines : List (List Entry)). slice_index_or lines place []) (sym degree-lines)
      ∙ line-entries_in degree.items place line place-of_degree is
