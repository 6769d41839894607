-- A cancellation lowers the rank of the pivot's matrix by one, keeps all other ranks, and so keeps the homology dimensions.
use Rattle.std.proofs.lemmas.Bool.Decides.{nat_tests}
use Rattle.std.proofs.Common.{◌≡◌, ℕ, suc, ◌+◌, ◌*◌, ◌%◌, ◌∙◌, ℤ, pos, ◌+ℤ◌, ◌-ℤ◌, length, ap, sym, subst, refl, arith}
use Rattle.std.specs.Prelude.{◌≢◌}
use Rattle.std.proofs.lemmas.Int.{ints}
use Rattle.kh_types.specs.Rank.{rank}
use Rattle.kh_types.specs.Complex.{Complex, Pivot, IsComplex, IsPivot, degree_of, entry_of, alive_count, dimension_of, cancelled_matrix, cancel}
use Rattle.prime_field.specs.Residues.{IsField}
use Rattle.kh_types.specs.MatrixRanks.{IsDependent}
use Rattle.kh_types.proofs.Sums.{sum_below-equal}
use Rattle.kh_types.proofs.PlainRank.{other-below}
use Rattle.kh_types.proofs.RankLaws.{rank-cancelled_matrix, rank-without_row, rank-without_column}
use Rattle.sparse_block.proofs.FieldInverses.{inverses-field}
use Rattle.sparse_block.proofs.ComplexMatrices.{matrix-of_degree, entry-stands, product-of_complex}
use Rattle.sparse_block.proofs.CancelledDegrees.{Where, where_is, degree-at_pivot, degree-after_pivot, degree-before_pivot, degree-elsewhere}
use Rattle.sparse_block.proofs.CancelledMatrices.{pivot-at}
use Rattle.history_laws.specs.RankSums.{rank_out, rank_into}
use Rattle.sparse_block.proofs.PlaceLemmas.{alive_count-at_pivot, alive_count-after_pivot, alive_count-others}

-- the pivot's matrix
pub rank-at_pivot : (p : ℕ) (complex : Complex) (pivot : Pivot) → IsField p → IsComplex p complex → IsPivot complex pivot
    → rank_out p (cancel p complex pivot) pivot.degree + 1 ≡ rank_out p complex pivot.degree
rank-at_pivot p complex pivot field is is_pivot =
    let matrix = (degree_of complex pivot.degree).matrix in
    let falls : rank p matrix ≡ suc (rank p (cancelled_matrix p pivot matrix)) =
    rank-cancelled_matrix p (length (degree_of complex pivot.degree).alive) pivot matrix (inverses-field p field)
    (matrix-of_degree p complex is pivot.degree) is_pivot in
    let after : rank_out p (cancel p complex pivot) pivot.degree ≡ rank p (cancelled_matrix p pivot matrix) =
    ap (λ degree. rank p degree.matrix) (degree-at_pivot p complex pivot pivot.degree refl) in
    omega (arith, falls, after)

-- the matrix into the pivot's degree: its rows, times the entries of the pivot's row, add up to 0
rank-before_pivot : (p : ℕ) (complex : Complex) (pivot : Pivot) (i : ℤ) → IsField p → IsComplex p complex
    → i +ℤ pos 1 ≡ pivot.degree → entry_of complex (i +ℤ pos 1) pivot.row pivot.column ≢ 0
    → rank_out p (cancel p complex pivot) i ≡ rank_out p complex i
rank-before_pivot p complex pivot i field is here other =
    let next = i +ℤ pos 1 in
    let dependent : IsDependent p (length (degree_of complex next).alive) pivot.column (entry_of complex i) =
    record {
      factor = entry_of complex next pivot.row;
      within = (entry-stands p complex next pivot.row pivot.column is other).column_place;
      other = other-below p (entry_of complex next pivot.row pivot.column) (is.below next pivot.row pivot.column) other;
      zeros = λ column. product-of_complex p complex i pivot.row column is;
    } in
    ap (λ degree. rank p degree.matrix) (degree-before_pivot p complex pivot i here)
    ∙ rank-without_row p (length (degree_of complex i).alive) (length (degree_of complex next).alive) pivot.column
    (degree_of complex i).matrix (inverses-field p field) (matrix-of_degree p complex is i) dependent

-- the matrix out of the next degree: its columns, times the entries of the pivot's column, add up to 0
rank-after_pivot : (p : ℕ) (complex : Complex) (pivot : Pivot) → IsField p → IsComplex p complex → IsPivot complex pivot
    → rank_out p (cancel p complex pivot) (pivot.degree +ℤ pos 1) ≡ rank_out p complex (pivot.degree +ℤ pos 1)
rank-after_pivot p complex pivot field is is_pivot =
    let i = pivot.degree in
    let next = i +ℤ pos 1 in
    let places = length (degree_of complex next).alive in
    let dependent : IsDependent p places pivot.row (λ a b. entry_of complex next b a) =
    record {
      factor = λ middle. entry_of complex i middle pivot.column;
      within = (entry-stands p complex i pivot.row pivot.column is is_pivot).row_place;
      other = other-below p (entry_of complex i pivot.row pivot.column) (is.below i pivot.row pivot.column) is_pivot;
      zeros = λ row.
          ap (λ z. z % p)
          (sum_below-equal places (λ k. entry_of complex i k pivot.column * entry_of complex next row k)
          (λ k. entry_of complex next row k * entry_of complex i k pivot.column) (λ k. omega arith))
          ∙ product-of_complex p complex i row pivot.column is;
    } in
    ap (λ degree. rank p degree.matrix) (degree-after_pivot p complex pivot next refl)
    ∙ rank-without_column p places places pivot.row (degree_of complex next).matrix (inverses-field p field)
    (matrix-of_degree p complex is next) dependent

-- all ranks but that of the pivot's own matrix stay
pub rank-others : (p : ℕ) (complex : Complex) (pivot : Pivot) (i : ℤ) → IsField p → IsComplex p complex → IsPivot complex pivot
    → i ≢ pivot.degree → rank_out p (cancel p complex pivot) i ≡ rank_out p complex i
rank-others p complex pivot i field is is_pivot not_here =
    grind (arith, nat_tests, where_is, Where, rank-after_pivot, rank-before_pivot, pivot-at, degree-elsewhere)

-- the places alive of a degree, and the ranks out of it and into it, before and after: what is lost, is lost on both sides
pub record LosesAlike (p : ℕ) (before after : Complex) (i : ℤ) : Type 0 where
  pub lost_out : ℕ
  pub lost_in : ℕ
  pub places : alive_count after i + (lost_out + lost_in) ≡ alive_count before i
  pub out : rank_out p after i + lost_out ≡ rank_out p before i
  pub into : rank_into p after i + lost_in ≡ rank_into p before i

pub loses-cancel : (p : ℕ) (complex : Complex) (pivot : Pivot) (i : ℤ) → IsField p → IsComplex p complex → IsPivot complex pivot
    → LosesAlike p complex (cancel p complex pivot) i
loses-cancel p complex pivot i field is is_pivot =
    let after = cancel p complex pivot in
    elim (where_is i pivot.degree) [
      | Where.is_at here ↦
          let not_before : i -ℤ pos 1 ≢ pivot.degree = λ same. omega (arith, ints) in
          let fewer = alive_count-at_pivot p complex pivot is is_pivot in
          let falls = rank-at_pivot p complex pivot field is is_pivot in
          let into = rank-others p complex pivot (i -ℤ pos 1) field is is_pivot not_before in
          record {
            lost_out = 1;
            lost_in = 0;
            places = subst (λ d. alive_count after d + 1 ≡ alive_count complex d) (sym here) fewer;
            out = subst (λ d. rank_out p after d + 1 ≡ rank_out p complex d) (sym here) falls;
            into = omega (arith, into);
          }
      | Where.is_after next ↦
          let before : i -ℤ pos 1 ≡ pivot.degree = omega (arith, ints) in
          let not_here : i ≢ pivot.degree = λ same. omega (arith, ints) in
          let fewer = alive_count-after_pivot p complex pivot is is_pivot in
          let falls = rank-at_pivot p complex pivot field is is_pivot in
          let out = rank-others p complex pivot i field is is_pivot not_here in
          record {
            lost_out = 0;
            lost_in = 1;
            places = subst (λ d. alive_count after d + 1 ≡ alive_count complex d) (sym next) fewer;
            out = omega (arith, out);
            into = subst (λ d. rank_out p after d + 1 ≡ rank_out p complex d) (sym before) falls;
          }
      | Where.is_before before ↦
          unlost p complex pivot i field is is_pivot (λ same. omega (arith, ints)) (λ same. omega (arith, ints))
      | Where.is_elsewhere not_here not_after not_before ↦ unlost p complex pivot i field is is_pivot not_here not_after
    ]
  where
    unlost : (p : ℕ) (complex : Complex) (pivot : Pivot) (i : ℤ) → IsField p → IsComplex p complex → IsPivot complex pivot
        → i ≢ pivot.degree → i ≢ pivot.degree +ℤ pos 1 → LosesAlike p complex (cancel p complex pivot) i
    unlost p complex pivot i field is is_pivot not_here not_after =
        let not_into : i -ℤ pos 1 ≢ pivot.degree = λ same. not_after (omega (arith, ints)) in
        let same = alive_count-others p complex pivot i not_here not_after in
        let out = rank-others p complex pivot i field is is_pivot not_here in
        let into = rank-others p complex pivot (i -ℤ pos 1) field is is_pivot not_into in
        record { lost_out = 0; lost_in = 0; places = omega (arith, same); out = omega (arith, out); into = omega (arith, into) }

-- so the homology dimension of each degree is kept
pub dimension_of-loses : (p : ℕ) (before after : Complex) (i : ℤ) → LosesAlike p before after i
    → dimension_of p after i ≡ dimension_of p before i
dimension_of-loses p before after i loses = omega (arith, loses.places, loses.out, loses.into)

pub dimension_of-cancel : (p : ℕ) (complex : Complex) (pivot : Pivot) (i : ℤ) → IsField p → IsComplex p complex
    → IsPivot complex pivot → dimension_of p (cancel p complex pivot) i ≡ dimension_of p complex i
dimension_of-cancel p complex pivot i field is is_pivot =
    dimension_of-loses p complex (cancel p complex pivot) i (loses-cancel p complex pivot i field is is_pivot)
