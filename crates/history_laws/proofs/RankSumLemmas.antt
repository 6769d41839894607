-- A cancellation takes one from the sum of the ranks.
use Rattle.std.proofs.Common.{◌≡◌, ℕ, ◌+◌, ◌∙◌, pos, ◌+ℤ◌, ap, sym, subst, arith, true}
use Rattle.std.specs.Prelude.{◌≢◌}
use Rattle.kh_types.specs.Rank.{rank}
use Rattle.kh_types.specs.Complex.{Complex, Pivot, IsComplex, IsPivot, empty_degree, degree_number, is_zero, cancel}
use Rattle.kh_types.proofs.CancelLemmas.{degrees-cancel}
use Rattle.kh_types.proofs.ComplexLemmas.{degree_of-number}
use Rattle.prime_field.specs.Residues.{IsField}
use Rattle.sparse_block.proofs.ListSums.{sum_by-one_more, sum_by-nothing}
use Rattle.sparse_block.proofs.LivePlaces.{pivot-number, same_number}
use Rattle.history_laws.specs.RankSums.{rank_out, rank_sum}
use Rattle.history_laws.proofs.ZeroLemmas.{rank_out-zero}
use Rattle.history_laws.proofs.DegreeRanks.{rank-at_pivot, rank-others}

-- the rank of the matrix out of a degree, by its number
rank-number : (p : ℕ) (complex : Complex) (k : ℕ)
    → rank p (degree_number complex k).matrix ≡ rank_out p complex (complex.low +ℤ pos k)
rank-number p complex k = ap (λ degree. rank p degree.matrix) (sym (degree_of-number complex k))

pub rank_sum-cancel : (p : ℕ) (complex : Complex) (pivot : Pivot) → IsField p → IsComplex p complex → IsPivot complex pivot
    → rank_sum p (cancel p complex pivot) + 1 ≡ rank_sum p complex
rank_sum-cancel p complex pivot field is is_pivot =
    let after = cancel p complex pivot in
    let number = pivot-number p complex pivot is is_pivot in
    let falls : rank p (degree_number after number.0).matrix + 1 ≡ rank p (degree_number complex number.0).matrix =
    ap (λ r. r + 1) (rank-number p after number.0)
    ∙ subst (λ d. rank_out p after d + 1 ≡ rank_out p complex d) number.2 (rank-at_pivot p complex pivot field is is_pivot)
    ∙ sym (rank-number p complex number.0) in
    let stays : (k : ℕ) → k ≢ number.0 → rank p (degree_number after k).matrix ≡ rank p (degree_number complex k).matrix =
    λ k other.
    let not_here : complex.low +ℤ pos k ≢ pivot.degree = λ same. other (same_number complex.low k number.0 (same ∙ number.2)) in
    rank-number p after k ∙ rank-others p complex pivot (complex.low +ℤ pos k) field is is_pivot not_here
    ∙ sym (rank-number p complex k) in
    sum_by-one_more (λ degree. rank p degree.matrix) empty_degree after.degrees complex.degrees number.0
    (degrees-cancel p complex pivot) (omega (arith, number.1)) falls stays

pub rank_sum-zero : (p : ℕ) (complex : Complex) → is_zero complex ≡ true → rank_sum p complex ≡ 0
rank_sum-zero p complex zeros =
    sum_by-nothing (λ degree. rank p degree.matrix) empty_degree complex.degrees
    (λ k. rank-number p complex k ∙ rank_out-zero p complex (complex.low +ℤ pos k) zeros)
