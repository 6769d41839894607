-- The laws of the plain rank: it falls by one with any pivot, and it is kept where a row or a column that depends on others is
-- put to 0, and where rows and columns change places.
use Rattle.std.proofs.Common.{◌≡◌, ℕ, suc, ◌<◌, ◌≢◌, inl, inr, List, length, arith}
use Rattle.std.proofs.lemmas.Bool.Decides.{leb_tells}
use Rattle.kh_types.specs.Rank.{rank}
use Rattle.kh_types.specs.Complex.{Pivot, entry_in, cancelled_matrix, without_row, without_column}
use Rattle.kh_types.specs.Residues.{HasInverses}
use Rattle.kh_types.specs.MatrixRanks.{HasRank, IsDependent, IsMatrix}
use Rattle.kh_types.proofs.Residues.{same-equal}
use Rattle.kh_types.proofs.PivotLemmas.{rank-same, rank-pivot, rank-transposed, rank-determined}
use Rattle.kh_types.proofs.DependentRows.{rank-row_cleared, rank-column_cleared, row_cleared, column_cleared}
use Rattle.kh_types.proofs.PlainRank.{rank-least, other-below}
use Rattle.kh_types.proofs.MatrixEntries.{entry_cancelled, entry_cancelled-below, entry-cancelled_matrix, leaves-entry_cancelled, entry-without_row, entry-without_column, matrix-without_row, matrix-without_column, matrix-with_entries}
use Rattle.kh_types.proofs.MatrixTests.{entry-past_rows}

-- a number that is the rank is the plain rank
pub rank-plain : (p n r : ℕ) (rows : List (List ℕ)) → HasInverses p → IsMatrix p n rows → HasRank p (entry_in rows) r → rank p rows ≡ r
rank-plain p n r rows field is has = rank-determined p (rank p rows) r (entry_in rows) (rank-least p n rows field is) has

-- the same entries, by whatever function
pub rank-entries : (p n : ℕ) (entry : ℕ → ℕ → ℕ) (rows : List (List ℕ)) → HasInverses p → IsMatrix p n rows
    → ((i j : ℕ) → entry_in rows i j ≡ entry i j) → HasRank p entry (rank p rows)
rank-entries p n entry rows field is entries =
    rank-same p (rank p rows) (entry_in rows) entry (λ i j. same-equal p (entry_in rows i j) (entry i j) (entries i j))
    (rank-least p n rows field is)

-- any entry other than 0 is a pivot: the rank is 1 more than that of what its cancellation leaves
pub rank-cancelled_matrix : (p n : ℕ) (pivot : Pivot) (rows : List (List ℕ)) → HasInverses p → IsMatrix p n rows
    → entry_in rows pivot.row pivot.column ≢ 0 → rank p rows ≡ suc (rank p (cancelled_matrix p pivot rows))
rank-cancelled_matrix p n pivot rows field is other =
    let positive : 0 < p = omega (arith, field.above_one) in
    let a = pivot.row in
    let b = pivot.column in
    let within : a < length rows =
    elim (leb_tells (length rows) a) [
      | inl past ↦ absurd (other (entry-past_rows rows a b past.1))
      | inr below ↦ below.1
    ] in
    let entries = entry-cancelled_matrix p pivot rows n is within in
    let left : IsMatrix p n (cancelled_matrix p pivot rows) =
    matrix-with_entries p n (entry_cancelled p a b (entry_in rows)) rows is entries
    (λ i j. entry_cancelled-below p a b i j (entry_in rows) positive) in
    rank-plain p n (suc (rank p (cancelled_matrix p pivot rows))) rows field is
    (rank-pivot p (rank p (cancelled_matrix p pivot rows)) (entry_in rows) (entry_cancelled p a b (entry_in rows)) a b field
    (leaves-entry_cancelled p a b (entry_in rows) field (other-below p (entry_in rows a b) (is.below a b) other))
    (rank-entries p n (entry_cancelled p a b (entry_in rows)) (cancelled_matrix p pivot rows) field left entries))

-- a row that depends on others may be put to 0
pub rank-without_row : (p n m dead : ℕ) (rows : List (List ℕ)) → HasInverses p → IsMatrix p n rows
    → IsDependent p m dead (entry_in rows) → rank p (without_row dead rows) ≡ rank p rows
rank-without_row p n m dead rows field is dependent =
    rank-determined p (rank p (without_row dead rows)) (rank p rows) (row_cleared dead (entry_in rows))
    (rank-entries p n (row_cleared dead (entry_in rows)) (without_row dead rows) field
    (matrix-without_row p n dead rows (omega (arith, field.above_one)) is) (entry-without_row dead rows))
    (rank-row_cleared p (rank p rows) m dead (entry_in rows) field dependent (rank-least p n rows field is))

-- and so may such a column
pub rank-without_column : (p n m dead : ℕ) (rows : List (List ℕ)) → HasInverses p → IsMatrix p n rows
    → IsDependent p m dead (λ i j. entry_in rows j i) → rank p (without_column dead rows) ≡ rank p rows
rank-without_column p n m dead rows field is dependent =
    rank-determined p (rank p (without_column dead rows)) (rank p rows) (column_cleared dead (entry_in rows))
    (rank-entries p n (column_cleared dead (entry_in rows)) (without_column dead rows) field
    (matrix-without_column p n dead rows (omega (arith, field.above_one)) is) (entry-without_column dead rows))
    (rank-column_cleared p (rank p rows) m dead (entry_in rows) field dependent (rank-least p n rows field is))

-- the rank of a matrix with rows for columns
pub rank-transposed_rows : (p n m : ℕ) (rows turned : List (List ℕ)) → HasInverses p → IsMatrix p n rows → IsMatrix p m turned
    → ((i j : ℕ) → entry_in turned i j ≡ entry_in rows j i) → rank p turned ≡ rank p rows
rank-transposed_rows p n m rows turned field is turned_is entries =
    rank-determined p (rank p turned) (rank p rows) (λ i j. entry_in rows j i)
    (rank-entries p m (λ i j. entry_in rows j i) turned field turned_is entries)
    (rank-transposed p (rank p rows) (entry_in rows) (rank-least p n rows field is))
