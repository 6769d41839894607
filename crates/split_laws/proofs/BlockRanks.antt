-- Ranks of block matrices.
--
-- A matrix that has two others as blocks, and zeros at the rows of the first and the columns of the second, has at least the rank of both
-- together: the pivots of the first leave the second as it is.
use Rattle.std.proofs.Common.{◌≡◌, ◌≢◌, ℕ, zero, suc, inl, inr, ◌⊎◌, ◌+◌, ◌-◌, ◌*◌, ◌%◌, ◌<◌, ◌≤◌, ◌∙◌, List, [], ◌∷◌, length, refl, sym, ap, arith}
use Rattle.std.specs.Prelude.{slice_index}
use Rattle.std.proofs.lemmas.Bool.{cases_eq}
use Rattle.std.proofs.lemmas.Bool.Decides.{leb_tells}
use Rattle.kh_types.specs.Complex.{Pivot, cancelled_matrix, entry_in, pivot_at}
use Rattle.std.specs.Prelude.{pos}
use Rattle.kh_types.specs.MatrixRanks.{IsMatrix, Leaves}
use Rattle.kh_types.specs.Products.{Factors, product_at}
use Rattle.kh_types.specs.Rank.{rank}
use Rattle.kh_types.specs.Residues.{HasInverses, Same}
use Rattle.kh_types.proofs.FactorLemmas.{factors-added, factors-same}
use Rattle.kh_types.proofs.MatrixEntries.{entry-cancelled_matrix, entry_cancelled, entry_cancelled-below, leaves-entry_cancelled, matrix-with_entries}
use Rattle.kh_types.proofs.MatrixTests.{entry-past_rows}
use Rattle.kh_types.proofs.PivotLemmas.{factors-left}
use Rattle.kh_types.proofs.PlainRank.{other-below, rank-least}
use Rattle.kh_types.proofs.RankLaws.{rank-cancelled_matrix}
use Rattle.kh_types.proofs.Residues.{same-add, same-equal, same-mul, same-multiple, same-scaled}
use Rattle.plain_matrix.specs.Steps.{IsElimination}
use Rattle.plain_matrix.specs.Steps.IsElimination.{over, step}

-- an entry other than 0, or none (as in sparse_block's FindPivot)
find_column : (row : List ℕ) → ((column : ℕ) × (slice_index row column ≢ 0)) ⊎ ((column : ℕ) → slice_index row column ≡ 0)
find_column [] = inr (λ column. refl)
find_column (x ∷ row) = elim (cases_eq x 0) [
  | inr some ↦ inl (0, some)
  | inl none ↦ elim (find_column row) [
    | inl found ↦ inl (suc found.0, found.1)
    | inr zeros ↦ inr (all none zeros)
  ]
]
  where
    all : x ≡ 0 → ((column : ℕ) → slice_index row column ≡ 0) → (column : ℕ) → slice_index (x ∷ row) column ≡ 0
    all none zeros zero = none
    all none zeros (suc column) = zeros column

find_entry : (rows : List (List ℕ))
    → ((row column : ℕ) × (entry_in rows row column ≢ 0)) ⊎ ((row column : ℕ) → entry_in rows row column ≡ 0)
find_entry [] = inr (λ row column. refl)
find_entry (first ∷ rows) = elim (find_column first) [
  | inl found ↦ inl (0, found.0, found.1)
  | inr none ↦ elim (find_entry rows) [
    | inl found ↦ inl (suc found.0, found.1, found.2)
    | inr zeros ↦ inr (all none zeros)
  ]
]
  where
    all : ((column : ℕ) → slice_index first column ≡ 0) → ((row column : ℕ) → entry_in rows row column ≡ 0) → (row column : ℕ)
        → entry_in (first ∷ rows) row column ≡ 0
    all none zeros zero column = none column
    all none zeros (suc row) column = zeros row column

-- a matrix has an elimination with as many steps as its rank
pub elimination : (p n r : ℕ) (rows : List (List ℕ)) → HasInverses p → IsMatrix p n rows → rank p rows ≡ r
    → IsElimination p (entry_in rows) r
elimination p n zero rows field is none = elim (find_entry rows) [
  | inr zeros ↦ over (λ i j. same-equal p (entry_in rows i j) 0 (zeros i j))
  | inl found ↦
      let more = rank-cancelled_matrix p n (pivot_at (pos 0) found.1 found.0) rows field is found.2 in
      absurd (omega (arith, more, none))
]
elimination p n (suc r) rows field is ranked = elim (find_entry rows) [
  | inr zeros ↦
      let least = (rank-least p n rows field is).least 0
      (record { left = λ i k. 0; right = λ k j. 0; product = λ i j. same-equal p 0 (entry_in rows i j) (sym (zeros i j)) }) in
      absurd (omega (arith, least, ranked))
  | inl found ↦
      let a = found.0 in
      let b = found.1 in
      let pivot : Pivot = pivot_at (pos 0) b a in
      let positive : 0 < p = omega (arith, field.above_one) in
      let within : a < length rows =
      elim (leb_tells (length rows) a) [
        | inl past ↦ absurd (found.2 (entry-past_rows rows a b past.1))
        | inr below ↦ below.1
      ] in
      let entries = entry-cancelled_matrix p pivot rows n is within in
      let left : IsMatrix p n (cancelled_matrix p pivot rows) =
      matrix-with_entries p n (entry_cancelled p a b (entry_in rows)) rows is entries
      (λ i j. entry_cancelled-below p a b i j (entry_in rows) positive) in
      let leaves = leaves-entry_cancelled p a b (entry_in rows) field (other-below p (entry_in rows a b) (is.below a b) found.2) in
      let more = rank-cancelled_matrix p n pivot rows field is found.2 in
      let next : Leaves p (entry_in rows) (entry_in (cancelled_matrix p pivot rows)) a b =
      record {
        inverse = leaves.inverse;
        inverts = leaves.inverts;
        others = λ i j.
            ap (λ z. (entry_in rows i b * (leaves.inverse * entry_in rows a j) + z) % p) (entries i j) ∙ leaves.others i j;
      } in
      step next (elimination p n r (cancelled_matrix p pivot rows) field left (omega (arith, more, ranked)))
]

-- minus x and x are 0 together
both-signs : (p x m : ℕ) → 0 < p → x + (m + (p - 1) * x) ≡ m + p * x
both-signs zero x m positive = absurd (omega arith)
both-signs (suc q) x m positive = let e : suc q - 1 ≡ q = omega arith in rw e (omega arith)

-- what stands at some rows and columns
abbrev at_places : (ℕ → ℕ → ℕ) → (ℕ → ℕ) → (ℕ → ℕ) → ℕ → ℕ → ℕ
at_places M row column i j = M (row i) (column j)

-- a matrix with two blocks, and zeros beside the first and above the second, factors through no less than both
pub factors-triangular : (p r s : ℕ) (A B M : ℕ → ℕ → ℕ) (row column low_row low_column : ℕ → ℕ) → HasInverses p
    → IsElimination p A r → ((t : ℕ) → Factors p B t → s ≤ t)
    → ((i j : ℕ) → Same p (M (row i) (column j)) (A i j)) → ((i j : ℕ) → Same p (M (low_row i) (low_column j)) (B i j))
    → ((i j : ℕ) → Same p (M (row i) (low_column j)) 0) → (t : ℕ) → Factors p M t → r + s ≤ t
factors-triangular p r s A B M row column low_row low_column field (over zeros) least first second nothing t f =
    omega (
      arith,
      least t (record {
        left = λ i k. f.left (low_row i) k;
        right = λ k j. f.right k (low_column j);
        product = λ i j. f.product (low_row i) (low_column j) ∙ second i j;
      }),
    )
factors-triangular p r s A B M row column low_row low_column field (step {rest = N} {row = a} {column = b} {steps = n} leaves later) least
    first second nothing t f =
    let positive : 0 < p = omega (arith, field.above_one) in
    let way : ℕ → ℕ → ℕ = λ u v. M u (column b) * (leaves.inverse * M (row a) v) in
    let rest : ℕ → ℕ → ℕ = λ u v. M u v + (p - 1) * way u v in
    let gone : (u v : ℕ) → Same p (way u v) 0 → Same p (rest u v) (M u v) =
    λ u v zero_way.
    same-add p (M u v) (M u v) ((p - 1) * way u v) 0 refl
    (same-scaled p (p - 1) (way u v) 0 zero_way ∙ same-equal p ((p - 1) * 0) 0 (omega arith))
    ∙ same-equal p (M u v + 0) (M u v) (omega arith) in
    let no_way : (i j : ℕ) (u : ℕ) → Same p (way u (low_column j)) 0 =
    λ i j u.
    same-scaled p (M u (column b)) (leaves.inverse * M (row a) (low_column j)) (leaves.inverse * 0)
    (same-scaled p leaves.inverse (M (row a) (low_column j)) 0 (nothing a j))
    ∙ same-equal p (M u (column b) * (leaves.inverse * 0)) 0 (twice_zero (M u (column b)) leaves.inverse) in
    let next : Leaves p M rest (row a) (column b) = record {
      inverse = leaves.inverse;
      inverts = same-mul p (M (row a) (column b)) (A a b) leaves.inverse leaves.inverse (first a b) refl ∙ leaves.inverts;
      others = λ u v.
          same-equal p (way u v + rest u v) (M u v + p * way u v) (both-signs p (way u v) (M u v) positive)
          ∙ same-multiple p (M u v) (way u v);
    } in
    let fewer = factors-left p t M rest (row a) (column b) field next f in
    let below = factors-triangular p n s N B rest row column low_row low_column field later least
    (λ i j.
    let w = A i b * (leaves.inverse * A a j) in
    same-add p (M (row i) (column j)) (w + N i j) ((p - 1) * way (row i) (column j)) ((p - 1) * w)
    (first i j ∙ sym (leaves.others i j))
    (same-scaled p (p - 1) (way (row i) (column j)) w
    (same-mul p (M (row i) (column b)) (A i b) (leaves.inverse * M (row a) (column j)) (leaves.inverse * A a j) (first i b)
    (same-scaled p leaves.inverse (M (row a) (column j)) (A a j) (first a j))))
    ∙ same-equal p (w + N i j + (p - 1) * w) (N i j + p * w) (regrouped w (N i j) ((p - 1) * w) ∙ both-signs p w (N i j) positive)
    ∙ same-multiple p (N i j) w)
    (λ i j. gone (low_row i) (low_column j) (no_way i j (low_row i)) ∙ second i j)
    (λ i j. gone (row i) (low_column j) (no_way i j (row i)) ∙ nothing i j)
    fewer.0 fewer.2 in
    omega (arith, below, fewer.1)
  where
    twice_zero : (x y : ℕ) → x * (y * 0) ≡ 0
    twice_zero x y = omega arith

    regrouped : (w m x : ℕ) → w + m + x ≡ w + (m + x)
    regrouped w m x = omega arith

-- two matrices together factor through the sum
pub factors-sum : (p r s : ℕ) (M N : ℕ → ℕ → ℕ) → Factors p M r → Factors p N s → Factors p (λ i j. M i j + N i j) (r + s)
factors-sum p zero s M N f g =
    let e : zero + s ≡ s = omega arith in
    rw e (factors-same p s N (λ i j. M i j + N i j)
    (λ i j. same-equal p (N i j) (0 + N i j) (omega arith) ∙ same-add p 0 (M i j) (N i j) (N i j) (f.product i j) refl) g)
factors-sum p (suc r) s M N f g =
    let rest : ℕ → ℕ → ℕ = product_at r (λ i k. f.left i (suc k)) (λ k j. f.right (suc k) j) in
    let e : suc r + s ≡ suc (r + s) = omega arith in
    rw e (factors-added p (r + s) (λ i. f.left i 0) (λ j. f.right 0 j) (λ i j. M i j + N i j) (λ i j. rest i j + N i j)
    (λ i j.
    same-equal p (f.left i 0 * f.right 0 j + (rest i j + N i j)) (f.left i 0 * f.right 0 j + rest i j + N i j)
    (regrouped (f.left i 0 * f.right 0 j) (rest i j) (N i j))
    ∙ same-add p (f.left i 0 * f.right 0 j + rest i j) (M i j) (N i j) (N i j) (f.product i j) refl)
    (factors-sum p r s rest N (record { left = λ i k. f.left i (suc k); right = λ k j. f.right (suc k) j; product = λ i j. refl }) g))
  where
    regrouped : (w m x : ℕ) → w + (m + x) ≡ w + m + x
    regrouped w m x = omega arith
