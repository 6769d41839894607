-- What a pivot leaves of two neighbouring matrices has the product 0, where they have.
use Rattle.std.proofs.lemmas.Bool.Decides.{nat_tests}
use Rattle.std.proofs.Common.{◌≡◌, ℕ, ◌+◌, ◌*◌, ◌%◌, ◌<◌, ◌∙◌, inl, inr, ap, sym, subst, arith, Bool}
use Rattle.std.specs.Prelude.{nat_eq, if◌then◌else◌}
use Rattle.std.proofs.lemmas.Bool.Decides.{eqb_tells}
use Rattle.kh_types.specs.Residues.{Same}
use Rattle.kh_types.specs.Products.{sum_below, product_at}
use Rattle.kh_types.specs.MatrixRanks.{Leaves}
use Rattle.kh_types.proofs.Residues.{same-equal, same-scaled, same-rest}
use Rattle.kh_types.proofs.Sums.{sum_below-same, sum_below-add, sum_below-scaled, sum_below-zeros}
use Rattle.kh_types.proofs.PivotLemmas.{leaves-row}
use Rattle.kh_types.proofs.DependentRows.{row_cleared, column_cleared}

-- a column that becomes 0 does not count in a product where the other factor has that row 0 anyway
cleared-term : (p a row column m : ℕ) (U R : ℕ → ℕ → ℕ) → Same p (R a column) 0
    → Same p (column_cleared a U row m * R m column) (U row m * R m column)
cleared-term p a row column m U R zero_row =
    elim (eqb_tells m a) [
      | inl same ↦
          let nothing : 0 * R m column ≡ U row m * 0 = omega arith in
          ap (λ is_a. (if is_a then 0 else U row m) * R m column % p) same.0 ∙ same-equal p (0 * R m column) (U row m * 0) nothing
          ∙ same-scaled p (U row m) 0 (R m column) (sym (subst (λ k. Same p (R k column) 0) (sym same.1) zero_row))
      | inr other ↦ ap (λ is_a. (if is_a then 0 else U row m) * R m column % p) other.0
    ]

-- the pivot's matrix below, and above it the matrix that loses the column of the pivot's row
pub product-below_pivot : (p n a b row column : ℕ) (U L R : ℕ → ℕ → ℕ) → 0 < p → Leaves p L R a b
    → Same p (product_at n U L row b) 0 → Same p (product_at n U L row column) 0
    → Same p (product_at n (column_cleared a U) R row column) 0
product-below_pivot p n a b row column U L R positive leaves at_pivot at_column =
    let q = leaves.inverse * L a column in
    let back : ℕ → ℕ = λ m. q * (U row m * L m b) in
    let left : ℕ → ℕ = λ m. U row m * R m column in
    let term : (m : ℕ) → Same p (back m + left m) (U row m * L m column) =
    λ m.
    same-equal p (back m + left m) (U row m * (L m b * (leaves.inverse * L a column) + R m column)) (omega arith)
    ∙ same-scaled p (U row m) (L m b * (leaves.inverse * L a column) + R m column) (L m column) (leaves.others m column) in
    let parted : sum_below n (λ m. back m + left m) ≡ q * product_at n U L row b + product_at n U R row column =
    sum_below-add n back left ∙ ap (λ z. z + product_at n U R row column) (sum_below-scaled n q (λ m. U row m * L m b)) in
    let whole : Same p (q * product_at n U L row b + product_at n U R row column) 0 =
    same-equal p (q * product_at n U L row b + product_at n U R row column) (sum_below n (λ m. back m + left m)) (sym parted)
    ∙ sum_below-same p n (λ m. back m + left m) (λ m. U row m * L m column) term ∙ at_column in
    let none : Same p (q * product_at n U L row b) 0 =
    same-scaled p q (product_at n U L row b) 0 at_pivot ∙ same-equal p (q * 0) 0 (omega arith) in
    sum_below-same p n (λ m. column_cleared a U row m * R m column) left
    (λ m. cleared-term p a row column m U R (leaves-row p L R a b positive leaves column))
    ∙ same-rest p (q * product_at n U L row b) (product_at n U R row column) 0 none whole

-- a product of transposes is the transpose of the product
turned : (n row column : ℕ) (U L : ℕ → ℕ → ℕ)
    → product_at n (λ i j. L j i) (λ i j. U j i) column row ≡ product_at n U L row column
turned n row column U L = grind (arith, nat_tests)

leaves-turned : (p a b : ℕ) (M R : ℕ → ℕ → ℕ) → Leaves p M R a b → Leaves p (λ i j. M j i) (λ i j. R j i) b a
leaves-turned p a b M R leaves = grind (arith, nat_tests)

-- the pivot's matrix above, and below it the matrix that loses the row of the pivot's column
pub product-above_pivot : (p n a b row column : ℕ) (U L R : ℕ → ℕ → ℕ) → 0 < p → Leaves p U R a b
    → Same p (product_at n U L a column) 0 → Same p (product_at n U L row column) 0
    → Same p (product_at n R (row_cleared b L) row column) 0
product-above_pivot p n a b row column U L R positive leaves at_pivot at_row =
    same-equal p (product_at n R (row_cleared b L) row column)
    (product_at n (λ i j. row_cleared b L j i) (λ i j. R j i) column row) (sym (turned n row column R (row_cleared b L)))
    ∙ product-below_pivot p n b a column row (λ i j. L j i) (λ i j. U j i) (λ i j. R j i) positive (leaves-turned p a b U R leaves)
    (ap (λ z. z % p) (turned n a column U L) ∙ at_pivot) (ap (λ z. z % p) (turned n row column U L) ∙ at_row)

-- a column of the matrix below may become 0, and a row of the matrix above
chosen-column : (p n row column : ℕ) (chosen : Bool) (U L : ℕ → ℕ → ℕ) → Same p (product_at n U L row column) 0
    → Same p (sum_below n (λ m. U row m * (if chosen then 0 else L m column))) 0
chosen-column p n row column chosen U L zero_there = grind (arith, nat_tests, same-equal, sum_below-zeros)

pub product-column_cleared : (p n dead row column : ℕ) (U L : ℕ → ℕ → ℕ) → Same p (product_at n U L row column) 0
    → Same p (product_at n U (column_cleared dead L) row column) 0
product-column_cleared p n dead row column U L = chosen-column p n row column (nat_eq column dead) U L

pub product-row_cleared : (p n dead row column : ℕ) (U L : ℕ → ℕ → ℕ) → Same p (product_at n U L row column) 0
    → Same p (product_at n (row_cleared dead U) L row column) 0
product-row_cleared p n dead row column U L zero_there =
    ap (λ z. z % p) (sym (turned n row column (row_cleared dead U) L))
    ∙ product-column_cleared p n dead column row (λ i j. L j i) (λ i j. U j i)
    (ap (λ z. z % p) (turned n row column U L) ∙ zero_there)
