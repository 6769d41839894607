-- A row that a combination of others gives may be put to 0, and so may a column.
use Rattle.std.proofs.lemmas.Bool.Decides.{nat_tests}
use Rattle.std.proofs.Common.{◌≡◌, ℕ, zero, suc, ◌+◌, ◌-◌, ◌*◌, ◌%◌, ◌<◌, ◌≢◌, ◌∙◌, inl, inr, refl, ap, sym, arith, Bool}
use Rattle.std.specs.Prelude.{nat_eq, if◌then◌else◌}
use Rattle.std.proofs.lemmas.Bool.Decides.{eqb_tells}
use Rattle.kh_types.specs.Rank.{inverse}
use Rattle.kh_types.specs.Residues.{HasInverses, Same}
use Rattle.kh_types.specs.Products.{sum_below, product_at, Factors}
use Rattle.kh_types.specs.MatrixRanks.{HasRank, IsDependent}
use Rattle.kh_types.proofs.Residues.{same-inverse, same-equal, same-scaled, same-minus}
use Rattle.kh_types.proofs.Sums.{sum_below-same, sum_below-equal, sum_below-scaled, sum_below-exchanged}
use Rattle.kh_types.proofs.FactorLemmas.{first-replaced}
use Rattle.kh_types.proofs.PivotLemmas.{rank-like, rank-transposed}

-- a combination of rows of the first factor gives that of rows of the product
pub product-combined : (m s : ℕ) (c : ℕ → ℕ) (left right : ℕ → ℕ → ℕ) (j : ℕ)
    → sum_below s (λ k. sum_below m (λ l. c l * left l k) * right k j) ≡ sum_below m (λ l. c l * product_at s left right l j)
product-combined m s c left right j =
    sum_below-equal s (λ k. sum_below m (λ l. c l * left l k) * right k j)
    (λ k. sum_below m (λ l. c l * (left l k * right k j)))
    (λ k.
    let turned : sum_below m (λ l. c l * left l k) * right k j ≡ right k j * sum_below m (λ l. c l * left l k) = omega arith in
    turned ∙ sym (sum_below-scaled m (right k j) (λ l. c l * left l k))
    ∙ sum_below-equal m (λ l. right k j * (c l * left l k)) (λ l. c l * (left l k * right k j)) (λ l. omega arith))
    ∙ sum_below-exchanged s m (λ k l. c l * (left l k * right k j))
    ∙ sum_below-equal m (λ l. sum_below s (λ k. c l * (left l k * right k j))) (λ l. c l * product_at s left right l j)
    (λ l. sum_below-scaled s (c l) (λ k. left l k * right k j))

-- one row becomes a combination of rows
pub factors-row : (p s m a : ℕ) (c : ℕ → ℕ) (M N : ℕ → ℕ → ℕ)
    → ((j : ℕ) → Same p (sum_below m (λ l. c l * M l j)) (N a j)) → ((i j : ℕ) → i ≢ a → Same p (M i j) (N i j))
    → Factors p M s → Factors p N s
factors-row p s m a c M N combined kept f =
    record {
      left = λ i k. if nat_eq i a then sum_below m (λ l. c l * f.left l k) else f.left i k;
      right = f.right;
      product = λ i j.
          let by : Bool → ℕ = λ is_a.
          sum_below s (λ k. (if is_a then sum_below m (λ l. c l * f.left l k) else f.left i k) * f.right k j) in
          elim (eqb_tells i a) [
            | inl same ↦
                ap (λ is_a. by is_a % p) same.0
                ∙ ap (λ z. z % p) (product-combined m s c f.left f.right j)
                ∙ sum_below-same p m (λ l. c l * product_at s f.left f.right l j) (λ l. c l * M l j)
                (λ l. same-scaled p (c l) (product_at s f.left f.right l j) (M l j) (f.product l j))
                ∙ combined j ∙ ap (λ row. N row j % p) (sym same.1)
            | inr other ↦ ap (λ is_a. by is_a % p) other.0 ∙ f.product i j ∙ kept i j other.1
          ];
    }

-- the matrix with 0 in one of its rows, and in one of its columns
abbrev pub row_cleared : ℕ → (ℕ → ℕ → ℕ) → ℕ → ℕ → ℕ
row_cleared a matrix row column = if nat_eq row a then 0 else matrix row column

abbrev pub column_cleared : ℕ → (ℕ → ℕ → ℕ) → ℕ → ℕ → ℕ
column_cleared a matrix row column = if nat_eq column a then 0 else matrix row column

row_cleared-at : (a i j : ℕ) (M : ℕ → ℕ → ℕ) → i ≡ a → row_cleared a M i j ≡ 0
row_cleared-at a i j M same = grind (arith, nat_tests)

row_cleared-other : (a i j : ℕ) (M : ℕ → ℕ → ℕ) → i ≢ a → row_cleared a M i j ≡ M i j
row_cleared-other a i j M differs = grind (arith, nat_tests)

pub factors-row_cleared : (p s a : ℕ) (M : ℕ → ℕ → ℕ) → Factors p M s → Factors p (row_cleared a M) s
factors-row_cleared p s a M =
    factors-row p s 0 a (λ l. 0) M (row_cleared a M) (λ j. same-equal p 0 (row_cleared a M a j) (sym (row_cleared-at a a j M refl)))
    (λ i j differs. same-equal p (M i j) (row_cleared a M i j) (sym (row_cleared-other a i j M differs)))

-- a sum is one of its terms and the rest of them
pub sum_below-apart : (m a : ℕ) (f g : ℕ → ℕ) → a < m → g a ≡ 0 → ((l : ℕ) → l ≢ a → g l ≡ f l)
    → sum_below m f ≡ f a + sum_below m g
sum_below-apart zero a f g below is_zero others = absurd (omega arith)
sum_below-apart (suc m) zero f g below is_zero others = grind (arith, nat_tests, sum_below-equal)
sum_below-apart (suc m) (suc a) f g below is_zero others =
    grind (arith, nat_tests, sum_below-apart m a (λ k. f (suc k)) (λ k. g (suc k)) (omega arith) is_zero (λ l differs. others (suc l) (λ same. differs (omega arith))))

pub factors-row_back : (p s m a : ℕ) (M : ℕ → ℕ → ℕ) → HasInverses p → IsDependent p m a M → Factors p (row_cleared a M) s
    → Factors p M s
factors-row_back p s m a M field dependent =
    let x = dependent.factor in
    let y = inverse p (x a) in
    let c = (p - 1) * y in
    factors-row p s m a (λ l. c * x l) (row_cleared a M) M
    (λ j.
    let others = sum_below m (λ l. x l * row_cleared a M l j) in
    let apart : sum_below m (λ l. x l * M l j) ≡ x a * M a j + others =
    sum_below-apart m a (λ l. x l * M l j) (λ l. x l * row_cleared a M l j) dependent.within
    (ap (λ z. x a * z) (row_cleared-at a a j M refl) ∙ omega arith)
    (λ l differs. ap (λ z. x l * z) (row_cleared-other a l j M differs)) in
    let terms : sum_below m (λ l. c * x l * row_cleared a M l j) ≡ (p - 1) * (y * others) =
    sum_below-equal m (λ l. c * x l * row_cleared a M l j) (λ l. c * (x l * row_cleared a M l j)) (λ l. times c (x l) (row_cleared a M l j))
    ∙ sum_below-scaled m c (λ l. x l * row_cleared a M l j) ∙ times (p - 1) y others in
    let ones : M a j + y * others ≡ 1 * M a j + 1 * (y * others) = omega arith in
    ap (λ z. z % p) terms
    ∙ same-minus p (M a j) (y * others) (omega (arith, field.above_one))
    (ap (λ z. z % p) ones
    ∙ first-replaced p 1 1 y (x a) (M a j) others (same-inverse p (x a) field dependent.other)
    (ap (λ z. z % p) (sym apart) ∙ dependent.zeros j)))
    (λ i j differs. same-equal p (row_cleared a M i j) (M i j) (row_cleared-other a i j M differs))
  where
    times : (c x z : ℕ) → c * x * z ≡ c * (x * z)
    times c x z = omega arith

-- a row that depends on others does not count
pub rank-row_cleared : (p r m a : ℕ) (M : ℕ → ℕ → ℕ) → HasInverses p → IsDependent p m a M → HasRank p M r
    → HasRank p (row_cleared a M) r
rank-row_cleared p r m a M field dependent =
    rank-like p r M (row_cleared a M) (λ s. factors-row_cleared p s a M) (λ s. factors-row_back p s m a M field dependent)

-- nor does such a column
pub rank-column_cleared : (p r m a : ℕ) (M : ℕ → ℕ → ℕ) → HasInverses p → IsDependent p m a (λ i j. M j i) → HasRank p M r
    → HasRank p (column_cleared a M) r
rank-column_cleared p r m a M field dependent has =
    rank-transposed p r (row_cleared a (λ i j. M j i))
    (rank-row_cleared p r m a (λ i j. M j i) field dependent (rank-transposed p r M has))
