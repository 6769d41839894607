-- Steps on rows and on columns keep what a matrix factors through, and so its rank.
use Rattle.std.proofs.Common.{◌≡◌, ℕ, zero, suc, ◌+◌, ◌-◌, ◌*◌, ◌%◌, ◌<◌, ◌≢◌, ◌∙◌, inl, inr, refl, ap, sym, arith, Bool}
use Rattle.std.specs.Prelude.{nat_eq, if◌then◌else◌}
use Rattle.std.proofs.lemmas.Bool.Decides.{eqb_tells}
use Rattle.kh_types.specs.Rank.{inverse}
use Rattle.kh_types.specs.Residues.{HasInverses, Same}
use Rattle.kh_types.specs.Products.{sum_below, product_at, Factors}
use Rattle.kh_types.specs.MatrixRanks.{HasRank}
use Rattle.plain_matrix.specs.Steps.{IsRowStep, IsColumnStep}
use Rattle.kh_types.proofs.Residues.{same-equal, same-add, same-mul, same-scaled, same-multiple, same-inverse}
use Rattle.kh_types.proofs.Sums.{sum_below-equal, sum_below-add, sum_below-scaled}
use Rattle.kh_types.proofs.PivotLemmas.{rank-like, rank-transposed}

-- the sum of multiples of two rows, in a product
product-two_rows : (s a b f c : ℕ) (left right : ℕ → ℕ → ℕ) (j : ℕ)
    → sum_below s (λ k. (f * left a k + c * left b k) * right k j)
    ≡ f * product_at s left right a j + c * product_at s left right b j
product-two_rows s a b f c left right j =
    sum_below-equal s (λ k. (f * left a k + c * left b k) * right k j)
    (λ k. f * (left a k * right k j) + c * (left b k * right k j)) (λ k. omega arith)
    ∙ sum_below-add s (λ k. f * (left a k * right k j)) (λ k. c * (left b k * right k j))
    ∙ two (sum_below-scaled s f (λ k. left a k * right k j)) (sum_below-scaled s c (λ k. left b k * right k j))
  where
    two : {w x y z : ℕ} → w ≡ y → x ≡ z → w + x ≡ y + z
    two first second = omega arith

-- one row becomes the sum of a multiple of itself and one of another
factors-stepped : (p s a b f c : ℕ) (M N : ℕ → ℕ → ℕ) → ((j : ℕ) → Same p (f * M a j + c * M b j) (N a j))
    → ((i j : ℕ) → i ≢ a → Same p (M i j) (N i j)) → Factors p M s → Factors p N s
factors-stepped p s a b f c M N changed kept factors =
    record {
      left = λ i k. if nat_eq i a then f * factors.left a k + c * factors.left b k else factors.left i k;
      right = factors.right;
      product = λ i j.
          let by : Bool → ℕ = λ is_a.
          sum_below s (λ k. (if is_a then f * factors.left a k + c * factors.left b k else factors.left i k) * factors.right k j) in
          elim (eqb_tells i a) [
            | inl same ↦
                ap (λ is_a. by is_a % p) same.0
                ∙ ap (λ z. z % p) (product-two_rows s a b f c factors.left factors.right j)
                ∙ same-add p (f * product_at s factors.left factors.right a j) (f * M a j)
                (c * product_at s factors.left factors.right b j) (c * M b j)
                (same-scaled p f (product_at s factors.left factors.right a j) (M a j) (factors.product a j))
                (same-scaled p c (product_at s factors.left factors.right b j) (M b j) (factors.product b j))
                ∙ changed j ∙ ap (λ row. N row j % p) (sym same.1)
            | inr other ↦ ap (λ is_a. by is_a % p) other.0 ∙ factors.product i j ∙ kept i j other.1
          ];
    }

-- the multiple of the other row that leads back
way_back : (p y f c own other : ℕ) → 0 < p
    → y * (f * own + c * other) + (p - 1) * (y * c) * other ≡ f * y * own + p * (y * c * other)
way_back zero y f c own other positive = absurd (omega arith)
way_back (suc q) y f c own other positive = let less : suc q - 1 ≡ q = omega arith in rw less (omega arith)

-- a step leads back by a step
step-back : (p : ℕ) (M N : ℕ → ℕ → ℕ) → HasInverses p → (step : IsRowStep p M N) (j : ℕ)
    → Same p (inverse p step.factor * N step.row j + (p - 1) * (inverse p step.factor * step.multiple) * N step.other j)
    (M step.row j)
step-back p M N field step j =
    let y = inverse p step.factor in
    let c = (p - 1) * (y * step.multiple) in
    let own = M step.row j in
    let other = M step.other j in
    same-add p (y * N step.row j) (y * (step.factor * own + step.multiple * other)) (c * N step.other j) (c * other)
    (same-scaled p y (N step.row j) (step.factor * own + step.multiple * other) (sym (step.changed j)))
    (same-scaled p c (N step.other j) other (sym (step.kept step.other j step.apart)))
    ∙ same-equal p (y * (step.factor * own + step.multiple * other) + c * other)
    (step.factor * y * own + p * (y * step.multiple * other))
    (way_back p y step.factor step.multiple own other (omega (arith, field.above_one)))
    ∙ same-multiple p (step.factor * y * own) (y * step.multiple * other)
    ∙ same-mul p (step.factor * y) 1 own own (same-inverse p step.factor field step.unit) refl
    ∙ same-equal p (1 * own) own (omega arith)

pub rank-row_step : (p r : ℕ) (M N : ℕ → ℕ → ℕ) → HasInverses p → IsRowStep p M N → HasRank p M r → HasRank p N r
rank-row_step p r M N field step =
    let y = inverse p step.factor in
    rank-like p r M N
    (λ s. factors-stepped p s step.row step.other step.factor step.multiple M N step.changed step.kept)
    (λ s. factors-stepped p s step.row step.other y ((p - 1) * (y * step.multiple)) N M (step-back p M N field step)
    (λ i j differs. sym (step.kept i j differs)))

pub rank-column_step : (p r : ℕ) (M N : ℕ → ℕ → ℕ) → HasInverses p → IsColumnStep p M N → HasRank p M r → HasRank p N r
rank-column_step p r M N field step has =
    rank-transposed p r (λ i j. N j i)
    (rank-row_step p r (λ i j. M j i) (λ i j. N j i) field step (rank-transposed p r M has))
