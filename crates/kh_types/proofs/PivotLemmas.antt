-- A matrix has rank 1 more than what any pivot leaves of it.
use Rattle.std.proofs.lemmas.Bool.Decides.{nat_tests}
use Rattle.std.proofs.Common.{◌≡◌, ℕ, suc, ◌+◌, ◌-◌, ◌*◌, ◌%◌, ◌<◌, ◌∙◌, refl, ap, sym, arith}
use Rattle.std.proofs.Math.Nat.{mod-eq_of_lt, zero-mod}
use Rattle.kh_types.specs.Residues.{HasInverses, Same}
use Rattle.kh_types.specs.Products.{product_at, Factors}
use Rattle.kh_types.specs.MatrixRanks.{HasRank, Leaves}
use Rattle.kh_types.proofs.Residues.{same-unit_left, same-unit_right, same-equal, same-add, same-mul, same-scaled, same-multiple, same-cancel}
use Rattle.kh_types.proofs.Sums.{sum_below-equal, sum_below-add, sum_below-scaled}
use Rattle.kh_types.proofs.FactorLemmas.{factors-same, factors-added, factors-transposed, product-fewer}

-- what a pivot leaves factors through one less
pub factors-pivot : (p s : ℕ) (M N : ℕ → ℕ → ℕ) (a b : ℕ) → Leaves p M N a b → Factors p N s → Factors p M (suc s)
factors-pivot p s M N a b leaves f =
    factors-added p s (λ i. M i b) (λ j. leaves.inverse * M a j) M N leaves.others f

-- the pivot's row becomes 0
pub leaves-row : (p : ℕ) (M N : ℕ → ℕ → ℕ) (a b : ℕ) → 0 < p → Leaves p M N a b → (j : ℕ) → Same p (N a j) 0
leaves-row p M N a b positive leaves j =
    let y = leaves.inverse in
    let entry = M a j in
    let through = same-unit_left p (M a b) y entry leaves.inverts in
    same-cancel p (N a j) 0 (M a b * (y * entry)) positive
    (same-equal p (N a j + M a b * (y * entry)) (M a b * (y * entry) + N a j) (omega arith)
    ∙ leaves.others a j ∙ sym through
    ∙ same-equal p (M a b * (y * entry)) (0 + M a b * (y * entry)) (omega arith))

-- and its column
pub leaves-column : (p : ℕ) (M N : ℕ → ℕ → ℕ) (a b : ℕ) → 0 < p → Leaves p M N a b → (i : ℕ) → Same p (N i b) 0
leaves-column p M N a b positive leaves i =
    let y = leaves.inverse in
    let entry = M i b in
    let through = same-unit_right p (M a b) y entry leaves.inverts in
    same-cancel p (N i b) 0 (entry * (y * M a b)) positive
    (same-equal p (N i b + entry * (y * M a b)) (entry * (y * M a b) + N i b) (omega arith)
    ∙ leaves.others i b ∙ sym through
    ∙ same-equal p (entry * (y * M a b)) (0 + entry * (y * M a b)) (omega arith))

-- a term of a row times what the second factor becomes
term-cleared : (m left right column way : ℕ)
    → left * (right + m * (column * way)) ≡ left * right + m * way * (left * column)
term-cleared m left right column way = omega arith

-- minus x and x are 0 together
minus-added : (p column way rest : ℕ) → 0 < p
    → column * way + rest + (p - 1) * way * column ≡ rest + p * (column * way)
minus-added p column way rest positive = grind (arith, nat_tests)

-- a row of the matrix times what the second factor becomes is the row of what the pivot leaves
product-cleared : (p s : ℕ) (M N : ℕ → ℕ → ℕ) (a b : ℕ) → 0 < p → (leaves : Leaves p M N a b) → (f : Factors p M s) (i j : ℕ)
    → Same p (product_at s f.left (λ k l. f.right k l + (p - 1) * (f.right k b * (leaves.inverse * M a l))) i j) (N i j)
product-cleared p s M N a b positive leaves f i j =
    let way = leaves.inverse * M a j in
    let c = (p - 1) * way in
    let terms : product_at s f.left (λ k l. f.right k l + (p - 1) * (f.right k b * (leaves.inverse * M a l))) i j
    ≡ product_at s f.left f.right i j + c * product_at s f.left f.right i b =
    sum_below-equal s (λ k. f.left i k * (f.right k j + (p - 1) * (f.right k b * way)))
    (λ k. f.left i k * f.right k j + c * (f.left i k * f.right k b))
    (λ k. term-cleared (p - 1) (f.left i k) (f.right k j) (f.right k b) way)
    ∙ sum_below-add s (λ k. f.left i k * f.right k j) (λ k. c * (f.left i k * f.right k b))
    ∙ ap (λ z. product_at s f.left f.right i j + z) (sum_below-scaled s c (λ k. f.left i k * f.right k b)) in
    ap (λ z. z % p) terms
    ∙ same-add p (product_at s f.left f.right i j) (M i b * way + N i j) (c * product_at s f.left f.right i b) (c * M i b)
    (f.product i j ∙ sym (leaves.others i j)) (same-scaled p c (product_at s f.left f.right i b) (M i b) (f.product i b))
    ∙ ap (λ z. z % p) (minus-added p (M i b) way (N i j) positive)
    ∙ same-multiple p (N i j) (M i b * way)

-- a matrix with a pivot factors through no less than 1 more than what the pivot leaves
pub factors-left : (p s : ℕ) (M N : ℕ → ℕ → ℕ) (a b : ℕ) → HasInverses p → Leaves p M N a b → Factors p M s
    → (t : ℕ) × (s ≡ suc t) × Factors p N t
factors-left p s M N a b field leaves f =
    let positive : 0 < p = omega (arith, field.above_one) in
    let cleared : ℕ → ℕ → ℕ = λ k l. f.right k l + (p - 1) * (f.right k b * (leaves.inverse * M a l)) in
    let other : ¬ Same p (product_at s f.left f.right a b) 0 =
    λ is_zero. one-other p field.above_one
    (sym leaves.inverts
    ∙ same-mul p (M a b) 0 leaves.inverse leaves.inverse (sym (f.product a b) ∙ is_zero) refl
    ∙ same-equal p (0 * leaves.inverse) 0 (omega arith)) in
    let fewer = product-fewer p s field (f.left a) (λ k. f.right k b) f.left cleared other
    (λ j. product-cleared p s M N a b positive leaves f a j ∙ leaves-row p M N a b positive leaves j) in
    (fewer.0, fewer.1, factors-same p fewer.0 (product_at s f.left cleared) N (product-cleared p s M N a b positive leaves f) fewer.2)
  where
    one-other : (p : ℕ) → 1 < p → ¬ Same p 1 0
    one-other p above same = absurd (omega (arith, same, mod-eq_of_lt above, zero-mod p))

-- a rank is determined
pub rank-determined : (p r s : ℕ) (M : ℕ → ℕ → ℕ) → HasRank p M r → HasRank p M s → r ≡ s
rank-determined p r s M first second = omega (arith, first.least s second.factors, second.least r first.factors)

-- matrices that factor through the same numbers have the same rank
pub rank-like : (p r : ℕ) (M N : ℕ → ℕ → ℕ) → ((s : ℕ) → Factors p M s → Factors p N s)
    → ((s : ℕ) → Factors p N s → Factors p M s) → HasRank p M r → HasRank p N r
rank-like p r M N there back has = grind (arith, nat_tests)

pub rank-same : (p r : ℕ) (M N : ℕ → ℕ → ℕ) → ((i j : ℕ) → Same p (M i j) (N i j)) → HasRank p M r → HasRank p N r
rank-same p r M N same =
    rank-like p r M N (λ s. factors-same p s M N same) (λ s. factors-same p s N M (λ i j. sym (same i j)))

pub rank-transposed : (p r : ℕ) (M : ℕ → ℕ → ℕ) → HasRank p M r → HasRank p (λ i j. M j i) r
rank-transposed p r M =
    rank-like p r M (λ i j. M j i) (λ s. factors-transposed p s M) (λ s. factors-transposed p s (λ i j. M j i))

-- a pivot leaves a matrix of rank 1 less
pub rank-pivot : (p r : ℕ) (M N : ℕ → ℕ → ℕ) (a b : ℕ) → HasInverses p → Leaves p M N a b → HasRank p N r → HasRank p M (suc r)
rank-pivot p r M N a b field leaves has =
    record {
      factors = factors-pivot p r M N a b leaves has.factors;
      least = λ s f.
          let left = factors-left p s M N a b field leaves f in
          omega (arith, left.1, has.least left.0 left.2);
    }

-- where no entry is other than 0, the rank is 0
pub rank-zeros : (p : ℕ) (M : ℕ → ℕ → ℕ) → ((i j : ℕ) → Same p (M i j) 0) → HasRank p M 0
rank-zeros p M zeros =
    record {
      factors = record { left = λ i k. 0; right = λ k j. 0; product = λ i j. sym (zeros i j) };
      least = λ s f. omega arith;
    }
