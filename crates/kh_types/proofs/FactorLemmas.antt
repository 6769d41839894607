-- Matrices that factor through a number: what is left by a pivot factors through one less, and what leads back to it.
use Rattle.std.proofs.lemmas.Bool.Decides.{nat_tests}
use Rattle.std.proofs.Common.{◌≡◌, ℕ, zero, suc, ◌+◌, ◌-◌, ◌*◌, ◌%◌, ◌<◌, ◌∙◌, inl, inr, refl, ap, sym, arith}
use Rattle.std.proofs.lemmas.Bool.Decides.{eqb_tells}
use Rattle.kh_types.specs.Rank.{inverse}
use Rattle.kh_types.specs.Residues.{HasInverses, Same}
use Rattle.kh_types.specs.Products.{sum_below, product_at, Factors}
use Rattle.kh_types.proofs.Residues.{same-inverse, same-equal, same-add, same-mul, same-scaled, same-minus, same-rest}
use Rattle.kh_types.proofs.Sums.{sum_below-equal, sum_below-add, sum_below-scaled}

-- one value in front of others
abbrev in_front : ℕ → (ℕ → ℕ) → ℕ → ℕ
in_front first rest zero = first
in_front first rest (suc k) = rest k

pub factors-same : (p s : ℕ) (M N : ℕ → ℕ → ℕ) → ((i j : ℕ) → Same p (M i j) (N i j)) → Factors p M s → Factors p N s
factors-same p s M N same f = grind (arith, nat_tests)

-- a column times a row is added
pub factors-added : (p s : ℕ) (u v : ℕ → ℕ) (M N : ℕ → ℕ → ℕ) → ((i j : ℕ) → Same p (u i * v j + N i j) (M i j))
    → Factors p N s → Factors p M (suc s)
factors-added p s u v M N sum f =
    record {
      left = λ i. in_front (u i) (f.left i);
      right = λ k j. in_front (v j) (λ l. f.right l j) k;
      product = λ i j.
          same-add p (u i * v j) (u i * v j) (product_at s f.left f.right i j) (N i j) refl (f.product i j) ∙ sum i j;
    }

-- rows and columns change places
pub factors-transposed : (p s : ℕ) (M : ℕ → ℕ → ℕ) → Factors p M s → Factors p (λ i j. M j i) s
factors-transposed p s M f =
    record {
      left = λ i k. f.right k i;
      right = λ k j. f.left j k;
      product = λ i j.
          ap (λ z. z % p)
          (sum_below-equal s (λ k. f.right k i * f.left j k) (λ k. f.left j k * f.right k i) (λ k. omega arith))
          ∙ f.product j i;
    }

-- a term of the first factor without its first column, times the second without its first row
term-reduced : (m first y b x entry : ℕ)
    → (b + m * (first * (y * x))) * entry ≡ b * entry + m * (first * y) * (x * entry)
term-reduced m first y b x entry = omega arith

-- what the first row of the second factor adds, where its multiples and those of the others are 0 together
pub first-replaced : (p m first y x entry others : ℕ) → Same p (x * y) 1 → Same p (x * entry + others) 0
    → Same p (first * entry + first * (y * others)) 0
first-replaced p m first y x entry others inverts zeros =
    let unit : first * entry ≡ first * entry * 1 = omega arith in
    let same : Same p (first * entry) (first * entry * (x * y)) =
    ap (λ z. z % p) unit ∙ sym (same-scaled p (first * entry) (x * y) 1 inverts) in
    let whole : first * entry * (x * y) + first * (y * others) ≡ first * y * (x * entry + others) = omega arith in
    let nothing : first * y * 0 ≡ 0 = omega arith in
    same-add p (first * entry) (first * entry * (x * y)) (first * (y * others)) (first * (y * others)) same refl
    ∙ ap (λ z. z % p) whole ∙ same-scaled p (first * y) (x * entry + others) 0 zeros ∙ ap (λ z. z % p) nothing

-- where a multiple of the rows of the second factor is 0, and the first row has an inverse in it, that row is not needed
first-not_needed : (p s y : ℕ) (x : ℕ → ℕ) (B Y : ℕ → ℕ → ℕ) → 0 < p → Same p (x 0 * y) 1
    → ((j : ℕ) → Same p (sum_below (suc s) (λ k. x k * Y k j)) 0) → Factors p (product_at (suc s) B Y) s
first-not_needed p s y x B Y positive inverts zeros =
    record {
      left = λ i k. B i (suc k) + (p - 1) * (B i 0 * (y * x (suc k)));
      right = λ k j. Y (suc k) j;
      product = λ i j.
          let kept = sum_below s (λ k. B i (suc k) * Y (suc k) j) in
          let others = sum_below s (λ k. x (suc k) * Y (suc k) j) in
          let c = (p - 1) * (B i 0 * y) in
          let terms : sum_below s (λ k. (B i (suc k) + (p - 1) * (B i 0 * (y * x (suc k)))) * Y (suc k) j) ≡ kept + c * others =
          sum_below-equal s (λ k. (B i (suc k) + (p - 1) * (B i 0 * (y * x (suc k)))) * Y (suc k) j)
          (λ k. B i (suc k) * Y (suc k) j + c * (x (suc k) * Y (suc k) j))
          (λ k. term-reduced (p - 1) (B i 0) y (B i (suc k)) (x (suc k)) (Y (suc k) j))
          ∙ sum_below-add s (λ k. B i (suc k) * Y (suc k) j) (λ k. c * (x (suc k) * Y (suc k) j))
          ∙ ap (λ z. kept + z) (sum_below-scaled s c (λ k. x (suc k) * Y (suc k) j)) in
          let turned : kept + c * others ≡ (p - 1) * (B i 0 * (y * others)) + kept = turn (p - 1) (B i 0) y kept others in
          ap (λ z. z % p) (terms ∙ turned)
          ∙ same-add p ((p - 1) * (B i 0 * (y * others))) (B i 0 * Y 0 j) kept kept
          (same-minus p (B i 0 * Y 0 j) (B i 0 * (y * others)) positive
          (first-replaced p (p - 1) (B i 0) y (x 0) (Y 0 j) others inverts (zeros j)))
          refl;
    }
  where
    turn : (m first y kept others : ℕ) → kept + m * (first * y) * others ≡ m * (first * (y * others)) + kept
    turn m first y kept others = omega arith

-- a product factors through one less, where a multiple of the rows of its second factor is 0, and has a factor that is not
pub product-fewer : (p s : ℕ) → HasInverses p → (x z : ℕ → ℕ) (B Y : ℕ → ℕ → ℕ) → ¬ Same p (sum_below s (λ k. x k * z k)) 0
    → ((j : ℕ) → Same p (sum_below s (λ k. x k * Y k j)) 0) → (t : ℕ) × (s ≡ suc t) × Factors p (product_at s B Y) t
product-fewer p zero field x z B Y other zeros = absurd (other refl)
product-fewer p (suc s) field x z B Y other zeros =
    elim (eqb_tells (x 0 % p) (0 % p)) [
      | inl is_zero ↦
          let nothing : (entry : ℕ) → Same p (x 0 * entry) 0 =
          λ entry. same-mul p (x 0) 0 entry entry is_zero.1 refl ∙ same-equal p (0 * entry) 0 (omega arith) in
          let rest = sum_below s (λ k. x (suc k) * z (suc k)) in
          let fewer = product-fewer p s field (λ k. x (suc k)) (λ k. z (suc k)) (λ i k. B i (suc k)) (λ k j. Y (suc k) j)
          (λ same. other (same-add p (x 0 * z 0) 0 rest 0 (nothing (z 0)) same))
          (λ j.
          same-rest p (x 0 * Y 0 j) (sum_below s (λ k. x (suc k) * Y (suc k) j)) 0 (nothing (Y 0 j)) (zeros j)) in (
            suc fewer.0,
            ap suc fewer.1,
            factors-added p fewer.0 (λ i. B i 0) (λ j. Y 0 j) (product_at (suc s) B Y)
                (product_at s (λ i k. B i (suc k)) (λ k j. Y (suc k) j)) (λ i j. refl) fewer.2,
          )
      | inr not_zero ↦ (
        s,
        refl,
        first-not_needed p s (inverse p (x 0)) x B Y (omega (arith, field.above_one))
            (same-inverse p (x 0) field not_zero.1) zeros,
      )
    ]
