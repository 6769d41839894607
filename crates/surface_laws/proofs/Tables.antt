-- The numbers of small surfaces, by computing.
use Rattle.std.proofs.Common.{◌≡◌, ℕ, ◌+◌, ◌*◌, ◌^◌, ◌<◌, ◌∙◌, refl, ap, ap₂, arith, cond}
use Rattle.std.specs.Prelude.{nat_eq}
use Rattle.std.proofs.Math.Nat.{pow-succ', pow-zero}
use Rattle.kh_types.proofs.Ranges.{below_two}
use Rattle.surface_laws.specs.Surfaces.{value}
use Rattle.surface_laws.specs.Worked.{sphere, pants, behind, merged_number, split_number}

-- what holds of all choices of two labels, or of three

pub two_labels : (P : ℕ → ℕ → Type 0) → P 0 0 → P 0 1 → P 1 0 → P 1 1 → (x y : ℕ) → x < 2 → y < 2 → P x y
two_labels P a b c d x y x_below y_below =
    below_two (λ x. P x y) (below_two (λ y. P 0 y) a b y y_below) (below_two (λ y. P 1 y) c d y y_below) x x_below

pub three_labels : (P : ℕ → ℕ → ℕ → Type 0) → P 0 0 0 → P 0 0 1 → P 0 1 0 → P 0 1 1 → P 1 0 0 → P 1 0 1 → P 1 1 0 → P 1 1 1
    → (x y z : ℕ) → x < 2 → y < 2 → z < 2 → P x y z
three_labels P a b c d e f g h x y z x_below y_below z_below =
    below_two (λ x. P x y z) (two_labels (λ y z. P 0 y z) a b c d y z y_below z_below)
    (two_labels (λ y z. P 1 y z) e f g h y z y_below z_below) x x_below

-- powers as the numbers of one component

pub once : (n : ℕ) → n ^ 0 * 1 ≡ 1
once n = ap (λ x. x * 1) (pow-zero n)

pub itself : (n : ℕ) → n ^ 1 * 1 ≡ n
itself n = ap (λ x. x * 1) (pow-succ' n 0 ∙ ap (λ x. n * x) (pow-zero n)) ∙ once_times n
  where
    once_times : (x : ℕ) → x * 1 * 1 ≡ x
    once_times x = omega arith

pub two : (h k : ℕ) → (h ^ 0 + k ^ 0) * 1 ≡ 2
two h k = ap₂ (λ x y. (x + y) * 1) (pow-zero h) (pow-zero k)

pub both : (h k : ℕ) → (h ^ 1 + k ^ 1) * 1 ≡ h + k
both h k = spread (h ^ 1) (k ^ 1) ∙ ap₂ (λ x y. x + y) (itself h) (itself k)
  where
    spread : (x y : ℕ) → (x + y) * 1 ≡ x * 1 + y * 1
    spread x y = omega arith

-- a sphere's hollow dots and its dots: first one of the ones, then one of the others
pub two_ways : (h k : ℕ) → k ^ 0 * 1 + (h ^ 0 * 1 + 0) ≡ 2
two_ways h k = ap₂ (λ x y. x + (y + 0)) (once k) (once h)

pub value-cylinder : (h k label other : ℕ) → label < 2 → other < 2
    → value h k (sphere label (behind other)) ≡ cond (nat_eq label other) 1 0
value-cylinder h k =
    two_labels (λ label other. value h k (sphere label (behind other)) ≡ cond (nat_eq label other) 1 0) (once k) refl refl (once h)

pub value-merge : (h k x y z : ℕ) → x < 2 → y < 2 → z < 2 → value h k (pants x y (behind z)) ≡ merged_number h x y z
value-merge h k =
    three_labels (λ x y z. value h k (pants x y (behind z)) ≡ merged_number h x y z) (once k) refl refl (once h) refl (once h) refl
    (itself h)

pub value-split : (h k x y z : ℕ) → x < 2 → y < 2 → z < 2
    → value h k (pants x (behind y) (behind z)) ≡ split_number k x y z
value-split h k =
    three_labels (λ x y z. value h k (pants x (behind y) (behind z)) ≡ split_number k x y z) (itself k) (once k) (once k) refl refl
    refl refl (once h)
