-- Genus and factor of a component.
use Rattle.std.proofs.Common.{◌≡◌, ℕ, ◌+◌, ◌-◌, ◌*◌, ◌/◌, ◌∙◌, sym, ap, ap₂, arith, Bool, true, false, cond}
use Rattle.surface_laws.specs.Surfaces.{Surface, is_component, faces_on, dots_on, hollows_on, marks_on, lowers_on, raises_on, HasGenus, HaveOneCount, genus_on, weight, plain_weight, factor, value, plain_value}
use Rattle.surface_laws.proofs.Products.{product_below-alike}
use Rattle.surface_laws.proofs.Weights.{weight-plain}

genus-is : (up down genus : ℕ) → up + 4 * genus ≡ down + 4 → (down + 4 - up) / 4 ≡ genus
genus-is up down genus has = omega (arith, has)

pub genus_on-is : (surface : Surface) (component genus : ℕ) → HasGenus surface component genus → genus_on surface component ≡ genus
genus_on-is surface component genus has =
    genus-is (2 * faces_on surface component + raises_on surface component) (lowers_on surface component) genus has

-- the weight of a number, were it a component
abbrev own_weight : ℕ → ℕ → Surface → ℕ → ℕ
own_weight h k surface component =
    weight h k (genus_on surface component) (dots_on surface component) (hollows_on surface component)

pub factor-at : (h k : ℕ) (surface : Surface) (component genus : ℕ) → is_component surface component ≡ true
    → HasGenus surface component genus
    → factor h k surface component ≡ weight h k genus (dots_on surface component) (hollows_on surface component)
factor-at h k surface component genus is has =
    ap (λ b. cond b (own_weight h k surface component) 1) is
    ∙ ap (λ g. weight h k g (dots_on surface component) (hollows_on surface component)) (genus_on-is surface component genus has)

pub factor-none : (h k : ℕ) (surface : Surface) (component : ℕ) → is_component surface component ≡ false
    → factor h k surface component ≡ 1
factor-none h k surface component none = ap (λ b. cond b (own_weight h k surface component) 1) none

-- two numbers are components of two surfaces alike: both are or none is, and the counts are the same
pub record AreAlike (first : Surface) (x : ℕ) (second : Surface) (y : ℕ) : Type 0 where
  pub is : is_component first x ≡ is_component second y
  pub counts : HaveOneCount first x second y

-- so they are where each of the counts is the same
one-count : (f l r g k s : ℕ) → f ≡ g → l ≡ k → r ≡ s → 2 * f + r + k ≡ 2 * g + s + l
one-count f l r g k s same_faces same_lowers same_raises = omega (arith, same_faces, same_lowers, same_raises)

pub HaveOneCount-each : (first : Surface) (x : ℕ) (second : Surface) (y : ℕ) → faces_on first x ≡ faces_on second y
    → dots_on first x ≡ dots_on second y → hollows_on first x ≡ hollows_on second y → lowers_on first x ≡ lowers_on second y
    → raises_on first x ≡ raises_on second y → HaveOneCount first x second y
HaveOneCount-each first x second y faces dots hollows lowers raises = record {
  dots = dots;
  hollows = hollows;
  euler = one-count (faces_on first x) (lowers_on first x) (raises_on first x) (faces_on second y) (lowers_on second y)
      (raises_on second y) faces lowers raises;
}

-- and for each genus
quotient-same : (up down other_up other_down : ℕ) → up + other_down ≡ other_up + down
    → (down + 4 - up) / 4 ≡ (other_down + 4 - other_up) / 4
quotient-same up down other_up other_down same =
    let e : down + 4 - up ≡ other_down + 4 - other_up = omega (arith, same) in
    ap (λ n. n / 4) e

-- the factor by its counts
abbrev factor_of : ℕ → ℕ → Bool → ℕ → ℕ → ℕ → ℕ
factor_of h k is genus dots hollows = cond is (weight h k genus dots hollows) 1

pub factor-alike : (h k : ℕ) (first : Surface) (x : ℕ) (second : Surface) (y : ℕ) → AreAlike first x second y
    → factor h k first x ≡ factor h k second y
factor-alike h k first x second y alike =
    ap (λ b. factor_of h k b (genus_on first x) (dots_on first x) (hollows_on first x)) alike.is
    ∙ ap (λ g. factor_of h k (is_component second y) g (dots_on first x) (hollows_on first x))
    (quotient-same (2 * faces_on first x + raises_on first x) (lowers_on first x) (2 * faces_on second y + raises_on second y)
    (lowers_on second y) alike.counts.euler)
    ∙ ap₂ (λ d o. factor_of h k (is_component second y) (genus_on second y) d o) alike.counts.dots alike.counts.hollows

has-same : (up down other_up other_down genus : ℕ) → up + other_down ≡ other_up + down → up + 4 * genus ≡ down + 4
    → other_up + 4 * genus ≡ other_down + 4
has-same up down other_up other_down genus same has = omega (arith, same, has)

pub genus-counted : (first : Surface) (x : ℕ) (second : Surface) (y genus : ℕ) → HaveOneCount first x second y
    → HasGenus first x genus → HasGenus second y genus
genus-counted first x second y genus counts has =
    has-same (2 * faces_on first x + raises_on first x) (lowers_on first x) (2 * faces_on second y + raises_on second y)
    (lowers_on second y) genus counts.euler has

pub genus-alike : (first : Surface) (x : ℕ) (second : Surface) (y genus : ℕ) → AreAlike first x second y
    → HasGenus first x genus → HasGenus second y genus
genus-alike first x second y genus alike has = genus-counted first x second y genus alike.counts has

pub HaveOneCount-sym : (first : Surface) (x : ℕ) (second : Surface) (y : ℕ) → HaveOneCount first x second y
    → HaveOneCount second y first x
HaveOneCount-sym first x second y counts = record { dots = sym counts.dots; hollows = sym counts.hollows; euler = sym counts.euler }

pub AreAlike-sym : (first : Surface) (x : ℕ) (second : Surface) (y : ℕ) → AreAlike first x second y → AreAlike second y first x
AreAlike-sym first x second y alike = record { is = sym alike.is; counts = HaveOneCount-sym first x second y alike.counts }

-- where h and k are 0 the kinds of dots count alike
pub value-plain : (surface : Surface) → value 0 0 surface ≡ plain_value surface
value-plain surface =
    product_below-alike surface.size (factor 0 0 surface)
    (λ c. cond (is_component surface c) (plain_weight (genus_on surface c) (marks_on surface c)) 1)
    (λ c below. ap (λ w. cond (is_component surface c) w 1)
    (weight-plain (genus_on surface c) (dots_on surface c) (hollows_on surface c)))
