-- A surface cut along one circle.
--
-- A surface is cut along one circle where a join of two faces is left out and a disc, with a label, is put on either side. Either the two
-- sides are apart after the cut, or still one component, of one genus less. In both cases the value is, modulo p, the sum over the two
-- labels of the values of the cut surface: so it is with weights (Weights).
use Rattle.std.proofs.Common.{◌≡◌, ◌≢◌, ℕ, suc, ◌⊎◌, inl, inr, ◌+◌, ◌*◌, ◌/◌, ◌%◌, ◌<◌, ◌∙◌, List, [], ◌∷◌, refl, sym, ap, ap₂, arith, true, cond, eq-eqb}
use Rattle.std.specs.Prelude.{nat_eq, min, max}
use Rattle.std.specs.List.{sum_by, Contains}
use Rattle.std.proofs.lemmas.Bool.{cases_eq, cases_lt}
use Rattle.std.proofs.lemmas.Bool.Decides.{nat_tests}
use Rattle.std.proofs.lemmas.List.Sums.{sum_by-cons}
use Rattle.kh_types.specs.Classes.{AreBelow}
use Rattle.kh_types.specs.Residues.{Same}
use Rattle.kh_types.proofs.ClassLemmas.{merged-others}
use Rattle.kh_types.proofs.JoinedClasses.{merged-same}
use Rattle.kh_types.proofs.EdgeNames.{becomes_least}
use Rattle.kh_types.proofs.Residues.{same-mul, same-equal}
use Rattle.surface_laws.specs.Surfaces.{Surface, component_of, is_component, faces_on, dots_on, hollows_on, lowers_on, raises_on, HasGenus, IsClosed, weight, factor, value, product_below}
use Rattle.surface_laws.specs.Cuts.{with_faces}
use Rattle.surface_laws.proofs.Products.{without, rest_of, product_below-without, product_below-two, rest_of-alike, without-alike}
use Rattle.surface_laws.proofs.Components.{list_any-contained, component-below}
use Rattle.surface_laws.proofs.Factors.{AreAlike, HaveOneCount-each, factor-alike, genus-alike, factor-at, factor-none}
use Rattle.surface_laws.proofs.Weights.{weight-apart, weight-together}
use Rattle.surface_laws.proofs.JoinedCounts.{tied, component_of-tied, amount_at, sum_at-others, sum_at-same, sum_at-lesser, is_component-others, is_component-lesser, is_component-greater}

-- how the counts are sums over places
abbrev pub place_of_face : ℕ × ℕ → ℕ
place_of_face face = face.0

abbrev pub dots_of_face : ℕ × ℕ → ℕ
dots_of_face face = face.1 % 2

abbrev pub hollows_of_face : ℕ × ℕ → ℕ
hollows_of_face face = face.1 / 2

abbrev pub one_face : ℕ × ℕ → ℕ
one_face face = 1

abbrev pub itself : ℕ → ℕ
itself place = place

abbrev pub one_place : ℕ → ℕ
one_place place = 1

-- the surface with a disc at a, with the mark i, and one at b, with the mark j
abbrev pub opened : Surface → ℕ → ℕ → ℕ → ℕ → Surface
opened surface a i b j = with_faces surface ((a, i) ∷ (b, j) ∷ [])

-- two terms before a sum
two-before : {X : Type 0} (f : X → ℕ) (x y : X) (xs : List X) → sum_by f (x ∷ y ∷ xs) ≡ f x + (f y + sum_by f xs)
two-before f x y xs = sum_by-cons f x (y ∷ xs) ∙ ap (λ n. f x + n) (sum_by-cons f y xs)

faces_on-opened : (surface : Surface) (a i b j k : ℕ)
    → faces_on (opened surface a i b j) k
    ≡ cond (nat_eq (component_of surface a) k) 1 0 + (cond (nat_eq (component_of surface b) k) 1 0 + faces_on surface k)
faces_on-opened surface a i b j k =
    let first : ℕ × ℕ = (a, i) in
    let second : ℕ × ℕ = (b, j) in
    two-before (amount_at surface k place_of_face one_face) first second surface.faces

dots_on-opened : (surface : Surface) (a i b j k : ℕ)
    → dots_on (opened surface a i b j) k
    ≡ cond (nat_eq (component_of surface a) k) (i % 2) 0
    + (cond (nat_eq (component_of surface b) k) (j % 2) 0 + dots_on surface k)
dots_on-opened surface a i b j k =
    let first : ℕ × ℕ = (a, i) in
    let second : ℕ × ℕ = (b, j) in
    two-before (amount_at surface k place_of_face dots_of_face) first second surface.faces

hollows_on-opened : (surface : Surface) (a i b j k : ℕ)
    → hollows_on (opened surface a i b j) k
    ≡ cond (nat_eq (component_of surface a) k) (i / 2) 0
    + (cond (nat_eq (component_of surface b) k) (j / 2) 0 + hollows_on surface k)
hollows_on-opened surface a i b j k =
    let first : ℕ × ℕ = (a, i) in
    let second : ℕ × ℕ = (b, j) in
    two-before (amount_at surface k place_of_face hollows_of_face) first second surface.faces

two-others : (u v k x y z : ℕ) → k ≢ u → k ≢ v → cond (nat_eq u k) x 0 + (cond (nat_eq v k) y 0 + z) ≡ z
two-others u v k x y z not_u not_v = grind (arith, nat_tests)

two-first : (u v x y z : ℕ) → u ≢ v → cond (nat_eq u u) x 0 + (cond (nat_eq v u) y 0 + z) ≡ x + z
two-first u v x y z apart = grind (arith, nat_tests)

two-second : (u v x y z : ℕ) → u ≢ v → cond (nat_eq u v) x 0 + (cond (nat_eq v v) y 0 + z) ≡ y + z
two-second u v x y z apart = grind (arith, nat_tests)

two-both : (u v x y z : ℕ) → u ≡ v → cond (nat_eq u u) x 0 + (cond (nat_eq v u) y 0 + z) ≡ x + (y + z)
two-both u v x y z same = grind (arith, nat_tests)

-- components that the circle does not meet stay as they are
pub alike-others : (surface : Surface) (a i b j k : ℕ) → k ≢ component_of surface a → k ≢ component_of surface b
    → AreAlike (opened surface a i b j) k (tied surface a b) k
alike-others surface a i b j k not_a not_b =
    let u = component_of surface a in
    let v = component_of surface b in
    record {
      is = sym (is_component-others surface a b k not_a not_b);
      counts = HaveOneCount-each (opened surface a i b j) k (tied surface a b) k
          (faces_on-opened surface a i b j k ∙ two-others u v k 1 1 (faces_on surface k) not_a not_b
          ∙ sym (sum_at-others surface a b k place_of_face one_face surface.faces not_a not_b))
          (dots_on-opened surface a i b j k ∙ two-others u v k (i % 2) (j % 2) (dots_on surface k) not_a not_b
          ∙ sym (sum_at-others surface a b k place_of_face dots_of_face surface.faces not_a not_b))
          (hollows_on-opened surface a i b j k ∙ two-others u v k (i / 2) (j / 2) (hollows_on surface k) not_a not_b
          ∙ sym (sum_at-others surface a b k place_of_face hollows_of_face surface.faces not_a not_b))
          (sym (sum_at-others surface a b k itself one_place surface.lowers not_a not_b))
          (sym (sum_at-others surface a b k itself one_place surface.raises not_a not_b));
    }

factors-others : (h k : ℕ) (surface : Surface) (a i b j c : ℕ) → c ≢ component_of surface a → c ≢ component_of surface b
    → factor h k (opened surface a i b j) c ≡ factor h k (tied surface a b) c
factors-others h k surface a i b j c not_a not_b =
    factor-alike h k (opened surface a i b j) c (tied surface a b) c (alike-others surface a i b j c not_a not_b)

-- the component of a place is one
pub is_component-of : (surface : Surface) (place : ℕ) → Contains surface.places place
    → is_component surface (component_of surface place) ≡ true
is_component-of surface place has =
    list_any-contained (λ x. nat_eq (component_of surface x) (component_of surface place)) surface.places place has
    (eq-eqb (component_of surface place) (component_of surface place) refl)

-- two components become one

genus-sum : (fa fb la lb ra rb xa xb x l r g h : ℕ) → xa ≡ 1 + fa → xb ≡ 1 + fb → x ≡ fa + fb → l ≡ la + lb → r ≡ ra + rb
    → 2 * xa + ra + 4 * g ≡ la + 4 → 2 * xb + rb + 4 * h ≡ lb + 4 → 2 * x + r + 4 * (g + h) ≡ l + 4
genus-sum fa fb la lb ra rb xa xb x l r g h is_xa is_xb is_x is_l is_r has_g has_h =
    omega (arith, is_xa, is_xb, is_x, is_l, is_r, has_g, has_h)

genus-apart : (surface : Surface) (a i b j g h : ℕ) → component_of surface a ≢ component_of surface b
    → HasGenus (opened surface a i b j) (component_of surface a) g → HasGenus (opened surface a i b j) (component_of surface b) h
    → HasGenus (tied surface a b) (min (component_of surface a) (component_of surface b)) (g + h)
genus-apart surface a i b j g h apart has_g has_h =
    let u = component_of surface a in
    let v = component_of surface b in
    genus-sum (faces_on surface u) (faces_on surface v) (lowers_on surface u) (lowers_on surface v) (raises_on surface u)
    (raises_on surface v) (faces_on (opened surface a i b j) u) (faces_on (opened surface a i b j) v)
    (faces_on (tied surface a b) (min u v)) (lowers_on (tied surface a b) (min u v)) (raises_on (tied surface a b) (min u v)) g h
    (faces_on-opened surface a i b j u ∙ two-first u v 1 1 (faces_on surface u) apart)
    (faces_on-opened surface a i b j v ∙ two-second u v 1 1 (faces_on surface v) apart)
    (sum_at-lesser surface a b place_of_face one_face surface.faces apart)
    (sum_at-lesser surface a b itself one_place surface.lowers apart)
    (sum_at-lesser surface a b itself one_place surface.raises apart)
    has_g has_h

by_size : (f : ℕ → ℕ) (u v : ℕ) → f u * f v ≡ f (min u v) * f (max u v)
by_size f u v = elim (cases_lt u v) [
  | inl less ↦
      let is_min : min u v ≡ u = omega (arith, less) in
      let is_max : max u v ≡ v = omega (arith, less) in
      ap₂ (λ x y. f x * f y) (sym is_min) (sym is_max)
  | inr most ↦
      let is_min : min u v ≡ v = omega (arith, most) in
      let is_max : max u v ≡ u = omega (arith, most) in
      turned (f u) (f v) ∙ ap₂ (λ x y. f x * f y) (sym is_min) (sym is_max)
]
  where
    turned : (x y : ℕ) → x * y ≡ y * x
    turned x y = omega arith

-- the opened surface's number
opened-apart : (h k : ℕ) (surface : Surface) (a i b j g e : ℕ) → component_of surface a < surface.size
    → component_of surface b < surface.size → Contains surface.places a → Contains surface.places b
    → component_of surface a ≢ component_of surface b
    → HasGenus (opened surface a i b j) (component_of surface a) g → HasGenus (opened surface a i b j) (component_of surface b) e
    → value h k (opened surface a i b j)
    ≡ weight h k g (i % 2 + dots_on surface (component_of surface a)) (i / 2 + hollows_on surface (component_of surface a))
    * weight h k e (j % 2 + dots_on surface (component_of surface b)) (j / 2 + hollows_on surface (component_of surface b))
    * rest_of surface.size (component_of surface a) (component_of surface b) (factor h k (tied surface a b))
opened-apart h k surface a i b j g e a_below b_below has_a has_b apart has_g has_e =
    let u = component_of surface a in
    let v = component_of surface b in
    let cut = opened surface a i b j in
    let at_u : factor h k cut u ≡ weight h k g (i % 2 + dots_on surface u) (i / 2 + hollows_on surface u) =
    factor-at h k cut u g (is_component-of cut a has_a) has_g
    ∙ ap₂ (λ d o. weight h k g d o) (dots_on-opened surface a i b j u ∙ two-first u v (i % 2) (j % 2) (dots_on surface u) apart)
    (hollows_on-opened surface a i b j u ∙ two-first u v (i / 2) (j / 2) (hollows_on surface u) apart) in
    let at_v : factor h k cut v ≡ weight h k e (j % 2 + dots_on surface v) (j / 2 + hollows_on surface v) =
    factor-at h k cut v e (is_component-of cut b has_b) has_e
    ∙ ap₂ (λ d o. weight h k e d o) (dots_on-opened surface a i b j v ∙ two-second u v (i % 2) (j % 2) (dots_on surface v) apart)
    (hollows_on-opened surface a i b j v ∙ two-second u v (i / 2) (j / 2) (hollows_on surface v) apart) in
    product_below-two surface.size u v (factor h k cut) a_below b_below apart
    ∙ ap (λ z. z * rest_of surface.size u v (factor h k cut)) (ap₂ (λ x y. x * y) at_u at_v)
    ∙ ap (λ z. weight h k g (i % 2 + dots_on surface u) (i / 2 + hollows_on surface u)
    * weight h k e (j % 2 + dots_on surface v) (j / 2 + hollows_on surface v) * z)
    (rest_of-alike surface.size u v (factor h k cut) (factor h k (tied surface a b)) (factors-others h k surface a i b j))

-- the glued surface's number
tied-apart : (h k : ℕ) (surface : Surface) (a i b j g e : ℕ) → component_of surface a < surface.size
    → component_of surface b < surface.size → Contains surface.places a → component_of surface a ≢ component_of surface b
    → HasGenus (opened surface a i b j) (component_of surface a) g → HasGenus (opened surface a i b j) (component_of surface b) e
    → value h k (tied surface a b)
    ≡ weight h k (g + e) (dots_on surface (component_of surface a) + dots_on surface (component_of surface b))
    (hollows_on surface (component_of surface a) + hollows_on surface (component_of surface b))
    * rest_of surface.size (component_of surface a) (component_of surface b) (factor h k (tied surface a b))
tied-apart h k surface a i b j g e a_below b_below has_a apart has_g has_e =
    let u = component_of surface a in
    let v = component_of surface b in
    let whole = tied surface a b in
    let both = weight h k (g + e) (dots_on surface u + dots_on surface v) (hollows_on surface u + hollows_on surface v) in
    let lesser : factor h k whole (min u v) ≡ both =
    factor-at h k whole (min u v) (g + e) (is_component-lesser surface a b has_a) (genus-apart surface a i b j g e apart has_g has_e)
    ∙ ap₂ (λ d o. weight h k (g + e) d o) (sum_at-lesser surface a b place_of_face dots_of_face surface.faces apart)
    (sum_at-lesser surface a b place_of_face hollows_of_face surface.faces apart) in
    let greater : factor h k whole (max u v) ≡ 1 = factor-none h k whole (max u v) (is_component-greater surface a b apart) in
    product_below-two surface.size u v (factor h k whole) a_below b_below apart
    ∙ ap (λ z. z * rest_of surface.size u v (factor h k whole))
    (by_size (factor h k whole) u v ∙ ap₂ (λ x y. x * y) lesser greater ∙ times_one both)
  where
    times_one : (x : ℕ) → x * 1 ≡ x
    times_one x = omega arith

-- a weight by other names of its counts
weight-named : (h k g d o b c : ℕ) → d ≡ b → o ≡ c → weight h k g d o ≡ weight h k g b c
weight-named h k g d o b c is_d is_o = ap₂ (λ x y. weight h k g x y) is_d is_o

sum-apart : (p h k g e d o b c r x y z : ℕ) → Same p (h + k) 0
    → x ≡ weight h k g (0 + d) (0 + o) * weight h k e (0 + b) (1 + c) * r
    → y ≡ weight h k g (1 + d) (0 + o) * weight h k e (0 + b) (0 + c) * r → z ≡ weight h k (g + e) (d + b) (o + c) * r
    → Same p (x + y) z
sum-apart p h k g e d o b c r x y z none is_x is_y is_z =
    let first : x ≡ weight h k g d o * weight h k e b (suc c) * r =
    is_x
    ∙ ap₂ (λ s t. s * t * r) (weight-named h k g (0 + d) (0 + o) d o (zero_plus d) (zero_plus o))
    (weight-named h k e (0 + b) (1 + c) b (suc c) (zero_plus b) (omega arith)) in
    let second : y ≡ weight h k g (suc d) o * weight h k e b c * r =
    is_y
    ∙ ap₂ (λ s t. s * t * r) (weight-named h k g (1 + d) (0 + o) (suc d) o (omega arith) (zero_plus o))
    (weight-named h k e (0 + b) (0 + c) b c (zero_plus b) (zero_plus c)) in
    same-equal p (x + y)
    ((weight h k g (suc d) o * weight h k e b c + weight h k g d o * weight h k e b (suc c)) * r)
    (ap₂ (λ s t. s + t) first second
    ∙ spread (weight h k g d o * weight h k e b (suc c)) (weight h k g (suc d) o * weight h k e b c) r)
    ∙ same-mul p (weight h k g (suc d) o * weight h k e b c + weight h k g d o * weight h k e b (suc c))
    (weight h k (g + e) (d + b) (o + c)) r r (weight-apart p h k g d o e b c none) refl
    ∙ same-equal p (weight h k (g + e) (d + b) (o + c) * r) z (sym is_z)
  where
    zero_plus : (x : ℕ) → 0 + x ≡ x
    zero_plus x = omega arith

    spread : (s t r : ℕ) → s * r + t * r ≡ (t + s) * r
    spread s t r = omega arith

-- one component gets a handle

genus-more : (f x l k r s g y : ℕ) → x ≡ 1 + (1 + f) → y ≡ f → k ≡ l → s ≡ r → 2 * x + r + 4 * g ≡ l + 4
    → 2 * y + s + 4 * (g + 1) ≡ k + 4
genus-more f x l k r s g y is_x is_y is_k is_s has = omega (arith, is_x, is_y, is_k, is_s, has)

genus-together : (surface : Surface) (a i b j g : ℕ) → component_of surface a ≡ component_of surface b
    → HasGenus (opened surface a i b j) (component_of surface a) g
    → HasGenus (tied surface a b) (component_of surface a) (g + 1)
genus-together surface a i b j g same has =
    let u = component_of surface a in
    let v = component_of surface b in
    genus-more (faces_on surface u) (faces_on (opened surface a i b j) u) (lowers_on surface u) (lowers_on (tied surface a b) u)
    (raises_on surface u) (raises_on (tied surface a b) u) g (faces_on (tied surface a b) u)
    (faces_on-opened surface a i b j u ∙ two-both u v 1 1 (faces_on surface u) same)
    (sum_at-same surface a b u place_of_face one_face surface.faces same)
    (sum_at-same surface a b u itself one_place surface.lowers same)
    (sum_at-same surface a b u itself one_place surface.raises same)
    has

others-once : (h k : ℕ) (surface : Surface) (a i b j c : ℕ) → component_of surface a ≡ component_of surface b
    → c ≢ component_of surface a → factor h k (opened surface a i b j) c ≡ factor h k (tied surface a b) c
others-once h k surface a i b j c same not_a =
    factors-others h k surface a i b j c not_a (λ is. not_a (is ∙ sym same))

opened-together : (h k : ℕ) (surface : Surface) (a i b j g : ℕ) → component_of surface a < surface.size
    → Contains surface.places a → component_of surface a ≡ component_of surface b
    → HasGenus (opened surface a i b j) (component_of surface a) g
    → value h k (opened surface a i b j)
    ≡ weight h k g (i % 2 + (j % 2 + dots_on surface (component_of surface a)))
    (i / 2 + (j / 2 + hollows_on surface (component_of surface a)))
    * product_below surface.size (without (component_of surface a) (factor h k (tied surface a b)))
opened-together h k surface a i b j g a_below has_a same has =
    let u = component_of surface a in
    let v = component_of surface b in
    let cut = opened surface a i b j in
    product_below-without surface.size u (factor h k cut) a_below
    ∙ ap₂ (λ x y. x * y)
    (factor-at h k cut u g (is_component-of cut a has_a) has
    ∙ ap₂ (λ d o. weight h k g d o) (dots_on-opened surface a i b j u ∙ two-both u v (i % 2) (j % 2) (dots_on surface u) same)
    (hollows_on-opened surface a i b j u ∙ two-both u v (i / 2) (j / 2) (hollows_on surface u) same))
    (without-alike surface.size u (factor h k cut) (factor h k (tied surface a b)) (λ c. others-once h k surface a i b j c same))

tied-component : (surface : Surface) (a b : ℕ) → component_of surface a ≡ component_of surface b → (x : ℕ)
    → component_of (tied surface a b) x ≡ component_of surface x
tied-component surface a b same x =
    component_of-tied surface a b x
    ∙ merged-same (component_of surface a) (component_of surface b) (component_of surface x) same

tied-together : (h k : ℕ) (surface : Surface) (a i b j g : ℕ) → component_of surface a < surface.size → Contains surface.places a
    → component_of surface a ≡ component_of surface b → HasGenus (opened surface a i b j) (component_of surface a) g
    → value h k (tied surface a b)
    ≡ weight h k (g + 1) (dots_on surface (component_of surface a)) (hollows_on surface (component_of surface a))
    * product_below surface.size (without (component_of surface a) (factor h k (tied surface a b)))
tied-together h k surface a i b j g a_below has_a same has =
    let u = component_of surface a in
    let whole = tied surface a b in
    let is : is_component whole u ≡ true =
    ap (λ c. is_component whole c) (sym (tied-component surface a b same a)) ∙ is_component-of whole a has_a in
    product_below-without surface.size u (factor h k whole) a_below
    ∙ ap (λ x. x * product_below surface.size (without u (factor h k whole)))
    (factor-at h k whole u (g + 1) is (genus-together surface a i b j g same has)
    ∙ ap₂ (λ d o. weight h k (g + 1) d o) (sum_at-same surface a b u place_of_face dots_of_face surface.faces same)
    (sum_at-same surface a b u place_of_face hollows_of_face surface.faces same))

sum-together : (h k g d o r x y z : ℕ) → x ≡ weight h k g (0 + (0 + d)) (0 + (1 + o)) * r
    → y ≡ weight h k g (1 + (0 + d)) (0 + (0 + o)) * r → z ≡ weight h k (g + 1) d o * r → x + y ≡ z
sum-together h k g d o r x y z is_x is_y is_z =
    let more : suc g ≡ g + 1 = omega arith in
    ap₂ (λ s t. s + t)
    (is_x ∙ ap (λ s. s * r) (weight-named h k g (0 + (0 + d)) (0 + (1 + o)) d (suc o) (omega arith) (omega arith)))
    (is_y ∙ ap (λ s. s * r) (weight-named h k g (1 + (0 + d)) (0 + (0 + o)) (suc d) o (omega arith) (omega arith)))
    ∙ spread (weight h k g d (suc o)) (weight h k g (suc d) o) r
    ∙ ap (λ s. s * r) (weight-together h k g d o ∙ ap (λ n. weight h k n d o) more) ∙ sym is_z
  where
    spread : (s t r : ℕ) → s * r + t * r ≡ (t + s) * r
    spread s t r = omega arith

-- the law for one circle

pub value-tied : (p h k : ℕ) (surface : Surface) (a b : ℕ) → Same p (h + k) 0 → AreBelow surface.size surface.joins
    → a < surface.size → b < surface.size → Contains surface.places a → Contains surface.places b
    → IsClosed (opened surface a 0 b 2)
    → Same p (value h k (opened surface a 0 b 2) + value h k (opened surface a 1 b 0)) (value h k (tied surface a b))
value-tied p h k surface a b none below a_below b_below has_a has_b closed =
    let u = component_of surface a in
    let v = component_of surface b in
    let u_below = component-below surface a below a_below in
    let v_below = component-below surface b below b_below in
    let at_a = closed.genus a has_a in
    let at_b = closed.genus b has_b in
    let cut = value h k (opened surface a 0 b 2) in
    let other = value h k (opened surface a 1 b 0) in
    let whole = value h k (tied surface a b) in
    elim (cases_eq u v) [
      | inl same ↦
          same-equal p (cut + other) whole
          (sum-together h k at_a.0 (dots_on surface u) (hollows_on surface u)
          (product_below surface.size (without u (factor h k (tied surface a b)))) cut other whole
          (opened-together h k surface a 0 b 2 at_a.0 u_below has_a same at_a.1)
          (opened-together h k surface a 1 b 0 at_a.0 u_below has_a same at_a.1)
          (tied-together h k surface a 0 b 2 at_a.0 u_below has_a same at_a.1))
      | inr apart ↦
          sum-apart p h k at_a.0 at_b.0 (dots_on surface u) (hollows_on surface u) (dots_on surface v) (hollows_on surface v)
          (rest_of surface.size u v (factor h k (tied surface a b))) cut other whole none
          (opened-apart h k surface a 0 b 2 at_a.0 at_b.0 u_below v_below has_a has_b apart at_a.1 at_b.1)
          (opened-apart h k surface a 1 b 0 at_a.0 at_b.0 u_below v_below has_a has_b apart at_a.1 at_b.1)
          (tied-apart h k surface a 0 b 2 at_a.0 at_b.0 u_below v_below has_a apart at_a.1 at_b.1)
    ]

-- and it stays closed

pub at_place : (surface : Surface) (c d genus : ℕ) → c ≡ d → HasGenus surface d genus → HasGenus surface c genus
at_place surface c d genus same has = rw same has

closed-apart : (surface : Surface) (a i b j g h : ℕ) → component_of surface a ≢ component_of surface b
    → HasGenus (opened surface a i b j) (component_of surface a) g → HasGenus (opened surface a i b j) (component_of surface b) h
    → (place : ℕ) → (component_of surface place ≡ component_of surface a) ⊎ (component_of surface place ≡ component_of surface b)
    → (genus : ℕ) × HasGenus (tied surface a b) (component_of (tied surface a b) place) genus
closed-apart surface a i b j g h apart has_g has_h place either =
    let u = component_of surface a in
    let v = component_of surface b in (
      g + h,
      at_place (tied surface a b) (component_of (tied surface a b) place) (min u v) (g + h)
          (component_of-tied surface a b place ∙ becomes_least u v (component_of surface place) either)
          (genus-apart surface a i b j g h apart has_g has_h),
    )

closed-others : (surface : Surface) (a i b j genus place : ℕ) → component_of surface place ≢ component_of surface a
    → component_of surface place ≢ component_of surface b → HasGenus (opened surface a i b j) (component_of surface place) genus
    → HasGenus (tied surface a b) (component_of (tied surface a b) place) genus
closed-others surface a i b j genus place not_a not_b has =
    let k = component_of surface place in
    at_place (tied surface a b) (component_of (tied surface a b) place) k genus
    (component_of-tied surface a b place ∙ merged-others (component_of surface a) (component_of surface b) k not_a not_b)
    (genus-alike (opened surface a i b j) k (tied surface a b) k genus (alike-others surface a i b j k not_a not_b) has)

closed-together : (surface : Surface) (a i b j g place : ℕ) → component_of surface a ≡ component_of surface b
    → HasGenus (opened surface a i b j) (component_of surface a) g → component_of surface place ≡ component_of surface a
    → HasGenus (tied surface a b) (component_of (tied surface a b) place) (g + 1)
closed-together surface a i b j g place same has is =
    at_place (tied surface a b) (component_of (tied surface a b) place) (component_of surface a) (g + 1)
    (tied-component surface a b same place ∙ is) (genus-together surface a i b j g same has)

pub IsClosed-tied : (surface : Surface) (a i b j : ℕ) → Contains surface.places a → Contains surface.places b
    → IsClosed (opened surface a i b j) → IsClosed (tied surface a b)
IsClosed-tied surface a i b j has_a has_b closed =
    let u = component_of surface a in
    let v = component_of surface b in
    let at_a = closed.genus a has_a in
    let at_b = closed.genus b has_b in
    record {
      genus = λ place has.
          let k = component_of surface place in
          let here = closed.genus place has in
          elim (cases_eq u v) [
            | inl same ↦ elim (cases_eq k u) [
              | inl is ↦ (at_a.0 + 1, closed-together surface a i b j at_a.0 place same at_a.1 is)
              | inr other ↦ (here.0, closed-others surface a i b j here.0 place other (λ is. other (is ∙ sym same)) here.1)
            ]
            | inr apart ↦ elim (cases_eq k u) [
              | inl is ↦ closed-apart surface a i b j at_a.0 at_b.0 apart at_a.1 at_b.1 place (inl is)
              | inr other ↦ elim (cases_eq k v) [
                | inl is ↦ closed-apart surface a i b j at_a.0 at_b.0 apart at_a.1 at_b.1 place (inr is)
                | inr neither ↦ (here.0, closed-others surface a i b j here.0 place other neither here.1)
              ]
            ]
          ];
    }
