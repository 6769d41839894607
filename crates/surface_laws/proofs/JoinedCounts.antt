-- What lies on a component after two places have been joined.
use Rattle.std.proofs.Common.{◌≡◌, ◌≢◌, ℕ, inl, inr, ◌+◌, ◌∙◌, List, [], ◌∷◌, sym, length, ap, arith, true, false, cond, eq-eqb}
use Rattle.std.specs.Prelude.{nat_eq, slice_index, min, max}
use Rattle.std.specs.List.{sum_by, Contains}
use Rattle.std.proofs.lemmas.Bool.{cases_lt}
use Rattle.std.proofs.lemmas.Bool.Decides.{nat_tests}
use Rattle.std.proofs.lemmas.List.{get_or_past}
use Rattle.kh_types.specs.Classes.{merged, joined, classes_of}
use Rattle.kh_types.proofs.ClassLemmas.{slice_index-joined, length-joined, merged-first}
use Rattle.kh_types.proofs.JoinedClasses.{classes_of-more}
use Rattle.kh_types.proofs.ListSums.{sum_by-alike, sum_by-plus}
use Rattle.surface_laws.specs.Surfaces.{Surface, component_of, is_component}
use Rattle.surface_laws.specs.Cuts.{glued}
use Rattle.surface_laws.proofs.Components.{list_any-contained, list_any-never, list_any-alike}

merged-zero : (x y : ℕ) → merged x y 0 ≡ 0
merged-zero x y = grind (arith, nat_tests)

-- the class of any number, also of one that is no number of the classes: its class is 0
slice_index-joined_any : (classes : List ℕ) (pair : ℕ × ℕ) (x : ℕ)
    → slice_index (joined classes pair) x
    ≡ merged (slice_index classes pair.0) (slice_index classes pair.1) (slice_index classes x)
slice_index-joined_any classes pair x = elim (cases_lt x (length classes)) [
  | inl below ↦ slice_index-joined classes pair x below
  | inr past ↦
      get_or_past (joined classes pair) x 0 (omega (arith, past, length-joined classes pair))
      ∙ sym (merged-zero (slice_index classes pair.0) (slice_index classes pair.1))
      ∙ ap (λ c. merged (slice_index classes pair.0) (slice_index classes pair.1) c) (sym (get_or_past classes x 0 past))
]

-- the surface with two places joined
abbrev pub tied : Surface → ℕ → ℕ → Surface
tied surface a b = glued surface ((a, b) ∷ [])

pub component_of-tied : (surface : Surface) (a b x : ℕ)
    → component_of (tied surface a b) x
    ≡ merged (component_of surface a) (component_of surface b) (component_of surface x)
component_of-tied surface a b x =
    let pair : ℕ × ℕ = (a, b) in
    ap (λ classes. slice_index classes x) (classes_of-more surface.size surface.joins pair)
    ∙ slice_index-joined_any (classes_of surface.size surface.joins) pair x

-- tests of a merged number

pub test-others : (u v z k : ℕ) → k ≢ u → k ≢ v → nat_eq (merged u v z) k ≡ nat_eq z k
test-others u v z k not_u not_v = grind (arith, nat_tests)

test-greater : (u v z : ℕ) → u ≢ v → nat_eq (merged u v z) (max u v) ≡ false
test-greater u v z apart = grind (arith, nat_tests)

test-same : (u v z k : ℕ) → u ≡ v → nat_eq (merged u v z) k ≡ nat_eq z k
test-same u v z k same = grind (arith, nat_tests)

pub term-lesser : (u v z w : ℕ) → u ≢ v
    → cond (nat_eq (merged u v z) (min u v)) w 0 ≡ cond (nat_eq z u) w 0 + cond (nat_eq z v) w 0
term-lesser u v z w apart = grind (arith, nat_tests)

-- the sum of some amounts over what lies on a component
abbrev pub amount_at : {X : Type 0} → Surface → ℕ → (X → ℕ) → (X → ℕ) → X → ℕ
amount_at surface component place amount x = cond (nat_eq (component_of surface (place x)) component) (amount x) 0

abbrev pub sum_at : {X : Type 0} → Surface → ℕ → (X → ℕ) → (X → ℕ) → List X → ℕ
sum_at surface component place amount xs = sum_by (amount_at surface component place amount) xs

test-tied : (surface : Surface) (a b x k : ℕ)
    → nat_eq (component_of (tied surface a b) x) k
    ≡ nat_eq (merged (component_of surface a) (component_of surface b) (component_of surface x)) k
test-tied surface a b x k = ap (λ c. nat_eq c k) (component_of-tied surface a b x)

-- other components stay
pub test-tied_others : (surface : Surface) (a b x k : ℕ) → k ≢ component_of surface a → k ≢ component_of surface b
    → nat_eq (component_of (tied surface a b) x) k ≡ nat_eq (component_of surface x) k
test-tied_others surface a b x k not_a not_b =
    test-tied surface a b x k
    ∙ test-others (component_of surface a) (component_of surface b) (component_of surface x) k not_a not_b

pub sum_at-others : {X : Type 0} (surface : Surface) (a b k : ℕ) (place amount : X → ℕ) (xs : List X) → k ≢ component_of surface a
    → k ≢ component_of surface b → sum_at (tied surface a b) k place amount xs ≡ sum_at surface k place amount xs
sum_at-others surface a b k place amount xs not_a not_b =
    sum_by-alike (amount_at (tied surface a b) k place amount) (amount_at surface k place amount)
    (λ x. ap (λ t. cond t (amount x) 0) (test-tied_others surface a b (place x) k not_a not_b)) xs

pub is_component-others : (surface : Surface) (a b k : ℕ) → k ≢ component_of surface a → k ≢ component_of surface b
    → is_component (tied surface a b) k ≡ is_component surface k
is_component-others surface a b k not_a not_b =
    list_any-alike (λ x. nat_eq (component_of (tied surface a b) x) k) (λ x. nat_eq (component_of surface x) k) surface.places
    (λ x. test-tied_others surface a b x k not_a not_b)

-- so does each, where the two were on one component
pub test-tied_same : (surface : Surface) (a b x k : ℕ) → component_of surface a ≡ component_of surface b
    → nat_eq (component_of (tied surface a b) x) k ≡ nat_eq (component_of surface x) k
test-tied_same surface a b x k same =
    test-tied surface a b x k ∙ test-same (component_of surface a) (component_of surface b) (component_of surface x) k same

pub sum_at-same : {X : Type 0} (surface : Surface) (a b k : ℕ) (place amount : X → ℕ) (xs : List X)
    → component_of surface a ≡ component_of surface b
    → sum_at (tied surface a b) k place amount xs ≡ sum_at surface k place amount xs
sum_at-same surface a b k place amount xs same =
    sum_by-alike (amount_at (tied surface a b) k place amount) (amount_at surface k place amount)
    (λ x. ap (λ t. cond t (amount x) 0) (test-tied_same surface a b (place x) k same)) xs

-- where they were apart, the lesser component has what both had, and the greater is none
pub sum_at-lesser : {X : Type 0} (surface : Surface) (a b : ℕ) (place amount : X → ℕ) (xs : List X)
    → component_of surface a ≢ component_of surface b
    → sum_at (tied surface a b) (min (component_of surface a) (component_of surface b)) place amount xs
    ≡ sum_at surface (component_of surface a) place amount xs + sum_at surface (component_of surface b) place amount xs
sum_at-lesser surface a b place amount xs apart =
    let u = component_of surface a in
    let v = component_of surface b in
    sum_by-alike (amount_at (tied surface a b) (min u v) place amount)
    (λ x. amount_at surface u place amount x + amount_at surface v place amount x)
    (λ x.
    ap (λ t. cond t (amount x) 0) (test-tied surface a b (place x) (min u v))
    ∙ term-lesser u v (component_of surface (place x)) (amount x) apart)
    xs
    ∙ sum_by-plus (amount_at surface u place amount) (amount_at surface v place amount) xs

pub is_component-lesser : (surface : Surface) (a b : ℕ) → Contains surface.places a
    → is_component (tied surface a b) (min (component_of surface a) (component_of surface b)) ≡ true
is_component-lesser surface a b has =
    let u = component_of surface a in
    let v = component_of surface b in
    list_any-contained (λ x. nat_eq (component_of (tied surface a b) x) (min u v)) surface.places a has
    (eq-eqb (component_of (tied surface a b) a) (min u v) (component_of-tied surface a b a ∙ merged-first u v))

pub is_component-greater : (surface : Surface) (a b : ℕ) → component_of surface a ≢ component_of surface b
    → is_component (tied surface a b) (max (component_of surface a) (component_of surface b)) ≡ false
is_component-greater surface a b apart =
    let u = component_of surface a in
    let v = component_of surface b in
    list_any-never (λ x. nat_eq (component_of (tied surface a b) x) (max u v)) surface.places
    (λ x. test-tied surface a b x (max u v) ∙ test-greater u v (component_of surface x) apart)
