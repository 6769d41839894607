-- A crossing closes at most two circles.
-- A closed circle is named by its least arc, and this arc is at the crossing: an arc near the crossing that is not at it stays open. A
-- smoothing joins the four ends at the crossing in two pairs. So the name is one of two classes, and no name stands twice.
use Rattle.std.proofs.Common.{◌≡◌, ◌⊎◌, ℕ, inl, inr, ◌+◌, ◌<◌, ◌≤◌, ◌∙◌, List, [], ◌∷◌, ◌++◌, length, sym, ap, arith, Bool, true, false, cond, not, ◌||◌}
use Rattle.std.specs.Prelude.{nat_eq, nat_lt, slice_index, slice_index_or}
use Rattle.std.specs.List.{count_by, filter, list_any, AllByRecursion, Contains}
use Rattle.std.proofs.lemmas.Bool.{both_ways, cases_eq, eq-eqb, eqb-true}
use Rattle.std.proofs.lemmas.Bool.Decides.{nat_tests}
use Rattle.std.proofs.lemmas.List.Sums.{sum_by-cons}
use Rattle.kh_types.specs.Classes.{Respects, classes_of, is_least}
use Rattle.kh_types.specs.Code.{Code, arc_count, arc_in}
use Rattle.kh_types.proofs.ClassLemmas.{classes-together}
use Rattle.surface_laws.specs.Points.{AreAmong}
use Rattle.surface_laws.proofs.Components.{list_any-contained}
use Rattle.dotted_maps.proofs.ComponentParts.{AreDistinct, distinct-filter, one_at}
use Rattle.added_crossing_laws.specs.Codes.{closed_at, ends_at, ends_before, is_open, points_at, smoothing_at, step_at}
use Rattle.added_crossing_laws.specs.Steps.{is_near, is_none_in, near}
use Rattle.added_crossing_laws.proofs.Classes.{AreAmong-below, Respects-second}
use Rattle.added_crossing_laws.proofs.CodeSteps.{ends_before-more}
use Rattle.added_crossing_laws.proofs.CodeSums.{joins-near}
use Rattle.added_crossing_laws.proofs.Members.{All-contained, are-those, filter-kept, those-are}
use Rattle.crossing_maps.specs.Sites.{IsPlace}
use Rattle.crossing_maps.proofs.Placed.{near-distinct}
use Rattle.crossing_maps.proofs.SiteArcs.{ends-same}

abbrev one_if : Bool → ℕ
one_if b = cond b 1 0

-- a list of two numbers, none of them twice
few-names : (a b : ℕ) (xs : List ℕ) → AllByRecursion (λ x. (x ≡ a) ⊎ (x ≡ b)) xs
    → length xs ≤ count_by (nat_eq a) xs + count_by (nat_eq b) xs
few-names a b [] all = omega arith
few-names a b (x ∷ xs) all =
    omega (arith, sum_by-cons (one_at a) x xs, sum_by-cons (one_at b) x xs, few-names a b xs all.1, one x all.0)
  where
    one : (x : ℕ) → (x ≡ a) ⊎ (x ≡ b) → 1 ≤ one_at a x + one_at b x
    one x is = elim is [
      | inl first ↦ omega (arith, ap one_if (eq-eqb a x (sym first)))
      | inr second ↦ omega (arith, ap one_if (eq-eqb b x (sym second)))
    ]

-- a slot of a crossing, by its arc
abbrev IsEnd : ℕ → ℕ → ℕ → ℕ → ℕ → Type 0
IsEnd a b c d x = ((x ≡ a) ⊎ (x ≡ b)) ⊎ ((x ≡ c) ⊎ (x ≡ d))

some-end : (a b c d x : ℕ)
    → 0 < one_if (nat_eq a x) + (one_if (nat_eq b x) + (one_if (nat_eq c x) + one_if (nat_eq d x))) → IsEnd a b c d x
some-end a b c d x some = elim (cases_eq x a) [
  | inl first ↦ inl (inl first)
  | inr not_first ↦ elim (cases_eq x b) [
    | inl second ↦ inl (inr second)
    | inr not_second ↦ elim (cases_eq x c) [
      | inl third ↦ inr (inl third)
      | inr not_third ↦ elim (cases_eq x d) [
        | inl fourth ↦ inr (inr fourth)
        | inr not_fourth ↦ absurd (none a b c d x not_first not_second not_third not_fourth some)
      ]
    ]
  ]
]
  where
    none : (a b c d x : ℕ) → (x ≡ a → ⊥) → (x ≡ b → ⊥) → (x ≡ c → ⊥) → (x ≡ d → ⊥)
        → 0 < one_if (nat_eq a x) + (one_if (nat_eq b x) + (one_if (nat_eq c x) + one_if (nat_eq d x))) → ⊥
    none a b c d x first second third fourth some =
        omega (arith, some, zero a first, zero b second, zero c third, zero d fourth)
      where
        zero : (y : ℕ) → (x ≡ y → ⊥) → one_if (nat_eq y x) ≡ 0
        zero y apart = grind (arith, nat_tests)

-- both smoothings join the slots 0 and 2 with one of the others each
two-classes : (z : Bool) (f : ℕ → ℕ) (a b c d x : ℕ)
    → AllByRecursion (λ (pair : ℕ × ℕ). f pair.0 ≡ f pair.1) (cond z ((a, b) ∷ (c, d) ∷ []) ((a, d) ∷ (b, c) ∷ []))
    → IsEnd a b c d x → (f x ≡ f a) ⊎ (f x ≡ f c)
two-classes true f a b c d x joined is = elim is [
  | inl near ↦ elim near [ inl first ↦ inl (ap f first) | inr second ↦ inl (ap f second ∙ sym joined.0) ]
  | inr near ↦ elim near [ inl third ↦ inr (ap f third) | inr fourth ↦ inr (ap f fourth ∙ sym joined.1.0) ]
]
two-classes false f a b c d x joined is = elim is [
  | inl near ↦ elim near [ inl first ↦ inl (ap f first) | inr second ↦ inr (ap f second ∙ joined.1.0) ]
  | inr near ↦ elim near [ inl third ↦ inr (ap f third) | inr fourth ↦ inl (ap f fourth ∙ sym joined.0) ]
]

-- an arc that was open, and is not at the crossing, stays open
stays-open : (e d next : ℕ) → next ≡ e + d → d ≡ 0 → (nat_eq e 1 || nat_lt 0 d) ≡ true → nat_eq next 1 ≡ true
stays-open e d next is none near = grind (arith, nat_tests)

closed-end : (code : Code) (k smoothing x : ℕ) (m : List (ℕ × ℕ)) → Contains (closed_at code k smoothing m) x
    → 0 < ends_at code.crossings k x
closed-end code k smoothing x m has =
    let count = arc_count code.crossings + code.loops in
    let opened = (points_at code (k + 1)).opened in
    let classes = classes_of (count + 1) (m ++ smoothing_at code k smoothing) in
    let closed = filter-kept (is_none_in opened classes) (filter (is_least classes) (near (step_at code k))) x has in
    let least = filter-kept (is_least classes) (near (step_at code k)) x closed.has in
    let is = those-are count (is_near (step_at code k)) x least.has in
    elim (cases_eq (ends_at code.crossings k x) 0) [
      | inl none ↦
          let stays : is_open code (k + 1) x ≡ true =
          stays-open (ends_before code.crossings k x) (ends_at code.crossings k x) (ends_before code.crossings (k + 1) x)
          (ends_before-more code.crossings k x) none is.passes in
          let found : list_any (λ y. nat_eq (slice_index classes y) x) opened ≡ true =
          list_any-contained (λ y. nat_eq (slice_index classes y) x) opened x
          (are-those count (is_open code (k + 1)) x is.above is.below stays) least.passes in
          absurd (both_ways (is_none_in opened classes x) (ap not found) closed.passes)
      | inr some ↦ omega (arith, some)
    ]

pub few-closed : (code : Code) (k smoothing : ℕ) (m : List (ℕ × ℕ)) → IsPlace code k → AreAmong (points_at code k).opened m
    → length (closed_at code k smoothing m) ≤ 2
few-closed code k smoothing m place among =
    let count = arc_count code.crossings + code.loops in
    let opened = (points_at code (k + 1)).opened in
    let around = near (step_at code k) in
    let joins = m ++ smoothing_at code k smoothing in
    let classes = classes_of (count + 1) joins in
    let slots = slice_index_or code.crossings k [] in
    let class : ℕ → ℕ = λ x. slice_index classes x in
    let together : Respects class (smoothing_at code k smoothing) =
    Respects-second class m (smoothing_at code k smoothing)
    (classes-together (count + 1) joins
    (AreAmong-below count (is_near (step_at code k)) joins (joins-near code k smoothing m place.twice place.crossing among))) in
    let first = class (arc_in slots 0) in
    let second = class (arc_in slots 2) in
    let names : AllByRecursion (λ x. (x ≡ first) ⊎ (x ≡ second)) (closed_at code k smoothing m) =
    All-contained (λ x. (x ≡ first) ⊎ (x ≡ second)) (closed_at code k smoothing m)
    (λ x has.
    let closed = filter-kept (is_none_in opened classes) (filter (is_least classes) around) x has in
    let least = filter-kept (is_least classes) around x closed.has in
    named class x first second (eqb-true (class x) x least.passes)
    (two-classes (nat_eq smoothing 0) class (arc_in slots 0) (arc_in slots 1) (arc_in slots 2) (arc_in slots 3) x together
    (some-end (arc_in slots 0) (arc_in slots 1) (arc_in slots 2) (arc_in slots 3) x
    (omega (arith, ends-same code.crossings k x, closed-end code k smoothing x m has))))) in
    let distinct : AreDistinct (closed_at code k smoothing m) =
    distinct-filter (is_none_in opened classes) (filter (is_least classes) around)
    (distinct-filter (is_least classes) around (near-distinct code k)) in
    omega (arith, few-names first second (closed_at code k smoothing m) names, distinct first, distinct second)
  where
    named : (f : ℕ → ℕ) (x first second : ℕ) → f x ≡ x → (f x ≡ first) ⊎ (f x ≡ second) → (x ≡ first) ⊎ (x ≡ second)
    named f x first second own is = elim is [ inl one ↦ inl (sym own ∙ one) | inr other ↦ inr (sym own ∙ other) ]
