-- The pairing after a crossing joins the open arcs of each class, and nothing else.
use Rattle.std.proofs.Common.{◌≡◌, ℕ, inl, inr, ◌⊎◌, ◌+◌, ◌<◌, List, [], ◌∷◌, refl, sym, ap, ap₂, arith, ◌&&◌}
use Rattle.std.specs.Prelude.{nat_eq, nat_lt, slice_index}
use Rattle.std.specs.List.{filter, flat_map, AllByRecursion, Contains}
use Rattle.std.proofs.lemmas.Bool.{and_parts, eq-eqb, eqb-true, ltb-true, lt-ltb}
use Rattle.std.proofs.lemmas.Bool.Decides.{nat_tests}
use Rattle.kh_types.specs.Classes.{classes_of}
use Rattle.kh_types.proofs.ClassLemmas.{classes-finest}
use Rattle.kh_types.proofs.Lists.{AllByRecursion-append, Contains-filter, Contains-map, Contains-flat_map, AllByRecursion-at, AllByRecursion-weaker, Contains-later}
use Rattle.surface_laws.proofs.TwoSides.{AllByRecursion-map}
use Rattle.surface_laws.specs.Points.{AreAmong}
use Rattle.added_crossing_laws.specs.Steps.{Step, after, is_near, near, is_mate, pair_with, pairs_at, pairs_among, new_pairing, IsNewPairing}
use Rattle.added_crossing_laws.proofs.Members.{filter-kept, those-are, All-contained}
use Rattle.added_crossing_laws.proofs.Classes.{AreAmong-below}
use Rattle.added_crossing_laws.proofs.CutJoins.{IsStep}

AllByRecursion-flat_map : {X Y : Type 0} (P : Y → Type 0) (f : X → List Y) (xs : List X)
    → ((x : X) → Contains xs x → AllByRecursion P (f x)) → AllByRecursion P (flat_map f xs)
AllByRecursion-flat_map P f [] each = tt
AllByRecursion-flat_map P f (x ∷ xs) each =
    AllByRecursion-append P (f x) (flat_map f xs) (each x (0, omega arith, refl))
    (AllByRecursion-flat_map P f xs (λ y has. each y (Contains-later x y xs has)))

-- a pair has two of the points, the greater one second, in one class
pub record IsPair (points classes : List ℕ) (pair : ℕ × ℕ) : Type 0 where
  pub first : Contains points pair.0
  pub second : Contains points pair.1
  pub rises : pair.0 < pair.1
  pub same : slice_index classes pair.0 ≡ slice_index classes pair.1

pub pairs-are : (points classes : List ℕ) → AllByRecursion (IsPair points classes) (pairs_among points classes)
pairs-are points classes =
    AllByRecursion-flat_map (IsPair points classes) (pairs_at points classes) points
    (λ x has.
    AllByRecursion-map (IsPair points classes) (pair_with x) (filter (is_mate classes x) points)
    (All-contained (λ y. IsPair points classes (pair_with x y)) (filter (is_mate classes x) points)
    (λ y y_has.
    let kept = filter-kept (is_mate classes x) points y y_has in
    let parts = and_parts (nat_lt x y) (nat_eq (slice_index classes x) (slice_index classes y)) kept.passes in
    record {
      first = has;
      second = kept.has;
      rises = ltb-true x y parts.0;
      same = eqb-true (slice_index classes x) (slice_index classes y) parts.1;
    })))

-- and each such pair is one
has-pair : (points classes : List ℕ) (x y : ℕ) → Contains points x → Contains points y → x < y
    → slice_index classes x ≡ slice_index classes y → Contains (pairs_among points classes) (x, y)
has-pair points classes x y has y_has rises same =
    Contains-flat_map (pairs_at points classes) points x (x, y) has
    (Contains-map (pair_with x) (filter (is_mate classes x) points) y
    (Contains-filter (is_mate classes x) points y
    (ap₂ (λ a b. a && b) (lt-ltb x y rises) (eq-eqb (slice_index classes x) (slice_index classes y) same)) y_has))

three_ways : (x y : ℕ) → (x < y) ⊎ ((x ≡ y) ⊎ (y < x))
three_ways x y = grind (arith, nat_tests)

pub IsNewPairing-made : (step : Step) (joins : List (ℕ × ℕ)) → IsStep step → AreAmong (near step) joins
    → IsNewPairing step joins (new_pairing step joins)
IsNewPairing-made step joins step_is inside =
    let n = step.count + 1 in
    let points = (after step).opened in
    let classes = classes_of n joins in
    let pairs = new_pairing step joins in
    let are = pairs-are points classes in
    let below : (x : ℕ) → Contains points x → x < n =
    λ x has. omega (arith, (those-are step.count step.opened_next x has).below) in
    record {
      among = AllByRecursion-weaker (IsPair points classes) (λ pair. Contains points pair.0 × Contains points pair.1) pairs
          (λ pair is. (is.first, is.second)) are;
      only = λ f respects.
          AllByRecursion-weaker (IsPair points classes) (λ pair. f pair.0 ≡ f pair.1) pairs
          (λ pair is.
          classes-finest f n joins respects (AreAmong-below step.count (is_near step) joins inside) pair.0 pair.1
          (below pair.0 is.first) (below pair.1 is.second) is.same)
          are;
      together = λ f respects x y x_has y_has same. elim (three_ways x y) [
        | inl rises ↦
            AllByRecursion-at (λ pair. f pair.0 ≡ f pair.1) pairs (x, y) respects (has-pair points classes x y x_has y_has rises same)
        | inr either ↦ elim either [
          | inl is ↦ ap f is
          | inr falls ↦
              sym (AllByRecursion-at (λ pair. f pair.0 ≡ f pair.1) pairs (y, x) respects
              (has-pair points classes y x y_has x_has falls (sym same)))
        ]
      ];
    }
