-- A code whose passes lead along runs of numbers is directed.
use Rattle.std.proofs.Common.{◌≡◌, ◌≢◌, ℕ, ◌⊎◌, inl, inr, ◌+◌, ◌<◌, ◌≤◌, ◌∙◌, List, length, sym, ap, arith}
use Rattle.std.specs.Prelude.{nat_eq, if◌then◌else◌}
use Rattle.std.proofs.lemmas.Bool.Decides.{nat_tests}
use Rattle.kh_types.specs.declared.dart.Dart.{Dart}
use Rattle.kh_types.specs.Code.{arc_in, slots_of, arc_count, IsArc, IsCrossing}
use Rattle.kh_types.specs.Components.{components_of, component_of, arcs_in, next}
use Rattle.kh_types.specs.Darts.{dart_at, dart_place, arc_of, IsDart}
use Rattle.kh_types.specs.Accepted.{IsDirected}
use Rattle.kh_types.specs.Classes.{AreBelow}
use Rattle.kh_types.specs.Components.{passes_of}
use Rattle.std.specs.List.{flat_map}
use Rattle.kh_types.proofs.ClassLemmas.{classes-together}
use Rattle.kh_types.proofs.DartColours.{arc_at}
use Rattle.kh_types.proofs.DartPairs.{dart_at-place, dart_place-below}
use Rattle.kh_types.proofs.PassPairs.{passes-all, dart_with}
use Rattle.kink_and_finger_laws.proofs.Numbered.{IsNumbering, passes-at, components-numbered, IsInterval-numbered, next-numbered}
use Rattle.kink_and_finger_laws.proofs.TwiceCounts.{HasTwoPlaces, times-twice}

-- the number that follows in its run
abbrev pub step : (ℕ → ℕ) → ℕ → ℕ
step first u = if nat_eq (first (u + 1)) (first u) then u + 1 else first u

-- from one number to the next of its run
pub record IsStep (first : ℕ → ℕ) (u v : ℕ) : Type 0 where
  pub same : first v ≡ first u
  pub follows : v ≡ step first u

-- a step inside a run
pub IsStep-inside : (first : ℕ → ℕ) (u : ℕ) → first (u + 1) ≡ first u → IsStep first u (u + 1)
IsStep-inside first u same = grind (arith, nat_tests)

-- a crossing has a pass from one arc to another, in either direction
abbrev pub HasPass : List (List ℕ) → ℕ → ℕ → ℕ → Type 0
HasPass crossings u v place =
    ((arc_at crossings place 0 ≡ u) × (arc_at crossings place 2 ≡ v))
    ⊎ (((arc_at crossings place 1 ≡ u) × (arc_at crossings place 3 ≡ v)) ⊎ ((arc_at crossings place 3 ≡ u) × (arc_at crossings place 1 ≡ v)))

pub record IsPassed (crossings : List (List ℕ)) (u v : ℕ) : Type 0 where
  pub place : ℕ
  pub below : place < length crossings
  pub passes : HasPass crossings u v place

-- the arcs of a code are runs of numbers, along which its passes lead
pub record HasRuns (crossings : List (List ℕ)) (first : ℕ → ℕ) : Type 0 where
  pub slots : (dart : Dart) → IsDart crossings dart → IsArc crossings (arc_of crossings dart)
  pub two_places : (arc : ℕ) → IsArc crossings arc → HasTwoPlaces crossings arc
  pub least : (x : ℕ) → x ≤ arc_count crossings → first x ≤ x
  pub own : (x : ℕ) → x ≤ arc_count crossings → first (first x) ≡ first x
  pub past : (x : ℕ) → arc_count crossings < x → first x ≡ 0
  pub run : (x : ℕ) → x + 1 ≤ arc_count crossings → first (x + 1) < x + 1 → first x ≡ first (x + 1)
  pub passed : (x : ℕ) → x + 1 ≤ arc_count crossings → first (x + 1) < x + 1 → IsPassed crossings x (x + 1)
  pub under : (crossing : ℕ) → IsCrossing crossings crossing
      → IsStep first (arc_in (slots_of crossings crossing) 0) (arc_in (slots_of crossings crossing) 2)
  pub over : (crossing : ℕ) → IsCrossing crossings crossing
      → IsStep first (arc_in (slots_of crossings crossing) 1) (arc_in (slots_of crossings crossing) 3)
      ⊎ IsStep first (arc_in (slots_of crossings crossing) 3) (arc_in (slots_of crossings crossing) 1)

-- the runs are the components
passes-below : (crossings : List (List ℕ)) (first : ℕ → ℕ) → HasRuns crossings first
    → AreBelow (arc_count crossings + 1) (flat_map passes_of crossings)
passes-below crossings first runs =
    passes-all (λ pair. (pair.0 < arc_count crossings + 1) × (pair.1 < arc_count crossings + 1)) crossings
    (λ crossing is.
    let at = λ (slot : ℕ) (below : slot < 4). runs.slots (dart_with crossing slot) (record { crossing = is; slot = below }) in
    let a = at 0 (omega arith) in
    let b = at 1 (omega arith) in
    let c = at 2 (omega arith) in
    let d = at 3 (omega arith) in
    ((omega (arith, a.within), omega (arith, c.within)), ((omega (arith, b.within), omega (arith, d.within)), tt)))

pub IsNumbering-runs : (crossings : List (List ℕ)) (first : ℕ → ℕ) → HasRuns crossings first → IsNumbering crossings first
IsNumbering-runs crossings first runs =
    let below = passes-below crossings first runs in
    record {
      below = below;
      respects = passes-all (λ pair. first pair.0 ≡ first pair.1) crossings
          (λ crossing is. (
            sym (runs.under crossing is).same,
            (elim (runs.over crossing is) [ inl onward ↦ sym onward.same | inr back ↦ back.same ], tt),
          ));
      least = runs.least;
      own = runs.own;
      past = runs.past;
      run = runs.run;
      joined = λ x within less.
          let passed = runs.passed x within less in
          let class : ℕ → ℕ = λ z. component_of (components_of crossings) z in
          let both = passes-at (λ pair. class pair.0 ≡ class pair.1) crossings passed.place
          (classes-together (arc_count crossings + 1) (flat_map passes_of crossings) below) passed.below in
          elim passed.passes [
            | inl under ↦ ap class (sym under.0) ∙ both.0 ∙ ap class under.1
            | inr over ↦ elim over [
              | inl onward ↦ ap class (sym onward.0) ∙ both.1 ∙ ap class onward.1
              | inr back ↦ ap class (sym back.0) ∙ sym both.1 ∙ ap class back.1
            ]
          ];
    }

-- so the code is directed, where no two under passes in a component of two arcs go in one direction
pub IsDirected-runs : (crossings : List (List ℕ)) (first : ℕ → ℕ) → HasRuns crossings first
    → ((earlier later : ℕ) → IsCrossing crossings earlier → IsCrossing crossings later → earlier < later
    → arc_in (slots_of crossings earlier) 0 ≡ arc_in (slots_of crossings later) 0
    → arcs_in (components_of crossings) (first (arc_in (slots_of crossings later) 0)) ≢ 2)
    → IsDirected crossings
IsDirected-runs crossings first runs two_arcs =
    let numbering = IsNumbering-runs crossings first runs in
    let next_is : (u : ℕ) → next crossings u ≡ step first u = next-numbered crossings first numbering in
    record {
      slots = runs.slots;
      twice = times-twice crossings runs.slots runs.two_places;
      intervals = λ arc is own.
          IsInterval-numbered crossings first numbering arc is.positive is.within (sym (components-numbered crossings first numbering arc) ∙ own);
      under = λ crossing is.
          (runs.under crossing is).follows ∙ sym (next_is (arc_in (slots_of crossings crossing) 0));
      over = λ crossing is. elim (runs.over crossing is) [
        | inl onward ↦ inl (onward.follows ∙ sym (next_is (arc_in (slots_of crossings crossing) 1)))
        | inr back ↦ inr (back.follows ∙ sym (next_is (arc_in (slots_of crossings crossing) 3)))
      ];
      two_arcs = λ earlier later is_earlier is_later before same two.
          two_arcs earlier later is_earlier is_later before same
          (ap (λ f. arcs_in (components_of crossings) f)
          (sym (components-numbered crossings first numbering (arc_in (slots_of crossings later) 0)))
          ∙ two);
    }

-- two darts of an arc
pub HasTwoPlaces-darts : (crossings : List (List ℕ)) (arc : ℕ) (dart other : Dart) → IsDart crossings dart → IsDart crossings other
    → dart ≢ other → arc_of crossings dart ≡ arc → arc_of crossings other ≡ arc → HasTwoPlaces crossings arc
HasTwoPlaces-darts crossings arc dart other is other_is apart on other_on = record {
  one = dart_place dart;
  other = dart_place other;
  one_below = dart_place-below crossings dart is;
  other_below = dart_place-below crossings other other_is;
  apart = λ same. apart (sym (dart_at-place crossings dart is) ∙ ap dart_at same ∙ dart_at-place crossings other other_is);
  one_on = ap (λ d. arc_of crossings d) (dart_at-place crossings dart is) ∙ on;
  other_on = ap (λ d. arc_of crossings d) (dart_at-place crossings other other_is) ∙ other_on;
}
