-- A closed braid has at most as many components as strands: each component comes up through the last crossing of some position.
--
-- A pass joins opposite corners of its crossing. So what respects the passes can be followed upwards, from corner to corner, until it comes
-- up through the last crossing of some position: each class of names has one there. Positions without a crossing are loops, so that
-- components and loops together are at most as many as strands.
use Rattle.std.proofs.Common.{◌≡◌, ℕ, zero, suc, inl, inr, ◌+◌, ◌-◌, ◌*◌, ◌%◌, ◌<◌, ◌≤◌, ◌∙◌, List, [], ◌∷◌, length, get_or, sym, ap, subst, arith, Bool, true, false, cond}
use Rattle.std.specs.Prelude.{slice_index, unwrap_or}
use Rattle.std.specs.List.{flat_map}
use Rattle.std.proofs.lemmas.Bool.{cases_eq, cases_lt, both_ways}
use Rattle.kh_types.specs.Classes.{Respects}
use Rattle.kh_types.specs.Code.{Code, IsArc, arc_in}
use Rattle.kh_types.specs.Components.{component_count, components_of, passes_of}
use Rattle.kh_types.proofs.CircleBound.{ArcsBelow-slots, passes_of-below}
use Rattle.kh_types.proofs.ClassCounts.{class_count-components}
use Rattle.kh_types.proofs.ClassLemmas.{classes-together}
use Rattle.kh_types.proofs.JoinedClasses.{IsNamed-classes_of}
use Rattle.kh_types.proofs.Lists.{AllByRecursion-first, AllByRecursion-second}
use Rattle.braid_maker.specs.Words.{touches}
use Rattle.braid_maker.proofs.CircleJoins.{IsBraidCode, arc_at, arc_at-slot, at-position, code-size}
use Rattle.braid_maker.proofs.Corners.{corner_place}
use Rattle.braid_maker.proofs.FewClasses.{arc-dart, ends-alike, few-classes, is_touched, last_at}
use Rattle.braid_maker.proofs.Nearest.{Last-is, before-more, found, none}
use Rattle.braid_maker.proofs.Partners.{IsEnd-dart, at_lower, at_upper}
use Rattle.braid_maker.proofs.Strands.{strand_above}

-- the passes at a place
passes-at : (f : ℕ → ℕ) (crossings : List (List ℕ)) (place : ℕ) → place < length crossings → Respects f (flat_map passes_of crossings)
    → Respects f (passes_of (get_or crossings place []))
passes-at f [] place below all = absurd (omega (arith, below))
passes-at f (slots ∷ crossings) zero below all =
    AllByRecursion-first (λ (pair : ℕ × ℕ). f pair.0 ≡ f pair.1) (passes_of slots) (flat_map passes_of crossings) all
passes-at f (slots ∷ crossings) (suc place) below all =
    passes-at f crossings place (omega (arith, below))
    (AllByRecursion-second (λ (pair : ℕ × ℕ). f pair.0 ≡ f pair.1) (passes_of slots) (flat_map passes_of crossings) all)

-- they join opposite corners
record IsCrossed (f : ℕ → ℕ) (is_over : ℕ → Bool) (others : List (List ℕ)) (place : ℕ) : Type 0 where
  pub from_left : f (arc_at others (corner_place is_over place 0)) ≡ f (arc_at others (corner_place is_over place 2))
  pub from_right : f (arc_at others (corner_place is_over place 1)) ≡ f (arc_at others (corner_place is_over place 3))

record AreOpposite (g : ℕ → ℕ) (shift : ℕ) : Type 0 where
  pub from_left : g ((0 + shift) % 4) ≡ g ((2 + shift) % 4)
  pub from_right : g ((1 + shift) % 4) ≡ g ((3 + shift) % 4)

opposite : (g : ℕ → ℕ) (is_over : Bool) → g 0 ≡ g 2 → g 1 ≡ g 3 → AreOpposite g (cond is_over 3 0)
opposite g true under over = record { from_left = sym over; from_right = under }
opposite g false under over = record { from_left = under; from_right = over }

crossed-at : (f : ℕ → ℕ) (others : List (List ℕ)) (is_over : ℕ → Bool) (place : ℕ) → place < length others
    → Respects f (flat_map passes_of others) → IsCrossed f is_over others place
crossed-at f others is_over place below all =
    let slots = get_or others place [] in
    let g : ℕ → ℕ = λ s. f (arc_in slots s) in
    let passes = passes-at f others place below all in
    let is = opposite g (is_over place) passes.0 passes.1.0 in
    let at : (c : ℕ) → f (arc_at others (corner_place is_over place c)) ≡ g ((c + cond (is_over place) 3 0) % 4) =
    λ c. ap f (arc_at-slot others place ((c + cond (is_over place) 3 0) % 4) (omega arith)) in
    record {
      from_left = at 0 ∙ is.from_left ∙ sym (at 2);
      from_right = at 1 ∙ is.from_right ∙ sym (at 3);
    }

crossed-lower : (f : ℕ → ℕ) (is_over : ℕ → Bool) (others : List (List ℕ)) (place lower : ℕ) → IsCrossed f is_over others place → lower < 2
    → f (arc_at others (corner_place is_over place lower)) ≡ f (arc_at others (corner_place is_over place (lower + 2)))
crossed-lower f is_over others place zero crossed below = crossed.from_left
crossed-lower f is_over others place (suc zero) crossed below = crossed.from_right
crossed-lower f is_over others place (suc (suc lower)) crossed below = absurd (omega (arith, below))

-- the upper corner of a place at a position
abbrev high_arc : (ℕ → ℕ) → (ℕ → Bool) → List (List ℕ) → ℕ → ℕ → ℕ
high_arc left is_over others position place = arc_at others (corner_place is_over place (left place + 3 - position))

-- the class of a value comes up through some position
record ComesUp (n : ℕ) (left : ℕ → ℕ) (is_over : ℕ → Bool) (strands : ℕ) (others : List (List ℕ)) (f : ℕ → ℕ) (value : ℕ) : Type 0 where
  pub q : ℕ
  pub first : 1 ≤ q
  pub last : q ≤ strands
  pub touched : is_touched n left q ≡ true
  pub same : f (high_arc left is_over others q (last_at n left q)) ≡ value

comes-up : (n : ℕ) (left : ℕ → ℕ) (is_over : ℕ → Bool) (strands : ℕ) (code : Code) (f : ℕ → ℕ)
    → IsBraidCode n left is_over strands code
    → ((place : ℕ) → place < n → IsCrossed f is_over code.crossings place)
    → (fuel from upper : ℕ) → n ≤ from + fuel → from < n → 2 ≤ upper → upper < 4
    → ComesUp n left is_over strands code.crossings f (f (arc_at code.crossings (corner_place is_over from upper)))
comes-up n left is_over strands code f is crossed zero from upper enough below two four = absurd (omega (arith, enough, below))
comes-up n left is_over strands code f is crossed (suc fuel) from upper enough below two four =
    let others = code.crossings in
    let next = strand_above n left from upper below two four in
    let place = next.0 in
    let lower = next.1 in
    let q = next.2 in
    let strand = next.3 in
    let test = touches left q in
    let there = at-position n left is_over strands code q place from lower upper is strand in
    elim (Last-is test n) [
      | none all is_none ↦ absurd (both_ways (test from) (all from below) strand.nearest.passes)
      | found x x_below passes last is_found ↦ elim (cases_eq from x) [
        | inl same ↦
            let at_last : from ≡ last_at n left q = same ∙ sym (ap (λ o. unwrap_or o 0) is_found) in
            let e : upper ≡ left from + 3 - q = omega (arith, strand.at_from) in
            record {
              q = q;
              first = there.first;
              last = there.last;
              touched = there.touched;
              same = sym (ap (λ c. f (arc_at others (corner_place is_over from c))) e
                  ∙ ap (λ k. f (high_arc left is_over others q k)) at_last);
            }
        | inr apart ↦
            let less : from < x = omega (arith, apart, last from below strand.nearest.passes) in
            let later : from < place = elim (cases_lt from place) [
              | inl yes_less ↦ yes_less
              | inr wraps ↦
                  absurd (omega (
                    arith,
                    less,
                    strand.nearest.nearest x x_below passes,
                    before-more n from place wraps,
                    before-more n x place (omega (arith, wraps, less)),
                    x_below,
                  ))
            ] in
            let rest = comes-up n left is_over strands code f is crossed fuel place (lower + 2) (omega (arith, enough, later))
            strand.place_below (omega arith) (omega (arith, strand.lower_below)) in
            let step : f (arc_at others (corner_place is_over place (lower + 2))) ≡ f (arc_at others (corner_place is_over from upper)) =
            sym (crossed-lower f is_over others place lower (crossed place strand.place_below) strand.lower_below)
            ∙ ap f (ends-alike n left is_over others q place from lower upper is.alike strand) in
            record {
              q = rest.q;
              first = rest.first;
              last = rest.last;
              touched = rest.touched;
              same = rest.same ∙ step;
            }
      ]
    ]

arc-comes_up : (n : ℕ) (left : ℕ → ℕ) (is_over : ℕ → Bool) (strands : ℕ) (code : Code) (f : ℕ → ℕ) (x : ℕ)
    → IsBraidCode n left is_over strands code → ((place : ℕ) → place < n → IsCrossed f is_over code.crossings place)
    → IsArc code.crossings x → ComesUp n left is_over strands code.crossings f (f x)
arc-comes_up n left is_over strands code f x is crossed is_arc =
    let others = code.crossings in
    let some = arc-dart others x is.twice is_arc in
    let dart = some.0 in
    let below : dart < 4 * n = omega (arith, some.1, code-size n left is_over strands code is) in
    subst (λ (v : ℕ). ComesUp n left is_over strands others f v) (ap f some.2)
    (elim (IsEnd-dart n left is_over dart below) [
      | at_lower q place from lower upper strand at ↦
          subst (λ (d : ℕ). ComesUp n left is_over strands others f (f (arc_at others d))) (sym at)
          (subst (λ (v : ℕ). ComesUp n left is_over strands others f v)
          (sym (crossed-lower f is_over others place lower (crossed place strand.place_below) strand.lower_below))
          (comes-up n left is_over strands code f is crossed n place (lower + 2) (omega arith) strand.place_below (omega arith)
          (omega (arith, strand.lower_below))))
      | at_upper q place from lower upper strand at ↦
          subst (λ (d : ℕ). ComesUp n left is_over strands others f (f (arc_at others d))) (sym at)
          (comes-up n left is_over strands code f is crossed n from upper (omega arith) strand.from_below strand.upper_from
          strand.upper_below)
    ])

-- components and loops together are at most as many as strands
pub component_count-braid : (n : ℕ) (left : ℕ → ℕ) (is_over : ℕ → Bool) (strands : ℕ) (code : Code)
    → IsBraidCode n left is_over strands code → component_count code.crossings + code.loops ≤ strands
component_count-braid n left is_over strands code is =
    let others = code.crossings in
    let size = code-size n left is_over strands code is in
    let m = 2 * length others + 1 in
    let passes = flat_map passes_of others in
    let below = passes_of-below m others (ArcsBelow-slots m others is.twice.slots (omega arith)) in
    let f : ℕ → ℕ = λ x. slice_index (components_of others) x in
    let together = classes-together m passes below in
    let few = few-classes n left strands m (components_of others) (λ q. high_arc left is_over others q (last_at n left q))
    (IsNamed-classes_of m passes below)
    (λ x positive x_below.
    let up = arc-comes_up n left is_over strands code f x is
    (λ place place_below. crossed-at f others is_over place (omega (arith, place_below, size)) together)
    (record { positive = positive; within = omega (arith, x_below) }) in
    (up.q, up.first, up.last, up.touched, up.same)) in
    omega (arith, few, is.loops, class_count-components others below)
