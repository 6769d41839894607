-- A crossing of a union touches the circles that it touches in its own code.
use Rattle.std.proofs.Common.{IsTrue, List, ap, ap₂, arith, false, length, subst, sym, ℕ, ◌*◌, ◌++◌, ◌+◌, ◌-◌, ◌<◌, ◌^◌, ◌∙◌, ◌≡◌, ◌≤◌}
use Rattle.std.specs.Prelude.{nat_eq}
use Rattle.std.specs.List.{Contains, filter, range_with_len}
use Rattle.std.proofs.lemmas.Bool.{ne_eqb}
use Rattle.std.proofs.lemmas.List.{append-nil}
use Rattle.std.proofs.lemmas.List.Elements.{filter-append}
use Rattle.kh_types.specs.Acceptance.{accepted}
use Rattle.kh_types.specs.CircleNumbers.{names_to}
use Rattle.kh_types.specs.Circles.{circle_names, circle_of, circles_of}
use Rattle.kh_types.specs.Code.{Code, IsCrossing, arc_count, arc_in, slots_of}
use Rattle.kh_types.specs.Classes.{is_least}
use Rattle.kh_types.specs.Darts.{HasArcsTwice}
use Rattle.kh_types.specs.Differential.{is_touched, touched}
use Rattle.kh_types.proofs.AcceptedLemmas.{HasArcsTwice-accepted}
use Rattle.kh_types.proofs.EdgeNames.{IsArc-slot}
use Rattle.kh_types.proofs.Lists.{filter-map}
use Rattle.kh_types.proofs.Tests.{nat_eq-plus}
use Rattle.cell_laws.proofs.Members.{Contains-kept, Contains-made}
use Rattle.link_algebra.proofs.ClassParts.{lifted}
use Rattle.link_algebra.proofs.UnitedCircles.{length-both, state_of_both}
use Rattle.link_algebra.proofs.UnitedComponents.{IsPart-first, IsPart-second}
use Rattle.link_algebra.proofs.UnitedSigns.{same_test}
use Rattle.link_algebra.specs.Unions.{union_of}
use Rattle.union_laws.proofs.ListTests.{any-nothing, any-same, filter-nothing, range-bounds}
use Rattle.union_laws.proofs.UnitedLabels.{of-arc}
use Rattle.union_laws.proofs.UnitedNames.{circle-first, circle-second, names-first_loops, names-loops, names-second_loops}
use Rattle.view_laws.proofs.Tests.{filter-agree}

-- no circle behind the arcs is touched
pub untouched-loop : (code : Code) (state crossing z : ℕ) → IsTrue (accepted code) → IsCrossing code.crossings crossing
    → arc_count code.crossings < z → is_touched code state crossing z ≡ false
untouched-loop code state crossing z is is_crossing behind =
    any-nothing (λ slot. nat_eq (circle_of (circles_of code state) (arc_in (slots_of code.crossings crossing) slot)) z) (range_with_len 0 4)
    (λ slot has.
    let bounds = range-bounds 0 4 slot has in
    let arc = IsArc-slot code crossing slot is is_crossing (omega (arith, bounds.1)) in
    let of = of-arc code state (arc_in (slots_of code.crossings crossing) slot) is arc.positive arc.within in
    ne_eqb (circle_of (circles_of code state) (arc_in (slots_of code.crossings crossing) slot)) z
    (λ same. absurd (omega (arith, same, of.within, behind))))

module _ (first second : Code) (first_is : IsTrue (accepted first)) (second_is : IsTrue (accepted second)) (a b : ℕ)
    (small : a < 2 ^ length first.crossings) where
  abbrev m : ℕ
  m = arc_count first.crossings

  abbrev k : ℕ
  k = arc_count second.crossings

  abbrev both : Code
  both = union_of first second

  abbrev s : ℕ
  s = state_of_both first a b

  abbrev n : ℕ
  n = length first.crossings

  first_twice : HasArcsTwice first.crossings
  first_twice = HasArcsTwice-accepted first first_is

  second_twice : HasArcsTwice second.crossings
  second_twice = HasArcsTwice-accepted second second_is

  -- the arcs at the slots
  slot-first : (crossing slot : ℕ) → IsCrossing first.crossings crossing → slot < 4
      → arc_in (slots_of both.crossings crossing) slot ≡ arc_in (slots_of first.crossings crossing) slot
  slot-first crossing slot is below =
      let e : crossing ≡ 0 + crossing = omega arith in
      ap (λ c. arc_in (slots_of both.crossings c) slot) e
      ∙ (IsPart-first first second first_twice second_twice).arcs crossing slot is below
      ∙ omega arith

  slot-second : (crossing slot : ℕ) → IsCrossing second.crossings crossing → slot < 4
      → arc_in (slots_of both.crossings (n + crossing)) slot ≡ m + arc_in (slots_of second.crossings crossing) slot
  slot-second crossing slot is below =
      (IsPart-second first second first_twice second_twice).arcs crossing slot is below
      ∙ turned (arc_in (slots_of second.crossings crossing) slot) (2 * n)
    where
      turned : (c d : ℕ) → c + d ≡ d + c
      turned c d = omega arith

  -- a crossing of the first code
  pub touched-first : (crossing z : ℕ) → IsCrossing first.crossings crossing
      → is_touched (union_of first second) (state_of_both first a b) crossing z ≡ is_touched first a crossing z
  touched-first crossing z is =
      any-same (λ slot. nat_eq (circle_of (circles_of both s) (arc_in (slots_of both.crossings crossing) slot)) z)
      (λ slot. nat_eq (circle_of (circles_of first a) (arc_in (slots_of first.crossings crossing) slot)) z) (range_with_len 0 4)
      (λ slot has.
      let bounds = range-bounds 0 4 slot has in
      let below : slot < 4 = omega (arith, bounds.1) in
      let arc = IsArc-slot first crossing slot first_is is below in
      ap (λ c. nat_eq c z)
      (ap (circle_of (circles_of both s)) (slot-first crossing slot is below)
      ∙ circle-first first second first_is second_is a b small (arc_in (slots_of first.crossings crossing) slot) arc.within))

  -- and of the second
  circle-slot : (crossing slot : ℕ) → IsCrossing second.crossings crossing → slot < 4
      → circle_of (circles_of both s) (arc_in (slots_of both.crossings (n + crossing)) slot)
      ≡ m + circle_of (circles_of second b) (arc_in (slots_of second.crossings crossing) slot)
  circle-slot crossing slot is below =
      let arc = IsArc-slot second crossing slot second_is is below in
      ap (circle_of (circles_of both s)) (slot-second crossing slot is below)
      ∙ circle-second first second first_is second_is a b small (arc_in (slots_of second.crossings crossing) slot) arc.positive arc.within

  pub touched-second : (crossing w : ℕ) → IsCrossing second.crossings crossing
      → is_touched (union_of first second) (state_of_both first a b) (length first.crossings + crossing) (arc_count first.crossings + w)
      ≡ is_touched second b crossing w
  touched-second crossing w is =
      any-same (λ slot. nat_eq (circle_of (circles_of both s) (arc_in (slots_of both.crossings (n + crossing)) slot)) (m + w))
      (λ slot. nat_eq (circle_of (circles_of second b) (arc_in (slots_of second.crossings crossing) slot)) w) (range_with_len 0 4)
      (λ slot has.
      let bounds = range-bounds 0 4 slot has in
      ap (λ c. nat_eq c (m + w)) (circle-slot crossing slot is (omega (arith, bounds.1)))
      ∙ nat_eq-plus m (circle_of (circles_of second b) (arc_in (slots_of second.crossings crossing) slot)) w)

  pub touched-second_before : (crossing z : ℕ) → IsCrossing second.crossings crossing → z ≤ arc_count first.crossings
      → is_touched (union_of first second) (state_of_both first a b) (length first.crossings + crossing) z ≡ false
  touched-second_before crossing z is within =
      any-nothing (λ slot. nat_eq (circle_of (circles_of both s) (arc_in (slots_of both.crossings (n + crossing)) slot)) z)
      (range_with_len 0 4)
      (λ slot has.
      let bounds = range-bounds 0 4 slot has in
      let below : slot < 4 = omega (arith, bounds.1) in
      let arc = IsArc-slot second crossing slot second_is is below in
      let of = of-arc second b (arc_in (slots_of second.crossings crossing) slot) second_is arc.positive arc.within in
      ne_eqb (circle_of (circles_of both s) (arc_in (slots_of both.crossings (n + crossing)) slot)) z
      (λ same. absurd (omega (arith, sym (circle-slot crossing slot is below) ∙ same, of.positive, within))))

  -- the names of circles: with arcs of the first code, with arcs of the second, and loops
  pub name-bounds : (z : ℕ) → Contains (names_to (circles_of first a) (arc_count first.crossings)) z
      → (1 ≤ z) × (z ≤ arc_count first.crossings)
  name-bounds z has =
      let bounds = range-bounds 1 m z (Contains-kept (is_least (circles_of first a)) (range_with_len 1 m) z has).0 in
      (bounds.0, omega (arith, bounds.1))

  pub name-bounds_second : (w : ℕ) → Contains (names_to (circles_of second b) (arc_count second.crossings)) w
      → (1 ≤ w) × (w ≤ arc_count second.crossings)
  name-bounds_second w has =
      let bounds = range-bounds 1 k w (Contains-kept (is_least (circles_of second b)) (range_with_len 1 k) w has).0 in
      (bounds.0, omega (arith, bounds.1))

  pub all-names : circle_names (union_of first second) (state_of_both first a b)
      ≡ names_to (circles_of first a) (arc_count first.crossings)
      ++ lifted (arc_count first.crossings) (names_to (circles_of second b) (arc_count second.crossings))
      ++ range_with_len (arc_count first.crossings + (arc_count second.crossings + 1)) (first.loops + second.loops)
  all-names =
      let most : arc_count both.crossings + both.loops ≡ m + (k + (first.loops + second.loops)) = omega (arith, length-both first second) in
      ap (names_to (circles_of both s)) most
      ∙ names-loops first second first_is second_is a b small (first.loops + second.loops) (omega arith)

  abbrev A : List ℕ
  A = names_to (circles_of first a) (arc_count first.crossings)

  abbrev B : List ℕ
  B = names_to (circles_of second b) (arc_count second.crossings)

  abbrev R : List ℕ
  R = range_with_len (arc_count first.crossings + (arc_count second.crossings + 1)) (first.loops + second.loops)

  own-touched : (crossing : ℕ) → IsCrossing first.crossings crossing → touched first a crossing ≡ filter (is_touched first a crossing) A
  own-touched crossing is =
      let L = range_with_len (m + 1) first.loops in
      ap (filter (is_touched first a crossing)) (names-first_loops first second first_is second_is a b small first.loops (omega arith))
      ∙ filter-append (is_touched first a crossing) A L
      ∙ ap (λ xs. filter (is_touched first a crossing) A ++ xs)
      (filter-nothing (is_touched first a crossing) L
      (λ z has. untouched-loop first a crossing z first_is is (omega (arith, (range-bounds (m + 1) first.loops z has).0))))
      ∙ append-nil (filter (is_touched first a crossing) A)

  own-touched_second : (crossing : ℕ) → IsCrossing second.crossings crossing
      → touched second b crossing ≡ filter (is_touched second b crossing) B
  own-touched_second crossing is =
      let L = range_with_len (k + 1) second.loops in
      ap (filter (is_touched second b crossing)) (names-second_loops first second first_is second_is a b small second.loops (omega arith))
      ∙ filter-append (is_touched second b crossing) B L
      ∙ ap (λ xs. filter (is_touched second b crossing) B ++ xs)
      (filter-nothing (is_touched second b crossing) L
      (λ z has. untouched-loop second b crossing z second_is is (omega (arith, (range-bounds (k + 1) second.loops z has).0))))
      ∙ append-nil (filter (is_touched second b crossing) B)

  -- the touched circles
  pub touched-bounds : (crossing z : ℕ) → IsCrossing first.crossings crossing → Contains (touched first a crossing) z
      → (1 ≤ z) × (z ≤ arc_count first.crossings)
  touched-bounds crossing z is has =
      name-bounds z
      (Contains-kept (is_touched first a crossing) A z (subst (λ (xs : List ℕ). Contains xs z) (own-touched crossing is) has)).0

  pub touched-bounds_second : (crossing w : ℕ) → IsCrossing second.crossings crossing → Contains (touched second b crossing) w
      → (1 ≤ w) × (w ≤ arc_count second.crossings)
  touched-bounds_second crossing w is has =
      name-bounds_second w
      (Contains-kept (is_touched second b crossing) B w (subst (λ (xs : List ℕ). Contains xs w) (own-touched_second crossing is) has)).0

  pub touched-all : (crossing : ℕ) → IsCrossing first.crossings crossing
      → touched (union_of first second) (state_of_both first a b) crossing ≡ touched first a crossing
  touched-all crossing is =
      let t = is_touched both s crossing in
      let behind : (z : ℕ) → arc_count first.crossings < z → t z ≡ false =
      λ z more. touched-first crossing z is ∙ untouched-loop first a crossing z first_is is more in
      ap (filter t) all-names
      ∙ filter-append t (A ++ lifted m B) R
      ∙ ap₂ (λ xs ys. xs ++ ys)
      (filter-append t A (lifted m B)
      ∙ ap₂ (λ xs ys. xs ++ ys) (filter-agree t (is_touched first a crossing) A (λ z has. touched-first crossing z is))
      (filter-nothing t (lifted m B)
      (λ z has.
      let w = Contains-made (λ x. m + x) B z has in
      behind z (omega (arith, w.2, (name-bounds_second w.0 w.1).0))))
      ∙ append-nil (filter (is_touched first a crossing) A))
      (filter-nothing t R
      (λ z has. behind z (omega (arith, (range-bounds (m + (k + 1)) (first.loops + second.loops) z has).0))))
      ∙ append-nil (filter (is_touched first a crossing) A)
      ∙ sym (own-touched crossing is)

  pub touched-all_second : (crossing : ℕ) → IsCrossing second.crossings crossing
      → touched (union_of first second) (state_of_both first a b) (length first.crossings + crossing)
      ≡ lifted (arc_count first.crossings) (touched second b crossing)
  touched-all_second crossing is =
      let t = is_touched both s (n + crossing) in
      ap (filter t) all-names
      ∙ filter-append t (A ++ lifted m B) R
      ∙ ap₂ (λ xs ys. xs ++ ys)
      (filter-append t A (lifted m B)
      ∙ ap₂ (λ xs ys. xs ++ ys)
      (filter-nothing t A (λ z has. touched-second_before crossing z is (name-bounds z has).1))
      (filter-map t (λ x. m + x) B
      ∙ ap (lifted m) (filter-agree (λ x. t (m + x)) (is_touched second b crossing) B (λ w has. touched-second crossing w is))))
      (filter-nothing t R
      (λ z has.
      let w = z - m in
      let bounds = range-bounds (m + (k + 1)) (first.loops + second.loops) z has in
      let e : z ≡ m + w = omega (arith, bounds.0) in
      ap t e ∙ touched-second crossing w is
      ∙ untouched-loop second b crossing w second_is is (omega (arith, bounds.0))))
      ∙ append-nil (lifted m (filter (is_touched second b crossing) B))
      ∙ ap (lifted m) (sym (own-touched_second crossing is))
