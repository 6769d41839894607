-- The labels of a generator of a union are those of one generator of either code.
use Rattle.std.proofs.Common.{IsTrue, List, ap, arith, length, subst, sym, ℕ, ◌++◌, ◌+◌, ◌-◌, ◌<◌, ◌^◌, ◌∙◌, ◌≡◌, ◌≤◌}
use Rattle.std.specs.Prelude.{slice_index}
use Rattle.std.proofs.lemmas.List.{length-append, length-map}
use Rattle.std.proofs.lemmas.List.FromFn.{length-range_with_len}
use Rattle.std.specs.List.{range_with_len}
use Rattle.kh_types.specs.Acceptance.{accepted}
use Rattle.kh_types.specs.Bits.{bit}
use Rattle.kh_types.specs.CircleNumbers.{names_to, number_of}
use Rattle.kh_types.specs.Circles.{circle_count, circle_of, circles_of}
use Rattle.kh_types.specs.Code.{Code, arc_count}
use Rattle.kh_types.specs.Differential.{label_of}
use Rattle.kh_types.specs.Generators.{Generator, generator_of}
use Rattle.kh_types.proofs.CircleCycles.{IsNamed-circles}
use Rattle.kh_types.proofs.CircleNumbers.{IsNameOf, position-counted}
use Rattle.kh_types.proofs.Ranges.{range_around}
use Rattle.kh_types.specs.Classes.{is_least}
use Rattle.std.proofs.lemmas.Bool.{eq-eqb}
use Rattle.std.proofs.lemmas.List.Elements.{filter-append}
use Rattle.std.proofs.Common.{cond, ◌∷◌}
use Rattle.std.specs.List.{filter}
use Rattle.kh_types.proofs.EdgeNames.{circle-positive}
use Rattle.link_algebra.proofs.UnitedCircles.{length-both, state_of_both}
use Rattle.link_algebra.proofs.ClassParts.{lifted}
use Rattle.link_algebra.specs.Unions.{union_of}
use Rattle.union_laws.specs.Cubes.{low_count, mixed}
use Rattle.union_laws.proofs.MixedLabels.{mixed-first, mixed-fourth, mixed-second, mixed-third}
use Rattle.union_laws.proofs.UnitedNames.{circle-first, circle-loop, circle-second, loop-first, loop-second, names-first, names-first_loops, names-loops, names-second, names-second_loops}

-- the generator of a union of a generator of either code
abbrev pub joint_of : Code → Code → Generator → Generator → Generator
joint_of first second x y =
    generator_of (state_of_both first x.state y.state)
    (mixed (low_count first x.state) (low_count second y.state) first.loops x.label y.label)

-- the circle of an arc has an arc's name
pub record IsOfArc (code : Code) (state name : ℕ) : Type 0 where
  pub positive : 1 ≤ name
  pub within : name ≤ arc_count code.crossings
  pub own : circle_of (circles_of code state) name ≡ name

pub of-arc : (code : Code) (state z : ℕ) → IsTrue (accepted code) → 1 ≤ z → z ≤ arc_count code.crossings
    → IsOfArc code state (circle_of (circles_of code state) z)
of-arc code state z is positive within =
    let named = IsNamed-circles code state is in
    let below : z < arc_count code.crossings + code.loops + 1 = omega (arith, within) in
    record {
      positive = circle-positive code state z is positive below;
      within = omega (arith, named.least z below, within);
      own = named.own z below;
    }

-- fewer names are less than a name that is one (as in kh_types)
lesser-names : (circles : List ℕ) (circle last : ℕ) → IsNameOf circles last circle
    → length (names_to circles (circle - 1)) < length (names_to circles last)
lesser-names circles circle last is =
    let p = is_least circles in
    let front = range_with_len 1 (circle - 1) in
    let back = range_with_len (circle + 1) (last - (circle - 1 + 1)) in
    let around : names_to circles last ≡ names_to circles (circle - 1) ++ circle ∷ filter p back =
    ap (λ xs. filter p xs) (range_around 1 last (circle - 1) circle (omega (arith, is.positive, is.within)) (omega (arith, is.positive)))
    ∙ filter-append p front (circle ∷ back)
    ∙ ap (λ b. filter p front ++ cond b (circle ∷ filter p back) (filter p back)) (eq-eqb (slice_index circles circle) circle is.own) in
    omega (arith, ap length around, length-append (names_to circles (circle - 1)) (circle ∷ filter p back))

-- its number is below the number of circles with arcs
pub arc-number : (code : Code) (state c : ℕ) → IsOfArc code state c
    → length (names_to (circles_of code state) (c - 1)) < low_count code state
arc-number code state c is =
    lesser-names (circles_of code state) c (arc_count code.crossings)
    (record { positive = is.positive; within = is.within; own = is.own })

module _ (first second : Code) (first_is : IsTrue (accepted first)) (second_is : IsTrue (accepted second)) (a b : ℕ)
    (small : a < 2 ^ length first.crossings) where
  abbrev m : ℕ
  m = arc_count first.crossings

  abbrev k : ℕ
  k = arc_count second.crossings

  abbrev both : Code
  both = union_of first second

  abbrev s : ℕ
  s = state_of_both first a b

  abbrev p : ℕ
  p = low_count first a

  abbrev q : ℕ
  q = low_count second b

  most-both : arc_count both.crossings + both.loops ≡ m + (k + (first.loops + second.loops))
  most-both = omega (arith, length-both first second)

  pub count-first : circle_count first a ≡ low_count first a + first.loops
  count-first =
      ap length (names-first_loops first second first_is second_is a b small first.loops (omega arith))
      ∙ length-append (names_to (circles_of first a) m) (range_with_len (m + 1) first.loops)
      ∙ ap (λ n. p + n) (length-range_with_len (m + 1) first.loops)

  pub count-second : circle_count second b ≡ low_count second b + second.loops
  count-second =
      ap length (names-second_loops first second first_is second_is a b small second.loops (omega arith))
      ∙ length-append (names_to (circles_of second b) k) (range_with_len (k + 1) second.loops)
      ∙ ap (λ n. q + n) (length-range_with_len (k + 1) second.loops)

  length-loops : (t : ℕ) → t ≤ first.loops + second.loops
      → length (names_to (circles_of both s) (m + (k + t))) ≡ p + (q + t)
  length-loops t within =
      omega (
        arith,
        ap length (names-loops first second first_is second_is a b small t within),
        length-append (names_to (circles_of first a) m ++ lifted m (names_to (circles_of second b) k)) (range_with_len (m + (k + 1)) t),
        length-append (names_to (circles_of first a) m) (lifted m (names_to (circles_of second b) k)),
        length-map (names_to (circles_of second b) k) (λ x. m + x),
        length-range_with_len (m + (k + 1)) t,
      )

  pub count-both : circle_count (union_of first second) (state_of_both first a b)
      ≡ low_count first a + (low_count second b + (first.loops + second.loops))
  count-both =
      ap (λ n. length (names_to (circles_of both s) n)) most-both ∙ length-loops (first.loops + second.loops) (omega arith)

  -- the numbers of circles
  number-first : (z : ℕ) → 1 ≤ z → z ≤ m
      → number_of both s (circle_of (circles_of both s) z) ≡ length (names_to (circles_of first a) (circle_of (circles_of first a) z - 1))
  number-first z positive within =
      let c = circle_of (circles_of first a) z in
      let of = of-arc first a z first_is positive within in
      ap (number_of both s) (circle-first first second first_is second_is a b small z within)
      ∙ position-counted (circles_of both s) (arc_count both.crossings + both.loops) c
      (record {
        positive = of.positive;
        within = omega (arith, of.within, most-both);
        own = circle-first first second first_is second_is a b small c of.within ∙ of.own;
      })
      ∙ ap length (names-first first second first_is second_is a b small (c - 1) (omega (arith, of.within)))

  own-first : (z : ℕ) → 1 ≤ z → z ≤ m
      → number_of first a (circle_of (circles_of first a) z) ≡ length (names_to (circles_of first a) (circle_of (circles_of first a) z - 1))
  own-first z positive within =
      let c = circle_of (circles_of first a) z in
      let of = of-arc first a z first_is positive within in
      position-counted (circles_of first a) (m + first.loops) c
      (record { positive = of.positive; within = omega (arith, of.within); own = of.own })

  number-second : (w : ℕ) → 1 ≤ w → w ≤ k → number_of both s (circle_of (circles_of both s) (m + w))
      ≡ p + length (names_to (circles_of second b) (circle_of (circles_of second b) w - 1))
  number-second w positive within =
      let c = circle_of (circles_of second b) w in
      let of = of-arc second b w second_is positive within in
      let e : m + c - 1 ≡ m + (c - 1) = omega (arith, of.positive) in
      ap (number_of both s) (circle-second first second first_is second_is a b small w positive within)
      ∙ position-counted (circles_of both s) (arc_count both.crossings + both.loops) (m + c)
      (record {
        positive = omega (arith, of.positive);
        within = omega (arith, of.within, most-both);
        own = circle-second first second first_is second_is a b small c of.positive of.within ∙ ap (λ x. m + x) of.own;
      })
      ∙ ap (λ n. length (names_to (circles_of both s) n)) e
      ∙ ap length (names-second first second first_is second_is a b small (c - 1) (omega (arith, of.within)))
      ∙ length-append (names_to (circles_of first a) m) (lifted m (names_to (circles_of second b) (c - 1)))
      ∙ ap (λ n. p + n) (length-map (names_to (circles_of second b) (c - 1)) (λ x. m + x))

  own-second : (w : ℕ) → 1 ≤ w → w ≤ k → number_of second b (circle_of (circles_of second b) w)
      ≡ length (names_to (circles_of second b) (circle_of (circles_of second b) w - 1))
  own-second w positive within =
      let c = circle_of (circles_of second b) w in
      let of = of-arc second b w second_is positive within in
      position-counted (circles_of second b) (k + second.loops) c
      (record { positive = of.positive; within = omega (arith, of.within); own = of.own })

  number-loop : (t : ℕ) → t < first.loops + second.loops
      → number_of both s (circle_of (circles_of both s) (m + (k + 1 + t))) ≡ p + (q + t)
  number-loop t below =
      let z = m + (k + 1 + t) in
      let own = circle-loop first second first_is second_is a b small t below in
      let e : m + (k + 1 + t) - 1 ≡ m + (k + t) = omega arith in
      ap (number_of both s) own
      ∙ position-counted (circles_of both s) (arc_count both.crossings + both.loops) z
      (record { positive = omega arith; within = omega (arith, below, most-both); own = own })
      ∙ ap (λ n. length (names_to (circles_of both s) n)) e
      ∙ length-loops t (omega (arith, below))

  own-first_loop : (t : ℕ) → t < first.loops → number_of first a (circle_of (circles_of first a) (m + 1 + t)) ≡ p + t
  own-first_loop t below =
      let own = loop-first first second first_is second_is a b small t below in
      let e : m + 1 + t - 1 ≡ m + t = omega arith in
      ap (number_of first a) own
      ∙ position-counted (circles_of first a) (m + first.loops) (m + 1 + t)
      (record { positive = omega arith; within = omega (arith, below); own = own })
      ∙ ap (λ n. length (names_to (circles_of first a) n)) e
      ∙ ap length (names-first_loops first second first_is second_is a b small t (omega (arith, below)))
      ∙ length-append (names_to (circles_of first a) m) (range_with_len (m + 1) t)
      ∙ ap (λ n. p + n) (length-range_with_len (m + 1) t)

  own-second_loop : (t : ℕ) → t < second.loops → number_of second b (circle_of (circles_of second b) (k + 1 + t)) ≡ q + t
  own-second_loop t below =
      let own = loop-second first second first_is second_is a b small t below in
      let e : k + 1 + t - 1 ≡ k + t = omega arith in
      ap (number_of second b) own
      ∙ position-counted (circles_of second b) (k + second.loops) (k + 1 + t)
      (record { positive = omega arith; within = omega (arith, below); own = own })
      ∙ ap (λ n. length (names_to (circles_of second b) n)) e
      ∙ ap length (names-second_loops first second first_is second_is a b small t (omega (arith, below)))
      ∙ length-append (names_to (circles_of second b) k) (range_with_len (k + 1) t)
      ∙ ap (λ n. q + n) (length-range_with_len (k + 1) t)

  -- so labels are those of either generator
  module _ (x y : ℕ) (x_below : x < 2 ^ circle_count first a) where
    abbrev U : ℕ
    U = mixed (low_count first a) (low_count second b) first.loops x y

    pub label-first : (z : ℕ) → 1 ≤ z → z ≤ arc_count first.crossings
        → label_of (union_of first second) (generator_of (state_of_both first a b)
        (mixed (low_count first a) (low_count second b) first.loops x y)) z
        ≡ label_of first (generator_of a x) z
    label-first z positive within =
        let of = of-arc first a z first_is positive within in
        let n = length (names_to (circles_of first a) (circle_of (circles_of first a) z - 1)) in
        ap (bit U) (number-first z positive within)
        ∙ mixed-first p q first.loops x y n (arc-number first a (circle_of (circles_of first a) z) of)
        ∙ ap (bit x) (sym (own-first z positive within))

    pub label-second : (w : ℕ) → 1 ≤ w → w ≤ arc_count second.crossings
        → label_of (union_of first second) (generator_of (state_of_both first a b)
        (mixed (low_count first a) (low_count second b) first.loops x y))
        (arc_count first.crossings + w)
        ≡ label_of second (generator_of b y) w
    label-second w positive within =
        let of = of-arc second b w second_is positive within in
        let n = length (names_to (circles_of second b) (circle_of (circles_of second b) w - 1)) in
        ap (bit U) (number-second w positive within)
        ∙ mixed-second p q first.loops x y n (arc-number second b (circle_of (circles_of second b) w) of)
        ∙ ap (bit y) (sym (own-second w positive within))

    pub label-first_loop : (t : ℕ) → t < first.loops
        → label_of (union_of first second) (generator_of (state_of_both first a b)
        (mixed (low_count first a) (low_count second b) first.loops x y))
        (arc_count first.crossings + (arc_count second.crossings + 1 + t))
        ≡ label_of first (generator_of a x) (arc_count first.crossings + 1 + t)
    label-first_loop t below =
        ap (bit U) (number-loop t (omega (arith, below))) ∙ mixed-third p q first.loops x y t below
        ∙ ap (bit x) (sym (own-first_loop t below))

    pub label-second_loop : (t : ℕ) → t < second.loops
        → label_of (union_of first second) (generator_of (state_of_both first a b)
        (mixed (low_count first a) (low_count second b) first.loops x y))
        (arc_count first.crossings + (arc_count second.crossings + 1 + (first.loops + t)))
        ≡ label_of second (generator_of b y) (arc_count second.crossings + 1 + t)
    label-second_loop t below =
        ap (bit U) (number-loop (first.loops + t) (omega (arith, below)))
        ∙ mixed-fourth p q first.loops x y (subst (λ n. x < 2 ^ n) count-first x_below) t ∙ ap (bit y) (sym (own-second_loop t below))
