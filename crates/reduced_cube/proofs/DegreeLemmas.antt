-- The reduced quantum degrees that have a generator, by the shapes of states. A state has a generator of the reduced degree j
-- exactly where some number of labels v-, from one to the number of its circles, gives the degree j - 1. For each such number
-- there is a labelling with v- on the marked circle; and where that circle has v- there is at least one. So the shapes of all
-- states tell which degrees have a generator, one state of each kind is enough, and the degrees are the same for each mark. They
-- are within the exponents. Then how they are computed: a shape has a degree where there is a number of labels v- that gives it,
-- from one to the number of circles; and the degrees are tried one after another, from the least on.
use Rattle.std.proofs.Common.{◌≡◌, ℕ, zero, suc, inl, inr, get_or, subst, ◌+◌, ◌-◌, ◌*◌, ◌^◌, ◌<◌, ◌≤◌, ◌∙◌, ℤ, pos, neg_ℤ, ◌-ℤ◌, List, [], ◌∷◌, ◌++◌, length, map, refl, sym, ap, arith, Bool, true, false, cond, IsTrue, Option, None, Some}
use Rattle.std.specs.Prelude.{nat_le, ◌&&◌, ◌≤ℤ◌}
use Rattle.std.specs.List.{All, Contains, filter, list_any, range_with_len}
use Rattle.std.specs.Ordering.{int_eq}
use Rattle.std.proofs.Math.Path.{fun_ext}
use Rattle.std.proofs.Math.Pow.{pow_mono}
use Rattle.std.proofs.lemmas.Nat.{pow_pos}
use Rattle.std.proofs.lemmas.Bool.{cases_lt, eq-eqb, eqb-true, false≢true, ne_eqb, and_from}
use Rattle.std.proofs.lemmas.Bool.Decides.{nat_tests}
use Rattle.std.proofs.lemmas.Int.{ints}
use Rattle.std.proofs.lemmas.List.{get_or_default}
use Rattle.std.proofs.lemmas.List.Elements.{All-filter}
use Rattle.std.proofs.lemmas.List.FromFn.{filter_of_map_range_with_len_more}
use Rattle.std.proofs.lemmas.Nat.Bits.{bit_at_ones, bit_at_ones_above}
use Rattle.kh_types.specs.Acceptance.{accepted}
use Rattle.kh_types.specs.Bits.{bit, ones}
use Rattle.kh_types.specs.CircleNumbers.{circle_number, IsName}
use Rattle.kh_types.specs.Circles.{circle_count}
use Rattle.kh_types.specs.Code.{Code}
use Rattle.kh_types.specs.Generators.{generator_of, generators_of, quantum_degree, states}
use Rattle.kh_types.specs.Table.{IsWithin, from_minus}
use Rattle.kh_types.specs.declared.limits.TheConstants.{CROSSINGS, EXPONENT}
use Rattle.kh_types.proofs.AcceptedLemmas.{IsAccepted-is}
use Rattle.kh_types.proofs.EdgeBits.{bit-set_there, set-within}
use Rattle.kh_types.proofs.QuantumDegrees.{ones-le, place-IsWithin}
use Rattle.kh_types.proofs.Ranges.{list_any-below, list_any-below_none, list_any-found}
use Rattle.square_laws.proofs.Signs.{ones-set_below}
use Rattle.cube_signs.specs.KindShapes.{all_kind_shapes}
use Rattle.cube_signs.specs.Shapes.{gives_degree, is_given, shape_of}
use Rattle.cube_signs.specs.declared.shape.Shape.{Shape}
use Rattle.cube_signs.proofs.KindDegrees.{any-kinds}
use Rattle.cube_signs.proofs.ShapeLemmas.{list_any-flat_map, ones-lowest, quantum_degree-label}
use Rattle.reduced_cube.specs.Degrees.{shape_has_reduced, some_shape_has_reduced, is_from_one, reduced_degrees_of}
use Rattle.reduced_cube.specs.Reduced.{has_reduced, is_reduced, reduced_degrees}
use Rattle.reduced_cube.proofs.MarkedCounts.{ones-positive}
use Rattle.reduced_cube.proofs.ReducedSums.{number-below}
use Rattle.kh_types.proofs.MappedLists.{list_any-map}
use Rattle.kh_types.proofs.Tests.{agree}

-- a label with so many v-, one of them on a circle
record HasLabel (count mark n : ℕ) : Type 0 where
  label : ℕ
  below : label < 2 ^ count
  weight : ones count label ≡ n
  minus : bit label mark ≡ 1

label-with : (count mark n : ℕ) → mark < count → 1 ≤ n → n ≤ count → HasLabel count mark n
label-with count mark n less some few = elim (cases_lt mark n) [
  | inl within ↦
      let power : 2 ^ n ≤ 2 ^ count = pow_mono few in
      record {
        label = 2 ^ n - 1;
        below = omega (arith, power, pow_pos n);
        weight = ones-lowest count n few;
        minus = bit_at_ones n mark within;
      }
  | inr past ↦
      let rest = n - 1 in
      let power : 2 ^ rest ≤ 2 ^ count = pow_mono (omega (arith, few)) in
      let none : bit (2 ^ rest - 1) mark ≡ 0 = bit_at_ones_above rest mark (omega (arith, past)) in
      record {
        label = 2 ^ rest - 1 + 2 ^ mark;
        below = set-within (2 ^ rest - 1) mark count less (omega (arith, power, pow_pos rest)) none;
        weight = omega (arith, some, ones-set_below (2 ^ rest - 1) mark count none less, ones-lowest count rest (omega (arith, few)));
        minus = bit-set_there (2 ^ rest - 1) mark none;
      }
]

and_parts : (a b : Bool) → (a && b) ≡ true → (a ≡ true) × (b ≡ true)
and_parts true b holds = (refl, holds)
and_parts false b holds = absurd (false≢true holds)

-- a state has a generator of a reduced degree where a number of labels v- gives it, each number from 1 to that of the circles
reduced_degree-shape : (code : Code) (mark : ℕ) (j : ℤ) (state : ℕ) → IsTrue (accepted code) → IsName code mark
    → shape_has_reduced j (shape_of code state)
    ≡ list_any (λ generator. int_eq (quantum_degree code generator) (j -ℤ pos 1) && is_reduced code mark generator)
    (generators_of code state)
reduced_degree-shape code mark j state is name =
    let count = circle_count code state in
    let place = circle_number code state mark in
    let shape = shape_of code state in
    let below = j -ℤ pos 1 in
    let less = number-below code mark state is name in
    let of_label : ℕ → Bool = λ label.
    int_eq (quantum_degree code (generator_of state label)) below && is_reduced code mark (generator_of state label) in
    let of_count : ℕ → Bool = λ more. gives_degree shape below (more + 1) in
    let same : (label : ℕ) → int_eq (quantum_degree code (generator_of state label)) below ≡ gives_degree shape below (ones count label) =
    λ label. ap (λ (d : ℤ). int_eq d below) (quantum_degree-label code state label) in
    agree (list_any of_count (range_with_len 0 count)) (list_any of_label (range_with_len 0 (2 ^ count)))
    (λ passes.
    let found = list_any-found of_count count passes in
    let n = found.0 + 1 in
    let has = label-with count place n less (omega arith) (omega (arith, found.1)) in
    list_any-below of_label (2 ^ count) has.label has.below
    (and_from (int_eq (quantum_degree code (generator_of state has.label)) below) (is_reduced code mark (generator_of state has.label))
    (same has.label ∙ ap (gives_degree shape below) has.weight ∙ found.2) (eq-eqb (bit has.label place) 1 has.minus)))
    (λ passes.
    let found = list_any-found of_label (2 ^ count) passes in
    let label = found.0 in
    let both = and_parts (int_eq (quantum_degree code (generator_of state label)) below)
    (is_reduced code mark (generator_of state label)) found.2 in
    let some : 1 ≤ ones count label = ones-positive count label place less (eqb-true (bit label place) 1 both.1) in
    let e : ones count label - 1 + 1 ≡ ones count label = omega (arith, some) in
    list_any-below of_count count (ones count label - 1) (omega (arith, some, ones-le count label))
    (ap (gives_degree shape below) e ∙ sym (same label) ∙ both.0))
    ∙ sym (list_any-map (λ generator. int_eq (quantum_degree code generator) below && is_reduced code mark generator)
    (generator_of state) (range_with_len 0 (2 ^ count)))

-- so the shapes of all states tell which reduced degrees have a generator
some_shape_has_reduced-states : (code : Code) (mark : ℕ) (j : ℤ) → IsTrue (accepted code) → IsName code mark
    → some_shape_has_reduced (map (shape_of code) (states code)) j ≡ has_reduced code mark j
some_shape_has_reduced-states code mark j is name =
    list_any-map (shape_has_reduced j) (shape_of code) (states code)
    ∙ ap (λ (p : ℕ → Bool). list_any p (states code)) (fun_ext (λ state. reduced_degree-shape code mark j state is name))
    ∙ sym (list_any-flat_map (λ generator. int_eq (quantum_degree code generator) (j -ℤ pos 1) && is_reduced code mark generator)
    (generators_of code) (states code))

-- so they are the same for each mark
pub reduced_degrees-marks : (code : Code) (first second : ℕ) → IsTrue (accepted code) → IsName code first → IsName code second
    → reduced_degrees code first ≡ reduced_degrees code second
unfolding reduced_degrees
reduced_degrees-marks code first second is first_name second_name =
    ap (λ (p : ℤ → Bool). filter p (from_minus EXPONENT))
    (fun_ext (λ j.
    sym (some_shape_has_reduced-states code first j is first_name) ∙ some_shape_has_reduced-states code second j is second_name))

pub degrees-reduced : (code : Code) (mark : ℕ) (shapes : List Shape) (made : List ℤ) → IsTrue (accepted code)
    → length code.crossings ≤ CROSSINGS → IsName code mark → shapes ≡ all_kind_shapes code → made ≡ reduced_degrees_of shapes
    → made ≡ reduced_degrees code mark
unfolding reduced_degrees_of reduced_degrees
degrees-reduced code mark shapes made is few name are is_made =
    is_made ∙ ap (λ (s : List Shape). filter (some_shape_has_reduced s) (from_minus EXPONENT)) are
    ∙ ap (λ (p : ℤ → Bool). filter p (from_minus EXPONENT))
    (fun_ext (λ j. any-kinds (shape_has_reduced j) code ((IsAccepted-is code).0 is) few ∙ some_shape_has_reduced-states code mark j is name))

-- a reduced quantum degree that has a generator is one of the exponents
pub degree-within : (code : Code) (mark : ℕ) (j : ℤ) → Contains (reduced_degrees code mark) j → IsWithin EXPONENT j
unfolding reduced_degrees
degree-within code mark j has =
    let all = from_minus EXPONENT in
    let Here : ℤ → Type 0 = λ i. IsWithin EXPONENT i in
    let each : All Here all = λ k d below. (k, below, get_or_default all k (get_or all k d) d below) in
    subst Here has.2 (All-filter (has_reduced code mark) Here all each has.0 j has.1)

pub degree-low : (code : Code) (mark : ℕ) (j : ℤ) → Contains (reduced_degrees code mark) j → neg_ℤ (pos EXPONENT) ≤ℤ j
degree-low code mark j has =
    let place = place-IsWithin EXPONENT j (degree-within code mark j has) in
    omega (arith, ints, place.1, place.2)

-- a number that is found among those that give a degree
one-passes : (m last : ℕ) → m < last → (nat_le 1 (suc m) && nat_le (suc m) last) ≡ true
one-passes m last few = grind (arith, nat_tests)

one-fails : (m last : ℕ) → last ≤ m → (nat_le 1 (suc m) && nat_le (suc m) last) ≡ false
one-fails m last past = grind (arith, nat_tests)

reduced-found : (shape : Shape) (j : ℤ) (given : Option ℕ) (within : Bool)
    → ((count : ℕ) → gives_degree shape (j -ℤ pos 1) count ≡ is_given given count) → within ≡ is_from_one given shape.circles
    → within ≡ shape_has_reduced j shape
reduced-found shape j None within gives is =
    is ∙ sym (list_any-below_none (λ more. gives_degree shape (j -ℤ pos 1) (more + 1)) shape.circles (λ k below. gives (k + 1)))
reduced-found shape j (Some zero) within gives is =
    is
    ∙ sym (list_any-below_none (λ more. gives_degree shape (j -ℤ pos 1) (more + 1)) shape.circles
    (λ k below. gives (k + 1) ∙ ne_eqb (k + 1) 0 (omega arith)))
reduced-found shape j (Some (suc weight)) within gives is =
    let of_count : ℕ → Bool = λ more. gives_degree shape (j -ℤ pos 1) (more + 1) in
    let e : weight + 1 ≡ suc weight = omega arith in
    elim (cases_lt weight shape.circles) [
      | inl few ↦
          is ∙ one-passes weight shape.circles few
          ∙ sym (list_any-below of_count shape.circles weight few (gives (weight + 1) ∙ eq-eqb (weight + 1) (suc weight) e))
      | inr past ↦
          is ∙ one-fails weight shape.circles (omega (arith, past))
          ∙ sym (list_any-below_none of_count shape.circles
          (λ k below. gives (k + 1) ∙ ne_eqb (k + 1) (suc weight) (omega (arith, below, past))))
    ]

pub reduced-given : (shape : Shape) (j : ℤ) {below : ℤ} (given : Option ℕ) (within : Bool)
    → ((count : ℕ) → gives_degree shape below count ≡ is_given given count) → below ≡ j -ℤ pos 1
    → within ≡ is_from_one given shape.circles → within ≡ shape_has_reduced j shape
reduced-given shape j given within gives is_below is =
    reduced-found shape j given within (λ count. sym (ap (λ (d : ℤ). gives_degree shape d count) is_below) ∙ gives count) is

-- of the first numbers from -most on, the reduced quantum degrees that have a generator
abbrev pub reduced_degrees_to : ℕ → List Shape → ℕ → List ℤ
reduced_degrees_to most shapes count = filter (some_shape_has_reduced shapes) (map (λ k. pos k -ℤ pos most) (range_with_len 0 count))

-- one degree more
pub reduced_degrees-more : (most : ℕ) (shapes : List Shape) (made next : List ℤ) (j : ℤ) (place : ℕ)
    → made ≡ reduced_degrees_to most shapes place → j ≡ pos place -ℤ pos most
    → next ≡ made ++ cond (some_shape_has_reduced shapes j) (j ∷ []) [] → next ≡ reduced_degrees_to most shapes (place + 1)
reduced_degrees-more most shapes made next j place is_made is_j is_next =
    let degree : ℕ → ℤ = λ k. pos k -ℤ pos most in
    is_next ∙ ap (λ (xs : List ℤ). xs ++ cond (some_shape_has_reduced shapes j) (j ∷ []) []) is_made
    ∙ ap (λ (i : ℤ). reduced_degrees_to most shapes place ++ cond (some_shape_has_reduced shapes i) (i ∷ []) []) is_j
    ∙ sym (filter_of_map_range_with_len_more (some_shape_has_reduced shapes) degree 0 place place (omega arith))

pub reduced_degrees-all : (most : ℕ) (shapes : List Shape) (made : List ℤ) (place : ℕ) → most ≡ EXPONENT → place ≡ 2 * most + 1
    → made ≡ reduced_degrees_to most shapes place → made ≡ reduced_degrees_of shapes
unfolding reduced_degrees_of
reduced_degrees-all most shapes made place is_most is_place is_made =
    is_made ∙ ap (reduced_degrees_to most shapes) is_place ∙ ap (λ (n : ℕ). filter (some_shape_has_reduced shapes) (from_minus n)) is_most

pub ruleset degree_steps = (reduced_degrees-more, reduced_degrees-all)
