-- The degrees of the generators of a state, by the numbers of labels v-. The shape of a state is its circles, its 1-smoothings
-- and its greatest quantum degree, that of v+ alone; each label v- takes 2 from it. Every number of v- up to that of the circles
-- occurs, as the number with so many lowest bits 1 shows: so a state has a generator of a degree exactly where such a number
-- gives it, and the shapes of all states tell which quantum degrees have a block. Where one number, if any, gives the degree, it
-- is asked whether it is at most that of the circles. The last part is the loop over the degrees, from the least to the greatest.
use Rattle.std.proofs.Common.{◌≡◌, ℕ, zero, suc, ◌+◌, ◌-◌, ◌*◌, ◌^◌, ◌≤◌, ◌∙◌, inl, inr, ℤ, pos, ◌+ℤ◌, ◌-ℤ◌, List, [], ◌∷◌, ◌++◌, map, refl, sym, ap, arith, Bool, false, cond, Option, None, Some}
use Rattle.std.specs.Prelude.{nat_le, ◌||◌}
use Rattle.std.specs.List.{filter, flat_map, list_any, range_with_len}
use Rattle.std.specs.Ordering.{int_eq}
use Rattle.std.proofs.Math.Path.{fun_ext}
use Rattle.std.proofs.Math.Pow.{pow_mono}
use Rattle.std.proofs.lemmas.Nat.{pow_pos}
use Rattle.std.proofs.lemmas.Bool.{cases_lt, eq-eqb, ne_eqb}
use Rattle.std.proofs.lemmas.Bool.Decides.{nat_tests}
use Rattle.std.proofs.lemmas.Int.{ints}
use Rattle.std.proofs.lemmas.List.Folds.{list_any-append}
use Rattle.std.proofs.lemmas.List.FromFn.{filter_of_map_range_with_len_more}
use Rattle.std.proofs.lemmas.Nat.Bits.{bit_at_ones, bit_at_ones_above, bit_at-zero}
use Rattle.kh_types.specs.declared.limits.TheConstants.{EXPONENT}
use Rattle.kh_types.specs.Bits.{bit, ones}
use Rattle.kh_types.specs.Circles.{circle_count}
use Rattle.kh_types.specs.Code.{Code}
use Rattle.kh_types.specs.Directions.{minus_count, plus_count}
use Rattle.kh_types.specs.Generators.{generator_of, generators_of, one_count, quantum_degree, states}
use Rattle.kh_types.specs.Table.{from_minus}
use Rattle.kh_types.proofs.BitLemmas.{ones-more}
use Rattle.kh_types.proofs.QuantumDegrees.{ones-le}
use Rattle.kh_types.proofs.Ranges.{list_any-below, list_any-below_none, list_any-found}
use Rattle.cube_signs.specs.Blocks.{has_block}
use Rattle.cube_signs.specs.Shapes.{degrees_of, gives_degree, has_degree, have_degree, is_given, shape_of}
use Rattle.cube_signs.specs.declared.shape.Shape.{Shape}
use Rattle.kh_types.proofs.MappedLists.{list_any-map}
use Rattle.kh_types.proofs.Tests.{agree}

-- a shape by its parts, and whether a number that is given is within a limit
abbrev pub record_of : ℕ → ℕ → ℤ → Shape
record_of circles ones top = record { circles = circles; ones = ones; top = top }

abbrev pub is_within : Option ℕ → ℕ → Bool
is_within None limit = false
is_within (Some given) limit = nat_le given limit

pub list_any-flat_map : {X Y : Type 0} (p : Y → Bool) (f : X → List Y) (xs : List X)
    → list_any p (flat_map f xs) ≡ list_any (λ x. list_any p (f x)) xs
list_any-flat_map p f [] = refl
list_any-flat_map p f (x ∷ xs) =
    list_any-append p (f x) (flat_map f xs) ∙ ap (λ b. list_any p (f x) || b) (list_any-flat_map p f xs)

-- how many bits are 1 of 0, and of the number with the lowest n bits alone
pub ones-zero : (count : ℕ) → ones count 0 ≡ 0
ones-zero zero = refl
ones-zero (suc count) =
    let e : suc count ≡ count + 1 = omega arith in
    ap (λ m. ones m 0) e ∙ ones-more count 0 ∙ omega (arith, ones-zero count, bit_at-zero count)

pub ones-lowest : (count n : ℕ) → n ≤ count → ones count (2 ^ n - 1) ≡ n
ones-lowest zero n few = let e : n ≡ 0 = omega arith in ap (λ m. ones zero (2 ^ m - 1)) e ∙ sym e
ones-lowest (suc count) n few =
    let e : suc count ≡ count + 1 = omega arith in
    let more : ones (suc count) (2 ^ n - 1) ≡ ones count (2 ^ n - 1) + bit (2 ^ n - 1) count =
    ap (λ m. ones m (2 ^ n - 1)) e ∙ ones-more count (2 ^ n - 1) in
    elim (cases_lt count n) [
      | inl all ↦ omega (arith, more, ones-full count n (omega arith), bit_at_ones n count all)
      | inr rest ↦ omega (arith, more, ones-lowest count n rest, bit_at_ones_above n count rest)
    ]
  where
    ones-full : (count n : ℕ) → count ≤ n → ones count (2 ^ n - 1) ≡ count
    ones-full zero n within = refl
    ones-full (suc count) n within =
        let e : suc count ≡ count + 1 = omega arith in
        ap (λ m. ones m (2 ^ n - 1)) e ∙ ones-more count (2 ^ n - 1)
        ∙ omega (arith, ones-full count n (omega arith), bit_at_ones n count (omega arith))

-- the greatest quantum degree of a state, and the degree of each of its generators
taken : (circles none some : ℕ) (rest : ℤ) → none ≡ 0
    → (pos circles -ℤ pos (2 * some)) +ℤ rest ≡ ((pos circles -ℤ pos (2 * none)) +ℤ rest) -ℤ pos (2 * some)
taken circles none some rest is = omega (arith, ints)

nothing_taken : (circles none : ℕ) (rest : ℤ) → none ≡ 0 → pos circles +ℤ rest ≡ (pos circles -ℤ pos (2 * none)) +ℤ rest
nothing_taken circles none rest is = omega (arith, ints)

pub shape-made : (code : Code) (state circles raised plus minus : ℕ) (top : ℤ) → circles ≡ circle_count code state
    → raised ≡ one_count code state → plus ≡ plus_count code.crossings → minus ≡ minus_count code.crossings
    → top ≡ pos circles +ℤ (pos (raised + plus) -ℤ pos (2 * minus))
    → record_of circles raised top ≡ shape_of code state
shape-made code state circles raised plus minus top is_circles is_raised is_plus is_minus is_top =
    grind (arith, nat_tests, nothing_taken, ones-zero)

pub quantum_degree-label : (code : Code) (state label : ℕ)
    → quantum_degree code (generator_of state label) ≡ (shape_of code state).top -ℤ pos (2 * ones (circle_count code state) label)
quantum_degree-label code state label = grind (arith, nat_tests, taken, ones-zero)

-- a state has a generator of a degree where a number of labels v- gives it, each number of them up to that of the circles
has_degree-shape : (code : Code) (j : ℤ) (state : ℕ)
    → has_degree (shape_of code state) j ≡ list_any (λ generator. int_eq (quantum_degree code generator) j) (generators_of code state)
has_degree-shape code j state =
    let count = circle_count code state in
    let shape = shape_of code state in
    let of_label : ℕ → Bool = λ label. int_eq (quantum_degree code (generator_of state label)) j in
    let same : (label : ℕ) → of_label label ≡ gives_degree shape j (ones count label) =
    λ label. ap (λ (d : ℤ). int_eq d j) (quantum_degree-label code state label) in
    agree (has_degree shape j) (list_any of_label (range_with_len 0 (2 ^ count)))
    (λ passes.
    let found = list_any-found (gives_degree shape j) (count + 1) passes in
    let n = found.0 in
    let power : 2 ^ n ≤ 2 ^ count = pow_mono (omega (arith, found.1)) in
    list_any-below of_label (2 ^ count) (2 ^ n - 1) (omega (arith, power, pow_pos n))
    (same (2 ^ n - 1) ∙ ap (gives_degree shape j) (ones-lowest count n (omega (arith, found.1))) ∙ found.2))
    (λ passes.
    let found = list_any-found of_label (2 ^ count) passes in
    list_any-below (gives_degree shape j) (count + 1) (ones count found.0) (omega (arith, ones-le count found.0))
    (sym (same found.0) ∙ found.2))
    ∙ sym (list_any-map (λ generator. int_eq (quantum_degree code generator) j) (generator_of state) (range_with_len 0 (2 ^ count)))

-- so the shapes of all states tell which degrees have a generator
pub have_degree-states : (code : Code) (j : ℤ) → have_degree (map (shape_of code) (states code)) j ≡ has_block code j
have_degree-states code j =
    list_any-map (λ shape. has_degree shape j) (shape_of code) (states code)
    ∙ ap (λ (p : ℕ → Bool). list_any p (states code)) (fun_ext (has_degree-shape code j))
    ∙ sym (list_any-flat_map (λ generator. int_eq (quantum_degree code generator) j) (generators_of code) (states code))

-- a number that is found among those that give a degree
pub has_degree-given : (shape : Shape) (j : ℤ) (given : Option ℕ) (within : Bool)
    → ((count : ℕ) → gives_degree shape j count ≡ is_given given count) → within ≡ is_within given shape.circles
    → within ≡ has_degree shape j
has_degree-given shape j None within gives is =
    is ∙ sym (list_any-below_none (gives_degree shape j) (shape.circles + 1) (λ k below. gives k))
has_degree-given shape j (Some weight) within gives is = is ∙ elim (cases_lt shape.circles weight) [
  | inl past ↦
      grind (arith, nat_tests) ∙ sym (list_any-below_none (gives_degree shape j) (shape.circles + 1)
      (λ k below. gives k ∙ ne_eqb k weight (omega arith)))
  | inr few ↦
      grind (arith, nat_tests)
      ∙ sym (list_any-below (gives_degree shape j) (shape.circles + 1) weight (omega arith) (gives weight ∙ eq-eqb weight weight refl))
]

-- of the numbers from -most to most, as many as are given, the quantum degrees that have a generator
abbrev pub degrees_to : ℕ → List Shape → ℕ → List ℤ
degrees_to most shapes count = filter (have_degree shapes) (map (λ k. pos k -ℤ pos most) (range_with_len 0 count))

-- one degree more
pub degrees_to-more : (most : ℕ) (shapes : List Shape) (made next : List ℤ) (j : ℤ) (place : ℕ) → made ≡ degrees_to most shapes place
    → j ≡ pos place -ℤ pos most → next ≡ made ++ cond (have_degree shapes j) (j ∷ []) []
    → next ≡ degrees_to most shapes (place + 1)
degrees_to-more most shapes made next j place is_made is_j is_next =
    let degree : ℕ → ℤ = λ k. pos k -ℤ pos most in
    is_next ∙ ap (λ (xs : List ℤ). xs ++ cond (have_degree shapes j) (j ∷ []) []) is_made
    ∙ ap (λ (i : ℤ). degrees_to most shapes place ++ cond (have_degree shapes i) (i ∷ []) []) is_j
    ∙ sym (filter_of_map_range_with_len_more (have_degree shapes) degree 0 place place (omega arith))

pub degrees_to-all : (most : ℕ) (shapes : List Shape) (made : List ℤ) (place : ℕ) → most ≡ EXPONENT → place ≡ 2 * most + 1
    → made ≡ degrees_to most shapes place → made ≡ degrees_of shapes
unfolding degrees_of
degrees_to-all most shapes made place is_most is_place is_made =
    is_made ∙ ap (degrees_to most shapes) is_place ∙ ap (λ (n : ℕ). filter (have_degree shapes) (from_minus n)) is_most

pub ruleset degree_steps = (degrees_to-more, degrees_to-all)
