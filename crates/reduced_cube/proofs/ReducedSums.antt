-- (q + q^-1) times the graded Euler characteristic of a reduced table is the state sum: the coefficients at e - 1 and e + 1 add
-- up to that of the state sum at e. The reduced generators are counted state by state: the marked circle has v-, so they are
-- labellings of the other circles, and their number is a coefficient of (q + q^-1)^k for k other circles. The alternating sum of
-- the dimensions is that of the generators, since each rank comes twice there, with opposite signs. A generator with a v- is
-- below the greatest degree, so there is none outside of the exponents, and a coefficient of the table is this alternating sum at
-- any degree. Last, state by state, (q + q^-1) more means one circle more.
use Rattle.std.proofs.Common.{◌≡◌, ℕ, suc, inl, inr, ◌+◌, ◌-◌, ◌*◌, ◌^◌, ◌<◌, ◌≤◌, ◌∙◌, List, [], ℤ, pos, ◌+ℤ◌, ◌-ℤ◌, sym, refl, length, map, ap, ap₂, subst, arith, Bool, true, false, cond, ◌&&◌, IsTrue}
use Rattle.std.specs.Prelude.{nat_eq}
use Rattle.std.specs.List.{All, sum_by, count_by, range_with_len}
use Rattle.std.specs.Ordering.{int_eq}
use Rattle.std.proofs.lemmas.Bool.{cases_lt, eqb-true}
use Rattle.std.proofs.lemmas.Bool.Decides.{Decides-int_eq}
use Rattle.std.proofs.lemmas.Int.{ints}
use Rattle.std.proofs.lemmas.List.{nil_from_length}
use Rattle.std.proofs.lemmas.List.Elements.{All-filter, filter_passes}
use Rattle.std.proofs.lemmas.List.Sums.{length-filter}
use Rattle.kh_types.specs.declared.limits.TheConstants.{CROSSINGS, EXPONENT}
use Rattle.kh_types.specs.Acceptance.{accepted}
use Rattle.kh_types.specs.Bits.{bit, ones, one_if}
use Rattle.kh_types.specs.Code.{Code}
use Rattle.kh_types.specs.Directions.{plus_count, minus_count}
use Rattle.kh_types.specs.Circles.{circle_count}
use Rattle.kh_types.specs.Differential.{label_of}
use Rattle.kh_types.specs.Generators.{Generator, generator_of, generators, generators_at, generators_of, has_degrees, homological_degree, one_count, quantum_degree, states}
use Rattle.kh_types.specs.Rank.{rank}
use Rattle.kh_types.specs.StateSum.{circle_coefficient, euler, int_sum, signed_by, state_sum, state_term}
use Rattle.kh_types.specs.Table.{IsWithin, from_minus}
use Rattle.kh_types.proofs.AcceptedLemmas.{IsAccepted-is}
use Rattle.kh_types.proofs.CircleBound.{circle_count-within}
use Rattle.kh_types.proofs.Lists.{All-some}
use Rattle.kh_types.proofs.QuantumDegrees.{IsWithin-place, generators_at-degrees, homological_degree-within, one_count-le, ones-le, place-IsWithin, plus_count-le}
use Rattle.prime_field.specs.Residues.{IsField}
use Rattle.kh_types.specs.CircleNumbers.{IsName, circle_number}
use Rattle.kh_types.proofs.CircleNumbers.{IsCircle-of, number_of-below}
use Rattle.kh_types.proofs.ListSums.{sum_by-alike, sum_by-filter, sum_by-flat_map, sum_by-map, sum_by-zeros}
use Rattle.kh_types.proofs.AlternatingSums.{alternating, alternating-add, alternating-alike, alternating-neighbours, alternating-sum, signed_by-add, signed_by-zero}
use Rattle.kh_types.proofs.Integers.{int_eq-other}
use Rattle.kh_types.proofs.IntSums.{int_sum-add, int_sum-alike, int_sum-within, int_sum-zeros}
use Rattle.kh_types.proofs.LabelDegrees.{degree_of_label, degree_of_state, label_part, shifted-test}
use Rattle.reduced_cube.specs.Reduced.{is_reduced, reduced_differential, reduced_dimension, reduced_generators, reduced_table}
use Rattle.cube_signs.proofs.ListComplexes.{rank-no_heads, rank-no_tails}
use Rattle.reduced_cube.proofs.MarkedCounts.{marked_with-is, ones-positive}
use Rattle.reduced_cube.proofs.ReducedBlocks.{AreLists-reduced, ranks-lists, reduced-beyond}
use Rattle.kh_types.proofs.RowSums.{euler-rows}

-- generators, counted state by state

-- how many labels of a state have v- on the marked circle and give the reduced degree j: those of the other circles
abbrev reduced_count : Code → ℤ → ℕ → ℕ
reduced_count code j state = circle_coefficient (circle_count code state - 1) (label_part code (j -ℤ pos 1) state +ℤ pos 1)

abbrev state_count : Code → ℤ → ℕ → ℤ → ℕ
state_count code j state i = cond (int_eq (degree_of_state code state) i) (reduced_count code j state) 0

count-both : (b : Bool) (q r : ℕ → Bool) (xs : List ℕ)
    → sum_by (λ x. cond (b && q x) (cond (r x) 1 0) 0) xs ≡ cond b (count_by (λ x. q x && r x) xs) 0
count-both true q r xs =
    sum_by-alike (λ x. cond (q x) (cond (r x) 1 0) 0) (λ x. cond (q x && r x) 1 0) (λ x. nested (q x) (r x)) xs
  where
    nested : (c d : Bool) → cond c (one_if d) 0 ≡ one_if (c && d)
    nested true d = refl
    nested false d = refl
count-both false q r xs = sum_by-zeros (λ x. 0) xs (λ x. refl)

-- the marked circle is one of the state's
pub number-below : (code : Code) (mark state : ℕ) → IsTrue (accepted code) → IsName code mark
    → circle_number code state mark < circle_count code state
number-below code mark state is name =
    number_of-below code state _ (IsCircle-of code state mark is name)

count-state : (code : Code) (mark : ℕ) (i j : ℤ) (state : ℕ) → IsTrue (accepted code) → IsName code mark
    → sum_by (λ generator. cond (has_degrees code i (j -ℤ pos 1) generator) (cond (is_reduced code mark generator) 1 0) 0)
    (generators_of code state) ≡ state_count code j state i
count-state code mark i j state is name =
    let circles = circle_count code state in
    let below = j -ℤ pos 1 in
    let test = int_eq (degree_of_state code state) i in
    let shift = one_count code state + plus_count code.crossings in
    let twice = 2 * minus_count code.crossings in
    let place = circle_number code state mark in
    let labels = range_with_len 0 (2 ^ circles) in
    let has_minus = λ (label : ℕ). nat_eq (bit label place) 1 in
    sum_by-map (λ generator. cond (has_degrees code i below generator) (cond (is_reduced code mark generator) 1 0) 0) (generator_of state)
    labels
    ∙ count-both test (λ label. int_eq (degree_of_label circles label +ℤ (pos shift -ℤ pos twice)) below) has_minus labels
    ∙ ap (λ (k : ℕ). cond test k 0)
    (sum_by-alike
    (λ label. cond (int_eq (degree_of_label circles label +ℤ (pos shift -ℤ pos twice)) below && has_minus label) 1 0)
    (λ label. cond (int_eq (degree_of_label circles label) (label_part code below state) && has_minus label) 1 0)
    (λ label. ap (λ b. cond (b && has_minus label) 1 0) (shifted-test (degree_of_label circles label) below shift twice)) labels
    ∙ marked_with-is circles place (label_part code below state) (number-below code mark state is name))

length-reduced : (code : Code) (mark : ℕ) (i j : ℤ) → IsTrue (accepted code) → IsName code mark
    → length (reduced_generators code mark i j) ≡ sum_by (λ state. state_count code j state i) (states code)
length-reduced code mark i j is name =
    let below = j -ℤ pos 1 in
    let one = λ (generator : Generator). cond (is_reduced code mark generator) 1 0 in
    length-filter (is_reduced code mark) (generators_at code i below)
    ∙ sum_by-filter one (has_degrees code i below) (generators code)
    ∙ sum_by-flat_map (λ generator. cond (has_degrees code i below generator) (one generator) 0) (generators_of code) (states code)
    ∙ sum_by-alike
    (λ state. sum_by (λ generator. cond (has_degrees code i below generator) (one generator) 0) (generators_of code state))
    (λ state. state_count code j state i) (λ state. count-state code mark i j state is name) (states code)

-- what the generators of a state add
abbrev reduced_term : Code → ℤ → ℕ → ℤ
reduced_term code j state = signed_by (degree_of_state code state) (reduced_count code j state)

alternating-state : (code : Code) (j : ℤ) (state : ℕ)
    → alternating (length code.crossings) (state_count code j state) ≡ reduced_term code j state
alternating-state code j state =
    let degree = degree_of_state code state in
    let value = reduced_count code j state in
    int_sum-within (λ i. signed_by i (cond (int_eq degree i) value 0)) (length code.crossings) degree
    (homological_degree-within code (generator_of state 0))
    (λ i other. ap (λ b. signed_by i (cond b value 0)) (int_eq-other degree i (λ same. other (sym same))) ∙ signed_by-zero i)
    ∙ ap (λ b. signed_by degree (cond b value 0)) ((Decides-int_eq degree degree).1 refl)

alternating-reduced : (code : Code) (mark : ℕ) (j : ℤ) → IsTrue (accepted code) → IsName code mark
    → alternating (length code.crossings) (λ i. length (reduced_generators code mark i j))
    ≡ int_sum (map (reduced_term code j) (states code))
alternating-reduced code mark j is name =
    let n = length code.crossings in
    alternating-alike n (λ i. length (reduced_generators code mark i j)) (λ i. sum_by (λ state. state_count code j state i) (states code))
    (λ i. length-reduced code mark i j is name)
    ∙ alternating-sum n (state_count code j) (states code)
    ∙ int_sum-alike (λ state. alternating n (state_count code j state)) (reduced_term code j) (alternating-state code j) (states code)

-- in the alternating sum of the generators each rank comes twice, with opposite signs
alternating-dimensions : (p : ℕ) (code : Code) (mark : ℕ) (j : ℤ) → IsField p → IsTrue (accepted code) → IsName code mark
    → alternating (length code.crossings) (λ i. reduced_dimension p code mark i j) ≡ int_sum (map (reduced_term code j) (states code))
alternating-dimensions p code mark j field is name =
    let n = length code.crossings in
    let lists : ℤ → List Generator = λ i. reduced_generators code mark i j in
    let are = AreLists-reduced p code mark j (omega (arith, field.above_one)) is name in
    let dimensions : ℤ → ℕ = λ i. reduced_dimension p code mark i j in
    let rank_out : ℤ → ℕ = λ i. rank p (reduced_differential p code mark i j) in
    let ranks : ℤ → ℕ = λ i. rank_out i + rank_out (i -ℤ pos 1) in
    let before = pos 0 -ℤ pos (n + 1) in
    let no_tails : lists before ≡ [] =
    reduced-beyond code mark j before
    (λ within. let place = place-IsWithin n before within in omega (arith, ints, place.1, place.2)) in
    let no_heads : lists (pos n +ℤ pos 1) ≡ [] =
    reduced-beyond code mark j (pos n +ℤ pos 1)
    (λ within. let place = place-IsWithin n (pos n +ℤ pos 1) within in omega (arith, ints, place.1, place.2)) in
    let cancels : alternating n ranks ≡ pos 0 =
    alternating-neighbours n rank_out (rank-no_tails p code (lists before) (lists (before +ℤ pos 1)) no_tails)
    (rank-no_heads p code (lists (pos n)) (lists (pos n +ℤ pos 1)) no_heads) in
    let whole : alternating n (λ i. length (lists i)) ≡ alternating n dimensions +ℤ alternating n ranks =
    alternating-alike n (λ i. length (lists i)) (λ i. dimensions i + ranks i)
    (λ i. sym (ranks-lists p code n lists i field are))
    ∙ alternating-add n dimensions ranks in
    sym (whole ∙ ap (λ (s : ℤ). alternating n dimensions +ℤ s) cancels ∙ omega (arith, ints)) ∙ alternating-reduced code mark j is name

-- reduced quantum degrees are at most EXPONENT in size, since a generator with a v- has a degree below the greatest

-- a sum of at most c circles, one of them with v-, and at most n crossings that have their 1-smoothing, and the signs of n crossings
sum-within : (n c o r plus minus most : ℕ) → 1 ≤ o → o ≤ c → r ≤ n → plus ≤ n → minus ≡ n - plus → c + 2 * n ≤ most
    → IsWithin most ((pos c -ℤ pos (2 * o)) +ℤ (pos (r + plus) -ℤ pos (2 * minus)) +ℤ pos 1)
sum-within n c o r plus minus most some few low signs rest fits =
    IsWithin-place most (c + (r + plus) + most + 1 - (2 * o + 2 * minus))
    ((pos c -ℤ pos (2 * o)) +ℤ (pos (r + plus) -ℤ pos (2 * minus)) +ℤ pos 1) (omega arith) (omega (arith, ints))

reduced-within : (code : Code) (mark : ℕ) (generator : Generator) → IsTrue (accepted code) → length code.crossings ≤ CROSSINGS
    → IsName code mark → is_reduced code mark generator ≡ true → IsWithin EXPONENT (quantum_degree code generator +ℤ pos 1)
reduced-within code mark generator is few name reduced =
    let count = circle_count code generator.state in
    let minus : label_of code generator mark ≡ 1 = eqb-true (label_of code generator mark) 1 reduced in
    sum-within (length code.crossings) count (ones count generator.label) (one_count code generator.state)
    (plus_count code.crossings) (minus_count code.crossings) EXPONENT
    (ones-positive count generator.label (circle_number code generator.state mark) (number-below code mark generator.state is name) minus)
    (ones-le count generator.label) (one_count-le code generator.state) (plus_count-le code.crossings) refl
    (omega (arith, few, circle_count-within code generator.state ((IsAccepted-is code).0 is) few))

pub reduced-outside : (code : Code) (mark : ℕ) (i j : ℤ) → IsTrue (accepted code) → length code.crossings ≤ CROSSINGS
    → IsName code mark → (IsWithin EXPONENT j → ⊥) → reduced_generators code mark i j ≡ []
reduced-outside code mark i j is few name outside =
    let all = generators_at code i (j -ℤ pos 1) in
    let HasBoth : Generator → Type 0 = λ g. (quantum_degree code g ≡ j -ℤ pos 1) × (is_reduced code mark g ≡ true) in
    let degrees = All-filter (is_reduced code mark) (λ g. (homological_degree code g ≡ i) × (quantum_degree code g ≡ j -ℤ pos 1)) all
    (generators_at-degrees code i (j -ℤ pos 1)) in
    let tests = filter_passes (is_reduced code mark) all in
    let both : All HasBoth (reduced_generators code mark i j) =
    λ k d below. ((degrees k d below).1, tests k d below) in
    elim (cases_lt 0 (length (reduced_generators code mark i j))) [
      | inl some ↦
          let found = All-some HasBoth (reduced_generators code mark i j) both some in
          let up : quantum_degree code found.0 +ℤ pos 1 ≡ j = omega (arith, ints, found.1.0) in
          absurd (outside (subst (λ (x : ℤ). IsWithin EXPONENT x) up (reduced-within code mark found.0 is few name found.1.1)))
      | inr none ↦ nil_from_length (reduced_generators code mark i j) (omega arith)
    ]

-- so the coefficient of a reduced table at any degree is the alternating sum of the dimensions there
euler-reduced : (p : ℕ) (code : Code) (mark : ℕ) (e : ℤ) → IsField p → IsTrue (accepted code) → length code.crossings ≤ CROSSINGS
    → IsName code mark → euler (reduced_table p code mark) e ≡ int_sum (map (reduced_term code e) (states code))
euler-reduced p code mark e field is few name =
    let n = length code.crossings in
    let dims : ℤ → ℤ → ℕ = λ i j. reduced_dimension p code mark i j in
    euler-rows p EXPONENT n dims e
    (λ outside.
    alternating-alike n (λ i. dims i e) (λ i. 0)
    (λ i. omega (arith, ap length (reduced-outside code mark i e is few name outside)))
    ∙ int_sum-alike (λ i. signed_by i 0) (λ i. pos 0) signed_by-zero (from_minus n) ∙ int_sum-zeros (from_minus n))
    ∙ alternating-dimensions p code mark e field is name

-- state by state: (q + q^-1) more
term-product : (code : Code) (mark : ℕ) (e : ℤ) (state : ℕ) → IsTrue (accepted code) → IsName code mark
    → reduced_term code (e -ℤ pos 1) state +ℤ reduced_term code (e +ℤ pos 1) state ≡ state_term code e state
term-product code mark e state is name =
    let degree = degree_of_state code state in
    let k = circle_count code state - 1 in
    let part = label_part code e state in
    let whole : suc k ≡ circle_count code state = omega (arith, number-below code mark state is name) in
    let down : label_part code (e -ℤ pos 1 -ℤ pos 1) state +ℤ pos 1 ≡ part -ℤ pos 1 = omega (arith, ints) in
    let up : label_part code (e +ℤ pos 1 -ℤ pos 1) state +ℤ pos 1 ≡ part +ℤ pos 1 = omega (arith, ints) in
    sym (signed_by-add degree (reduced_count code (e -ℤ pos 1) state) (reduced_count code (e +ℤ pos 1) state))
    ∙ ap₂ (λ (x y : ℤ). signed_by degree (circle_coefficient k x + circle_coefficient k y)) down up
    ∙ ap (λ (c : ℕ). signed_by degree (circle_coefficient c part)) whole

pub euler-product : (p : ℕ) (code : Code) (mark : ℕ) (e : ℤ) → IsField p → IsTrue (accepted code) → length code.crossings ≤ CROSSINGS
    → IsName code mark
    → euler (reduced_table p code mark) (e -ℤ pos 1) +ℤ euler (reduced_table p code mark) (e +ℤ pos 1) ≡ state_sum code e
euler-product p code mark e field is few name =
    ap₂ (λ (x y : ℤ). x +ℤ y) (euler-reduced p code mark (e -ℤ pos 1) field is few name)
    (euler-reduced p code mark (e +ℤ pos 1) field is few name)
    ∙ sym (int_sum-add (reduced_term code (e -ℤ pos 1)) (reduced_term code (e +ℤ pos 1)) (states code))
    ∙ int_sum-alike (λ state. reduced_term code (e -ℤ pos 1) state +ℤ reduced_term code (e +ℤ pos 1) state) (state_term code e)
    (λ state. term-product code mark e state is name) (states code)
