-- The generators of two degrees, counted state by state, and that their alternating sum is the state sum.
use Rattle.std.proofs.Common.{◌≡◌, ℕ, ◌+◌, ◌*◌, ◌^◌, ◌∙◌, ℤ, pos, ◌+ℤ◌, ◌-ℤ◌, List, sym, refl, length, ap, Bool, true, false, cond, ◌&&◌}
use Rattle.std.specs.List.{sum_by, count_by, range_with_len}
use Rattle.std.specs.Ordering.{int_eq}
use Rattle.std.proofs.lemmas.Bool.Decides.{Decides-int_eq}
use Rattle.std.proofs.lemmas.List.Sums.{length-filter}
use Rattle.kh_types.specs.Code.{Code}
use Rattle.kh_types.specs.Directions.{plus_count, minus_count}
use Rattle.kh_types.specs.Circles.{circle_count}
use Rattle.kh_types.specs.Generators.{generator_of, generators, generators_at, generators_of, has_degrees, one_count, states}
use Rattle.kh_types.specs.StateSum.{circle_coefficient, signed_by, state_sum, state_term}
use Rattle.kh_types.proofs.QuantumDegrees.{homological_degree-within}
use Rattle.kh_types.proofs.ListSums.{sum_by-alike, sum_by-flat_map, sum_by-map, sum_by-zeros}
use Rattle.kh_types.proofs.AlternatingSums.{alternating, alternating-alike, alternating-sum, signed_by-zero}
use Rattle.kh_types.proofs.IntSums.{int_sum-alike, int_sum-within}
use Rattle.kh_types.proofs.LabelDegrees.{degree_of_label, labels_with-is, degree_of_state, label_part, shifted-test}
use Rattle.kh_types.proofs.Integers.{int_eq-other}

-- how many labels of a state give the degree j
abbrev label_count : Code → ℤ → ℕ → ℕ
label_count code j state = circle_coefficient (circle_count code state) (label_part code j state)

-- how many generators of a state have the degrees i and j
abbrev state_count : Code → ℤ → ℕ → ℤ → ℕ
state_count code j state i = cond (int_eq (degree_of_state code state) i) (label_count code j state) 0

count_by-and : {X : Type 0} (b : Bool) (p : X → Bool) (xs : List X) → count_by (λ x. b && p x) xs ≡ cond b (count_by p xs) 0
count_by-and true p xs = refl
count_by-and false p xs = sum_by-zeros (λ x. 0) xs (λ x. refl)

count-state : (code : Code) (i j : ℤ) (state : ℕ)
    → count_by (has_degrees code i j) (generators_of code state) ≡ state_count code j state i
count-state code i j state =
    let circles = circle_count code state in
    let test = int_eq (degree_of_state code state) i in
    let shift = one_count code state + plus_count code.crossings in
    let twice = 2 * minus_count code.crossings in
    let labels = range_with_len 0 (2 ^ circles) in
    sum_by-map (λ generator. cond (has_degrees code i j generator) 1 0) (generator_of state) labels
    ∙ count_by-and test (λ label. int_eq (degree_of_label circles label +ℤ (pos shift -ℤ pos twice)) j) labels
    ∙ ap (λ (k : ℕ). cond test k 0)
    (sum_by-alike (λ label. cond (int_eq (degree_of_label circles label +ℤ (pos shift -ℤ pos twice)) j) 1 0)
    (λ label. cond (int_eq (degree_of_label circles label) (label_part code j state)) 1 0)
    (λ label. ap (λ b. cond b 1 0) (shifted-test (degree_of_label circles label) j shift twice)) labels
    ∙ labels_with-is circles (label_part code j state))

length-generators_at : (code : Code) (i j : ℤ)
    → length (generators_at code i j) ≡ sum_by (λ state. state_count code j state i) (states code)
length-generators_at code i j =
    length-filter (has_degrees code i j) (generators code)
    ∙ sum_by-flat_map (λ generator. cond (has_degrees code i j generator) 1 0) (generators_of code) (states code)
    ∙ sum_by-alike (λ state. count_by (has_degrees code i j) (generators_of code state)) (λ state. state_count code j state i)
    (count-state code i j) (states code)

-- the generators of a state add its term
alternating-state : (code : Code) (j : ℤ) (state : ℕ)
    → alternating (length code.crossings) (state_count code j state) ≡ state_term code j state
alternating-state code j state =
    let degree = degree_of_state code state in
    let value = label_count code j state in
    int_sum-within (λ i. signed_by i (cond (int_eq degree i) value 0)) (length code.crossings) degree
    (homological_degree-within code (generator_of state 0))
    (λ i other. ap (λ b. signed_by i (cond b value 0)) (int_eq-other degree i (λ same. other (sym same))) ∙ signed_by-zero i)
    ∙ ap (λ b. signed_by degree (cond b value 0)) ((Decides-int_eq degree degree).1 refl)

pub alternating-generators : (code : Code) (j : ℤ)
    → alternating (length code.crossings) (λ i. length (generators_at code i j)) ≡ state_sum code j
alternating-generators code j =
    let n = length code.crossings in
    alternating-alike n (λ i. length (generators_at code i j)) (λ i. sum_by (λ state. state_count code j state i) (states code))
    (λ i. length-generators_at code i j)
    ∙ alternating-sum n (state_count code j) (states code)
    ∙ int_sum-alike (λ state. alternating n (state_count code j state)) (state_term code j) (alternating-state code j) (states code)
