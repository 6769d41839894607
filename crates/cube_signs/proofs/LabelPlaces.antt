-- The labels of a state that have two degrees, by their numbers of v-. A label has both degrees where its state has the
-- homological one and its number of v- gives the quantum one; so beside such a label, just those with as many v- have the
-- degrees. The table of weights has the number of v- of each label, for any number of circles up to its width, since the bits
-- past a label's own circles are 0. So the labels with the weight that gives a degree are those that have it, and the rank of a
-- label among those with its degrees is how many lesser labels have its weight. This is what the table of ranks has, and its
-- numbers are small.
use Rattle.std.proofs.lemmas.Bool.Decides.{nat_tests}
use Rattle.std.proofs.Common.{◌≡◌, ℕ, zero, suc, ◌+◌, ◌-◌, ◌*◌, ◌^◌, ◌<◌, ◌≤◌, ◌∙◌, ℤ, pos, ◌-ℤ◌, List, [], ◌∷◌, ◌++◌, length, get_or, map, take, refl, sym, ap, ap₂, subst, arith, Bool, true, false, cond, Option}
use Rattle.std.specs.Prelude.{nat_eq, slice_index, ◌&&◌}
use Rattle.std.specs.List.{All, count_by, filter, range_with_len}
use Rattle.std.specs.Ordering.{int_eq}
use Rattle.std.proofs.Math.Pow.{pow_mono}
use Rattle.std.proofs.lemmas.Bool.{and_parts}
use Rattle.std.proofs.lemmas.List.{take_more, length-take-le}
use Rattle.std.proofs.lemmas.List.Elements.{All-map}
use Rattle.std.proofs.lemmas.List.FromFn.{get_or-map-range_with_len, get_or-range_with_len, length-map-range_with_len, length-range_with_len}
use Rattle.std.proofs.lemmas.List.Sums.{count_by-le-length, length-filter}
use Rattle.arrayvec.specs.ArrayVec.{ArrayVec}
use Rattle.kh_types.specs.Bits.{ones}
use Rattle.kh_types.specs.Circles.{circle_count}
use Rattle.kh_types.specs.Code.{Code}
use Rattle.kh_types.specs.Directions.{minus_count}
use Rattle.kh_types.specs.Generators.{generator_of, homological_degree, one_count}
use Rattle.kh_types.proofs.BitLemmas.{bit-past, ones-more}
use Rattle.kh_types.proofs.Lists.{count_by-map, filter-range_agree}
use Rattle.kh_types.proofs.Ranges.{map_from_zero}
use Rattle.circle_smoothing.specs.declared.change.Edge.{Edge}
use Rattle.cube_signs.specs.LabelRanks.{labels_with, same_before, weights_of}
use Rattle.cube_signs.specs.Shapes.{gives_degree, is_given, shape_of}
use Rattle.cube_signs.specs.Tables.{state_generators, AreRanks, AreTables}
use Rattle.cube_signs.specs.declared.shape.Shape.{Shape}
use Rattle.cube_signs.proofs.GeneratorPlaces.{is_label, labels_at, state_generators-labels}
use Rattle.cube_signs.proofs.ShapeLemmas.{quantum_degree-label}

-- a label has as many v- on more circles
ones-wider : (count more label : ℕ) → label < 2 ^ count → ones (count + more) label ≡ ones count label
ones-wider count zero label below = let e : count + zero ≡ count = omega arith in ap (λ n. ones n label) e
ones-wider count (suc more) label below =
    let e : count + suc more ≡ count + more + 1 = omega arith in
    ap (λ n. ones n label) e
    ∙ omega (
      arith,
      ones-more (count + more) label,
      ones-wider count more label below,
      bit-past label (count + more) count below (omega arith),
    )

-- the weight of a label in the table
pub weight-at : (width count label : ℕ) (weights : List ℕ) → weights ≡ weights_of width → count ≤ width → label < 2 ^ count
    → slice_index weights label ≡ ones count label
weight-at width count label weights is few below =
    let power : 2 ^ count ≤ 2 ^ width = pow_mono few in
    let e : width ≡ count + (width - count) = omega arith in
    ap (λ ws. slice_index ws label) is
    ∙ get_or-map-range_with_len (ones width) 0 (2 ^ width) label label 0 (omega arith) (omega arith)
    ∙ ap (λ n. ones n label) e ∙ ones-wider count (width - count) label below

pub length-weights : (width : ℕ) (weights : List ℕ) → weights ≡ weights_of width → length weights ≡ 2 ^ width
length-weights width weights is = ap length is ∙ length-map-range_with_len (ones width) 0 (2 ^ width)

-- the first elements of a list, by their places
take-places : (n : ℕ) (xs : List ℕ) → n ≤ length xs → take n xs ≡ map (slice_index xs) (range_with_len 0 n)
take-places zero xs within = refl
take-places (suc n) xs within =
    let e : suc n ≡ n + 1 = omega arith in
    ap (λ k. take k xs) e ∙ take_more xs n 0 (omega arith)
    ∙ ap (λ ys. ys ++ get_or xs n 0 ∷ []) (take-places n xs (omega arith))
    ∙ sym (map_from_zero (slice_index xs) n) ∙ ap (λ k. map (slice_index xs) (range_with_len 0 k)) (sym e)

-- so those that pass a test are counted by the places
pub count_by-take : (p : ℕ → Bool) (n : ℕ) (xs : List ℕ) → n ≤ length xs
    → count_by p (take n xs) ≡ length (filter (λ k. p (slice_index xs k)) (range_with_len 0 n))
count_by-take p n xs within = grind (arith, nat_tests, take-places, count_by-map, length-filter)

-- a label has the degrees where its state has the one and its number of v- gives the other

pub is_label-shape : (code : Code) (i j : ℤ) (state label : ℕ)
    → is_label code i j state label
    ≡ (int_eq (pos (one_count code state) -ℤ pos (minus_count code.crossings)) i
    && gives_degree (shape_of code state) j (ones (circle_count code state) label))
is_label-shape code i j state label =
    ap (λ (d : ℤ). int_eq (homological_degree code (generator_of state label)) i && int_eq d j) (quantum_degree-label code state label)

-- by what gives the degree j
pub is_label-given : (code : Code) (i j : ℤ) (state label : ℕ) (given : Option ℕ)
    → int_eq (pos (one_count code state) -ℤ pos (minus_count code.crossings)) i ≡ true
    → ((count : ℕ) → gives_degree (shape_of code state) j count ≡ is_given given count)
    → is_label code i j state label ≡ is_given given (ones (circle_count code state) label)
is_label-given code i j state label given is gives =
    is_label-shape code i j state label
    ∙ ap (λ b. b && gives_degree (shape_of code state) j (ones (circle_count code state) label)) is
    ∙ gives (ones (circle_count code state) label)

pub is_label-none : (code : Code) (i j : ℤ) (state label : ℕ)
    → int_eq (pos (one_count code state) -ℤ pos (minus_count code.crossings)) i ≡ false → is_label code i j state label ≡ false
is_label-none code i j state label isnt = grind (arith, nat_tests)

-- beside a label that has the degrees, those with as many v- have them
one_count-of : (top j : ℤ) (a b : ℕ) → int_eq (top -ℤ pos (2 * a)) j ≡ true → int_eq (top -ℤ pos (2 * b)) j ≡ nat_eq a b
one_count-of top j a b is = grind (arith, nat_tests)

pub is_label-beside : (code : Code) (i j : ℤ) (state label other : ℕ) → is_label code i j state label ≡ true
    → is_label code i j state other
    ≡ nat_eq (ones (circle_count code state) label) (ones (circle_count code state) other)
is_label-beside code i j state label other passes =
    let count = circle_count code state in
    let shape = shape_of code state in
    let first = int_eq (pos (one_count code state) -ℤ pos (minus_count code.crossings)) i in
    let both = and_parts first (gives_degree shape j (ones count label)) (sym (is_label-shape code i j state label) ∙ passes) in
    is_label-shape code i j state other ∙ ap (λ b. b && gives_degree shape j (ones count other)) both.0
    ∙ one_count-of shape.top j (ones count label) (ones count other) both.1

-- a list of weights has the number of v- of each label of a state
pub record AtState (code : Code) (state : ℕ) (weights : List ℕ) : Type 0 where
  pub wide : 2 ^ circle_count code state ≤ length weights
  pub weight : (label : ℕ) → label < 2 ^ circle_count code state → slice_index weights label ≡ ones (circle_count code state) label

-- the weights of the labels of at least as many circles
pub weights-state : (code : Code) (width state : ℕ) → circle_count code state ≤ width → AtState code state (weights_of width)
weights-state code width state few =
    let power : 2 ^ circle_count code state ≤ 2 ^ width = pow_mono few in
    record {
      wide = omega (arith, power, length-weights width (weights_of width) refl);
      weight = λ label small. weight-at width (circle_count code state) label (weights_of width) refl few small;
    }

-- the labels with the weight that gives the degree are those that have it
pub labels_with-given : (code : Code) (i j : ℤ) (state weight : ℕ) (weights : List ℕ) → AtState code state weights
    → ((label : ℕ) → is_label code i j state label ≡ nat_eq (ones (circle_count code state) label) weight)
    → labels_with weights weight (2 ^ circle_count code state) ≡ labels_at code i j state
labels_with-given code i j state weight weights at are =
    filter-range_agree (λ label. nat_eq (slice_index weights label) weight) (is_label code i j state) 0
    (2 ^ circle_count code state)
    (λ label from below. ap (λ n. nat_eq n weight) (at.weight label (omega arith)) ∙ sym (are label))

-- the rank of a label among those that have its degrees
pub rank-at : (code : Code) (i j : ℤ) (state label : ℕ) (weights : List ℕ) → AtState code state weights
    → label < 2 ^ circle_count code state → is_label code i j state label ≡ true
    → same_before weights label ≡ length (filter (is_label code i j state) (range_with_len 0 label))
rank-at code i j state label weights at below passes =
    let count = circle_count code state in
    count_by-take (nat_eq (slice_index weights label)) label weights (omega (arith, below, at.wide))
    ∙ ap length (filter-range_agree (λ k. nat_eq (slice_index weights label) (slice_index weights k)) (is_label code i j state) 0 label
    (λ k from before.
    ap₂ nat_eq (at.weight label below) (at.weight k (omega arith))
    ∙ sym (is_label-beside code i j state label k passes)))

-- no label has the degrees
pub state_generators-none : (code : Code) (i j : ℤ) (state : ℕ) → ((label : ℕ) → is_label code i j state label ≡ false)
    → state_generators code i j state ≡ []
state_generators-none code i j state none =
    state_generators-labels code i j state ∙ ap (map (generator_of state)) (nothing 0 (2 ^ circle_count code state))
  where
    nothing : (a n : ℕ) → filter (is_label code i j state) (range_with_len a n) ≡ []
    nothing a zero = refl
    nothing a (suc n) =
        ap (λ b. cond b (a ∷ filter (is_label code i j state) (range_with_len (a + 1) n))
        (filter (is_label code i j state) (range_with_len (a + 1) n))) (none a)
        ∙ nothing (a + 1) n

-- the ranks in the tables of a cube
pub AreRanks-tables : (code : Code) (minus : ℕ) (shapes : List Shape) (rows : List (ArrayVec (Option Edge))) (labels : List (List ℕ))
    (ranks : List ℕ) (levels : List (List ℕ)) → AreTables code minus shapes rows labels ranks levels → AreRanks code ranks
AreRanks-tables code minus shapes rows labels ranks levels are =
    let weights = weights_of are.width in
    record {
      each = λ i j state label state_below label_below passes.
          let at = weights-state code are.width state (are.most state state_below) in
          ap (λ xs. slice_index xs label) are.are_ranks
          ∙ get_or-map-range_with_len (same_before weights) 0 (length weights) label label 0 (omega (arith, label_below, at.wide))
          (omega arith)
          ∙ rank-at code i j state label weights at label_below passes;
    }

pub small-ranks : (code : Code) (minus : ℕ) (shapes : List Shape) (rows : List (ArrayVec (Option Edge))) (labels : List (List ℕ))
    (ranks : List ℕ) (levels : List (List ℕ)) → AreTables code minus shapes rows labels ranks levels → All (λ rank. rank < 2 ^ 28) ranks
small-ranks code minus shapes rows labels ranks levels are =
    let weights = weights_of are.width in
    subst (λ (ranks : List ℕ). All (λ rank. rank < 2 ^ 28) ranks) (sym are.are_ranks)
    (All-map (λ rank. rank < 2 ^ 28) (same_before weights) (range_with_len 0 (length weights))
    (λ k d within.
    let power : 2 ^ are.width ≤ 2 ^ 22 = pow_mono are.narrow in
    let below : k < length weights = omega (arith, within, length-range_with_len 0 (length weights)) in
    let at : get_or (range_with_len 0 (length weights)) k d ≡ k = get_or-range_with_len 0 (length weights) k d below ∙ omega arith in
    omega (
      arith,
      ap (same_before weights) at,
      count_by-le-length (nat_eq (slice_index weights k)) (take k weights),
      length-take-le k weights (omega arith),
      length-weights are.width weights refl,
      power,
      below,
    )))
