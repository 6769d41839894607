-- The labels by their numbers of v-, listed once for a cube. The loop over all labels adds each to the list of its weight. A state has
-- no more circles than the lists have, and the weight of a label is the same on more circles; so those of its labels that have a weight
-- are the labels of the list that are below the number of its labels. The list ascends, so they are the first of the list.
use Rattle.std.proofs.lemmas.Bool.Decides.{nat_tests}
use Rattle.std.proofs.Common.{◌≡◌, ℕ, zero, suc, ◌+◌, ◌-◌, ◌^◌, ◌<◌, ◌≤◌, ◌∙◌, ◌⊎◌, inl, inr, List, [], ◌∷◌, ◌++◌, length, get_or, map, take, set, replicate, refl, sym, ap, ap₂, subst, arith, Bool, true, false, cond, ◌&&◌, Option}
use Rattle.std.specs.Prelude.{nat_eq, nat_lt, slice_index, slice_index_or}
use Rattle.std.specs.Global.{Vec}
use Rattle.std.specs.List.{All, filter, range_with_len}
use Rattle.std.specs.List.Sorted.{IsNonDecreasing}
use Rattle.std.proofs.Math.Bool.{and-false, and-true}
use Rattle.std.proofs.Math.Pow.{pow_mono}
use Rattle.std.proofs.lemmas.Bool.{cases_eq, eq-eqb, le-ltb, lt-ltb, ne_eqb}
use Rattle.std.proofs.lemmas.List.{append-nil, get_or-replicate, get_or-set_other, get_or-set_same, length-map, length-replicate, length-set, map-set}
use Rattle.std.proofs.lemmas.List.Elements.{All-filter, filter-append}
use Rattle.std.proofs.lemmas.List.FromFn.{fill_by_all, get_or-map-range_with_len, get_or-range_with_len, length-map-range_with_len, length-range_with_len}
use Rattle.std.proofs.lemmas.List.Sorted.{IsNonDecreasingBy-push, IsNonDecreasingBy-short}
use Rattle.arrayvec.specs.ArrayVec.{ArrayVec}
use Rattle.kh_types.specs.Circles.{circle_count}
use Rattle.kh_types.specs.Code.{Code}
use Rattle.kh_types.proofs.FilteredRanges.{filter-filter, filter-none}
use Rattle.kh_types.proofs.Lists.{filter-range_agree}
use Rattle.kh_types.proofs.QuantumDegrees.{ones-le}
use Rattle.kh_types.proofs.Ranges.{filter-range_more, range-append}
use Rattle.circle_smoothing.specs.declared.change.Edge.{Edge}
use Rattle.sparse_block.specs.Inside.{lists_in}
use Rattle.sparse_block.proofs.LineLemmas.{list-lists_in}
use Rattle.cube_signs.specs.LabelRanks.{labels_by_weight, labels_of, labels_with, weights_of}
use Rattle.cube_signs.specs.Tables.{AreLabels, AreTables}
use Rattle.cube_signs.specs.declared.shape.Shape.{Shape}
use Rattle.cube_signs.proofs.LabelPlaces.{length-weights, weight-at}

-- the first elements of a list, where they pass a test and the others do not
pub first-passing : (p : ℕ → Bool) (xs : List ℕ) (i : ℕ) → ((k d : ℕ) → k < i → k < length xs → p (get_or xs k d) ≡ true)
    → ((k d : ℕ) → i ≤ k → k < length xs → p (get_or xs k d) ≡ false) → take i xs ≡ filter p xs
first-passing p [] zero pass fail = refl
first-passing p [] (suc i) pass fail = refl
first-passing p (x ∷ xs) zero pass fail =
    first-passing p xs zero (λ k d before within. absurd (omega (arith, before)))
    (λ k d from within. fail (suc k) d (omega arith) (omega (arith, within)))
    ∙ sym (ap (λ b. cond b (x ∷ filter p xs) (filter p xs)) (fail 0 x (omega arith) (omega arith)))
first-passing p (x ∷ xs) (suc i) pass fail =
    ap (λ (ys : List ℕ). x ∷ ys) (first-passing p xs i
    (λ k d before within. pass (suc k) d (omega (arith, before)) (omega (arith, within)))
    (λ k d from within. fail (suc k) d (omega (arith, from)) (omega (arith, within))))
    ∙ sym (ap (λ b. cond b (x ∷ filter p xs) (filter p xs)) (pass 0 x (omega arith) (omega arith)))

-- what passes a test among the first numbers is what passes it among more and is below the number of the first
filter-below : (p : ℕ → Bool) (few many : ℕ) → few ≤ many
    → filter (λ x. nat_lt x few) (filter p (range_with_len 0 many)) ≡ filter p (range_with_len 0 few)
filter-below p few many within =
    let q : ℕ → Bool = λ x. p x && nat_lt x few in
    let front = range_with_len 0 few in
    let back = range_with_len few (many - few) in
    let cut : many ≡ few + (many - few) = omega (arith, within) in
    let start : 0 + few ≡ few = omega arith in
    filter-filter p (λ x. nat_lt x few) (range_with_len 0 many) ∙ ap (λ n. filter q (range_with_len 0 n)) cut
    ∙ ap (λ (xs : List ℕ). filter q xs)
    (range-append 0 few (many - few) ∙ ap (λ n. front ++ range_with_len n (many - few)) start)
    ∙ filter-append q front back
    ∙ ap₂ (λ (xs ys : List ℕ). xs ++ ys)
    (filter-range_agree q p 0 few (λ x from below. ap (λ b. p x && b) (lt-ltb x few (omega (arith, below))) ∙ and-true (p x)))
    (filter-none q few (many - few) (λ x from below. ap (λ b. p x && b) (le-ltb x few from) ∙ and-false (p x)))
    ∙ append-nil (filter p front)

-- a list that ascends does so with a greater number at its end
pushed : (b : Bool) (xs : List ℕ) (n : ℕ) → IsNonDecreasing xs → All (λ x. x < n) xs → IsNonDecreasing (xs ++ cond b (n ∷ []) [])
pushed true xs n ascending below =
    IsNonDecreasingBy-push (λ x. x) xs n ascending
    (λ d some. omega (arith, below (length xs - 1) d (omega (arith, some))))
pushed false xs n ascending below = subst IsNonDecreasing (sym (append-nil xs)) ascending

-- what passes a test among the first numbers ascends
filter-ascends : (p : ℕ → Bool) (n : ℕ) → IsNonDecreasing (filter p (range_with_len 0 n))
filter-ascends p zero = IsNonDecreasingBy-short (λ x. x) [] (omega arith)
filter-ascends p (suc n) =
    let below : All (λ x. x < n) (range_with_len 0 n) =
    λ k d inside.
    let few : k < n = omega (arith, inside, length-range_with_len 0 n) in
    omega (arith, few, get_or-range_with_len 0 n k d few) in
    let e : suc n ≡ n + 1 = omega arith in
    subst IsNonDecreasing (sym (ap (λ k. filter p (range_with_len 0 k)) e ∙ filter-range_more p 0 n n (omega arith)))
    (pushed (p n) (filter p (range_with_len 0 n)) n (filter-ascends p n) (All-filter p (λ x. x < n) (range_with_len 0 n) below))

-- so do the labels with a weight
pub labels-ascend : (code : Code) (weight : ℕ) (labels : List ℕ) → AreLabels code weight labels → IsNonDecreasing labels
labels-ascend code weight labels are =
    subst IsNonDecreasing (sym are.are)
    (filter-ascends (λ label. nat_eq (slice_index (weights_of are.width) label) weight) (2 ^ are.width))

-- the lists of the labels below a number, by their weights below another
abbrev pub lists_below : List ℕ → ℕ → ℕ → List (List ℕ)
lists_below weights count end = map (λ weight. labels_with weights weight end) (range_with_len 0 count)

-- they are empty at first
pub lists-none : (weights : List ℕ) (count : ℕ) (lists : List (List ℕ)) → lists ≡ replicate count [] → lists ≡ lists_below weights count 0
lists-none weights count lists are =
    fill_by_all (λ weight. labels_with weights weight 0) lists count [] (ap length are ∙ length-replicate {A = List ℕ} count [])
    (λ k below. ap (λ (xs : List (List ℕ)). get_or xs k []) are ∙ get_or-replicate count k [] [] below)

-- one label more, in the list of its weight
pub lists-more : (weights : List ℕ) (count label weight : ℕ) (lists next : List (List ℕ)) → lists ≡ lists_below weights count label
    → weight ≡ slice_index weights label → weight < count
    → next ≡ set lists weight (slice_index_or lists weight [] ++ label ∷ []) → next ≡ lists_below weights count (label + 1)
lists-more weights count label weight lists next are is_weight small is_next =
    let size : length lists ≡ count = ap length are ∙ length-map-range_with_len (λ k. labels_with weights k label) 0 count in
    fill_by_all (λ k. labels_with weights k (label + 1)) next count []
    (ap length is_next ∙ length-set lists weight (slice_index_or lists weight [] ++ label ∷ []) ∙ size)
    (λ k below.
    let old : get_or lists k [] ≡ labels_with weights k label =
    ap (λ (xs : List (List ℕ)). get_or xs k []) are
    ∙ get_or-map-range_with_len (λ k. labels_with weights k label) 0 count k k [] below (omega arith) in
    ap (λ (xs : List (List ℕ)). get_or xs k []) is_next
    ∙ at k old (cases_eq k weight)
    ∙ sym (filter-range_more (λ l. nat_eq (slice_index weights l) k) 0 label label (omega arith)))
  where
    at : (k : ℕ) → get_or lists k [] ≡ labels_with weights k label → (k ≡ weight) ⊎ (k ≡ weight → ⊥)
        → get_or (set lists weight (slice_index_or lists weight [] ++ label ∷ [])) k []
        ≡ labels_with weights k label ++ cond (nat_eq (slice_index weights label) k) (label ∷ []) []
    at k old (inl same) =
        let within : weight < length lists =
        omega (arith, small, ap length are, length-map-range_with_len (λ k. labels_with weights k label) 0 count) in
        ap (λ j. get_or (set lists weight (slice_index_or lists weight [] ++ label ∷ [])) j []) same
        ∙ get_or-set_same lists weight (slice_index_or lists weight [] ++ label ∷ []) [] within
        ∙ ap (λ (xs : List ℕ). xs ++ label ∷ []) (sym (ap (λ j. get_or lists j []) same) ∙ old)
        ∙ sym (ap (λ b. labels_with weights k label ++ cond b (label ∷ []) [])
        (eq-eqb (slice_index weights label) k (sym is_weight ∙ sym same)))
    at k old (inr other) =
        get_or-set_other lists weight k (slice_index_or lists weight [] ++ label ∷ []) [] other ∙ old
        ∙ sym (append-nil (labels_with weights k label))
        ∙ sym (ap (λ b. labels_with weights k label ++ cond b (label ∷ []) [])
        (ne_eqb (slice_index weights label) k (λ same. other (sym same ∙ sym is_weight))))

-- all labels
pub lists-all : (circles : ℕ) (weights : List ℕ) (label : ℕ) (lists : List (List ℕ)) → weights ≡ weights_of circles
    → lists ≡ lists_below weights (circles + 1) label → label ≡ length weights → lists ≡ labels_by_weight circles
lists-all circles weights label lists is are all =
    are
    ∙ ap₂ (λ (ws : List ℕ) (end : ℕ). lists_below ws (circles + 1) end) is (all ∙ length-weights circles weights is)

-- there are as many lists as weights
pub length-lists : (vectors : List (Vec ℕ)) (f : ℕ → List ℕ) (count : ℕ) → lists_in vectors ≡ map f (range_with_len 0 count)
    → length vectors ≡ count
length-lists vectors f count are =
    sym (length-map vectors (λ (vector : Vec ℕ). vector.items)) ∙ ap length are ∙ length-map-range_with_len f 0 count

-- a label has no more v- than circles
weight-le : (circles label : ℕ) → label < 2 ^ circles → slice_index (weights_of circles) label ≤ circles
weight-le circles label below =
    omega (arith, weight-at circles circles label (weights_of circles) refl (omega arith) below, ones-le circles label)

-- so there is a list of its weight
pub weight-small : (circles label : ℕ) (weights : List ℕ) → weights ≡ weights_of circles → label < length weights
    → slice_index weights label < circles + 1
weight-small circles label weights is within =
    omega (
      arith,
      ap (λ ws. slice_index ws label) is,
      weight-le circles label (omega (arith, within, length-weights circles weights is)),
    )

-- a label is put at the end of a list
pub lists_in-pushed : (vectors : List (Vec ℕ)) (k : ℕ) (old new : Vec ℕ) (x : ℕ) → k < length vectors → old ≡ get_or vectors k old
    → new.items ≡ old.items ++ x ∷ []
    → lists_in (set vectors k new) ≡ set (lists_in vectors) k (slice_index_or (lists_in vectors) k [] ++ x ∷ [])
lists_in-pushed vectors k old new x within is_old is_new = grind (arith, nat_tests, map-set, list-lists_in)

-- the list of a weight in the tables of a cube
pub AreLabels-at : (code : Code) (minus : ℕ) (shapes : List Shape) (rows : List (ArrayVec (Option Edge))) (vectors : List (Vec ℕ))
    (ranks : List ℕ) (levels : List (List ℕ)) (one : Vec ℕ) (weight : ℕ)
    → AreTables code minus shapes rows (lists_in vectors) ranks levels → weight < length vectors → one ≡ get_or vectors weight one
    → AreLabels code weight one.items
AreLabels-at code minus shapes rows vectors ranks levels one weight tables within is =
    let size : length vectors ≡ tables.width + 1 =
    length-lists vectors (labels_of tables.width) (tables.width + 1) tables.are_labels in
    record {
      width = tables.width;
      most = tables.most;
      are = sym (list-lists_in vectors weight one within is)
          ∙ ap (λ (xs : List (List ℕ)). slice_index_or xs weight []) tables.are_labels
          ∙ get_or-map-range_with_len (labels_of tables.width) 0 (tables.width + 1) weight weight [] (omega (arith, within, size))
          (omega arith);
    }

-- no label has a weight that is past them
pub AreLabels-past : (code : Code) (minus : ℕ) (shapes : List Shape) (rows : List (ArrayVec (Option Edge))) (vectors : List (Vec ℕ))
    (ranks : List ℕ) (levels : List (List ℕ)) (weight : ℕ)
    → AreTables code minus shapes rows (lists_in vectors) ranks levels → length vectors ≤ weight → AreLabels code weight []
AreLabels-past code minus shapes rows vectors ranks levels weight tables past =
    let size : length vectors ≡ tables.width + 1 =
    length-lists vectors (labels_of tables.width) (tables.width + 1) tables.are_labels in
    record {
      width = tables.width;
      most = tables.most;
      are = sym (filter-none (λ label. nat_eq (slice_index (weights_of tables.width) label) weight) 0 (2 ^ tables.width)
          (λ label from below.
          ne_eqb (slice_index (weights_of tables.width) label) weight
          (λ same. omega (arith, same, weight-le tables.width label (omega (arith, below)), size, past))));
    }

-- those below the number of labels of a state are its labels with the weight
pub first-labels : (code : Code) (state weight circles : ℕ) (labels : List ℕ) (are : AreLabels code weight labels)
    → state < 2 ^ length code.crossings → circles ≡ circle_count code state
    → filter (λ label. nat_lt label (2 ^ circles)) labels ≡ labels_with (weights_of are.width) weight (2 ^ circles)
first-labels code state weight circles labels are below is =
    let few : circles ≤ are.width = omega (arith, is, are.most state below) in
    ap (λ (xs : List ℕ). filter (λ label. nat_lt label (2 ^ circles)) xs) are.are
    ∙ filter-below (λ label. nat_eq (slice_index (weights_of are.width) label) weight) (2 ^ circles) (2 ^ are.width) (pow_mono few)
