-- Where no label of a body is bad, each crossing has one over pass and one under pass.
--
-- A label that is not bad names a crossing and is new. So among the labels of a body no label stands twice, each names one of n crossings
-- with one of its two passes, and there are 2n of them: summed over the crossings, each of the 2n names of passes counts at most 1, and
-- together they count 2n, so each stands exactly once.
use Rattle.std.proofs.Common.{◌≡◌, ℕ, zero, suc, inl, inr, ◌+◌, ◌*◌, ◌/◌, ◌<◌, ◌≤◌, ◌∙◌, List, [], ◌∷◌, length, take, sym, ap, arith, Bool, true, false, cond, ℤ, pos, negsuc, neg_ℤ, nat_abs}
use Rattle.std.specs.Prelude.{nat_eq, nat_lt, ◌||◌, Option, Some, None}
use Rattle.std.specs.List.{find, list_any, sum_by, count_by, range_with_len, AllByRecursion}
use Rattle.std.specs.Ordering.{int_eq}
use Rattle.std.proofs.lemmas.Bool.{cases_Bool, cases_eq}
use Rattle.std.proofs.lemmas.Bool.Decides.{nat_tests, Decides-int_eq}
use Rattle.std.proofs.Math.Path.{fun_ext}
use Rattle.std.proofs.lemmas.List.{take_all}
use Rattle.std.proofs.lemmas.List.Elements.{All-from_get_or, recursion_from_All}
use Rattle.std.proofs.lemmas.List.Sums.{sum_by_more}
use Rattle.code_passes.specs.Labels.{listed_number, is_bad_label, bad_label}
use Rattle.code_passes.proofs.Sums.{value_if, only_at, sum-only, sum_by-ones, sum-at_most_two, each-two, count_by-none}
use Rattle.kh_types.proofs.ListSums.{sum_by-range_alike, sum_by-plus, sum_by-turned, sum_by-on}

-- a label names one of some crossings
abbrev pub Names : ℕ → ℤ → Type 0
Names crossings label = (1 ≤ nat_abs label) × (nat_abs label ≤ crossings)

-- the labels of the passes at the crossing at a place
abbrev pub over_at : ℕ → ℤ
over_at place = pos (place + 1)

abbrev pub under_at : ℕ → ℤ
under_at place = neg_ℤ (pos (place + 1))

-- a value for each label that names the crossing at a place
abbrev pub at_crossing : ℕ → ℤ → ℕ → ℕ
at_crossing value label place = value_if value (int_eq label (under_at place)) + value_if value (int_eq label (over_at place))

pub over_at-is : (place : ℕ) → over_at place ≡ pos (suc place)
over_at-is place = let e : place + 1 ≡ suc place = omega arith in ap pos e

pub under_at-is : (place : ℕ) → under_at place ≡ negsuc place
under_at-is place = let e : place + 1 ≡ suc place = omega arith in ap (λ n. neg_ℤ (pos n)) e

-- a label names one crossing, with one of its two passes
at_crossing-is : (value place : ℕ) (label : ℤ) → at_crossing value label place
    ≡ value_if value (int_eq label (negsuc place)) + value_if value (int_eq label (pos (suc place)))
at_crossing-is value place label = grind (arith, nat_tests)

at_crossing-over : (value size place : ℕ) → at_crossing value (pos (suc size)) place ≡ only_at size value place
at_crossing-over value size place = at_crossing-is value place (pos (suc size)) ∙ grind (arith, nat_tests)

at_crossing-under : (value size place : ℕ) → at_crossing value (negsuc size) place ≡ only_at size value place
at_crossing-under value size place = at_crossing-is value place (negsuc size) ∙ grind (arith, nat_tests)

at_crossing-one : (value crossings : ℕ) (label : ℤ) → Names crossings label
    → sum_by (at_crossing value label) (range_with_len 0 crossings) ≡ value
at_crossing-one value crossings (pos zero) names = absurd (omega (arith, names.0))
at_crossing-one value crossings (pos (suc size)) names =
    sum_by-range_alike (at_crossing value (pos (suc size))) (only_at size value) 0 crossings
    (λ place from below. at_crossing-over value size place)
    ∙ sum-only size value 0 crossings (omega arith) (omega (arith, names.1))
at_crossing-one value crossings (negsuc size) names =
    sum_by-range_alike (at_crossing value (negsuc size)) (only_at size value) 0 crossings
    (λ place from below. at_crossing-under value size place)
    ∙ sum-only size value 0 crossings (omega arith) (omega (arith, names.1))

-- the labels of some things, which name crossings: a sum over crossings of what has the label of either pass is the sum over all
pub sum-by_crossings : {X : Type 0} (entering_label : X → ℤ) (f : X → ℕ) (crossings : ℕ) (xs : List X)
    → AllByRecursion (λ x. Names crossings (entering_label x)) xs
    → sum_by (λ place. sum_by (λ x. at_crossing (f x) (entering_label x) place) xs) (range_with_len 0 crossings) ≡ sum_by f xs
sum-by_crossings {X} entering_label f crossings xs names =
    sum_by-turned (λ place x. at_crossing (f x) (entering_label x) place) (range_with_len 0 crossings) xs
    ∙ sum_by-on (λ x. sum_by (λ place. at_crossing (f x) (entering_label x) place) (range_with_len 0 crossings)) f xs (each xs names)
  where
    each : (ys : List X) → AllByRecursion (λ x. Names crossings (entering_label x)) ys
        → AllByRecursion (λ x. sum_by (λ place. at_crossing (f x) (entering_label x) place) (range_with_len 0 crossings) ≡ f x) ys
    each [] all = tt
    each (y ∷ ys) all = (at_crossing-one (f y) crossings (entering_label y) all.0, each ys all.1)

-- how often a label stands among others
abbrev pub stands : ℤ → List ℤ → ℕ
stands label labels = count_by (λ other. int_eq other label) labels

-- no bad label

pub find-none_at : (p : ℕ → Bool) (a n k : ℕ) → find p (range_with_len a n) ≡ None → a ≤ k → k < a + n → p k ≡ false
find-none_at p a zero k none from below = absurd (omega (arith, from, below))
find-none_at p a (suc n) k none from below = elim (cases_Bool (p a)) [
  | inl passes ↦ absurd (some_none a (find p (range_with_len (a + 1) n)) (p a) passes none)
  | inr fails ↦ elim (cases_eq a k) [
    | inl same ↦ ap p (sym same) ∙ fails
    | inr other ↦
        find-none_at p (a + 1) n k (sym (ap (λ b. cond b (Some a) (find p (range_with_len (a + 1) n))) fails) ∙ none)
        (omega (arith, from, other)) (omega (arith, below))
  ]
]
  where
    some_none : (x : ℕ) (later : Option ℕ) (b : Bool) → b ≡ true → cond b (Some x) later ≡ None → ⊥
    some_none x later b passes none = grind (arith, nat_tests)

-- a label that is not bad names a crossing, and is none of the earlier labels
good_at : (labels : List ℤ) (at : ℕ) → bad_label labels ≡ None → at < length labels
    → Names (length labels / 2) (listed_number labels at) × (list_any (int_eq (listed_number labels at)) (take at labels) ≡ false)
good_at labels at none below =
    let fails = find-none_at (is_bad_label labels) 0 (length labels) at none (omega arith) (omega (arith, below)) in
    good (length labels / 2) (nat_abs (listed_number labels at)) (list_any (int_eq (listed_number labels at)) (take at labels)) fails
  where
    good : (crossings size : ℕ) (earlier : Bool) → ((nat_eq size 0 || nat_lt crossings size) || earlier) ≡ false
        → ((1 ≤ size) × (size ≤ crossings)) × (earlier ≡ false)
    good crossings size earlier fails = grind (arith, nat_tests)

-- so a label stands at most once

int_eq-turned_labels : (x y : ℤ) → int_eq x y ≡ int_eq y x
int_eq-turned_labels x y = grind (arith, nat_tests)

pub stands-turned_labels : (label : ℤ) (labels : List ℤ) → count_by (int_eq label) labels ≡ stands label labels
stands-turned_labels label labels = ap (λ p. count_by p labels) (fun_ext (int_eq-turned_labels label))

stands-first : (label : ℤ) (labels : List ℤ) → bad_label labels ≡ None → (k : ℕ) → k ≤ length labels
    → stands label (take k labels) ≤ 1
stands-first label labels none zero within = omega arith
stands-first label labels none (suc k) within =
    let before = stands-first label labels none k (omega (arith, within)) in
    let last = listed_number labels k in
    let e : suc k ≡ k + 1 = omega arith in
    let more : stands label (take (suc k) labels) ≡ stands label (take k labels) + value_if 1 (int_eq last label) =
    ap (λ n. stands label (take n labels)) e
    ∙ sum_by_more (λ other. value_if 1 (int_eq other label)) labels k (pos 0) (omega (arith, within)) in
    elim (cases_Bool (int_eq last label)) [
      | inl same ↦
          let is : last ≡ label = (Decides-int_eq last label).0 same in
          let none_before : stands last (take k labels) ≡ 0 =
          sym (stands-turned_labels last (take k labels))
          ∙ count_by-none (int_eq last) (take k labels) (good_at labels k none (omega (arith, within))).1 in
          let one : value_if 1 (int_eq last label) ≡ 1 = ap (value_if 1) same in
          omega (arith, more, one, ap (λ x. stands x (take k labels)) (sym is) ∙ none_before)
      | inr other ↦
          let zero_more : value_if 1 (int_eq last label) ≡ 0 = ap (value_if 1) other in omega (arith, more, zero_more, before)
    ]

stands-le : (label : ℤ) (labels : List ℤ) → bad_label labels ≡ None → stands label labels ≤ 1
stands-le label labels none =
    grind (arith, nat_tests, stands-first label labels none (length labels) (omega arith), take_all (length labels) labels (omega arith))

-- each label names a crossing
pub labels-name : (labels : List ℤ) → bad_label labels ≡ None → AllByRecursion (Names (length labels / 2)) labels
labels-name labels none =
    recursion_from_All (Names (length labels / 2)) labels
    (All-from_get_or (Names (length labels / 2)) labels (pos 0) (λ at below. (good_at labels at none below).0))

-- how often the two labels of a crossing stand
abbrev both_stand : List ℤ → ℕ → ℕ
both_stand labels place = stands (under_at place) labels + stands (over_at place) labels

sum-both_stand : (labels : List ℤ) → bad_label labels ≡ None
    → sum_by (both_stand labels) (range_with_len 0 (length labels / 2)) ≡ length labels
sum-both_stand labels none =
    sum_by-range_alike (both_stand labels) (λ place. sum_by (λ label. at_crossing 1 label place) labels) 0 (length labels / 2)
    (λ place from below.
    sym (sum_by-plus (λ label. value_if 1 (int_eq label (under_at place))) (λ label. value_if 1 (int_eq label (over_at place))) labels))
    ∙ sum-by_crossings (λ label. label) (λ label. 1) (length labels / 2) labels (labels-name labels none)
    ∙ sum_by-ones labels

both_stand-le : (labels : List ℤ) → bad_label labels ≡ None → (place : ℕ) → both_stand labels place ≤ 2
both_stand-le labels none place = grind (arith, nat_tests, stands-le (over_at place) labels none, stands-le (under_at place) labels none)

-- there are two labels for each crossing
pub length-labels : (labels : List ℤ) → bad_label labels ≡ None → length labels ≡ 2 * (length labels / 2)
length-labels labels none =
    omega (
      arith,
      sum-both_stand labels none,
      sum-at_most_two (both_stand labels) 0 (length labels / 2) (λ place from below. both_stand-le labels none place),
    )

both_stand-is : (labels : List ℤ) → bad_label labels ≡ None → (place : ℕ) → place < length labels / 2 → both_stand labels place ≡ 2
both_stand-is labels none place below =
    each-two (both_stand labels) 0 (length labels / 2) (λ k from k_below. both_stand-le labels none k)
    (omega (arith, sum-both_stand labels none)) place (omega arith) (omega (arith, below))

pub stands-under : (labels : List ℤ) → bad_label labels ≡ None → (place : ℕ) → place < length labels / 2
    → stands (under_at place) labels ≡ 1
stands-under labels none place below =
    omega (
      arith,
      both_stand-is labels none place below,
      stands-le (under_at place) labels none,
      stands-le (over_at place) labels none,
    )

pub stands-over : (labels : List ℤ) → bad_label labels ≡ None → (place : ℕ) → place < length labels / 2
    → stands (over_at place) labels ≡ 1
stands-over labels none place below =
    omega (
      arith,
      both_stand-is labels none place below,
      stands-le (under_at place) labels none,
      stands-le (over_at place) labels none,
    )

-- each label that names a crossing stands once
pub stands-once : (labels : List ℤ) (label : ℤ) → bad_label labels ≡ None → Names (length labels / 2) label
    → count_by (int_eq label) labels ≡ 1
stands-once labels (pos zero) none names = absurd (omega (arith, names.0))
stands-once labels (pos (suc size)) none names =
    stands-turned_labels (pos (suc size)) labels ∙ ap (λ label. stands label labels) (sym (over_at-is size))
    ∙ stands-over labels none size (omega (arith, names.1))
stands-once labels (negsuc size) none names =
    stands-turned_labels (negsuc size) labels ∙ ap (λ label. stands label labels) (sym (under_at-is size))
    ∙ stands-under labels none size (omega (arith, names.1))
