-- The labels of some circles, counted by their degree.
use Rattle.std.proofs.lemmas.Bool.Decides.{nat_tests}
use Rattle.std.proofs.Common.{◌≡◌, ℕ, zero, suc, ◌+◌, ◌*◌, ◌^◌, ◌<◌, ◌∙◌, ℤ, pos, ◌+ℤ◌, ◌-ℤ◌, sym, refl, ap, ap₂, arith, cond}
use Rattle.std.specs.List.{sum_by, count_by, range_with_len}
use Rattle.std.specs.Ordering.{int_eq}
use Rattle.std.proofs.Math.Nat.{pow-suc}
use Rattle.std.proofs.lemmas.Int.{ints}
use Rattle.std.proofs.lemmas.List.Sums.{sum_by-cons, sum_by-append}
use Rattle.kh_types.specs.Bits.{bit, ones}
use Rattle.kh_types.specs.StateSum.{circle_coefficient}
use Rattle.kh_types.proofs.BitLemmas.{bit-past, ones-more}
use Rattle.kh_types.proofs.Ranges.{range-append}
use Rattle.kh_types.proofs.EdgeBits.{bit-set_there, bit-set_other}
use Rattle.kh_types.proofs.ListSums.{sum_by-range_alike}
use Rattle.kh_types.specs.Code.{Code}
use Rattle.kh_types.specs.Directions.{plus_count, minus_count}
use Rattle.kh_types.specs.Generators.{one_count}

-- the number of labels v+ less the number of labels v-
abbrev pub degree_of_label : ℕ → ℕ → ℤ
degree_of_label circles label = pos circles -ℤ pos (2 * ones circles label)

-- how many labels of some circles have a degree
abbrev pub labels_with : ℕ → ℤ → ℕ
labels_with circles degree = count_by (λ label. int_eq (degree_of_label circles label) degree) (range_with_len 0 (2 ^ circles))

-- two tests of integers that say the same
pub int_eq-iff : (a b c d : ℤ) → (a ≡ b → c ≡ d) → (c ≡ d → a ≡ b) → int_eq a b ≡ int_eq c d
int_eq-iff a b c d onward back = grind (arith, nat_tests)

-- a range of twice as many numbers has a lower and an upper half
pub sum_by-later : (f : ℕ → ℕ) (b a n : ℕ) → sum_by f (range_with_len (b + a) n) ≡ sum_by (λ x. f (b + x)) (range_with_len a n)
sum_by-later f b a zero = refl
sum_by-later f b a (suc n) =
    let next : b + a + 1 ≡ b + (a + 1) = omega arith in
    sum_by-cons f (b + a) (range_with_len (b + a + 1) n)
    ∙ ap (λ (x : ℕ). f (b + a) + sum_by f (range_with_len x n)) next ∙ ap (λ (s : ℕ). f (b + a) + s) (sum_by-later f b (a + 1) n)
    ∙ sym (sum_by-cons (λ x. f (b + x)) a (range_with_len (a + 1) n))

pub sum_by-halves : (f : ℕ → ℕ) (n : ℕ)
    → sum_by f (range_with_len 0 (n + n)) ≡ sum_by f (range_with_len 0 n) + sum_by (λ x. f (n + x)) (range_with_len 0 n)
sum_by-halves f n = grind (arith, nat_tests, range-append, sum_by-append, sum_by-later)

-- the lower half of the labels has v+ on the last circle, and the upper half v-

pub ones-lower : (count label : ℕ) → label < 2 ^ count → ones (count + 1) label ≡ ones count label
ones-lower count label below = omega (arith, ones-more count label, bit-past label count count below (omega arith))

pub ones-upper : (count label : ℕ) → label < 2 ^ count → ones (count + 1) (2 ^ count + label) ≡ ones count label + 1
ones-upper count label below =
    let none = bit-past label count count below (omega arith) in
    let turned : 2 ^ count + label ≡ label + 2 ^ count = omega arith in
    ap (λ (l : ℕ). ones (count + 1) l) turned ∙ ones-more count (label + 2 ^ count)
    ∙ ap₂ (λ (x y : ℕ). x + y)
    (sum_by-range_alike (bit (label + 2 ^ count)) (bit label) 0 count
    (λ x from x_below. bit-set_other label count none x (λ same. omega arith)))
    (bit-set_there label count none)

pub lower-test : (count : ℕ) (degree : ℤ) (label : ℕ) → label < 2 ^ count
    → int_eq (degree_of_label (count + 1) label) degree ≡ int_eq (degree_of_label count label) (degree -ℤ pos 1)
lower-test count degree label below = grind (arith, nat_tests, ones-lower, int_eq-iff, ints)

pub upper-test : (count : ℕ) (degree : ℤ) (label : ℕ) → label < 2 ^ count
    → int_eq (degree_of_label (count + 1) (2 ^ count + label)) degree ≡ int_eq (degree_of_label count label) (degree +ℤ pos 1)
upper-test count degree label below =
    ap (λ (k : ℕ). int_eq (pos (count + 1) -ℤ pos (2 * k)) degree) (ones-upper count label below)
    ∙ int_eq-iff (pos (count + 1) -ℤ pos (2 * (ones count label + 1))) degree (degree_of_label count label) (degree +ℤ pos 1)
    (λ is. omega (arith, ints)) (λ is. omega (arith, ints))

-- what a label adds to the count
abbrev counted : ℕ → ℤ → ℕ → ℕ
counted count degree label = cond (int_eq (degree_of_label count label) degree) 1 0

labels_with-more : (count : ℕ) (degree : ℤ)
    → labels_with (count + 1) degree ≡ labels_with count (degree -ℤ pos 1) + labels_with count (degree +ℤ pos 1)
labels_with-more count degree =
    let more : count + 1 ≡ suc count = omega arith in
    let double : 2 ^ (count + 1) ≡ 2 ^ count + 2 ^ count = ap (λ (k : ℕ). 2 ^ k) more ∙ pow-suc 2 count ∙ omega arith in
    ap (λ (n : ℕ). sum_by (counted (count + 1) degree) (range_with_len 0 n)) double
    ∙ sum_by-halves (counted (count + 1) degree) (2 ^ count)
    ∙ ap₂ (λ (x y : ℕ). x + y)
    (sum_by-range_alike (counted (count + 1) degree) (counted count (degree -ℤ pos 1)) 0 (2 ^ count)
    (λ label from below. ap (λ b. cond b 1 0) (lower-test count degree label (omega arith))))
    (sum_by-range_alike (λ label. counted (count + 1) degree (2 ^ count + label)) (counted count (degree +ℤ pos 1)) 0 (2 ^ count)
    (λ label from below. ap (λ b. cond b 1 0) (upper-test count degree label (omega arith))))

labels_with-none : (degree : ℤ) → labels_with 0 degree ≡ circle_coefficient 0 degree
labels_with-none degree = grind (arith, nat_tests)

-- the labels with a degree are as many as the coefficient of q ^ degree in (q + q^-1) ^ circles
pub labels_with-is : (count : ℕ) (degree : ℤ) → labels_with count degree ≡ circle_coefficient count degree
labels_with-is zero degree = labels_with-none degree
labels_with-is (suc count) degree =
    let more : suc count ≡ count + 1 = omega arith in
    ap (λ (c : ℕ). labels_with c degree) more ∙ labels_with-more count degree
    ∙ ap₂ (λ (x y : ℕ). x + y) (labels_with-is count (degree -ℤ pos 1)) (labels_with-is count (degree +ℤ pos 1))

-- the degree i of all generators of a state
abbrev pub degree_of_state : Code → ℕ → ℤ
degree_of_state code state = pos (one_count code state) -ℤ pos (minus_count code.crossings)

-- what the labels of a state have to add up to for the degree j
abbrev pub label_part : Code → ℤ → ℕ → ℤ
label_part code j state = (j -ℤ pos (one_count code state + plus_count code.crossings)) +ℤ pos (2 * minus_count code.crossings)

pub shifted-test : (d j : ℤ) (s t : ℕ) → int_eq (d +ℤ (pos s -ℤ pos t)) j ≡ int_eq d ((j -ℤ pos s) +ℤ pos t)
shifted-test d j s t = grind (arith, nat_tests)
