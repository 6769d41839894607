-- The labels of some circles that have v- on a given one, counted by their degree.
use Rattle.std.proofs.Common.{◌≡◌, ℕ, zero, suc, inl, inr, ◌+◌, ◌-◌, ◌^◌, ◌<◌, ◌≤◌, ◌∙◌, ℤ, pos, ◌+ℤ◌, ◌-ℤ◌, refl, ap, ap₂, arith, Bool, true, false, cond, ◌&&◌}
use Rattle.std.specs.Prelude.{nat_eq}
use Rattle.std.specs.List.{sum_by, count_by, range_with_len}
use Rattle.std.specs.Ordering.{int_eq}
use Rattle.std.proofs.Math.Nat.{pow-suc}
use Rattle.std.proofs.lemmas.Bool.{cases_eq}
use Rattle.std.proofs.lemmas.Int.{ints}
use Rattle.kh_types.specs.Bits.{bit, ones, one_if}
use Rattle.kh_types.specs.StateSum.{circle_coefficient}
use Rattle.kh_types.proofs.BitLemmas.{bit-past, ones-more}
use Rattle.kh_types.proofs.ListSums.{sum_by-none, sum_by-range_alike}
use Rattle.kh_types.proofs.LabelDegrees.{degree_of_label, labels_with, labels_with-is, lower-test, sum_by-halves, upper-test}
use Rattle.kh_types.proofs.JointNumbers.{bit-lower, bit-highest}

-- what a label adds to the count of those with a degree and v- on the circle of a number
abbrev marked : ℕ → ℤ → ℕ → ℕ → ℕ
marked count degree mark label = cond (int_eq (degree_of_label count label) degree && nat_eq (bit label mark) 1) 1 0

abbrev pub marked_with : ℕ → ℤ → ℕ → ℕ
marked_with count degree mark =
    count_by (λ label. int_eq (degree_of_label count label) degree && nat_eq (bit label mark) 1) (range_with_len 0 (2 ^ count))

and-true : (b c : Bool) → c ≡ true → one_if (b && c) ≡ one_if b
and-true true c is = ap one_if is
and-true false c is = refl

and-false : (b c : Bool) → c ≡ false → one_if (b && c) ≡ 0
and-false true c is = ap one_if is
and-false false c is = refl

marked_with-halves : (count mark : ℕ) (degree : ℤ)
    → marked_with (count + 1) degree mark
    ≡ sum_by (marked (count + 1) degree mark) (range_with_len 0 (2 ^ count))
    + sum_by (λ label. marked (count + 1) degree mark (2 ^ count + label)) (range_with_len 0 (2 ^ count))
marked_with-halves count mark degree =
    let more : count + 1 ≡ suc count = omega arith in
    let double : 2 ^ (count + 1) ≡ 2 ^ count + 2 ^ count = ap (λ (k : ℕ). 2 ^ k) more ∙ pow-suc 2 count ∙ omega arith in
    ap (λ (n : ℕ). sum_by (marked (count + 1) degree mark) (range_with_len 0 n)) double
    ∙ sum_by-halves (marked (count + 1) degree mark) (2 ^ count)

-- v- on the last circle: the upper half alone counts
marked_with-last : (count : ℕ) (degree : ℤ) → marked_with (count + 1) degree count ≡ labels_with count (degree +ℤ pos 1)
marked_with-last count degree =
    let lower : sum_by (marked (count + 1) degree count) (range_with_len 0 (2 ^ count)) ≡ 0 =
    sum_by-none (marked (count + 1) degree count) 0 (2 ^ count)
    (λ label from below.
    and-false (int_eq (degree_of_label (count + 1) label) degree) (nat_eq (bit label count) 1)
    (ap (λ (b : ℕ). nat_eq b 1) (bit-past label count count (omega arith) (omega arith)))) in
    let upper : sum_by (λ label. marked (count + 1) degree count (2 ^ count + label)) (range_with_len 0 (2 ^ count))
    ≡ labels_with count (degree +ℤ pos 1) =
    sum_by-range_alike (λ label. marked (count + 1) degree count (2 ^ count + label))
    (λ label. cond (int_eq (degree_of_label count label) (degree +ℤ pos 1)) 1 0) 0 (2 ^ count)
    (λ label from below.
    and-true (int_eq (degree_of_label (count + 1) (2 ^ count + label)) degree) (nat_eq (bit (2 ^ count + label) count) 1)
    (ap (λ (b : ℕ). nat_eq b 1) (bit-highest count label (omega arith)))
    ∙ ap (λ b. cond b 1 0) (upper-test count degree label (omega arith))) in
    marked_with-halves count count degree ∙ omega (arith, lower, upper)

-- v- on another: both halves do
marked_with-more : (count mark : ℕ) (degree : ℤ) → mark < count
    → marked_with (count + 1) degree mark ≡ marked_with count (degree -ℤ pos 1) mark + marked_with count (degree +ℤ pos 1) mark
marked_with-more count mark degree less =
    marked_with-halves count mark degree
    ∙ ap₂ (λ (x y : ℕ). x + y)
    (sum_by-range_alike (marked (count + 1) degree mark) (marked count (degree -ℤ pos 1) mark) 0 (2 ^ count)
    (λ label from below.
    ap (λ b. cond (b && nat_eq (bit label mark) 1) 1 0) (lower-test count degree label (omega arith))))
    (sum_by-range_alike (λ label. marked (count + 1) degree mark (2 ^ count + label)) (marked count (degree +ℤ pos 1) mark) 0 (2 ^ count)
    (λ label from below.
    ap₂ (λ (b : Bool) (x : ℕ). cond (b && nat_eq x 1) 1 0) (upper-test count degree label (omega arith))
    (bit-lower count label mark (omega arith) less)))

-- the labels with v- on one of the circles are as many as the labels of the others, which have a degree greater by 1
pub marked_with-is : (count mark : ℕ) (degree : ℤ) → mark < count
    → marked_with count degree mark ≡ circle_coefficient (count - 1) (degree +ℤ pos 1)
marked_with-is zero mark degree less = absurd (omega (arith, less))
marked_with-is (suc count) mark degree less =
    let more : suc count ≡ count + 1 = omega arith in
    let fewer : count ≡ suc count - 1 = omega arith in
    ap (λ (c : ℕ). marked_with c degree mark) more
    ∙ (elim (cases_eq mark count) [
      | inl last ↦
          ap (λ (m : ℕ). marked_with (count + 1) degree m) last ∙ marked_with-last count degree
          ∙ labels_with-is count (degree +ℤ pos 1)
      | inr other ↦
          let before : mark < count = omega (arith, less, other) in
          let k = count - 1 in
          let is_count : suc k ≡ count = omega (arith, before) in
          let down : degree -ℤ pos 1 +ℤ pos 1 ≡ degree +ℤ pos 1 -ℤ pos 1 = omega (arith, ints) in
          marked_with-more count mark degree before
          ∙ ap₂ (λ (x y : ℕ). x + y)
          (marked_with-is count mark (degree -ℤ pos 1) before ∙ ap (circle_coefficient k) down)
          (marked_with-is count mark (degree +ℤ pos 1) before)
          ∙ ap (λ (c : ℕ). circle_coefficient c (degree +ℤ pos 1)) is_count
    ])
    ∙ ap (λ (c : ℕ). circle_coefficient c (degree +ℤ pos 1)) fewer

-- a label with v- on some circle has one v- or more
pub ones-positive : (count label place : ℕ) → place < count → bit label place ≡ 1 → 1 ≤ ones count label
ones-positive zero label place less is = absurd (omega (arith, less))
ones-positive (suc count) label place less is =
    let more : suc count ≡ count + 1 = omega arith in
    let step : ones (suc count) label ≡ ones count label + bit label count =
    ap (λ (c : ℕ). ones c label) more ∙ ones-more count label in
    elim (cases_eq place count) [
      | inl last ↦ omega (arith, step, ap (bit label) last, is)
      | inr other ↦ omega (arith, step, ones-positive count label place (omega (arith, less, other)) is)
    ]
