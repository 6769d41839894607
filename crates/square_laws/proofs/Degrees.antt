-- A coefficient other than 0 leads from the degrees i and j to i + 1 and j, and is less than p.
--
-- An edge raises one bit, so i rises by 1; a merge or a split lowers by 1 the number of labels v+ less that of labels v-, and j counts the
-- bit against it. So a coefficient other than 0 goes from the degrees i and j to i + 1 and j, and the sum over all middle generators of a
-- product is that over those of the degrees between.
use Rattle.std.proofs.Common.{◌≡◌, ◌≢◌, ℕ, zero, suc, ◌+◌, ◌-◌, ◌*◌, ◌%◌, ◌<◌, ◌≤◌, ◌∙◌, ◌⊎◌, inl, inr, ℤ, pos, ◌+ℤ◌, ◌-ℤ◌, length, sym, ap, subst, arith, Bool, true, false, cond, IsTrue}
use Rattle.std.specs.Prelude.{nat_eq}
use Rattle.std.specs.List.{sum_by, range_with_len}
use Rattle.std.proofs.lemmas.Bool.{cases_Bool, cases_eq}
use Rattle.std.proofs.lemmas.Bool.Decides.{nat_tests}
use Rattle.std.proofs.lemmas.Int.{ints}
use Rattle.std.proofs.lemmas.List.Sums.{sum_by-cons}
use Rattle.std.proofs.Math.Pow.{pow-lt}
use Rattle.kh_types.specs.Acceptance.{accepted}
use Rattle.kh_types.specs.Bits.{ones, one_if}
use Rattle.kh_types.specs.Code.{Code, IsCrossing, place_of}
use Rattle.kh_types.specs.Circles.{circle_count}
use Rattle.kh_types.specs.Differential.{coefficient, coefficient_at, edge_sign}
use Rattle.kh_types.specs.Directions.{minus_count, plus_count}
use Rattle.kh_types.specs.Generators.{Generator, has_degrees, homological_degree, one_count, quantum_degree}
use Rattle.square_laws.specs.NextDegrees.{IsNext}
use Rattle.square_laws.proofs.Merges.{IsSwitch, switch-edge}
use Rattle.kh_types.proofs.ListSums.{sum_by-none}
use Rattle.square_laws.proofs.MarkedLabels.{labels-lower}
use Rattle.square_laws.proofs.TouchedCircles.{fits, fits-decides}
use Rattle.square_laws.proofs.Signs.{ones-set_below}
use Rattle.square_laws.proofs.Pairs.{IsStep, coefficient_at-edge, edge_or_zero}
use Rattle.kh_types.proofs.Sums.{times-zero}

-- the label degree falls by one, and the number of 1-smoothings rises by one
pub quantum_same : (circles labels next_circles next_labels before after plus minus : ℕ)
    → next_circles + 2 * labels + 1 ≡ circles + 2 * next_labels → after ≡ before + 1
    → pos next_circles -ℤ pos (2 * next_labels) +ℤ (pos (after + plus) -ℤ pos (2 * minus))
    ≡ pos circles -ℤ pos (2 * labels) +ℤ (pos (before + plus) -ℤ pos (2 * minus))
quantum_same circles labels next_circles next_labels before after plus minus lower up = omega (arith, ints)

pub homological_next : (before after minus : ℕ) → after ≡ before + 1 → pos after -ℤ pos minus ≡ pos before -ℤ pos minus +ℤ pos 1
homological_next before after minus up = omega (arith, ints)

next-fits : (code : Code) (tail head : Generator) (crossing : ℕ) → IsTrue (accepted code) → IsCrossing code.crossings crossing
    → IsStep tail.state head.state crossing → fits code tail head crossing ≡ true → IsNext code tail head
next-fits code tail head crossing is is_crossing step fit =
    let edge = switch-edge code tail.state crossing is is_crossing step.zero_there in
    let switch = subst (λ (s : ℕ). IsSwitch edge.0 code tail.state s crossing) (sym step.behind) edge.1 in
    let lower = labels-lower edge.0 code tail head crossing is switch ((fits-decides edge.0 code tail head crossing is switch).0 fit) in
    let up : one_count code head.state ≡ one_count code tail.state + 1 =
    ap (one_count code) step.behind
    ∙ ones-set_below tail.state (place_of crossing) (length code.crossings) step.zero_there
    (omega (arith, is_crossing.positive, is_crossing.within)) in
    record {
      homological = homological_next (one_count code tail.state) (one_count code head.state) (minus_count code.crossings) up;
      quantum = quantum_same (circle_count code tail.state) (ones (circle_count code tail.state) tail.label) (circle_count code head.state)
          (ones (circle_count code head.state) head.label) (one_count code tail.state) (one_count code head.state)
          (plus_count code.crossings) (minus_count code.crossings) lower up;
    }

-- where the degrees are others, the coefficient is 0
pub coefficient-zero : (p : ℕ) (code : Code) (tail head : Generator) → IsTrue (accepted code) → (IsNext code tail head → ⊥)
    → coefficient p code tail head ≡ 0
coefficient-zero p code tail head is other =
    sum_by-none (coefficient_at p code tail head) 1 (length code.crossings)
    (λ crossing from below. elim (edge_or_zero p code tail head crossing) [
      | inr none ↦ none
      | inl step ↦ elim (cases_Bool (fits code tail head crossing)) [
        | inl fit ↦
            absurd (other (next-fits code tail head crossing is (record { positive = from; within = omega (arith, below) }) step fit))
        | inr fails ↦
            coefficient_at-edge p code tail head crossing step
            ∙ times-zero (edge_sign p tail.state crossing) (one_if (fits code tail head crossing)) (ap one_if fails)
      ]
    ])

-- a generator has the degrees, or it has not, by the test
pub has_degrees-from : (code : Code) (i j : ℤ) (generator : Generator) → homological_degree code generator ≡ i
    → quantum_degree code generator ≡ j → has_degrees code i j generator ≡ true
has_degrees-from code i j generator is_i is_j = grind (arith, nat_tests)

pub degrees-from_test : (code : Code) (i j : ℤ) (generator : Generator) → has_degrees code i j generator ≡ true
    → (homological_degree code generator ≡ i) × (quantum_degree code generator ≡ j)
degrees-from_test code i j generator passes = grind (arith, nat_tests)

next_or_not : (code : Code) (tail head : Generator) → IsNext code tail head ⊎ (IsNext code tail head → ⊥)
next_or_not code tail head =
    let i = homological_degree code tail +ℤ pos 1 in
    let j = quantum_degree code tail in
    elim (cases_Bool (has_degrees code i j head)) [
      | inl passes ↦
          inl (record { homological = (degrees-from_test code i j head passes).0; quantum = (degrees-from_test code i j head passes).1 })
      | inr fails ↦ inr (λ next.
          let so : true ≡ false = sym (has_degrees-from code i j head next.homological next.quantum) ∙ fails in
          absurd (cc))
    ]

pub coefficient-next : (p : ℕ) (code : Code) (tail head : Generator) → IsTrue (accepted code) → coefficient p code tail head ≢ 0
    → IsNext code tail head
coefficient-next p code tail head is some = elim (next_or_not code tail head) [
  | inl next ↦ next
  | inr other ↦ absurd (some (coefficient-zero p code tail head is other))
]

-- at most one crossing leads from a state to another, so a coefficient is one sign or 0

pub sum_by-small : (f : ℕ → ℕ) (a n bound : ℕ) → 0 < bound → ((x : ℕ) → f x < bound)
    → ((x y : ℕ) → a ≤ x → x < y → (f x ≡ 0) ⊎ (f y ≡ 0)) → sum_by f (range_with_len a n) < bound
sum_by-small f a zero bound positive small one = positive
sum_by-small f a (suc n) bound positive small one = elim (cases_eq (f a) 0) [
  | inl none ↦
      let rest = sum_by-small f (a + 1) n bound positive small (λ x y from less. one x y (omega arith) less) in
      omega (arith, none, rest, sum_by-cons f a (range_with_len (a + 1) n))
  | inr some ↦
      let rest = sum_by-none f (a + 1) n (λ x from below. elim (one a x (omega arith) (omega arith)) [
        | inl none ↦ absurd (some none)
        | inr none ↦ none
      ]) in
      omega (arith, small a, rest, sum_by-cons f a (range_with_len (a + 1) n))
]

pub coefficient-below : (p : ℕ) (code : Code) (tail head : Generator) → 1 < p → coefficient p code tail head < p
coefficient-below p code tail head above =
    sum_by-small (coefficient_at p code tail head) 1 (length code.crossings) p (omega arith)
    (λ crossing. elim (edge_or_zero p code tail head crossing) [
      | inr none ↦ omega arith
      | inl step ↦ omega (
        arith,
        coefficient_at-edge p code tail head crossing step,
        small p (ones (place_of crossing) tail.state) (fits code tail head crossing) above,
      )
    ])
    (λ first second from less. elim (edge_or_zero p code tail head first) [
      | inr none ↦ inl none
      | inl step ↦ elim (edge_or_zero p code tail head second) [
        | inr none ↦ inr none
        | inl later ↦
            let order : place_of first < place_of second = omega arith in
            absurd (omega (arith, step.behind, later.behind, pow-lt order))
      ]
    ])
  where
    small : (p n : ℕ) (b : Bool) → 1 < p → cond (nat_eq (n % 2) 0) 1 (p - 1) * one_if b < p
    small p n true above = grind (arith, nat_tests)
    small p n false above = omega arith
