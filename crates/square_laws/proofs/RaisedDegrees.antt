-- What an edge does to the quantum degree: the rows of the plain tables keep it, and the two others raise it by 2.
use Rattle.std.proofs.lemmas.Bool.Decides.{nat_tests}
use Rattle.std.proofs.Common.{◌≡◌, ◌≢◌, ℕ, zero, suc, ◌+◌, ◌-◌, ◌*◌, ◌%◌, ◌<◌, ◌≤◌, ◌∙◌, ◌⊎◌, inl, inr, ℤ, pos, ◌+ℤ◌, ◌-ℤ◌, List, [], ◌∷◌, length, refl, sym, ap, subst, arith, Bool, true, false, cond, ◌&&◌, ◌||◌, map, IsTrue}
use Rattle.std.specs.Prelude.{nat_eq}
use Rattle.std.proofs.lemmas.Bool.{cases_Bool}
use Rattle.std.proofs.lemmas.Int.{ints}
use Rattle.std.proofs.Math.Nat.{mod-eq_of_lt, pow-zero, zero-mod}
use Rattle.std.proofs.Math.Pow.{pow-lt}
use Rattle.kh_types.specs.Acceptance.{accepted}
use Rattle.kh_types.specs.Bits.{ones, one_if}
use Rattle.kh_types.specs.Code.{Code, IsCrossing, crossing_numbers, place_of}
use Rattle.kh_types.specs.Circles.{circle_count}
use Rattle.kh_types.specs.Differential.{coefficient, coefficient_at, edge_sign, is_edge, is_merge, is_split, keeps_labels, label_of, touched}
use Rattle.kh_types.specs.Directions.{minus_count, plus_count}
use Rattle.kh_types.specs.Generators.{Generator, one_count, quantum_degree}
use Rattle.kh_types.proofs.Reduced.{minus_mod-nothing}
use Rattle.kh_types.proofs.ListSums.{sum_by-alike, sum_by-range_alike, sum_by-some}
use Rattle.square_laws.proofs.Merges.{IsSwitch, switch-edge}
use Rattle.square_laws.proofs.Degrees.{homological_next, quantum_same, sum_by-small}
use Rattle.square_laws.proofs.EdgeMarks.{label_at, label_of-le}
use Rattle.square_laws.proofs.Pairs.{IsStep, coefficient_at-edge, is_edge-decides}
use Rattle.square_laws.proofs.Signs.{ones-set_below}
use Rattle.square_laws.proofs.TouchedCircles.{fits}
use Rattle.square_laws.specs.Deformed.{deformed_at, deformed_coefficient, label_number, opposite, row_number}
use Rattle.square_laws.specs.RaisedDegrees.{IsRaised}
use Rattle.square_laws.proofs.DeformedSquares.{deformed_at-edge}
use Rattle.square_laws.proofs.EdgeNumbers.{keeps-merge, keeps-split, number-merge, number-split}
use Rattle.square_laws.proofs.Numbers.{merging, splitting}
use Rattle.square_laws.proofs.OneLabels.{ones-joined, ones_of}

-- the row is one of a plain table, and the label degree falls by one
record IsPlain (code : Code) (tail head : Generator) (crossing : ℕ) : Type 0 where
  number : (h k : ℕ) → label_number h k code tail head crossing ≡ label_number 0 0 code tail head crossing
  lower : circle_count code head.state + 2 * ones_of code tail + 1 ≡ circle_count code tail.state + 2 * ones_of code head

-- no row, or one of a plain table, or one of the others, and the label degree rises by one
abbrev IsRow : Code → Generator → Generator → ℕ → Type 0
IsRow code tail head crossing =
    ((h k : ℕ) → label_number h k code tail head crossing ≡ 0)
    ⊎ (IsPlain code tail head crossing
    ⊎ (circle_count code head.state + 2 * ones_of code tail ≡ circle_count code tail.state + 2 * ones_of code head + 1))

merge_kinds : (s r : ℕ) → s ≤ 2 → r ≤ 1
    → ((h : ℕ) → merging h s r ≡ 0) ⊎ (((r ≡ s) × ((h : ℕ) → merging h s r ≡ 1)) ⊎ (r + 1 ≡ s))
merge_kinds zero zero s_small r_small = inr (inl (refl, λ h. pow-zero h))
merge_kinds zero (suc zero) s_small r_small = inl (λ h. refl)
merge_kinds (suc zero) zero s_small r_small = inl (λ h. refl)
merge_kinds (suc zero) (suc zero) s_small r_small = inr (inl (refl, λ h. pow-zero h))
merge_kinds (suc (suc zero)) zero s_small r_small = inl (λ h. refl)
merge_kinds (suc (suc zero)) (suc zero) s_small r_small = inr (inr refl)
merge_kinds (suc (suc (suc s))) r s_small r_small = absurd (omega (arith, s_small))
merge_kinds zero (suc (suc r)) s_small r_small = absurd (omega (arith, r_small))
merge_kinds (suc zero) (suc (suc r)) s_small r_small = absurd (omega (arith, r_small))
merge_kinds (suc (suc zero)) (suc (suc r)) s_small r_small = absurd (omega (arith, r_small))

split_kinds : (l s : ℕ) → l ≤ 1 → s ≤ 2
    → ((k : ℕ) → splitting k l s ≡ 0) ⊎ (((s ≡ l + 1) × ((k : ℕ) → splitting k l s ≡ 1)) ⊎ (s ≡ l))
split_kinds zero zero l_small s_small = inr (inr refl)
split_kinds zero (suc zero) l_small s_small = inr (inl (refl, λ k. refl))
split_kinds zero (suc (suc zero)) l_small s_small = inl (λ k. refl)
split_kinds (suc zero) zero l_small s_small = inl (λ k. refl)
split_kinds (suc zero) (suc zero) l_small s_small = inl (λ k. refl)
split_kinds (suc zero) (suc (suc zero)) l_small s_small = inr (inl (refl, λ k. refl))
split_kinds (suc (suc l)) s l_small s_small = absurd (omega (arith, l_small))
split_kinds zero (suc (suc (suc s))) l_small s_small = absurd (omega (arith, s_small))
split_kinds (suc zero) (suc (suc (suc s))) l_small s_small = absurd (omega (arith, s_small))

row-kind : (merges : Bool) (code : Code) (tail head : Generator) (crossing : ℕ) → IsTrue (accepted code)
    → IsSwitch merges code tail.state head.state crossing → IsRow code tail head crossing
row-kind true code tail head crossing is merge =
    let s = label_at code tail crossing 0 + label_at code tail crossing 2 in
    let r = label_at code head crossing 0 in
    let number = λ (h k : ℕ). number-merge h k code tail head crossing is merge in
    elim (cases_Bool (keeps_labels code tail head crossing)) [
      | inr fails ↦ inl (λ h k. number h k ∙ ap (λ b. cond b (merging h s r) 0) fails)
      | inl kept ↦
          let there = λ (h k : ℕ). number h k ∙ ap (λ b. cond b (merging h s r) 0) kept in
          let joined = ones-joined code tail head crossing is merge ((keeps-merge code tail head crossing is merge).0 kept) in
          elim (merge_kinds s r (omega (arith, label_of-le code tail, label_of-le code tail)) (label_of-le code head _)) [
            | inl none ↦ inl (λ h k. there h k ∙ none h)
            | inr (inl plain) ↦ inr (inl (record {
              number = λ h k. there h k ∙ plain.1 h ∙ sym (there 0 0 ∙ plain.1 0);
              lower = omega (arith, joined, plain.0, merge.circles.count);
            }))
            | inr (inr up) ↦ inr (inr (omega (arith, joined, up, merge.circles.count)))
          ]
    ]
row-kind false code tail head crossing is merge =
    let s = label_at code head crossing 0 + label_at code head crossing 2 in
    let l = label_at code tail crossing 0 in
    let number = λ (h k : ℕ). number-split h k code tail head crossing is merge in
    elim (cases_Bool (keeps_labels code tail head crossing)) [
      | inr fails ↦ inl (λ h k. number h k ∙ ap (λ b. cond b (splitting k l s) 0) fails)
      | inl kept ↦
          let there = λ (h k : ℕ). number h k ∙ ap (λ b. cond b (splitting k l s) 0) kept in
          let joined = ones-joined code head tail crossing is merge ((keeps-split code tail head crossing is merge).0 kept) in
          elim (split_kinds l s (label_of-le code tail _) (omega (arith, label_of-le code head, label_of-le code head))) [
            | inl none ↦ inl (λ h k. there h k ∙ none k)
            | inr (inl plain) ↦ inr (inl (record {
              number = λ h k. there h k ∙ plain.1 k ∙ sym (there 0 0 ∙ plain.1 0);
              lower = omega (arith, joined, plain.0, merge.circles.count);
            }))
            | inr (inr up) ↦ inr (inr (omega (arith, joined, up, merge.circles.count)))
          ]
    ]

-- the same at each edge of an accepted code
row-step : (code : Code) (tail head : Generator) (crossing : ℕ) → IsTrue (accepted code) → IsCrossing code.crossings crossing
    → IsStep tail.state head.state crossing → IsRow code tail head crossing
row-step code tail head crossing is is_crossing step =
    let edge = switch-edge code tail.state crossing is is_crossing step.zero_there in
    row-kind edge.0 code tail head crossing is
    (subst (λ (s : ℕ). IsSwitch edge.0 code tail.state s crossing) (sym step.behind) edge.1)

-- degrees
one_count-step : (code : Code) (tail head : Generator) (crossing : ℕ) → IsCrossing code.crossings crossing
    → IsStep tail.state head.state crossing → one_count code head.state ≡ one_count code tail.state + 1
one_count-step code tail head crossing is_crossing step =
    ap (one_count code) step.behind
    ∙ ones-set_below tail.state (place_of crossing) (length code.crossings) step.zero_there
    (omega (arith, is_crossing.positive, is_crossing.within))

quantum_up : (circles labels next_circles next_labels before after plus minus : ℕ)
    → next_circles + 2 * labels ≡ circles + 2 * next_labels + 1 → after ≡ before + 1
    → pos next_circles -ℤ pos (2 * next_labels) +ℤ (pos (after + plus) -ℤ pos (2 * minus))
    ≡ pos circles -ℤ pos (2 * labels) +ℤ (pos (before + plus) -ℤ pos (2 * minus)) +ℤ pos 2
quantum_up circles labels next_circles next_labels before after plus minus higher up = omega (arith, ints)

raised-quantum : (code : Code) (tail head : Generator) → one_count code head.state ≡ one_count code tail.state + 1
    → circle_count code head.state + 2 * ones_of code tail ≡ circle_count code tail.state + 2 * ones_of code head + 1
    → quantum_degree code head ≡ quantum_degree code tail +ℤ pos 2
raised-quantum code tail head up higher =
    quantum_up (circle_count code tail.state) (ones_of code tail) (circle_count code head.state) (ones_of code head)
    (one_count code tail.state) (one_count code head.state) (plus_count code.crossings) (minus_count code.crossings) higher up

-- there is an edge along a crossing, or every coefficient along it is 0
step_or_zero : (code : Code) (tail head : Generator) (crossing : ℕ)
    → IsStep tail.state head.state crossing ⊎ ((p h : ℕ) → deformed_at p h code tail head crossing ≡ 0)
step_or_zero code tail head crossing = elim (cases_Bool (is_edge tail head crossing)) [
  | inl edge ↦ inl ((is_edge-decides tail head crossing).0 edge)
  | inr none ↦
      inr (λ p h.
      ap (λ b. cond b (edge_sign p tail.state crossing * label_number h (opposite p h) code tail head crossing % p) 0) none)
]

at-zero : (p h : ℕ) (code : Code) (tail head : Generator) (crossing : ℕ) → IsStep tail.state head.state crossing
    → ((h k : ℕ) → label_number h k code tail head crossing ≡ 0) → deformed_at p h code tail head crossing ≡ 0
at-zero p h code tail head crossing step none =
    deformed_at-edge p h code tail head crossing step
    ∙ ap (λ n. edge_sign p tail.state crossing * n % p) (none h (opposite p h))
    ∙ ap (λ n. n % p) (right_zero (edge_sign p tail.state crossing)) ∙ zero-mod p
  where
    right_zero : (x : ℕ) → x * 0 ≡ 0
    right_zero x = omega arith

-- a coefficient other than 0 leads to the next degree, and keeps the quantum degree or raises it by 2
pub deformed-raised : (p h : ℕ) (code : Code) (tail head : Generator) → IsTrue (accepted code)
    → deformed_coefficient p h code tail head ≢ 0 → IsRaised code tail head
deformed-raised p h code tail head is some =
    let at = sum_by-some (deformed_at p h code tail head) 1 (length code.crossings) some in
    let crossing = at.0 in
    let is_crossing : IsCrossing code.crossings crossing = record { positive = at.1; within = omega (arith, at.2) } in
    elim (step_or_zero code tail head crossing) [
      | inr none ↦ absurd (at.3 (none p h))
      | inl step ↦
          let up = one_count-step code tail head crossing is_crossing step in
          let next = homological_next (one_count code tail.state) (one_count code head.state) (minus_count code.crossings) up in
          elim (row-step code tail head crossing is is_crossing step) [
            | inl none ↦ absurd (at.3 (at-zero p h code tail head crossing step none))
            | inr (inl plain) ↦ record {
              homological = next;
              quantum = inl (quantum_same (circle_count code tail.state) (ones_of code tail) (circle_count code head.state)
                  (ones_of code head) (one_count code tail.state) (one_count code head.state) (plus_count code.crossings)
                  (minus_count code.crossings) plain.lower up);
            }
            | inr (inr higher) ↦ record { homological = next; quantum = inr (raised-quantum code tail head up higher) }
          ]
    ]

-- one that keeps the quantum degree does not depend on h
at-equal : (p h : ℕ) (code : Code) (tail head : Generator) (crossing : ℕ) → IsTrue (accepted code) → IsCrossing code.crossings crossing
    → quantum_degree code head ≡ quantum_degree code tail
    → deformed_at p h code tail head crossing ≡ deformed_at p 0 code tail head crossing
at-equal p h code tail head crossing is is_crossing equal = elim (step_or_zero code tail head crossing) [
  | inr none ↦ none p h ∙ sym (none p 0)
  | inl step ↦ elim (row-step code tail head crossing is is_crossing step) [
    | inl none ↦ at-zero p h code tail head crossing step none ∙ sym (at-zero p 0 code tail head crossing step none)
    | inr (inl plain) ↦
        deformed_at-edge p h code tail head crossing step
        ∙ ap (λ n. edge_sign p tail.state crossing * n % p) (plain.number h (opposite p h) ∙ sym (plain.number 0 (opposite p 0)))
        ∙ sym (deformed_at-edge p 0 code tail head crossing step)
    | inr (inr higher) ↦
        absurd (apart (quantum_degree code tail)
        (sym equal ∙ raised-quantum code tail head (one_count-step code tail head crossing is_crossing step) higher))
  ]
]
  where
    apart : (x : ℤ) → x ≡ x +ℤ pos 2 → ⊥
    apart x same = omega (arith, ints, same)

-- where h is 0 the rows are those of the plain tables
plain_rows : (before after : List ℕ) → row_number 0 0 before after ≡ one_if (is_merge before after || is_split before after)
plain_rows [] after = grind (arith, nat_tests)
plain_rows (x ∷ []) [] = grind (arith, nat_tests)
plain_rows (x ∷ []) (u ∷ []) = grind (arith, nat_tests)
plain_rows (x ∷ []) (u ∷ v ∷ []) = grind (arith, nat_tests)
plain_rows (x ∷ []) (u ∷ v ∷ w ∷ rest) = grind (arith, nat_tests)
plain_rows (x ∷ y ∷ []) [] = grind (arith, nat_tests)
plain_rows (x ∷ y ∷ []) (u ∷ []) = grind (arith, nat_tests)
plain_rows (x ∷ y ∷ []) (u ∷ v ∷ rest) = grind (arith, nat_tests)
plain_rows (x ∷ y ∷ z ∷ more) after = grind (arith, nat_tests)

number-plain : (p : ℕ) (code : Code) (tail head : Generator) (crossing : ℕ)
    → label_number 0 (opposite p 0) code tail head crossing ≡ one_if (fits code tail head crossing)
number-plain p code tail head crossing =
    let before = map (label_of code tail) (touched code tail.state crossing) in
    let after = map (label_of code head) (touched code head.state crossing) in
    ap (λ k. label_number 0 k code tail head crossing) (minus_mod-nothing p 0 refl)
    ∙ ap (λ n. cond (keeps_labels code tail head crossing) n 0) (plain_rows before after)
    ∙ both (keeps_labels code tail head crossing) (is_merge before after || is_split before after)
  where
    both : (a b : Bool) → cond a (one_if b) 0 ≡ one_if (a && b)
    both a b = grind arith

-- so coefficients along a crossing are the plain ones
at-plain : (p : ℕ) (code : Code) (tail head : Generator) (crossing : ℕ) → 1 < p
    → deformed_at p 0 code tail head crossing ≡ coefficient_at p code tail head crossing
at-plain p code tail head crossing above = elim (cases_Bool (is_edge tail head crossing)) [
  | inr none ↦
      ap (λ b. cond b (edge_sign p tail.state crossing * label_number 0 (opposite p 0) code tail head crossing % p) 0) none
      ∙ sym (ap (λ b. cond (b && fits code tail head crossing) (edge_sign p tail.state crossing) 0) none)
  | inl edge ↦
      let step = (is_edge-decides tail head crossing).0 edge in
      deformed_at-edge p 0 code tail head crossing step
      ∙ ap (λ n. edge_sign p tail.state crossing * n % p) (number-plain p code tail head crossing)
      ∙ mod-eq_of_lt (small p (ones (place_of crossing) tail.state) (fits code tail head crossing) above)
      ∙ sym (coefficient_at-edge p code tail head crossing step)
]
  where
    small : (p n : ℕ) (b : Bool) → 1 < p → cond (nat_eq (n % 2) 0) 1 (p - 1) * one_if b < p
    small p n true above = grind (arith, nat_tests)
    small p n false above = omega arith

-- where h is 0 deformed coefficients are the plain ones
pub deformed-plain : (p : ℕ) (code : Code) (tail head : Generator) → 1 < p
    → deformed_coefficient p 0 code tail head ≡ coefficient p code tail head
deformed-plain p code tail head above =
    sum_by-alike (deformed_at p 0 code tail head) (coefficient_at p code tail head) (λ crossing. at-plain p code tail head crossing above)
    (crossing_numbers code.crossings)

-- and those that keep the quantum degree are the plain ones, whatever h is
pub deformed-equal : (p h : ℕ) (code : Code) (tail head : Generator) → 1 < p → IsTrue (accepted code)
    → quantum_degree code head ≡ quantum_degree code tail → deformed_coefficient p h code tail head ≡ coefficient p code tail head
deformed-equal p h code tail head above is equal =
    sum_by-range_alike (deformed_at p h code tail head) (deformed_at p 0 code tail head) 1 (length code.crossings)
    (λ crossing from below.
    at-equal p h code tail head crossing is (record { positive = from; within = omega (arith, below) }) equal)
    ∙ deformed-plain p code tail head above

-- at most one crossing leads from a state to another, so a coefficient is below p
pub deformed-below : (p h : ℕ) (code : Code) (tail head : Generator) → 0 < p → deformed_coefficient p h code tail head < p
deformed-below p h code tail head positive =
    sum_by-small (deformed_at p h code tail head) 1 (length code.crossings) p positive
    (λ crossing. elim (step_or_zero code tail head crossing) [
      | inr none ↦ omega (arith, none p h)
      | inl step ↦ omega (arith, deformed_at-edge p h code tail head crossing step)
    ])
    (λ first second from less. elim (step_or_zero code tail head first) [
      | inr none ↦ inl (none p h)
      | inl step ↦ elim (step_or_zero code tail head second) [
        | inr none ↦ inr (none p h)
        | inl later ↦
            let order : place_of first < place_of second = omega arith in
            absurd (omega (arith, step.behind, later.behind, pow-lt order))
      ]
    ])
