-- Turns commute with the differential of the cube modulo 2.
use Rattle.std.proofs.Common.{◌≡◌, ◌≢◌, ℕ, inl, inr, ◌-◌, ◌*◌, ◌^◌, ◌<◌, ◌∙◌, length, refl, sym, ap, subst, arith, Bool, true, false, cond, IsTrue}
use Rattle.std.specs.Prelude.{nat_eq, ◌%◌, if◌then◌else◌}
use Rattle.std.specs.List.{range_with_len, sum_by}
use Rattle.std.proofs.lemmas.Bool.{cases_eq, ne_eqb}
use Rattle.kh_types.specs.Acceptance.{accepted}
use Rattle.kh_types.specs.Bits.{one_if, ones}
use Rattle.kh_types.specs.Circles.{circle_count, circle_names}
use Rattle.kh_types.specs.Code.{Code, IsCrossing, place_of}
use Rattle.kh_types.specs.Differential.{coefficient, coefficient_at, label_of}
use Rattle.kh_types.specs.Generators.{Generator, generator_of, generators, generators_of, states}
use Rattle.kh_types.specs.Residues.{Same}
use Rattle.kh_types.proofs.ListSums.{sum_by-alike, sum_by-flat_map, sum_by-map, sum_by-single, sum_by-some, sum_by-zeros}
use Rattle.kh_types.proofs.Residues.{same-equal}
use Rattle.cell_laws.proofs.CubeCells.{IsMember}
use Rattle.cell_laws.proofs.Members.{sum_by-term}
use Rattle.square_laws.proofs.Merges.{IsSwitch, switch-edge}
use Rattle.square_laws.proofs.Pairs.{IsStep, coefficient-one, edge_or_zero}
use Rattle.square_laws.proofs.TouchedCircles.{fits}
use Rattle.mark_laws.specs.Turns.{is_lowered, turn_count}
use Rattle.mark_laws.proofs.EdgeTurns.{edge-commutes}

-- a sum over generators of which those of one state count
pub sum_by-state : (code : Code) (state : ℕ) (f : Generator → ℕ) → state < 2 ^ length code.crossings
    → ((x : Generator) → x.state ≢ state → f x ≡ 0)
    → sum_by f (generators code) ≡ sum_by (λ number. f (generator_of state number)) (range_with_len 0 (2 ^ circle_count code state))
sum_by-state code state f below none =
    sum_by-flat_map f (generators_of code) (states code)
    ∙ sum_by-single (λ s. sum_by f (generators_of code s)) 0 (2 ^ length code.crossings) state (omega arith) (omega (arith, below))
    (λ s from s_below other.
    sum_by-map f (generator_of s) (range_with_len 0 (2 ^ circle_count code s))
    ∙ sum_by-zeros (λ number. f (generator_of s number)) (range_with_len 0 (2 ^ circle_count code s))
    (λ number. none (generator_of s number) other))
    ∙ sum_by-map f (generator_of state) (range_with_len 0 (2 ^ circle_count code state))

-- a step along a coefficient other than 0
step-along : (code : Code) (tail head : Generator) → coefficient 2 code tail head ≢ 0
    → (crossing : ℕ) × IsCrossing code.crossings crossing × IsStep tail.state head.state crossing
step-along code tail head some =
    let term = sum_by-some (coefficient_at 2 code tail head) 1 (length code.crossings) some in
    elim (edge_or_zero 2 code tail head term.0) [
      | inl step ↦ (term.0, record { positive = term.1; within = omega (arith, term.2) }, step)
      | inr none ↦ absurd (term.3 none)
    ]

-- modulo 2 the coefficient along a step is 1 where the labels fit
coefficient-two : (code : Code) (tail head : Generator) (crossing : ℕ) → IsCrossing code.crossings crossing
    → IsStep tail.state head.state crossing → coefficient 2 code tail head ≡ one_if (fits code tail head crossing)
coefficient-two code tail head crossing is_crossing step =
    coefficient-one 2 code tail head crossing is_crossing step
    ∙ ap (λ n. cond (fits code tail head crossing) n 0) (one (nat_eq (ones (place_of crossing) tail.state % 2) 0))
  where
    one : (b : Bool) → (if b then 1 else 2 - 1) ≡ 1
    one true = refl
    one false = refl

-- turns keep the state
pub turns-state : (code : Code) (x y : Generator) → turn_count code x y ≢ 0 → x.state ≡ y.state
turns-state code x y some = elim (cases_eq x.state y.state) [
  | inl same ↦ same
  | inr other ↦ absurd (some (turns-none code x y other))
]
  where
    turns-none : (code : Code) (x y : Generator) → x.state ≢ y.state → turn_count code x y ≡ 0
    turns-none code x y other =
        ap (λ b. cond b (sum_by (λ circle. one_if (is_lowered code (label_of code x) y circle)) (circle_names code y.state)) 0)
        (ne_eqb x.state y.state other)

pub turns-elsewhere : (code : Code) (x y : Generator) → x.state ≢ y.state → turn_count code x y ≡ 0
turns-elsewhere code x y other = elim (cases_eq (turn_count code x y) 0) [
  | inl none ↦ none
  | inr some ↦ absurd (other (turns-state code x y some))
]

module _ (code : Code) (is : IsTrue (accepted code)) (x z : Generator) (in_x : IsMember code x) (in_z : IsMember code z) where
  abbrev turn_then : Generator → ℕ
  turn_then y = turn_count code x y * coefficient 2 code y z

  abbrev then_turn : Generator → ℕ
  then_turn y = coefficient 2 code x y * turn_count code y z

  zero_left : (m n : ℕ) → m ≡ 0 → m * n ≡ 0
  zero_left m n none = ap (λ k. k * n) none ∙ omega arith

  zero_right : (m n : ℕ) → n ≡ 0 → m * n ≡ 0
  zero_right m n none = ap (λ k. m * k) none ∙ omega arith

  factors-some : (m n : ℕ) → m * n ≢ 0 → (m ≢ 0) × (n ≢ 0)
  factors-some m n some = (λ none. some (zero_left m n none), λ none. some (zero_right m n none))

  along : (crossing : ℕ) → IsCrossing code.crossings crossing → IsStep x.state z.state crossing
      → Same 2 (sum_by turn_then (generators code)) (sum_by then_turn (generators code))
  along crossing is_crossing step =
      let edge = switch-edge code x.state crossing is is_crossing step.zero_there in
      let switch = subst (λ (s : ℕ). IsSwitch edge.0 code x.state s crossing) (sym step.behind) edge.1 in
      let before = range_with_len 0 (2 ^ circle_count code x.state) in
      let behind = range_with_len 0 (2 ^ circle_count code z.state) in
      same-equal 2 (sum_by turn_then (generators code))
      (sum_by (λ number. turn_count code x (generator_of x.state number)
      * one_if (fits code (generator_of x.state number) z crossing)) before)
      (sum_by-state code x.state turn_then in_x.state
      (λ y other. zero_left (turn_count code x y) (coefficient 2 code y z) (turns-elsewhere code x y (λ same. other (sym same))))
      ∙ sum_by-alike (λ number. turn_then (generator_of x.state number))
      (λ number. turn_count code x (generator_of x.state number) * one_if (fits code (generator_of x.state number) z crossing))
      (λ number.
      ap (λ n. turn_count code x (generator_of x.state number) * n)
      (coefficient-two code (generator_of x.state number) z crossing is_crossing step))
      before)
      ∙ edge-commutes edge.0 code is x.state z.state x.label z.label crossing switch
      ∙ same-equal 2
      (sum_by (λ number. one_if (fits code x (generator_of z.state number) crossing)
      * turn_count code (generator_of z.state number) z) behind)
      (sum_by then_turn (generators code))
      (sym (sum_by-state code z.state then_turn in_z.state
      (λ y other. zero_right (coefficient 2 code x y) (turn_count code y z) (turns-elsewhere code y z other))
      ∙ sum_by-alike (λ number. then_turn (generator_of z.state number))
      (λ number. one_if (fits code x (generator_of z.state number) crossing) * turn_count code (generator_of z.state number) z)
      (λ number.
      ap (λ n. n * turn_count code (generator_of z.state number) z)
      (coefficient-two code x (generator_of z.state number) crossing is_crossing step))
      behind))

  pub turns-commute : Same 2 (sum_by (λ y. turn_count code x y * coefficient 2 code y z) (generators code))
      (sum_by (λ y. coefficient 2 code x y * turn_count code y z) (generators code))
  turns-commute = elim (cases_eq (sum_by turn_then (generators code)) 0) [
    | inr some ↦
        let term = sum_by-term turn_then (generators code) some in
        let both = factors-some (turn_count code x term.0) (coefficient 2 code term.0 z) term.2 in
        let step = step-along code term.0 z both.1 in
        along step.0 step.1 (subst (λ (s : ℕ). IsStep s z.state step.0) (sym (turns-state code x term.0 both.0)) step.2)
    | inl none ↦ elim (cases_eq (sum_by then_turn (generators code)) 0) [
      | inl none_too ↦ same-equal 2 (sum_by turn_then (generators code)) (sum_by then_turn (generators code)) (none ∙ sym none_too)
      | inr some ↦
          let term = sum_by-term then_turn (generators code) some in
          let both = factors-some (coefficient 2 code x term.0) (turn_count code term.0 z) term.2 in
          let step = step-along code x term.0 both.0 in
          along step.0 step.1 (subst (λ (s : ℕ). IsStep x.state s step.0) (turns-state code term.0 z both.1) step.2)
    ]
  ]
