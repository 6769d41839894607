-- Along an edge a marked circle that has v- keeps it.
use Rattle.std.proofs.Common.{◌≡◌, ◌≢◌, ℕ, inl, inr, ◌∙◌, sym, ap, subst, arith, length, Bool, true, false, IsTrue}
use Rattle.std.proofs.lemmas.Bool.{cases_Bool, cases_eq}
use Rattle.kh_types.specs.Acceptance.{accepted}
use Rattle.kh_types.specs.Code.{Code, IsCrossing}
use Rattle.kh_types.specs.Differential.{coefficient, coefficient_at, edge_sign, label_of}
use Rattle.kh_types.specs.Generators.{Generator}
use Rattle.kh_types.specs.CircleNumbers.{IsName}
use Rattle.kh_types.specs.Edges.{arc_at_slot}
use Rattle.square_laws.proofs.EdgeMarks.{IsChange, label_of-circle, label_of-le}
use Rattle.square_laws.proofs.Marks.{on_or_off}
use Rattle.kh_types.specs.Bits.{one_if}
use Rattle.square_laws.proofs.Merges.{IsSwitch, switch-edge}
use Rattle.square_laws.proofs.Pairs.{IsStep, coefficient_at-edge, edge_or_zero}
use Rattle.square_laws.proofs.SquareKinds.{circle-on}
use Rattle.kh_types.proofs.ListSums.{sum_by-none}
use Rattle.square_laws.proofs.TouchedCircles.{fits, fits-decides}
use Rattle.kh_types.proofs.Sums.{times-zero}

-- a merge with v- gives v-, a split of v- gives v- v-, and all other circles keep their labels
minus-change : (merges : Bool) (code : Code) (tail head : Generator) (crossing mark : ℕ) → IsName code mark
    → IsSwitch merges code tail.state head.state crossing → IsChange merges code tail head crossing
    → label_of code tail mark ≡ 1 → label_of code head mark ≡ 1
minus-change true code tail head crossing mark name merge change minus =
    let x = arc_at_slot code crossing 0 in
    let y = arc_at_slot code crossing 2 in
    let small = label_of-le code head mark in
    elim (on_or_off code tail.state crossing mark) [
      | inl on ↦
          let after = label_of-circle code head mark x (circle-on code tail.state head.state crossing mark merge on) in
          elim on [
            | inl first ↦ omega (arith, after, change.1, minus, small, label_of-circle code tail mark x first)
            | inr third ↦ omega (arith, after, change.1, minus, small, label_of-circle code tail mark y third)
          ]
      | inr off ↦ sym (change.0.at mark name off) ∙ minus
    ]
minus-change false code tail head crossing mark name merge change minus =
    let x = arc_at_slot code crossing 0 in
    let y = arc_at_slot code crossing 2 in
    let of_x = label_of-le code head x in
    let of_y = label_of-le code head y in
    elim (on_or_off code head.state crossing mark) [
      | inl on ↦
          let before = label_of-circle code tail mark x (circle-on code head.state tail.state crossing mark merge on) in
          elim on [
            | inl first ↦ omega (arith, before, change.1, minus, of_x, of_y, label_of-circle code head mark x first)
            | inr third ↦ omega (arith, before, change.1, minus, of_x, of_y, label_of-circle code head mark y third)
          ]
      | inr off ↦ change.0.at mark name off ∙ minus
    ]

minus-fits : (code : Code) (mark : ℕ) (tail head : Generator) (crossing : ℕ) → IsTrue (accepted code) → IsName code mark
    → IsCrossing code.crossings crossing → IsStep tail.state head.state crossing → fits code tail head crossing ≡ true
    → label_of code tail mark ≡ 1 → label_of code head mark ≡ 1
minus-fits code mark tail head crossing is name is_crossing step fit minus =
    let edge = switch-edge code tail.state crossing is is_crossing step.zero_there in
    let switch = subst (λ (s : ℕ). IsSwitch edge.0 code tail.state s crossing) (sym step.behind) edge.1 in
    minus-change edge.0 code tail head crossing mark name switch
    ((fits-decides edge.0 code tail head crossing is switch).0 fit) minus

-- where the v- is lost, the coefficient is 0
pub coefficient-lost : (p : ℕ) (code : Code) (mark : ℕ) (tail head : Generator) → IsTrue (accepted code) → IsName code mark
    → label_of code tail mark ≡ 1 → label_of code head mark ≢ 1 → coefficient p code tail head ≡ 0
coefficient-lost p code mark tail head is name minus lost =
    sum_by-none (coefficient_at p code tail head) 1 (length code.crossings)
    (λ crossing from below. elim (edge_or_zero p code tail head crossing) [
      | inr none ↦ none
      | inl step ↦ elim (cases_Bool (fits code tail head crossing)) [
        | inl fit ↦
            absurd (lost (minus-fits code mark tail head crossing is name (record { positive = from; within = omega (arith, below) }) step
            fit minus))
        | inr fails ↦
            coefficient_at-edge p code tail head crossing step
            ∙ times-zero (edge_sign p tail.state crossing) (one_if (fits code tail head crossing)) (ap one_if fails)
      ]
    ])

pub minus-stays : (p : ℕ) (code : Code) (mark : ℕ) (tail head : Generator) → IsTrue (accepted code) → IsName code mark
    → coefficient p code tail head ≢ 0 → label_of code tail mark ≡ 1 → label_of code head mark ≡ 1
minus-stays p code mark tail head is name some minus = elim (cases_eq (label_of code head mark) 1) [
  | inl stays ↦ stays
  | inr lost ↦ absurd (some (coefficient-lost p code mark tail head is name minus lost))
]
