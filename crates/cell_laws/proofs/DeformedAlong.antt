-- A deformed coefficient goes along a step, where it is the sign times the number of the labels.
use Rattle.std.proofs.Common.{◌≡◌, ◌≢◌, ℕ, inl, inr, ◌+◌, ◌-◌, ◌*◌, ◌%◌, ◌^◌, ◌∙◌, length, sym, ap, arith}
use Rattle.std.proofs.Math.Pow.{pow-lt}
use Rattle.std.proofs.lemmas.Bool.{cases_lt}
use Rattle.kh_types.specs.Bits.{bit, ones}
use Rattle.kh_types.specs.Code.{Code, place_of}
use Rattle.kh_types.specs.Generators.{Generator}
use Rattle.kh_types.proofs.ListSums.{sum_by-single, sum_by-some}
use Rattle.cell_laws.specs.Signs.{sign_of_power}
use Rattle.cell_laws.proofs.CubeCells.{IsStepAt}
use Rattle.square_laws.specs.Deformed.{deformed_at, deformed_coefficient, label_number, opposite}
use Rattle.square_laws.proofs.DeformedSquares.{deformed_at-along, deformed_at-edge}

-- a coefficient other than 0 goes along a step
pub deformed-step : (p h : ℕ) (code : Code) (tail head : Generator) → deformed_coefficient p h code tail head ≢ 0
    → (place : ℕ) × IsStepAt code tail.state head.state place
deformed-step p h code tail head some =
    let found = sum_by-some (deformed_at p h code tail head) 1 (length code.crossings) some in
    elim (deformed_at-along p h code tail head found.0) [
      | inl step ↦
          (place_of found.0, record { within = omega (arith, found.1, found.2); zero_there = step.zero_there; behind = step.behind })
      | inr none ↦ absurd (found.3 none)
    ]

pub deformed-along : (p h : ℕ) (code : Code) (tail head : Generator) (place : ℕ) → IsStepAt code tail.state head.state place
    → deformed_coefficient p h code tail head
    ≡ sign_of_power p (ones place tail.state) * label_number h (opposite p h) code tail head (place + 1) % p
deformed-along p h code tail head place step =
    let e : place ≡ place + 1 - 1 = omega arith in
    sum_by-single (deformed_at p h code tail head) 1 (length code.crossings) (place + 1) (omega arith) (omega (arith, step.within))
    (λ other from below differs. elim (deformed_at-along p h code tail head other) [
      | inr none ↦ none
      | inl too ↦ elim (cases_lt place (place_of other)) [
        | inl less ↦ absurd (omega (arith, step.behind, too.behind, pow-lt less))
        | inr not_less ↦ elim (cases_lt (place_of other) place) [
          | inl more ↦ absurd (omega (arith, step.behind, too.behind, pow-lt more))
          | inr not_more ↦ absurd (omega (arith, not_less, not_more, differs, from))
        ]
      ]
    ])
    ∙ deformed_at-edge p h code tail head (place + 1)
    (record {
      zero_there = ap (bit tail.state) (sym e) ∙ step.zero_there;
      behind = step.behind ∙ ap (λ m. tail.state + 2 ^ m) e;
    })
    ∙ ap (λ m. sign_of_power p (ones m tail.state) * label_number h (opposite p h) code tail head (place + 1) % p) (sym e)
