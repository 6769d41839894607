-- Numbers along outer steps.
use Rattle.std.proofs.Common.{◌≡◌, ◌≢◌, ℕ, ◌⊎◌, inl, inr, ◌+◌, ◌-◌, ◌*◌, ◌%◌, ◌^◌, ◌<◌, ◌∙◌, List, ap, ap₂, arith, Bool, cond, ◌&&◌}
use Rattle.std.specs.Prelude.{nat_eq}
use Rattle.std.specs.List.{range_with_len}
use Rattle.std.proofs.lemmas.Bool.{and_from, and_parts, cases_Bool, cases_eq, cases_lt, eq-eqb, eqb-true}
use Rattle.std.proofs.Math.Pow.{pow-lt}
use Rattle.kh_types.specs.Bits.{bit, ones}
use Rattle.kh_types.proofs.ListSums.{sum_by-alike, sum_by-single, sum_by-some}
use Rattle.view_laws.specs.Partitions.{AgreeOn, deformed_saddle_number}
use Rattle.view_laws.specs.ViewLayers.{outer_along, outer_number}
use Rattle.cell_laws.specs.Signs.{sign_of_power}
use Rattle.square_laws.specs.Deformed.{opposite}
use Rattle.view_laws.proofs.Seen.{saddle-alike}

-- outer steps
pub record IsOuterStep (s t place : ℕ) : Type 0 where
  pub zero_there : bit s place ≡ 0
  pub behind : t ≡ s + 2 ^ place

pub one-place : (s t first second : ℕ) → IsOuterStep s t first → IsOuterStep s t second → first ≡ second
one-place s t first second one two = elim (cases_lt first second) [
  | inl less ↦ absurd (omega (arith, one.behind, two.behind, pow-lt less))
  | inr not_less ↦ elim (cases_lt second first) [
    | inl more ↦ absurd (omega (arith, one.behind, two.behind, pow-lt more))
    | inr not_more ↦ omega (arith, not_less, not_more)
  ]
]

module _ (p h count inside_ones : ℕ) (relation : ℕ → ℕ → ℕ → Bool) (names : List ℕ) (s t label other : ℕ) where
  abbrev term : ℕ → ℕ
  term place = outer_along p h inside_ones relation names s t label other place

  abbrev value : ℕ → ℕ
  value place =
      sign_of_power p (inside_ones + ones place s) * deformed_saddle_number h (opposite p h) (relation s) (relation t) names label other % p

  abbrev test : ℕ → Bool
  test place = nat_eq (bit s place) 0 && nat_eq t (s + 2 ^ place)

  step-or_zero : (place : ℕ) → IsOuterStep s t place ⊎ (term place ≡ 0)
  step-or_zero place = elim (cases_Bool (test place)) [
    | inl passes ↦
        let both = and_parts (nat_eq (bit s place) 0) (nat_eq t (s + 2 ^ place)) passes in
        inl (record { zero_there = eqb-true (bit s place) 0 both.0; behind = eqb-true t (s + 2 ^ place) both.1 })
    | inr fails ↦ inr (ap (λ b. cond b (value place) 0) fails)
  ]

  pub outer-one : (place : ℕ) → place < count → IsOuterStep s t place
      → outer_number p h count inside_ones relation names s t label other
      ≡ sign_of_power p (inside_ones + ones place s)
      * deformed_saddle_number h (opposite p h) (relation s) (relation t) names label other % p
  outer-one place below step =
      sum_by-single term 0 count place (omega arith) (omega (arith, below))
      (λ another from another_below differ. elim (step-or_zero another) [
        | inl too ↦ absurd (differ (one-place s t another place too step))
        | inr none ↦ none
      ])
      ∙ ap (λ b. cond b (value place) 0)
      (and_from (nat_eq (bit s place) 0) (nat_eq t (s + 2 ^ place)) (eq-eqb (bit s place) 0 step.zero_there)
      (eq-eqb t (s + 2 ^ place) step.behind))

  pub outer-some : outer_number p h count inside_ones relation names s t label other ≢ 0
      → (place : ℕ) × (place < count) × IsOuterStep s t place
  outer-some some =
      let found = sum_by-some term 0 count some in
      elim (step-or_zero found.0) [
        | inl step ↦ (found.0, omega (arith, found.2), step)
        | inr none ↦ absurd (found.3 none)
      ]

  pub outer-none : ((place : ℕ) → place < count → IsOuterStep s t place → ⊥)
      → outer_number p h count inside_ones relation names s t label other ≡ 0
  outer-none none = elim (cases_eq (outer_number p h count inside_ones relation names s t label other) 0) [
    | inl zero_is ↦ zero_is
    | inr some ↦ let found = outer-some some in absurd (none found.0 found.1 found.2)
  ]

-- numbers along outer steps depend only on what is together, and on the parity of the ones inside
pub outer-alike : (p h count first second : ℕ) (r q : ℕ → ℕ → ℕ → Bool) (names : List ℕ) (s t label other : ℕ)
    → first % 2 ≡ second % 2 → AgreeOn names (r s) (q s) → AgreeOn names (r t) (q t)
    → outer_number p h count first r names s t label other ≡ outer_number p h count second q names s t label other
outer-alike p h count first second r q names s t label other parity same_s same_t =
    sum_by-alike (outer_along p h first r names s t label other) (outer_along p h second q names s t label other)
    (λ i.
    ap₂ (λ a b. cond (nat_eq (bit s i) 0 && nat_eq t (s + 2 ^ i)) (a * b % p) 0)
    (ap (λ n. cond (nat_eq n 0) 1 (p - 1)) (shifted first second (ones i s) parity))
    (saddle-alike (r s) (r t) (q s) (q t) names label other same_s same_t h (opposite p h)))
    (range_with_len 0 count)
  where
    shifted : (a b n : ℕ) → a % 2 ≡ b % 2 → (a + n) % 2 ≡ (b + n) % 2
    shifted a b n same = omega (arith, same)
