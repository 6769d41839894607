-- The coefficients of the mirror are those of the diagram, transposed, up to a sign of the row and a sign of the column.
--
-- An edge at place k has the sign of the ones before k in its tail, and the edge back of the mirror that of the zeros there, which are the
-- rest of k. The sign of a generator is that of the sum of the places of its ones (`weight`), which grows by k along the edge. So the signs
-- of row and column make up for the k (`coefficient-step`). Where the diagram has no edge, neither has the mirror (`step-star`), and both
-- coefficients are 0.
use Rattle.std.proofs.Common.{Bool, IsTrue, ap, ap₂, arith, cond, false, inl, inr, length, refl, sym, true, ℕ, ◌*◌, ◌+◌, ◌-◌, ◌<◌, ◌^◌, ◌∙◌, ◌≡◌}
use Rattle.std.proofs.lemmas.Bool.{cases_eq, eq-eqb, ne_eqb}
use Rattle.std.specs.List.{range_with_len, sum_by}
use Rattle.std.specs.Prelude.{nat_eq}
use Rattle.kh_types.proofs.EdgeBits.{bit-set_other, bit-set_there}
use Rattle.kh_types.proofs.ListSums.{sum_by-plus, sum_by-range_alike, sum_by-single}
use Rattle.kh_types.proofs.Residues.{same-equal, same-mul}
use Rattle.kh_types.specs.Acceptance.{accepted}
use Rattle.kh_types.specs.Bits.{bit, ones}
use Rattle.kh_types.specs.Code.{Code, IsCrossing, place_of}
use Rattle.kh_types.specs.Differential.{coefficient}
use Rattle.kh_types.specs.Generators.{Generator}
use Rattle.kh_types.specs.Residues.{Same}
use Rattle.square_laws.proofs.Pairs.{IsStep, coefficient-one}
use Rattle.square_laws.proofs.Signs.{ones-set_above, power_sign, same_parity, signs-product}
use Rattle.square_laws.proofs.TouchedCircles.{fits}
use Rattle.link_algebra.proofs.Flips.{bit-flipped, flipped, ones-flipped}
use Rattle.link_algebra.proofs.MirrorEdges.{AreMirrors, AreStars, AreStars-from, fits-star}
use Rattle.link_algebra.proofs.Renamings.{IsTurned}
use Rattle.link_algebra.proofs.GeneratorLists.{IsGenerator, coefficient-elsewhere}
use Rattle.link_algebra.proofs.Stars.{IsGenerator-star, IsStar, IsStar-back}

-- the sum of the places at which a state has a 1
abbrev pub weight : ℕ → ℕ → ℕ
weight n s = sum_by (λ k. k * bit s k) (range_with_len 0 n)

-- the sign that a generator gets
abbrev pub star_sign : ℕ → ℕ → ℕ → ℕ
star_sign p n s = power_sign p (weight n s)

weight-set : (n s c : ℕ) → bit s c ≡ 0 → c < n → weight n (s + 2 ^ c) ≡ weight n s + c
weight-set n s c is_zero below =
    let there = λ (k : ℕ). cond (nat_eq k c) c 0 in
    let now = bit-set_there s c is_zero in
    sum_by-range_alike (λ k. k * bit (s + 2 ^ c) k) (λ k. k * bit s k + there k) 0 n
    (λ k from within. elim (cases_eq k c) [
      | inl is ↦
          ap (λ b. k * b) (ap (bit (s + 2 ^ c)) is ∙ now)
          ∙ here k c is
          ∙ ap₂ (λ x y. k * x + y) (sym (ap (bit s) is ∙ is_zero)) (ap (λ b. cond b c 0) (sym (eq-eqb k c is)))
      | inr other ↦
          ap (λ b. k * b) (bit-set_other s c is_zero k other)
          ∙ nothing (k * bit s k)
          ∙ ap (λ y. k * bit s k + y) (ap (λ b. cond b c 0) (sym (ne_eqb k c other)))
    ])
    ∙ sum_by-plus (λ k. k * bit s k) there (range_with_len 0 n)
    ∙ ap (λ x. weight n s + x)
    (sum_by-single there 0 n c (omega arith) (omega (arith, below)) (λ k from within other. ap (λ b. cond b c 0) (ne_eqb k c other))
    ∙ ap (λ b. cond b c 0) (eq-eqb c c refl))
  where
    here : (k c : ℕ) → k ≡ c → k * 1 ≡ k * 0 + c
    here k c is = omega (arith, is)

    nothing : (x : ℕ) → x ≡ x + 0
    nothing x = omega arith

-- a step of the diagram is a step back of the mirror
pub step-star : (f back : ℕ → ℕ) (old new : Code) (tail head tail_star head_star : Generator) (crossing : ℕ) → IsGenerator old head
    → IsCrossing old.crossings crossing → IsStar f old new tail tail_star → IsStar f old new head head_star
    → IsStep tail.state head.state crossing → IsStep head_star.state tail_star.state crossing
step-star f back old new tail head tail_star head_star crossing gen is_crossing tail_is head_is step =
    let n = length old.crossings in
    let k = place_of crossing in
    let one : bit head.state k ≡ 1 = ap (λ s. bit s k) step.behind ∙ bit-set_there tail.state k step.zero_there in
    let below : k < n = omega (arith, is_crossing.positive, is_crossing.within) in
    record {
      zero_there = ap (λ s. bit s k) head_is.state ∙ omega (arith, bit-flipped n head.state k gen.state below, one);
      behind = tail_is.state ∙ back_by (2 ^ n) tail.state head.state (2 ^ k) step.behind gen.state
          ∙ ap (λ s. s + 2 ^ k) (sym head_is.state);
    }
  where
    back_by : (m s t u : ℕ) → t ≡ s + u → t < m → m - 1 - s ≡ m - 1 - t + u
    back_by m s t u is below = omega (arith, is, below)

-- along a step the coefficients are the same but for signs
coefficient-step : (p : ℕ) (f back : ℕ → ℕ) (old new : Code) (tail head tail_star head_star : Generator) (crossing : ℕ) → 1 < p
    → AreStars f back old new crossing tail tail_star → AreStars f back old new crossing head head_star
    → IsStep tail.state head.state crossing → IsStep head_star.state tail_star.state crossing
    → Same p (coefficient p old tail head)
    (star_sign p (length old.crossings) tail.state
    * (star_sign p (length old.crossings) head.state * coefficient p new head_star tail_star))
coefficient-step p f back old new tail head tail_star head_star crossing above tail_are head_are step step_back =
    let n = length old.crossings in
    let k = place_of crossing in
    let is_crossing = tail_are.around.is_crossing in
    let below : k < n = omega (arith, is_crossing.positive, is_crossing.within) in
    let o = ones k tail.state in
    let o_star = ones k head_star.state in
    let w = weight n tail.state in
    let v = weight n head.state in
    let b = fits new head_star tail_star crossing in
    let first : coefficient p old tail head ≡ cond b (power_sign p o) 0 =
    coefficient-one p old tail head crossing is_crossing step
    ∙ ap (λ b. cond b (power_sign p o) 0) (fits-star f back old new crossing tail head tail_star head_star tail_are head_are step step_back) in
    let second : coefficient p new head_star tail_star ≡ cond b (power_sign p o_star) 0 =
    coefficient-one p new head_star tail_star crossing
    (record { positive = is_crossing.positive; within = omega (arith, is_crossing.within, tail_are.around.turned.size) }) step_back in
    let weights : v ≡ w + k = ap (weight n) step.behind ∙ weight-set n tail.state k step.zero_there below in
    let counts : o_star + o ≡ k =
    ap (λ s. ones k s + o) head_are.starred.state
    ∙ ap (λ x. ones k (flipped n head.state) + x)
    (sym (ap (ones k) step.behind ∙ ones-set_above tail.state k k step.zero_there (omega arith)))
    ∙ ones-flipped n head.state k head_are.gen.state (omega (arith, below)) in
    same-equal p (coefficient p old tail head) (cond b (power_sign p o) 0) first
    ∙ by b w v o o_star weights counts
    ∙ same-equal p (power_sign p w * (power_sign p v * cond b (power_sign p o_star) 0))
    (power_sign p w * (power_sign p v * coefficient p new head_star tail_star))
    (ap (λ c. power_sign p w * (power_sign p v * c)) (sym second))
  where
    by : (b : Bool) (w v o o_star : ℕ) → v ≡ w + place_of crossing → o_star + o ≡ place_of crossing
        → Same p (cond b (power_sign p o) 0) (power_sign p w * (power_sign p v * cond b (power_sign p o_star) 0))
    by false w v o o_star weights counts =
        same-equal p 0 (power_sign p w * (power_sign p v * 0)) (none (power_sign p w) (power_sign p v))
      where
        none : (x y : ℕ) → 0 ≡ x * (y * 0)
        none x y = omega arith
    by true w v o o_star weights counts =
        let positive : 0 < p = omega (arith, above) in
        same-equal p (power_sign p o) (power_sign p (w + (v + o_star)))
        (same_parity p o (w + (v + o_star)) (omega (arith, weights, counts)))
        ∙ sym (signs-product p w (v + o_star) positive)
        ∙ sym (same-mul p (power_sign p w) (power_sign p w) (power_sign p v * power_sign p o_star) (power_sign p (v + o_star)) refl
        (signs-product p v o_star positive))

-- and so are all coefficients
pub coefficient-star : (p : ℕ) (f back : ℕ → ℕ) (old new : Code) (tail head tail_star head_star : Generator) → 1 < p
    → IsTrue (accepted old) → IsTrue (accepted new) → IsTurned f back old new → IsGenerator old tail → IsGenerator old head
    → IsStar f old new tail tail_star → IsStar f old new head head_star
    → Same p (coefficient p old tail head)
    (star_sign p (length old.crossings) tail.state
    * (star_sign p (length old.crossings) head.state * coefficient p new head_star tail_star))
coefficient-star p f back old new tail head tail_star head_star above old_is new_is turned tail_gen head_gen tail_is head_is =
    let n = length old.crossings in
    let along : (crossing : ℕ) → IsCrossing old.crossings crossing → IsStep tail.state head.state crossing
    → IsStep head_star.state tail_star.state crossing
    → Same p (coefficient p old tail head)
    (star_sign p n tail.state * (star_sign p n head.state * coefficient p new head_star tail_star)) =
    λ crossing is_crossing step step_back.
    let around : AreMirrors f back old new crossing =
    record { old_is = old_is; new_is = new_is; turned = turned; is_crossing = is_crossing } in
    coefficient-step p f back old new tail head tail_star head_star crossing above
    (AreStars-from f back old new crossing tail tail_star around tail_gen tail_is)
    (AreStars-from f back old new crossing head head_star around head_gen head_is) step step_back in
    elim (cases_eq (coefficient p old tail head) 0) [
      | inr some ↦
          let at = coefficient-elsewhere p old tail head some in
          let step = at.2 in
          along at.0 at.1 step (step-star f back old new tail head tail_star head_star at.0 head_gen at.1 tail_is head_is step)
      | inl none ↦ elim (cases_eq (coefficient p new head_star tail_star) 0) [
        | inl none_too ↦
            same-equal p (coefficient p old tail head)
            (star_sign p n tail.state * (star_sign p n head.state * coefficient p new head_star tail_star))
            (none ∙ nothing (star_sign p n tail.state) (star_sign p n head.state)
            ∙ ap (λ c. star_sign p n tail.state * (star_sign p n head.state * c)) (sym none_too))
        | inr some ↦
            let at = coefficient-elsewhere p new head_star tail_star some in
            let step_back = at.2 in
            let is_crossing : IsCrossing old.crossings at.0 =
            record { positive = at.1.positive; within = omega (arith, at.1.within, turned.size) } in
            let step = step-star back f new old head_star tail_star head tail at.0
            (IsGenerator-star f back old new tail tail_star turned tail_is) at.1
            (IsStar-back f back old new head head_star old_is new_is turned head_gen head_is)
            (IsStar-back f back old new tail tail_star old_is new_is turned tail_gen tail_is) step_back in
            along at.0 is_crossing step step_back
      ]
    ]
  where
    nothing : (x y : ℕ) → 0 ≡ x * (y * 0)
    nothing x y = omega arith
