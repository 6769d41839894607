-- The mirror of the mirror, and the reversal of the reversal, up to the numbers of arcs.
use Rattle.std.proofs.lemmas.Bool.Decides.{nat_tests}
use Rattle.std.proofs.Common.{◌≡◌, ℕ, ◌+◌, ◌%◌, ◌∙◌, ℤ, neg_ℤ, not, refl, sym, ap, ap₂, arith, Bool, true, false, IsTrue}
use Rattle.std.proofs.lemmas.Int.{ints}
use Rattle.kh_types.specs.Acceptance.{accepted}
use Rattle.kh_types.specs.Code.{Code, IsCrossing}
use Rattle.kh_types.specs.Components.{component_count}
use Rattle.kh_types.specs.Directions.{is_positive}
use Rattle.kh_types.specs.Residues.{HasInverses}
use Rattle.kh_types.specs.StateSum.{state_sum}
use Rattle.kh_types.specs.Table.{dimension}
use Rattle.kh_types.proofs.EdgeNames.{IsArc-slot}
use Rattle.kh_types.proofs.Heads.{HasNoSingleArcs-accepted}
use Rattle.gluing_laws.specs.Alike.{AreAlike}
use Rattle.orient_arcs.proofs.AlikeCrossings.{AreAlike-renamed}
use Rattle.link_algebra.specs.Mirrors.{mirror_of, reversal_of}
use Rattle.link_algebra.proofs.MirrorParts.{mirror_turn}
use Rattle.link_algebra.proofs.Renamings.{IsRotated}
use Rattle.link_algebra.proofs.RotatedCodes.{component_count-rotated}
use Rattle.link_algebra.proofs.TurnedCodes.{IsRotated-through, mirror-accepted, mirror-dimension, mirror-rotated, mirror-signs, mirror-sum, mirror_by, mirror_name, mirror_number, reversal-accepted, reversal-rotated, reversal-signs, reversal_name, reversal_number}
use Rattle.kh_types.proofs.Tests.{twice-not}

-- two turns that make a whole one
alike-turned : (by other f back g home : ℕ → ℕ) (old middle new : Code) → IsTrue (accepted old) → IsRotated by f back old middle
    → IsRotated other g home middle new → ((crossing : ℕ) → IsCrossing old.crossings crossing → (by crossing + other crossing) % 4 ≡ 0)
    → AreAlike old.crossings new.crossings
alike-turned by other f back g home old middle new is first second whole =
    grind (arith, nat_tests, whole, IsRotated-through, IsArc-slot, AreAlike-renamed)

module _ (code : Code) (holds : IsTrue (accepted code)) where
  there-too : (crossing : ℕ) → IsCrossing code.crossings crossing → IsCrossing (mirror_of code).crossings crossing
  there-too crossing is = record { positive = is.positive; within = omega (arith, is.within, (mirror-rotated code holds).size) }

  pub mirror-alike : AreAlike code.crossings (mirror_of (mirror_of code)).crossings
  mirror-alike =
      let mirror_is = mirror-accepted code holds in
      alike-turned (mirror_by code holds) (mirror_by (mirror_of code) mirror_is) (mirror_number code holds) (mirror_name code holds)
      (mirror_number (mirror_of code) mirror_is) (mirror_name (mirror_of code) mirror_is) code (mirror_of code) (mirror_of (mirror_of code))
      holds (mirror-rotated code holds) (mirror-rotated (mirror_of code) mirror_is)
      (λ crossing is.
      ap (λ b. (mirror_turn (is_positive code.crossings crossing) + mirror_turn b) % 4) (mirror-signs code holds crossing is)
      ∙ whole (is_positive code.crossings crossing))
    where
      whole : (b : Bool) → (mirror_turn b + mirror_turn (not b)) % 4 ≡ 0
      whole true = refl
      whole false = refl

  pub mirror-twice_signs : (crossing : ℕ) → IsCrossing code.crossings crossing
      → is_positive (mirror_of (mirror_of code)).crossings crossing ≡ is_positive code.crossings crossing
  mirror-twice_signs crossing is =
      mirror-signs (mirror_of code) (mirror-accepted code holds) crossing (there-too crossing is)
      ∙ ap not (mirror-signs code holds crossing is) ∙ twice-not (is_positive code.crossings crossing)

  back-again : (i : ℤ) → neg_ℤ (neg_ℤ i) ≡ i
  back-again i = omega (arith, ints)

  pub mirror-twice_sum : (e : ℤ) → state_sum (mirror_of (mirror_of code)) e ≡ state_sum code e
  mirror-twice_sum e =
      ap (state_sum (mirror_of (mirror_of code))) (sym (back-again e))
      ∙ mirror-sum (mirror_of code) (mirror-accepted code holds) (neg_ℤ e) ∙ mirror-sum code holds e

  pub mirror-twice_dimension : (p : ℕ) (i j : ℤ) → HasInverses p → dimension p (mirror_of (mirror_of code)) i j ≡ dimension p code i j
  mirror-twice_dimension p i j inverses =
      ap₂ (dimension p (mirror_of (mirror_of code))) (sym (back-again i)) (sym (back-again j))
      ∙ mirror-dimension (mirror_of code) (mirror-accepted code holds) p (neg_ℤ i) (neg_ℤ j) inverses
      ∙ mirror-dimension code holds p i j inverses

  pub reversal-alike : AreAlike code.crossings (reversal_of (reversal_of code)).crossings
  reversal-alike =
      let reversal_is = reversal-accepted code holds in
      alike-turned (λ crossing. 2) (λ crossing. 2) (reversal_number code holds) (reversal_name code holds)
      (reversal_number (reversal_of code) reversal_is) (reversal_name (reversal_of code) reversal_is) code (reversal_of code)
      (reversal_of (reversal_of code)) holds (reversal-rotated code holds) (reversal-rotated (reversal_of code) reversal_is)
      (λ crossing is. refl)

  pub reversal-twice_signs : (crossing : ℕ) → IsCrossing code.crossings crossing
      → is_positive (reversal_of (reversal_of code)).crossings crossing ≡ is_positive code.crossings crossing
  reversal-twice_signs crossing is =
      reversal-signs (reversal_of code) (reversal-accepted code holds) crossing
      (record { positive = is.positive; within = omega (arith, is.within, (reversal-rotated code holds).size) })
      ∙ reversal-signs code holds crossing is

  -- components
  pub mirror-components : component_count (mirror_of code).crossings ≡ component_count code.crossings
  mirror-components =
      component_count-rotated (mirror_by code holds) (mirror_number code holds) (mirror_name code holds) code (mirror_of code)
      (HasNoSingleArcs-accepted code holds).0 (HasNoSingleArcs-accepted (mirror_of code) (mirror-accepted code holds)).0
      (mirror-rotated code holds)

  pub reversal-components : component_count (reversal_of code).crossings ≡ component_count code.crossings
  reversal-components =
      component_count-rotated (λ crossing. 2) (reversal_number code holds) (reversal_name code holds) code (reversal_of code)
      (HasNoSingleArcs-accepted code holds).0 (HasNoSingleArcs-accepted (reversal_of code) (reversal-accepted code holds)).0
      (reversal-rotated code holds)
