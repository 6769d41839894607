-- The passes of the mirror over the arcs of the code: each goes from an arc to the next, over where it was under.
use Rattle.std.proofs.lemmas.Bool.Decides.{nat_tests}
use Rattle.std.proofs.Common.{◌≡◌, ℕ, ◌+◌, ◌<◌, ◌∙◌, List, [], ◌∷◌, length, sym, ap, subst, arith, Bool, true, not, pos, neg_ℤ, IsTrue}
use Rattle.std.specs.Prelude.{MatchBool}
use Rattle.std.specs.List.{AllByRecursion}
use Rattle.std.proofs.lemmas.Int.{ints}
use Rattle.kh_types.specs.Acceptance.{accepted}
use Rattle.kh_types.specs.Accepted.{IsDirected}
use Rattle.kh_types.specs.Code.{Code, IsArc, IsCrossing, slots_of}
use Rattle.kh_types.specs.Components.{next}
use Rattle.kh_types.specs.Directions.{HasNoSingleArcs, IsPass, is_positive}
use Rattle.kh_types.specs.declared.dart.Dart.{Dart}
use Rattle.kh_types.proofs.Heads.{HasNoSingleArcs-accepted, IsPass-over, IsPass-under}
use Rattle.code_passes.specs.ComponentLabels.{entering_label, label_at}
use Rattle.code_passes.specs.Passes.{Pass, is_over}
use Rattle.code_passes.specs.Parts.{ArePaired, is_positive_at, over_pass, passes_at, passes_through, under_pass}
use Rattle.orient_arcs.specs.Renumbered.{follows, label_entered}
use Rattle.orient_arcs.proofs.Members.{IsIn}
use Rattle.orient_arcs.proofs.PairedPasses.{All-flat_map_range, entering-enters, entering-holds, heads_of}
use Rattle.link_algebra.specs.Mirrors.{mirror_parts, mirror_slots, over_slot, slots_from}
use Rattle.link_algebra.proofs.MirrorParts.{IsTurnOf-mirror, listed, mirror-sign, mirror_turn}
use Rattle.link_algebra.proofs.TurnedParts.{IsTurnOf, arc-head, head-arc, paired}

-- what a label over the mirror tells of the code
pub under-of : (dart : Dart) → is_over (neg_ℤ (label_at dart)) ≡ true → (dart.slot ≡ 0) × (neg_ℤ (label_at dart) ≡ pos dart.crossing)
under-of dart over = grind (arith, nat_tests)

module _ (code : Code) (holds : IsTrue (accepted code)) where
  abbrev directed : IsDirected code.crossings
  directed = (HasNoSingleArcs-accepted code holds).0

  abbrev moves : HasNoSingleArcs code.crossings
  moves = (HasNoSingleArcs-accepted code holds).1

  abbrev passes : List Pass
  passes = passes_through (mirror_parts code)

  abbrev turn : IsTurnOf (λ crossing. mirror_turn (is_positive code.crossings crossing)) code (mirror_parts code)
  turn = IsTurnOf-mirror code holds

  pub paired_parts : ArePaired (mirror_parts code)
  paired_parts = paired (λ crossing. mirror_turn (is_positive code.crossings crossing)) code holds (mirror_parts code) turn

  pub arc-there : (x : ℕ) → IsArc code.crossings x → IsIn x (heads_of (mirror_parts code) paired_parts)
  arc-there x is = arc-head (λ crossing. mirror_turn (is_positive code.crossings crossing)) code holds (mirror_parts code) turn x is

  pub there-arc : (x : ℕ) → IsIn x (heads_of (mirror_parts code) paired_parts) → IsArc code.crossings x
  there-arc x is = head-arc (λ crossing. mirror_turn (is_positive code.crossings crossing)) code holds (mirror_parts code) turn x is

  -- a pass goes from an arc to the next, over where it was under
  IsMirrored : Pass → Type 0
  IsMirrored pass =
      (pass.leaves ≡ next code.crossings pass.enters) × (pass.label ≡ neg_ℤ (entering_label code.crossings pass.enters))

  mirrored-passes : AllByRecursion IsMirrored passes
  unfolding IsMirrored
  mirrored-passes =
      All-flat_map_range IsMirrored (passes_at (mirror_parts code)) 0 (length (mirror_parts code).crossings)
      (λ place from below.
      let within : place < length code.crossings = omega (arith, below, turn.size) in
      let is : IsCrossing code.crossings (place + 1) = record { positive = omega arith; within = omega (arith, within) } in
      subst (λ (slots : List ℕ). AllByRecursion IsMirrored
      (under_pass slots place ∷ over_pass slots (is_positive_at (mirror_parts code).positive place) place ∷ []))
      (sym (listed code (mirror_slots code.crossings) place within))
      (subst (λ (b : Bool). AllByRecursion IsMirrored
      (under_pass (mirror_slots code.crossings (place + 1)) place ∷ over_pass (mirror_slots code.crossings (place + 1)) b place ∷ []))
      (sym (mirror-sign code place within))
      (by (is_positive code.crossings (place + 1)) place (IsPass-under code.crossings directed moves (place + 1) is)
      (IsPass-over code.crossings directed moves (place + 1) is))))
    where
      again : (c : ℕ) → pos c ≡ neg_ℤ (neg_ℤ (pos c))
      again c = omega (arith, ints)

      by : (d : Bool) (place : ℕ) → IsPass code.crossings (place + 1) 0 2
          → MatchBool d (IsPass code.crossings (place + 1) 3 1) (IsPass code.crossings (place + 1) 1 3)
          → AllByRecursion IsMirrored
          (under_pass (slots_from (over_slot d) (slots_of code.crossings (place + 1))) place
          ∷ over_pass (slots_from (over_slot d) (slots_of code.crossings (place + 1))) (not d) place ∷ [])
      by d place under over = grind (arith, nat_tests)

  pub follows-next : (x : ℕ) → IsArc code.crossings x → follows (passes_through (mirror_parts code)) x ≡ next code.crossings x
  unfolding IsMirrored
  follows-next x is =
      (entering-holds (mirror_parts code) paired_parts IsMirrored x mirrored-passes (arc-there x is)).0
      ∙ ap (next code.crossings) (entering-enters (mirror_parts code) paired_parts x (arc-there x is))

  pub label-mirrored : (x : ℕ) → IsArc code.crossings x
      → label_entered (passes_through (mirror_parts code)) x ≡ neg_ℤ (entering_label code.crossings x)
  unfolding IsMirrored
  label-mirrored x is =
      (entering-holds (mirror_parts code) paired_parts IsMirrored x mirrored-passes (arc-there x is)).1
      ∙ ap (λ z. neg_ℤ (entering_label code.crossings z)) (entering-enters (mirror_parts code) paired_parts x (arc-there x is))
