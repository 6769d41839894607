-- What is dropped again after it was added leaves the code that was.
use Rattle.std.proofs.lemmas.Bool.Decides.{nat_tests}
use Rattle.std.proofs.Common.{◌≡◌, ℕ, ◌+◌, ◌-◌, ◌∙◌, List, length, ap, ap₂, arith, Bool}
use Rattle.std.specs.Prelude.{Option, None, Ok}
use Rattle.std.specs.List.{AllByRecursion}
use Rattle.kh_types.specs.Code.{Code, arc_in}
use Rattle.code_passes.specs.Parts.{slots_in, ArePaired}
use Rattle.orient_arcs.specs.Renumbered.{renumber}
use Rattle.kink_and_finger_laws.specs.Drops.{dropped, straight_names}
use Rattle.kink_and_finger_laws.proofs.KeptCodes.{kept-sign, kept-slots, length-kept, renamed_slots-at}
use Rattle.orient_arcs.specs.OtherNames.{IsNamedBy}
use Rattle.orient_arcs.proofs.AscendingNames.{KeepsComponents-ascending}
use Rattle.orient_arcs.proofs.KeptOrder.{own-crossings}
use Rattle.kink_and_finger_laws.specs.Drops.{ring_count}
use Rattle.kink_and_finger_laws.proofs.RisenNumbers.{rise-less}
use Rattle.kink_and_finger_laws.proofs.AddedCodes.{IsAdded}
use Rattle.kink_and_finger_laws.proofs.AddedDrops.{AreAddedGone, map-places, no-ring, old-names}
use Rattle.kink_and_finger_laws.proofs.AddedSigns.{sign-old}
use Rattle.diagram_moves.specs.declared.fault.MoveFault.{MoveFault}
use Rattle.diagram_moves.specs.Moved.{answered}

-- where the answer is a code there was no fault, and it is the code
pub answered-ok : (fault : Option MoveFault) (code new : Code) → answered fault code ≡ Ok new → (fault ≡ None) × (code ≡ new)
answered-ok fault code new is = grind (arith, nat_tests)

-- where added crossings are dropped the old code is left, on arcs whose names ascend
pub added-back : (old new : Code) (rise end low : ℕ → ℕ) (sign gone : ℕ → Bool)
    → IsAdded old.crossings new.crossings rise end low sign → AreAddedGone old.crossings new.crossings gone → new.loops ≡ old.loops
    → AllByRecursion (λ (slots : List ℕ). length slots ≡ 4) old.crossings → ArePaired (dropped new gone)
    → renumber (dropped new gone) ≡ old
added-back old new rise end low sign gone added are loops four paired =
    let n = length old.crossings in
    let longer : length new.crossings ≡ n + (length new.crossings - length old.crossings) = omega (arith, added.longer) in
    let places = map-places added gone are in
    let named : IsNamedBy rise old (dropped new gone) = record {
      size = length-kept new.crossings gone (λ i. i) n places;
      names = λ place slot below slot_below.
          ap (λ slots. arc_in slots slot) (kept-slots new.crossings gone (λ i. i) n place places below)
          ∙ renamed_slots-at (straight_names new.crossings gone) (slots_in new.crossings place) slot slot_below
          ∙ old-names added gone are place slot below slot_below;
      signs = λ place below.
          kept-sign new.crossings gone (λ i. i) n place places below
          ∙ sign-old added (place + 1) (length new.crossings - length old.crossings)
          (record { positive = omega arith; within = omega (arith, below) }) longer;
    } in
    let rings : new.loops + ring_count new.crossings gone ≡ old.loops = omega (arith, loops, no-ring added gone are) in
    ap₂ (λ (xs : List (List ℕ)) (k : ℕ). code_with xs k)
    (own-crossings old added.directed added.no_single (dropped new gone) paired rise named
    (KeepsComponents-ascending rise old.crossings added.directed (rise-less added.numbers)) four)
    rings
  where
    code_with : List (List ℕ) → ℕ → Code
    code_with xs k = record { crossings = xs; loops = k }
