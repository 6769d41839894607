-- Parts that are alike to an accepted code, with its directions, are renumbered to an accepted code with the same state sum.
use Rattle.std.proofs.lemmas.Bool.Decides.{nat_tests}
use Rattle.std.proofs.Common.{◌≡◌, ◌≢◌, ℕ, inl, inr, ◌+◌, ◌-◌, ◌*◌, ◌/◌, ◌%◌, ◌<◌, ◌∙◌, List, [], length, sym, ap, ap₂, arith, ℤ}
use Rattle.std.specs.Prelude.{slice_index_or, IsTrue}
use Rattle.kh_types.specs.Code.{Code, arc_in, slots_of, IsCrossing}
use Rattle.kh_types.specs.Classes.{class_count}
use Rattle.kh_types.specs.Darts.{arc_of, dart_at}
use Rattle.kh_types.specs.Directions.{is_positive, plus_count, HasNoSingleArcs}
use Rattle.kh_types.specs.StateSum.{state_sum}
use Rattle.kh_types.specs.Accepted.{IsDirected, IsAccepted}
use Rattle.kh_types.specs.Acceptance.{accepted}
use Rattle.kh_types.proofs.AcceptedLemmas.{IsAccepted-is, HasArcsTwice-directed}
use Rattle.kh_types.proofs.CircleBound.{ArcsBelow-slots}
use Rattle.kh_types.proofs.Heads.{HasNoSingleArcs-accepted}
use Rattle.kh_types.proofs.RangeCounts.{count_by-alike}
use Rattle.code_passes.specs.Parts.{Parts, ArePaired}
use Rattle.orient_arcs.specs.Renumbered.{renumber}
use Rattle.orient_arcs.specs.Alike.{IsOf}
use Rattle.orient_arcs.proofs.Bridge.{IsDirected-renumbered, sign-kept}
use Rattle.orient_arcs.proofs.AlikeCrossings.{AreAlike-then, AreAlike-renumbered, IsCheckerboard-alike, faces-alike, pieces-alike, component_count-alike, state_sum-alike, name_count}
use Rattle.gluing_laws.specs.Alike.{AreAlike}

-- the arcs of an over pass differ where no arc is its own next
pub over-apart : (crossings : List (List ℕ)) → IsDirected crossings → HasNoSingleArcs crossings → (crossing : ℕ)
    → IsCrossing crossings crossing → arc_in (slots_of crossings crossing) 1 ≢ arc_in (slots_of crossings crossing) 3
over-apart crossings directed moves crossing is same =
    let slots = slots_of crossings crossing in
    let arc = λ (slot : ℕ) (below : slot < 4). directed.slots (record { crossing = crossing; slot = slot })
    (record { crossing = is; slot = below }) in
    elim (directed.over crossing is) [
      | inl up ↦ moves (arc_in slots 1) (arc 1 (omega arith)) (sym up ∙ sym same)
      | inr down ↦ moves (arc_in slots 3) (arc 3 (omega arith)) (sym down ∙ same)
    ]

module _ (code : Code) (parts : Parts) (holds : IsTrue (accepted code)) (of_code : IsOf code parts) (paired : ArePaired parts) where
  abbrev new : Code
  new = renumber parts

  is : IsAccepted code
  is = (IsAccepted-is code).0 holds

  alike : AreAlike code.crossings new.crossings
  alike = AreAlike-then code.crossings parts.crossings new.crossings of_code.alike (AreAlike-renumbered parts paired)

  signs : (crossing : ℕ) → IsCrossing code.crossings crossing → is_positive new.crossings crossing ≡ is_positive code.crossings crossing
  signs crossing is_crossing =
      let place = crossing - 1 in
      let size = of_code.alike.size in
      let first : (4 * place + 1) / 4 + 1 - 1 ≡ place = omega arith in
      let third : (4 * place + 3) / 4 + 1 - 1 ≡ place = omega arith in
      let first_slot : (4 * place + 1) % 4 ≡ 1 = omega arith in
      let third_slot : (4 * place + 3) % 4 ≡ 3 = omega arith in
      let at : (crossings : List (List ℕ)) (dart slot : ℕ) → dart / 4 + 1 - 1 ≡ place → dart % 4 ≡ slot
      → arc_of crossings (dart_at dart) ≡ arc_in (slots_of crossings crossing) slot =
      λ crossings dart slot p s. ap₂ (λ k l. arc_in (slice_index_or crossings k []) l) p s in
      let below : 4 * place + 3 < 4 * length code.crossings = omega (arith, is_crossing.positive, is_crossing.within) in
      sign-kept parts paired crossing (record { positive = is_crossing.positive; within = omega (arith, is_crossing.within, size) })
      (λ same. over-apart code.crossings (HasNoSingleArcs-accepted code holds).0 (HasNoSingleArcs-accepted code holds).1 crossing is_crossing
      (sym (at code.crossings (4 * place + 1) 1 first first_slot)
      ∙ of_code.alike.back (4 * place + 1) (4 * place + 3) (omega (arith, below)) below
      (at parts.crossings (4 * place + 1) 1 first first_slot ∙ same ∙ sym (at parts.crossings (4 * place + 3) 3 third third_slot))
      ∙ at code.crossings (4 * place + 3) 3 third third_slot))
      ∙ of_code.signs crossing is_crossing

  plus : plus_count new.crossings ≡ plus_count code.crossings
  plus = grind (arith, nat_tests, alike, count_by-alike, signs)

  pub IsAccepted-renumbered : IsTrue (accepted new)
  IsAccepted-renumbered =
      let directed = IsDirected-renumbered parts paired in
      let twice = HasArcsTwice-directed code.crossings is.directed in
      let new_twice = HasArcsTwice-directed new.crossings directed in
      let components = component_count-alike code.crossings new.crossings alike twice new_twice in
      let few = is.components in
      let loops = of_code.loops in
      (IsAccepted-is new).1 (record {
        directed = directed;
        checkerboard = IsCheckerboard-alike code.crossings new.crossings alike twice new_twice is.checkerboard;
        faces = ap class_count (faces-alike code.crossings new.crossings alike) ∙ is.faces
            ∙ ap₂ (λ n k. n + 2 * class_count k) (sym alike.size) (sym (pieces-alike code.crossings new.crossings alike));
        components = omega (arith, few, components, loops);
      })

  pub state_sum-renumbered : (exponent : ℤ) → state_sum new exponent ≡ state_sum code exponent
  state_sum-renumbered exponent =
      let twice = HasArcsTwice-directed code.crossings is.directed in
      let new_twice = HasArcsTwice-directed new.crossings (IsDirected-renumbered parts paired) in
      state_sum-alike code new alike of_code.loops (ArcsBelow-slots (name_count code) code.crossings twice.slots (omega arith))
      (ArcsBelow-slots (name_count new) new.crossings new_twice.slots (omega arith)) plus exponent
