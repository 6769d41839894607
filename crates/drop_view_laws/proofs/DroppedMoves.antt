-- What the moves that drop a kink or a finger leave, and that the cube of a code is that of the code with some crossings first.
use Rattle.std.proofs.lemmas.Bool.Decides.{nat_tests}
use Rattle.std.proofs.Common.{◌≡◌, ℕ, ◌%◌, ◌∙◌, ℤ, subst, arith, IsTrue}
use Rattle.std.specs.Prelude.{Ok, None, Option}
use Rattle.kh_types.specs.Acceptance.{accepted}
use Rattle.kh_types.specs.Code.{Code, place_of}
use Rattle.kh_types.specs.Residues.{HasInverses}
use Rattle.cell_laws.specs.Cells.{dimension_at}
use Rattle.cell_laws.specs.Cubes.{cube_of}
use Rattle.order_laws.proofs.Orders.{dimension-reordered}
use Rattle.orient_arcs.specs.Renumbered.{renumber}
use Rattle.kink_and_finger_laws.specs.Drops.{without_finger, without_kink}
use Rattle.kink_and_finger_laws.proofs.FingerDropSums.{HasBigonAt-slots}
use Rattle.diagram_moves.specs.Moved.{answered, moved}
use Rattle.diagram_moves.specs.MoveFaults.{finger_drop_fault, kink_drop_fault}
use Rattle.diagram_moves.specs.declared.change.Move.TheVariants.{FingerDrop, KinkDrop}
use Rattle.diagram_moves.specs.declared.fault.MoveFault.{MoveFault}
use Rattle.diagram_moves.proofs.DropLemmas.{bigon-found, kink-found}
use Rattle.diagram_moves.proofs.BackAgain.{answered-ok}
use Rattle.drop_view_laws.specs.DroppedCubes.{IsBigonCut, IsFingerDrop, IsKinkCut, IsKinkDrop, bigon_first, kink_first}
use Rattle.drop_view_laws.specs.DroppedFirst.{two_first}
use Rattle.view_laws.specs.Fronts.{first_to}
use Rattle.drop_view_laws.proofs.BigonCuts.{IsBigonCut-dropped}
use Rattle.drop_view_laws.proofs.KinkCuts.{IsKinkCut-dropped}
use Rattle.drop_view_laws.proofs.Signs.{AreBigonSigns-dropped, AreKinkSigns-dropped}

pub IsKinkDrop-moved : (code new : Code) (crossing : ℕ) → IsTrue (accepted code) → moved code (KinkDrop crossing) ≡ Ok new
    → IsKinkDrop code new (place_of crossing)
unfolding moved
IsKinkDrop-moved code new crossing holds is =
    let found = answered-ok (kink_drop_fault code crossing) (renumber (without_kink code (place_of crossing))) new is in
    let kink = kink-found code crossing found.0 in
    subst (λ (left : Code). IsKinkDrop code left (place_of crossing)) found.1
    (record {
      slot = kink.0;
      slot_below = kink.1.slot;
      cut = IsKinkCut-dropped code (place_of crossing) kink.0 holds kink.1;
      signs = AreKinkSigns-dropped code (place_of crossing) kink.0 holds kink.1;
    })

pub IsFingerDrop-moved : (code new : Code) (first second : ℕ) → IsTrue (accepted code) → moved code (FingerDrop first second) ≡ Ok new
    → IsFingerDrop code new (place_of first) (place_of second)
unfolding moved
IsFingerDrop-moved code new first second holds is =
    let c = place_of first in
    let d = place_of second in
    let found = answered-ok (finger_drop_fault code first second) (renumber (without_finger code (place_of first) (place_of second))) new
    is in
    let bigon = bigon-found code first second found.0 in
    let p = bigon.0 in
    let q = bigon.1 in
    let at = HasBigonAt-slots code.crossings c d p q bigon.2 in
    subst (λ (left : Code). IsFingerDrop code left (place_of first) (place_of second)) found.1
    (record {
      slot = p % 4;
      other_slot = q % 4;
      slot_below = omega arith;
      other_below = omega arith;
      cut = IsBigonCut-dropped code c d (p % 4) (q % 4) holds at (omega arith) (omega arith);
      signs = AreBigonSigns-dropped code c d (p % 4) (q % 4) holds at;
    })

-- the cube has the same dimensions, with any numbers of positive and negative crossings

pub dimension-kink_first : (p : ℕ) (code new : Code) (c slot plus minus : ℕ) → HasInverses p → IsKinkCut code new c slot → (i j : ℤ)
    → dimension_at p (cube_of p (kink_first code c) plus minus) i j ≡ dimension_at p (cube_of p code plus minus) i j
dimension-kink_first p code new c slot plus minus field cut i j =
    dimension-reordered p code.loops plus minus field i j code.crossings (first_to c code.crossings) cut.order

pub dimension-bigon_first : (p : ℕ) (code new : Code) (c d slot other_slot plus minus : ℕ) → HasInverses p
    → IsBigonCut code new c d slot other_slot → (i j : ℤ)
    → dimension_at p (cube_of p (bigon_first code c d) plus minus) i j ≡ dimension_at p (cube_of p code plus minus) i j
dimension-bigon_first p code new c d slot other_slot plus minus field cut i j =
    dimension-reordered p code.loops plus minus field i j (first_to c code.crossings) (two_first c d code.crossings) cut.order.1
    ∙ dimension-reordered p code.loops plus minus field i j code.crossings (first_to c code.crossings) cut.order.0
