-- The slices of an accepted code are its drawing.
use Rattle.std.proofs.Common.{◌≡◌, ℕ, ◌≤◌, List, length, map, arith, subst, sym, refl}
use Rattle.std.specs.Prelude.{IsTrue, Result, Ok}
use Rattle.std.specs.Result.{IsOk}
use Rattle.kh_types.specs.Acceptance.{accepted}
use Rattle.kh_types.specs.Code.{Code}
use Rattle.kh_types.specs.Darts.{partner_at}
use Rattle.kh_types.specs.declared.limits.TheConstants.{COMPONENTS, CROSSINGS}
use Rattle.kh_types.proofs.AcceptedCodes.{accepted_loops}
use Rattle.morse_drawing.specs.Joins.{IsFaultless, JoinedDarts, arc_pairs, ends_of, joined_by}
use Rattle.morse_drawing.specs.Pages.{slices_of}
use Rattle.morse_drawing.specs.declared.fault.SliceFault.{SliceFault}
use Rattle.morse_drawing.specs.declared.slice.Slice.{Slice}
use Rattle.morse_drawing.proofs.PageEnds.{IsWholeSphere-accepted}
use Rattle.morse_drawing.proofs.Pairs.{joins-drawn}

pub joined-slices : (code : Code) → IsTrue (accepted code) → length code.crossings ≤ CROSSINGS
    → joined_by (slices_of code)
    ≡ Ok (record { pairs = map ends_of (arc_pairs (length code.crossings) (partner_at code.crossings)); loops = code.loops })
joined-slices code is small =
    joins-drawn CROSSINGS (length code.crossings) (partner_at code.crossings) code.loops small (within (length code.crossings) small)
    (few code.loops (accepted_loops code is)) (IsWholeSphere-accepted code is)
  where
    within : (n : ℕ) → n ≤ CROSSINGS → n ≤ 31
    within n small = omega (arith, small)

    few : (loops : ℕ) → loops ≤ COMPONENTS → loops ≤ 255
    few loops below = omega (arith, below)

pub faultless : (code : Code) (slices : List Slice) → IsTrue (accepted code) → length code.crossings ≤ CROSSINGS
    → slices ≡ slices_of code → IsFaultless slices
faultless code slices is small same =
    subst (λ (xs : List Slice). IsFaultless xs) (sym same)
    (subst (λ (r : Result JoinedDarts SliceFault). IsOk r) (sym (joined-slices code is small)) refl)
