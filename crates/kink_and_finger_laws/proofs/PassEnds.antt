-- Where the passes of a crossing begin and end.
use Rattle.std.proofs.lemmas.Bool.Decides.{nat_tests}
use Rattle.std.proofs.Common.{◌≡◌, ℕ, ◌<◌, List, arith, Bool}
use Rattle.std.specs.Prelude.{if◌then◌else◌}
use Rattle.kh_types.specs.Code.{arc_in}
use Rattle.kink_and_finger_laws.specs.FingerAdd.{crossing_with}

abbrev pub over_from : Bool → ℕ
over_from positive = if positive then 3 else 1

abbrev pub over_to : Bool → ℕ
over_to positive = if positive then 1 else 3

pub over_from-below : (positive : Bool) → over_from positive < 4
over_from-below positive = grind (arith, nat_tests)

pub over_to-below : (positive : Bool) → over_to positive < 4
over_to-below positive = grind (arith, nat_tests)

-- the under pass of a crossing goes from u to v, and its over pass from s to t
pub record HasPasses (slots : List ℕ) (positive : Bool) (u v s t : ℕ) : Type 0 where
  pub under_from : arc_in slots 0 ≡ u
  pub under_to : arc_in slots 2 ≡ v
  pub over_from : arc_in slots (over_from positive) ≡ s
  pub over_to : arc_in slots (over_to positive) ≡ t

pub HasPasses-crossing_with : (positive : Bool) (u v s t : ℕ) → HasPasses (crossing_with positive u v s t) positive u v s t
HasPasses-crossing_with positive u v s t = grind (arith, nat_tests)

-- a slot is at one of the four ends of the passes
pub slot_of_pass : (P : ℕ → Type 0) (slots : List ℕ) (positive : Bool) (u v s t slot : ℕ) → HasPasses slots positive u v s t
    → P u → P v → P s → P t → slot < 4 → P (arc_in slots slot)
slot_of_pass P slots positive u v s t slot passes at_u at_v at_s at_t below = grind (arith, nat_tests)
