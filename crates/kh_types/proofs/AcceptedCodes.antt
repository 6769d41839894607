-- What the calls of a diagram know of its code.
use Rattle.std.proofs.lemmas.Bool.Decides.{nat_tests}
use Rattle.std.proofs.Common.{◌+◌, ◌≤◌, ℕ, IsTrue, arith}
use Rattle.kh_types.specs.declared.dart.Dart.{Dart}
use Rattle.kh_types.specs.declared.limits.TheConstants.{COMPONENTS}
use Rattle.kh_types.specs.Code.{Code, IsArc}
use Rattle.kh_types.specs.Darts.{IsDart, arc_of}
use Rattle.kh_types.specs.Acceptance.{accepted}
use Rattle.kh_types.proofs.AcceptedLemmas.{HasArcsTwice-accepted, IsAccepted-is}

-- an accepted code has few loops
within : (most count loops : ℕ) → count + loops ≤ most → loops ≤ most
within most count loops few = omega arith

pub accepted_loops : (code : Code) → IsTrue (accepted code) → code.loops ≤ COMPONENTS
accepted_loops code is = grind (arith, nat_tests, within, IsAccepted-is)

-- and the slots of an accepted code hold arcs
pub accepted_arcs : (code : Code) (dart : Dart) → IsTrue (accepted code) → IsDart code.crossings dart
    → IsArc code.crossings (arc_of code.crossings dart)
accepted_arcs code dart is = (HasArcsTwice-accepted code is).slots dart
