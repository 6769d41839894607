-- The list of components, and its least arcs in an accepted code.
use Rattle.std.proofs.lemmas.Bool.Decides.{nat_tests}
use Rattle.std.proofs.Common.{◌≡◌, ℕ, ◌+◌, ◌≤◌, List, take, arith}
use Rattle.std.specs.Prelude.{IsTrue}
use Rattle.std.proofs.Math.Seq.{take-append_seam}
use Rattle.kh_types.specs.declared.limits.TheConstants.{COMPONENTS}
use Rattle.kh_types.specs.Code.{Code, arc_count}
use Rattle.kh_types.specs.Components.{components_of, component_count}
use Rattle.kh_types.specs.Acceptance.{accepted}
use Rattle.kh_types.specs.Accepted.{IsDirected}
use Rattle.kh_types.proofs.AcceptedLemmas.{IsAccepted-is}
use Rattle.code_passes.proofs.LeastArcs.{components_size}
use Rattle.orient_arcs.specs.Inside.{spread}

-- the array that holds it begins with it
pub take_spread : (crossings : List (List ℕ)) (least : List ℕ) (arcs : ℕ) → least ≡ spread (components_of crossings)
    → arcs ≡ arc_count crossings → take (arcs + 1) least ≡ components_of crossings
take_spread crossings least arcs is_least is_count = grind (arith, nat_tests, components_size, take-append_seam)

-- an accepted code is directed
pub IsDirected-accepted : (code : Code) → IsTrue (accepted code) → IsDirected code.crossings
IsDirected-accepted code holds = ((IsAccepted-is code).0 holds).directed

-- and has few components and loops
pub accepted_few : (code : Code) → IsTrue (accepted code) → component_count code.crossings + code.loops ≤ COMPONENTS
accepted_few code holds = ((IsAccepted-is code).0 holds).components
