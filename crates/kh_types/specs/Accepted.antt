-- What an accepted code is, in the words of the subject. A law says that these are the codes that break no rule.
use Rattle.std.specs.Prelude.{◌≡◌, ◌≢◌, ◌⊎◌, ℕ, ◌+◌, ◌<◌, ◌≤◌, List}
use Rattle.kh_types.specs.Code.{Code, arc_in, slots_of, IsCrossing, IsArc}
use Rattle.kh_types.specs.Components.{components_of, component_of, component_count, arcs_in, next}
use Rattle.kh_types.specs.Darts.{arc_of, times, IsDart}
use Rattle.kh_types.specs.Faces.{face_count, planar_face_count}
use Rattle.kh_types.specs.Checkerboard.{IsCheckerboard}
use Rattle.kh_types.specs.declared.dart.Dart.{Dart}
use Rattle.kh_types.specs.declared.limits.TheConstants.{COMPONENTS}

-- a component is an interval: the numbers from its least arc on, as many as it has arcs, are its arcs
abbrev pub IsInterval : List ℕ → ℕ → Type 0
IsInterval components first =
    (arc : ℕ) → first ≤ arc → arc < first + arcs_in components first → component_of components arc ≡ first

-- a directed code: its slots hold arcs, each of which stands twice; its components are intervals; each under pass goes from an
-- arc to the next, and so does each over pass, in one direction or the other; and a component of two arcs has no two under
-- passes in one direction, which come in on one arc (Knot Atlas, "Planar Diagrams"; components of two arcs are this project's rule)
pub record IsDirected (crossings : List (List ℕ)) : Type 0 where
  pub slots : (dart : Dart) → IsDart crossings dart → IsArc crossings (arc_of crossings dart)
  pub twice : (arc : ℕ) → IsArc crossings arc → times crossings arc ≡ 2
  pub intervals : (arc : ℕ) → IsArc crossings arc → component_of (components_of crossings) arc ≡ arc
      → IsInterval (components_of crossings) arc
  pub under : (crossing : ℕ) → IsCrossing crossings crossing
      → arc_in (slots_of crossings crossing) 2 ≡ next crossings (arc_in (slots_of crossings crossing) 0)
  pub over : (crossing : ℕ) → IsCrossing crossings crossing
      → (arc_in (slots_of crossings crossing) 3 ≡ next crossings (arc_in (slots_of crossings crossing) 1))
      ⊎ (arc_in (slots_of crossings crossing) 1 ≡ next crossings (arc_in (slots_of crossings crossing) 3))
  pub two_arcs : (earlier later : ℕ) → IsCrossing crossings earlier → IsCrossing crossings later → earlier < later
      → arc_in (slots_of crossings earlier) 0 ≡ arc_in (slots_of crossings later) 0
      → arcs_in (components_of crossings) (component_of (components_of crossings) (arc_in (slots_of crossings later) 0)) ≢ 2

-- an accepted code: a directed code with a checkerboard choice, with n + 2k faces, and with few enough components and loops
pub record IsAccepted (code : Code) : Type 0 where
  pub directed : IsDirected code.crossings
  pub checkerboard : IsCheckerboard code.crossings
  pub faces : face_count code.crossings ≡ planar_face_count code.crossings
  pub components : component_count code.crossings + code.loops ≤ COMPONENTS
