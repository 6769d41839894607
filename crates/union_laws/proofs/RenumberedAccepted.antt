-- A directed code is accepted where it is an accepted code under other numbers.
--
-- No two arcs get one number, so the slots of both codes hold one number at the same darts (`AreAlike`). All else that acceptance looks at
-- is said by darts: faces and pieces, a checkerboard choice, and the number of components.
use Rattle.std.proofs.Common.{◌≡◌, ℕ, ◌+◌, ◌-◌, ◌*◌, ◌/◌, ◌%◌, ◌<◌, ◌∙◌, List, length, sym, ap, ap₂, arith, IsTrue}
use Rattle.kh_types.specs.Acceptance.{accepted}
use Rattle.kh_types.specs.Accepted.{IsDirected}
use Rattle.kh_types.specs.Classes.{class_count}
use Rattle.kh_types.specs.Code.{Code}
use Rattle.kh_types.specs.Darts.{HasArcsTwice, arc_of, dart_at}
use Rattle.kh_types.proofs.AcceptedLemmas.{HasArcsTwice-directed, IsAccepted-is}
use Rattle.kh_types.proofs.DartPairs.{IsDart-at}
use Rattle.gluing_laws.specs.Alike.{AreAlike}
use Rattle.gluing_laws.specs.Arcs.{arc_by_place}
use Rattle.gluing_laws.specs.Codes.{IsRenumbered, name_count}
use Rattle.orient_arcs.proofs.AlikeCrossings.{AreAlike-renamed, IsCheckerboard-alike, component_count-alike, faces-alike, pieces-alike}

-- the arc of a dart, by the place and the slot where it stands
pub arc-place : (crossings : List (List ℕ)) (dart : ℕ) → arc_of crossings (dart_at dart) ≡ arc_by_place crossings (dart / 4) (dart % 4)
arc-place crossings dart =
    let e : dart / 4 + 1 - 1 ≡ dart / 4 = omega arith in ap (λ place. arc_by_place crossings place (dart % 4)) e

pub AreAlike-numbers : (f : ℕ → ℕ) (old new : Code) → HasArcsTwice old.crossings → IsRenumbered f old new
    → AreAlike old.crossings new.crossings
AreAlike-numbers f old new twice same =
    let small : (dart : ℕ) → dart < 4 * length old.crossings → arc_of old.crossings (dart_at dart) < name_count old =
    λ dart below. omega (arith, (twice.slots (dart_at dart) (IsDart-at old.crossings dart below)).within) in
    AreAlike-renamed f old.crossings new.crossings same.size
    (λ dart below.
    arc-place new.crossings dart ∙ same.arcs (dart / 4) (dart % 4) (omega (arith, below)) (omega arith)
    ∙ ap f (sym (arc-place old.crossings dart)))
    (λ dart other below other_below.
    same.apart (arc_of old.crossings (dart_at dart)) (arc_of old.crossings (dart_at other)) (small dart below) (small other other_below))

pub renumbered-accepted : (f : ℕ → ℕ) (old new : Code) → IsTrue (accepted old) → IsDirected new.crossings → IsRenumbered f old new
    → IsTrue (accepted new)
renumbered-accepted f old new holds directed same =
    let is = (IsAccepted-is old).0 holds in
    let twice = HasArcsTwice-directed old.crossings is.directed in
    let new_twice = HasArcsTwice-directed new.crossings directed in
    let alike = AreAlike-numbers f old new twice same in
    (IsAccepted-is new).1 (record {
      directed = directed;
      checkerboard = IsCheckerboard-alike old.crossings new.crossings alike twice new_twice is.checkerboard;
      faces = ap class_count (faces-alike old.crossings new.crossings alike) ∙ is.faces
          ∙ ap₂ (λ n pieces. n + 2 * class_count pieces) (sym same.size) (sym (pieces-alike old.crossings new.crossings alike));
      components = omega (
        arith,
        is.components,
        component_count-alike old.crossings new.crossings alike twice new_twice,
        same.loops,
      );
    })
