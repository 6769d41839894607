-- A slide, crossing by crossing.
use Rattle.std.specs.Prelude.{ℕ, ◌+◌, ◌*◌, ◌<◌, List, unwrap_or}
use Rattle.kh_types.specs.Code.{Code, IsCrossing}
use Rattle.kh_types.specs.Darts.{dart_count}
use Rattle.code_passes.specs.Parts.{Parts}
use Rattle.gluing_laws.specs.Codes.{arc_of_dart}
use Rattle.slide_laws.specs.Slid.{source}
use Rattle.slide_laws.specs.Triangles.{dart_at_slot, slide_slot, step}
use Rattle.diagram_moves.specs.Joinable.{AreReady}
use Rattle.diagram_moves.specs.Kept.{slid_parts}

-- three darts of a code
pub record AreDarts (crossings : List (List ℕ)) (x y z : ℕ) : Type 0 where
  pub first : x < dart_count crossings
  pub second : y < dart_count crossings
  pub third : z < dart_count crossings

-- the arc at a slot of the crossing at a place after the slide
abbrev pub slid_arc : List (List ℕ) → ℕ → ℕ → ℕ → ℕ → ℕ → ℕ
slid_arc crossings x y z place slot = arc_of_dart crossings (source x y z (4 * place + slot))

-- the crossings after a slide at the triangle of a slot of a crossing
abbrev pub slid_parts_at : Code → ℕ → ℕ → Parts
slid_parts_at code crossing slot =
    let x = dart_at_slot crossing slot in
    slid_parts code x (step code.crossings x) (step code.crossings (step code.crossings x))

-- a slide can be made at three crossings, and what it leaves can be numbered
pub record IsSlidable (code : Code) (first second third : ℕ) : Type 0 where
  pub crossing : IsCrossing code.crossings first
  pub ready : AreReady (slid_parts_at code first (unwrap_or (slide_slot code.crossings first second third) 0))
