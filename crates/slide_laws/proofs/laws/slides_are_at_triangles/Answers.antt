use Rattle.slide_laws.proofs.FoundTriangles.{IsTriangle-slot, has_heights-slot}
use Rattle.slide_laws.proofs.laws.slides_are_at_triangles.Goals as goal

pub returns-clause-triangle : goal.returns-clause-triangle
returns-clause-triangle c = IsTriangle-slot

pub returns-clause-heights : goal.returns-clause-heights
returns-clause-heights c = has_heights-slot
