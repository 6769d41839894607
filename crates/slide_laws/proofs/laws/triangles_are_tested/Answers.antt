use Rattle.slide_laws.proofs.FoundTriangles.{is_triangle-exactly, has_triangle-none, slide_slot-none, slide_slot-least}
use Rattle.slide_laws.proofs.laws.triangles_are_tested.Goals as goal

pub returns-clause-triangle : goal.returns-clause-triangle
returns-clause-triangle c = is_triangle-exactly

pub returns-clause-none : goal.returns-clause-none
returns-clause-none c = has_triangle-none

pub returns-clause-heights : goal.returns-clause-heights
returns-clause-heights c = slide_slot-none

pub returns-clause-least : goal.returns-clause-least
returns-clause-least c = slide_slot-least
