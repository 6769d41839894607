use Rattle.std.proofs.Common.{not, nat_eq}
use Rattle.std.specs.List.{count_by}
use Rattle.face_walk.proofs.FaceCycles.{IsOnFace}
use Rattle.face_walk.proofs.walk.walk_from.Given as goal

abbrev pub invariant-walk : goal.invariant-walk
invariant-walk l = IsOnFace l.diagram l.initial.classes l.classes l.least l.place

abbrev pub decreases-walk : goal.decreases-walk
decreases-walk l = count_by (λ class. not (nat_eq class l.least)) l.classes
