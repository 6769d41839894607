use Rattle.kh_types.specs.Faces.{faces_of}
use Rattle.kh_types.specs.Walks.{IsWalked}
use Rattle.face_walk.proofs.walk.faces_of.Given as goal

abbrev pub invariant-places : goal.invariant-places
invariant-places l = IsWalked (faces_of l.diagram.crossings) l.classes.items l.place
