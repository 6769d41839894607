use Rattle.std.proofs.Common.{refl}
use Rattle.face_walk.proofs.laws.known.loops_have_no_faces.Goals as goal

pub returns : goal.returns
returns c = record { faces = refl; pieces = refl }
