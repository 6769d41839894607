use Rattle.std.proofs.Common.{refl}
use Rattle.face_walk.proofs.laws.known.faces_of_two_curls.Goals as goal

pub returns : goal.returns
returns c = record { faces = refl; numbers = refl; lengths = refl; count = refl; pieces = refl }
