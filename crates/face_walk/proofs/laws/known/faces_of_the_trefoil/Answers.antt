use Rattle.std.proofs.Common.{refl}
use Rattle.face_walk.proofs.laws.known.faces_of_the_trefoil.Goals as goal

pub returns : goal.returns
returns c = record { numbers = refl; lengths = refl; left = refl; right = refl; pieces = refl }
