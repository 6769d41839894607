use Rattle.face_walk.proofs.FaceLemmas.{face_number-step}
use Rattle.face_walk.proofs.laws.numbers.faces_are_closed.Goals as goal

pub returns : goal.returns
returns c = face_number-step
