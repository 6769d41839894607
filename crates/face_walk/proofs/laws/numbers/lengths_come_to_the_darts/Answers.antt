use Rattle.face_walk.proofs.LengthLemmas.{sum-face_length}
use Rattle.face_walk.proofs.laws.numbers.lengths_come_to_the_darts.Goals as goal

pub returns : goal.returns
returns c = sum-face_length
