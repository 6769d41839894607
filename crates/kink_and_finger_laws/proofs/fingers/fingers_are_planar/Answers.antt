use Rattle.kink_and_finger_laws.proofs.FingerPlanar.{planar-one_face, planar-two_pieces}
use Rattle.kink_and_finger_laws.proofs.fingers.fingers_are_planar.Goals as goal

pub returns : goal.returns
returns c = record { one_face = planar-one_face; two_pieces = planar-two_pieces }
