use Rattle.kink_and_finger_laws.specs.FingerAdd.{differ}
use Rattle.kink_and_finger_laws.proofs.FingeredCodes.{AreFingerable-accepted, IsDirected-fingered, component_count-fingered}
use Rattle.kink_and_finger_laws.proofs.FingerPlanar.{accepted-fingered}
use Rattle.kink_and_finger_laws.proofs.fingers.fingers_are_accepted_where_they_are_planar.Goals as goal

pub returns : goal.returns
returns c = record {
  directed = λ code a b a_left b_left holds over under apart.
      IsDirected-fingered code.crossings a b b_left (differ a_left b_left) (AreFingerable-accepted code a b holds over under apart);
  components = λ code a b a_left b_left holds over under apart.
      component_count-fingered code.crossings a b b_left (differ a_left b_left) (AreFingerable-accepted code a b holds over under apart);
  accepted = λ code a b a_left b_left holds over under apart.
      accepted-fingered code a b b_left (differ a_left b_left) holds over under apart;
}
