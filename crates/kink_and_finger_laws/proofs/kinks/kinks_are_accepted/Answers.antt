use Rattle.kink_and_finger_laws.proofs.KinkSlots.{length-kinked}
use Rattle.kink_and_finger_laws.proofs.KinkedCodes.{IsKinkable-accepted, IsDirected-kinked, component_count-kinked}
use Rattle.kink_and_finger_laws.proofs.KinkFaces.{planar-kinked, accepted-kinked}
use Rattle.kink_and_finger_laws.proofs.kinks.kinks_are_accepted.Goals as goal

pub returns : goal.returns
returns c = record {
  directed = λ code a over positive holds arc. IsDirected-kinked code.crossings a over positive (IsKinkable-accepted code a holds arc);
  components = λ code a over positive holds arc.
      component_count-kinked code.crossings a over positive (IsKinkable-accepted code a holds arc);
  size = λ code a over positive. length-kinked code.crossings a over positive;
  faces = planar-kinked;
  accepted = accepted-kinked;
}
