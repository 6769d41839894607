use Rattle.std.proofs.Common.{◌∙◌}
use Rattle.kh_types.proofs.Heads.{HasEnds-accepted}
use Rattle.kink_and_finger_laws.proofs.KinkSlots.{arc_of-other, slots_of-new}
use Rattle.kink_and_finger_laws.proofs.KinkFaces.{last-own, raised-own}
use Rattle.kink_and_finger_laws.proofs.AddedCodes.{head_dart, tail_dart}
use Rattle.kink_and_finger_laws.proofs.KinkedCodes.{IsAdded-kink, IsKinkable-accepted, next-first, next-second}
use Rattle.kink_and_finger_laws.proofs.kinks.kinks_follow_the_rule.Goals as goal

pub returns : goal.returns
returns c = record {
  tail = λ code a over positive holds arc.
      tail_dart (IsAdded-kink code.crossings a over positive (IsKinkable-accepted code a holds arc)) a (HasEnds-accepted code holds a arc)
      ∙ raised-own a;
  head = λ code a over positive holds arc.
      head_dart (IsAdded-kink code.crossings a over positive (IsKinkable-accepted code a holds arc)) a (HasEnds-accepted code holds a arc)
      ∙ last-own a;
  others = λ code a over positive dart is not_a. arc_of-other code.crossings a over positive dart is not_a;
  last = λ code a over positive. slots_of-new code.crossings a over positive;
  first_pass = λ code a over positive holds arc. next-first code.crossings a over positive (IsKinkable-accepted code a holds arc);
  second_pass = λ code a over positive holds arc. next-second code.crossings a over positive (IsKinkable-accepted code a holds arc);
}
