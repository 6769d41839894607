use Rattle.std.proofs.Common.{inl, inr, refl}
use Rattle.kink_and_finger_laws.specs.FingerAdd.{differ}
use Rattle.kink_and_finger_laws.proofs.FingerSlots.{arc_of-head, arc_of-tail, slots_of-first, slots_of-second}
use Rattle.kink_and_finger_laws.proofs.FingeredCodes.{AreFingerable-accepted, IsFollowed-fingered}
use Rattle.kink_and_finger_laws.proofs.fingers.fingers_follow_the_rule.Goals as goal

pub returns : goal.returns
returns c = record {
  tail = λ code a b a_left b_left dart is tail. arc_of-tail code.crossings a b b_left (differ a_left b_left) dart is tail;
  head = λ code a b a_left b_left dart is head. arc_of-head code.crossings a b b_left (differ a_left b_left) dart is head;
  first = λ code a b a_left b_left. slots_of-first code.crossings a b b_left (differ a_left b_left);
  second = λ code a b a_left b_left. slots_of-second code.crossings a b b_left (differ a_left b_left);
  over = λ code a b a_left b_left holds over under apart.
      IsFollowed-fingered code.crossings a b a b_left (differ a_left b_left) (AreFingerable-accepted code a b holds over under apart) (inl refl) over;
  under = λ code a b a_left b_left holds over under apart.
      IsFollowed-fingered code.crossings a b b b_left (differ a_left b_left) (AreFingerable-accepted code a b holds over under apart) (inr refl) under;
}
