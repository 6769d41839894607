use Rattle.std.specs.Prelude.{◌+◌}
use Rattle.kink_and_finger_laws.specs.FingerAdd.{differ, opened}
use Rattle.gluing_laws.specs.Codes.{name_count}
use Rattle.kink_and_finger_laws.proofs.AddedSums.{state_sum-fingered}
use Rattle.kink_and_finger_laws.proofs.FingeredCodes.{AreFingerable-accepted}
use Rattle.kink_and_finger_laws.proofs.FingeredCodes.{sign-old, sign-first, sign-second}
use Rattle.kink_and_finger_laws.proofs.FingerWith.{placed_at, lowered_to, IsWithFinger-fingered}
use Rattle.kink_and_finger_laws.proofs.fingers.fingers_keep_signs.Goals as goal

pub returns : goal.returns
returns c = record {
  old = λ code a b crossing a_left b_left holds over under apart is.
      sign-old code.crossings a b b_left (differ a_left b_left) crossing (AreFingerable-accepted code a b holds over under apart) is;
  first = λ code a b a_left b_left holds over under apart.
      sign-first code.crossings a b b_left (differ a_left b_left) (AreFingerable-accepted code a b holds over under apart);
  second = λ code a b a_left b_left holds over under apart.
      sign-second code.crossings a b b_left (differ a_left b_left) (AreFingerable-accepted code a b holds over under apart);
  meets = λ code a b a_left b_left holds over under apart. (
    placed_at (opened a b a) (opened a b b) (name_count code + 4),
    lowered_to a b (name_count code + 4),
    IsWithFinger-fingered code a b b_left (differ a_left b_left) (AreFingerable-accepted code a b holds over under apart),
  );
  state_sum = λ code a b a_left b_left holds over under apart.
      state_sum-fingered code a b b_left (differ a_left b_left) (AreFingerable-accepted code a b holds over under apart);
}
