use Rattle.kink_and_finger_laws.proofs.KinkedCodes.{IsKinkable-accepted}
use Rattle.kink_and_finger_laws.proofs.KinkedCodes.{sign-old, sign-new, plus_count-kinked}
use Rattle.kink_and_finger_laws.proofs.AddedSums.{state_sum-kinked}
use Rattle.kink_and_finger_laws.proofs.kinks.kinks_keep_signs.Goals as goal

pub returns : goal.returns
returns c = record {
  old = λ code a crossing over positive holds arc is.
      sign-old code.crossings a over positive crossing (IsKinkable-accepted code a holds arc) is;
  new = λ code a over positive holds arc. sign-new code.crossings a over positive (IsKinkable-accepted code a holds arc);
  plus = λ code a over positive holds arc. plus_count-kinked code.crossings a over positive (IsKinkable-accepted code a holds arc);
  state_sum = state_sum-kinked;
}
