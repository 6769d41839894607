use Rattle.std.proofs.Common.{refl}
use Rattle.undo_stack.proofs.laws.worked_scripts.Goals as goal

-- each text is read by computing
pub returns : goal.returns
returns c = record {
  two = refl;
  blank = refl;
  empty = refl;
  digits = refl;
  plus = refl;
  zero = refl;
  above = refl;
  long = refl;
  four = refl;
  minus = refl;
  more = refl;
  no_feed = refl;
  form_feed = refl;
  upper = refl;
  limit = refl;
  full = refl;
}
