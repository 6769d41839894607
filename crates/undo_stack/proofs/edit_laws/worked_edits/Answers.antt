use Rattle.std.proofs.Common.{refl}
use Rattle.undo_stack.proofs.edit_laws.worked_edits.Goals as goal

-- each text is read by computing
pub returns : goal.returns
returns c = record {
  kinks = refl;
  fingers = refl;
  slide = refl;
  named_drop = refl;
  blank = refl;
  empty = refl;
  digits = refl;
  above = refl;
  long = refl;
  minus = refl;
  side = refl;
  order = refl;
  more = refl;
  upper = refl;
  limit = refl;
  full = refl;
}
