use Rattle.std.proofs.Common.{refl}
use Rattle.tangle_scan.proofs.clearing.turns.turn_of.Goals as goal

pub returns : goal.returns
returns c = record {
  opened = c.as_slice.ensures.value;
  objects_are = c.as_slice-2.ensures.value;
  pivot_is = refl;
  column = c.as_slice-3.ensures.value;
}
