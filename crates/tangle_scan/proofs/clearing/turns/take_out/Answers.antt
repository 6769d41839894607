use Rattle.std.proofs.Common.{arith}
use Rattle.tangle_scan.proofs.Killed.{killed-size}
use Rattle.tangle_scan.proofs.clearing.turns.take_out.Goals as goal

pub kill-requires-2 : goal.kill-requires-2
kill-requires-2 c =
    omega (
      arith,
      killed-size c.args.pivot.tail c.args.rowed.now.complex.objects.items c.kill.new.objects.items c.requires.tail c.kill.ensures,
    )

pub returns : goal.returns
returns c = record {
  between = c.kill.new.objects.items;
  no_tail = c.kill.ensures;
  no_head = c.kill-2.ensures;
  column = c.take_column-column.ensures.column;
  size = c.take_column-column.ensures.size;
  none = c.take_column-column.ensures.none;
  others = c.take_column-column.ensures.others;
  names = c.take_row-named.ensures.named;
  rows_size = c.take_row-named.ensures.size;
  rows_left = c.take_row-named.ensures.others;
}
