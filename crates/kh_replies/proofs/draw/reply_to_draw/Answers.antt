use Rattle.std.proofs.Common.{sym, subst}
use Rattle.morse_drawing.specs.Joins.{IsFaultless}
use Rattle.kh_replies.proofs.draw.reply_to_draw.Goals as goal

pub print_slices-requires : goal.print_slices-requires
print_slices-requires c = subst IsFaultless (sym c.deref.ensures.value) c.in_ok-slices.ensures.faultless
