use Rattle.std.proofs.Common.{◌∙◌, arith}
use Rattle.line_reader.specs.Lines.{kept_inside}
use Rattle.line_reader.proofs.KeptLines.{kept-push_long, kept-push_short}
use Rattle.line_reader.proofs.line.Line.push.Goals as goal

pub returns-in_ok-push : goal.returns-in_ok-push
returns-in_ok-push c =
    λ line is. rw (c.in_ok-push.ensures.items, c.is_blank.ensures)
    (kept-push_short (kept_inside c.self.inside) line c.args.byte (c.self.view_is ∙ is) (omega (arith, c.if-len-le-INPUT_BYTES.true, c.len.ensures)))

pub returns-else-len-le-INPUT_BYTES : goal.returns-else-len-le-INPUT_BYTES
returns-else-len-le-INPUT_BYTES c =
    λ line is. rw c.is_blank.ensures (kept-push_long (kept_inside c.self.inside) line c.args.byte (c.self.view_is ∙ is)
    (omega (arith, c.if-len-le-INPUT_BYTES.false, c.len.ensures)))
