use Rattle.std.proofs.Common.{◌+◌, length, subst}
use Rattle.cancel_log.specs.LinesLeft.{LinesLeft, TakesLine, lines_left}
use Rattle.cancel_log.proofs.LinesTaken.{line-taken}
use Rattle.cancel_log.proofs.lines.Lines.next.Goals as goal

pub returns-clause-some : goal.returns-clause-some
returns-clause-some c =
    let text = c.self.inside.text.now in
    let line = c.line_at-line.result.now in
    let number = c.self.inside.number in
    let place = c.self.inside.place in
    subst (λ (old : LinesLeft). TakesLine old line (lines_left (number + 1) (place + (length line + 1)) text)) c.self.view_is
    (line-taken text line place number c.if-self.false c.line_at-line.ensures.line)
