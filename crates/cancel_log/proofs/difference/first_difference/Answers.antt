use Rattle.cancel_log.proofs.Differences.{BeginAlike-next, differ-end, differ-line}
use Rattle.cancel_log.proofs.difference.first_difference.Goals as goal

pub returns-then-not-is_next-clause-some : goal.returns-then-not-is_next-clause-some
returns-then-not-is_next-clause-some c =
    differ-line c.args.lines.now c.args.wanted.now c.lines.lines c.lines.wanted c.next.new.self c.in-Some.line.now c.lines.number
    c.lines.invariant.0 c.in-Some.ensures.some (c.is_next.ensures.no c.if-not-is_next.true) c.lines.invariant.1

pub lines-preserved : goal.lines-preserved
lines-preserved c = (
  BeginAlike-next c.args.lines.now c.args.wanted.now c.lines.lines c.lines.wanted c.next.new.self c.is_next.new.lines
      c.in-Some.line.now c.lines.invariant.0 c.in-Some.ensures.some (c.is_next.ensures.yes c.if-not-is_next.false),
  c.number-number-in-Some.ensures,
)

pub returns-else-is_end-clause-some : goal.returns-else-is_end-clause-some
returns-else-is_end-clause-some c =
    differ-end c.args.lines.now c.args.wanted.now c.lines.lines c.lines.wanted c.lines.number c.lines.invariant.0
    (c.next.ensures.none c.in_default.is).0 (c.is_end.ensures.no c.if-is_end.false) c.lines.invariant.1
