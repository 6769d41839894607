use Rattle.std.proofs.Common.{◌∙◌, ◌-◌, ap, arith, subst, subst₂, sym}
use Rattle.std.specs.Prelude.{Option}
use Rattle.kh_types.specs.Code.{Code}
use Rattle.cancel_log.specs.LinesLeft.{LinesLeft}
use Rattle.cancel_log.specs.Standings.{Does, step}
use Rattle.cancel_log.specs.declared.cause.LogCause.{LogCause}
use Rattle.cancel_log.proofs.ReplayedLines.{IsReplayed, IsReplayed-first, replayed-end, replayed-on, replayed-proved, replayed-wrong}
use Rattle.cancel_log.proofs.replay.replayed_rows.Goals as goal

pub lines-init : goal.lines-init
lines-init g c =
    subst (IsReplayed g.F.PrimeField.P c.args.diagram.now c.args.lines.now.rest c.args.lines.now) (sym c.first-walk.ensures)
    (IsReplayed-first g.F.PrimeField.P c.args.diagram.now c.args.lines.now c.requires.fourth c.requires.few)

pub returns-in-Some-2-clause-fails : goal.returns-in-Some-2-clause-fails
returns-in-Some-2-clause-fails g c = λ told.
    let p = g.F.PrimeField.P in
    let said = c.said_by-said.result in
    replayed-wrong p c.args.diagram.now c.args.lines.now.rest c.lines.lines c.next.new.self c.in-Some.line.now said c.lines.walk
    c.take_line.new.walk c.in-Some-2.cause (c.number.result - 1) c.requires.size c.lines.invariant c.in-Some.ensures.some
    c.said_by-said.ensures
    (subst₂ (λ (code : Code) (fault : Option LogCause). Does (step p code c.lines.walk said) c.lines.walk fault c.take_line.new.walk)
    c.in_ok-cube.ensures c.in-Some-2.is c.in_ok-cause.ensures) (omega (arith, c.number.ensures, c.in-Some.ensures.some.number))

pub returns-then-closes-clause-rows : goal.returns-then-closes-clause-rows
returns-then-closes-clause-rows g c =
    let p = g.F.PrimeField.P in
    let said = c.said_by-said.result in
    c.into_rows.ensures ∙
    (replayed-proved p c.args.diagram.now c.args.lines.now.rest c.lines.lines c.next.new.self c.in-Some.line.now said c.lines.walk
    c.take_line.new.walk c.lines.invariant c.in-Some.ensures.some c.said_by-said.ensures
    (subst₂ (λ (code : Code) (fault : Option LogCause). Does (step p code c.lines.walk said) c.lines.walk fault c.take_line.new.walk)
    c.in_ok-cube.ensures c.in_default-2.is c.in_ok-cause.ensures) (sym c.is_close-closes.ensures ∙ c.if-closes.true)).1

pub returns-then-closes-clause-proved : goal.returns-then-closes-clause-proved
returns-then-closes-clause-proved g c =
    let p = g.F.PrimeField.P in
    let said = c.said_by-said.result in
    (replayed-proved p c.args.diagram.now c.args.lines.now.rest c.lines.lines c.next.new.self c.in-Some.line.now said c.lines.walk
    c.take_line.new.walk c.lines.invariant c.in-Some.ensures.some c.said_by-said.ensures
    (subst₂ (λ (code : Code) (fault : Option LogCause). Does (step p code c.lines.walk said) c.lines.walk fault c.take_line.new.walk)
    c.in_ok-cube.ensures c.in_default-2.is c.in_ok-cause.ensures) (sym c.is_close-closes.ensures ∙ c.if-closes.true)).0

pub lines-preserved : goal.lines-preserved
lines-preserved g c =
    let p = g.F.PrimeField.P in
    let said = c.said_by-said.result in
    replayed-on p c.args.diagram.now c.args.lines.now.rest c.lines.lines c.next.new.self c.in-Some.line.now said c.lines.walk
    c.take_line.new.walk c.lines.invariant c.in-Some.ensures.some c.said_by-said.ensures
    (subst₂ (λ (code : Code) (fault : Option LogCause). Does (step p code c.lines.walk said) c.lines.walk fault c.take_line.new.walk)
    c.in_ok-cube.ensures c.in_default-2.is c.in_ok-cause.ensures) (sym c.is_close-closes.ensures ∙ c.if-closes.false)

pub returns-clause-fails : goal.returns-clause-fails
returns-clause-fails g c = λ told.
    let end = c.next.ensures.none c.in_default.is in
    replayed-end g.F.PrimeField.P c.args.diagram.now c.args.lines.now.rest c.lines.lines c.lines.walk c.number-2.result c.requires.size
    c.lines.invariant end.0 (c.number-2.ensures ∙ ap (λ (left : LinesLeft). left.number) end.1)
