use Rattle.std.proofs.Common.{ℕ, List, take, ap, subst, ◌∙◌, Ok, arith}
use Rattle.std.specs.Io.KnownBytes.{Appends}
use Rattle.std.proofs.lemmas.Result.{err_from_is_err_and}
use Rattle.kh_runs.specs.Told.{seen}
use Rattle.line_answers.specs.ListRuns.{status_of, stop_status}
use Rattle.line_answers.specs.Turns.{IsTurn}
use Rattle.line_answers.specs.declared.list.Turn.{Turn}
use Rattle.line_answers.proofs.ListEnds.{IsListRun-limit, IsListRun-unbegun, Progress-begun}
use Rattle.line_answers.proofs.TurnEnds.{IsListRun-halted, IsListRun-turned, Progress-turn}
use Rattle.line_answers.proofs.list.lines_answered.Goals as goal

-- the first line is not written whole
pub returns-in_err-write_all : goal.returns-in_err-write_all
returns-in_err-write_all g c =
    let stop = err_from_is_err_and c.from_residual.result c.from_residual.ensures.1 in
    let part = c.in_err-write_all.ensures.prefix in
    rw (ap status_of stop.1 ∙ ap stop_status stop.2)
    (IsListRun-unbegun (g.A.Answering.answers c.args.answering.now) c.args.fields.now
    (seen (g.S.Source.left c.args.source.now) (g.S.Source.faults c.args.source.now))
    (seen (g.K.Sink.written c.args.sink.now) (g.K.Sink.faults c.args.sink.now))
    (seen (g.K.Sink.written c.write_all.new.sink) (g.K.Sink.faults c.write_all.new.sink)) part.count
    (subst (λ (l : List ℕ). Appends (g.K.Sink.written c.args.sink.now) (g.K.Sink.written c.write_all.new.sink) (take part.count l)) c.as_bytes.ensures.value part.written)
    c.in_err-write_all.ensures.cause.failed)

-- before the first line of the list
pub lines-init : goal.lines-init
lines-init g c =
    rw c.new-buffered.ensures
    (Progress-begun (g.A.Answering.answers c.args.answering.now) c.args.fields.now
    (seen (g.S.Source.left c.args.source.now) (g.S.Source.faults c.args.source.now))
    (seen (g.K.Sink.written c.args.sink.now) (g.K.Sink.faults c.args.sink.now))
    (seen (g.K.Sink.written c.write_all.new.sink) (g.K.Sink.faults c.write_all.new.sink))
    (subst (Appends (g.K.Sink.written c.args.sink.now) (g.K.Sink.written c.write_all.new.sink)) c.as_bytes.ensures.value c.in_ok-write_all.ensures.whole)
    c.in_ok-write_all.ensures.cause.stayed)

-- a turn is not made whole
pub returns-in_err-made : goal.returns-in_err-made
returns-in_err-made g c =
    let stop = err_from_is_err_and c.from_residual-in_err-made.result c.from_residual-in_err-made.ensures.1 in
    rw (ap status_of stop.1 ∙ ap stop_status stop.2)
    (IsListRun-halted (g.A.Answering.answers c.args.answering.now) c.args.fields.now
    (seen (g.S.Source.left c.args.source.now) (g.S.Source.faults c.args.source.now))
    (seen (g.S.Source.left c.lines.source) (g.S.Source.faults c.lines.source))
    (seen (g.S.Source.left c.answer_next.new.source) (g.S.Source.faults c.answer_next.new.source))
    (seen (g.K.Sink.written c.args.sink.now) (g.K.Sink.faults c.args.sink.now))
    (seen (g.K.Sink.written c.lines.sink) (g.K.Sink.faults c.lines.sink))
    (seen (g.K.Sink.written c.answer_next.new.sink) (g.K.Sink.faults c.answer_next.new.sink))
    c.lines.buffered c.answer_next.new.buffered c.lines.number c.lines.whole
    c.in_err-made.field-0.0 c.lines.invariant c.in_err-made.ensures.turn)

-- the last line is answered
pub returns-in-Last : goal.returns-in-Last
returns-in-Last g c =
    let Turns : Turn → Type 0 = λ turn. IsTurn (g.A.Answering.answers c.args.answering.now) c.args.fields.now c.lines.number c.lines.buffered c.answer_next.new.buffered
    (seen (g.S.Source.left c.lines.source) (g.S.Source.faults c.lines.source))
    (seen (g.S.Source.left c.answer_next.new.source) (g.S.Source.faults c.answer_next.new.source))
    (seen (g.K.Sink.written c.lines.sink) (g.K.Sink.faults c.lines.sink))
    (seen (g.K.Sink.written c.answer_next.new.sink) (g.K.Sink.faults c.answer_next.new.sink)) (Ok turn) in
    let turn = subst Turns c.in-Last.is c.in_ok-made.ensures.turn in
    rw c.ended.ensures
    (IsListRun-turned (g.A.Answering.answers c.args.answering.now) c.args.fields.now
    (seen (g.S.Source.left c.args.source.now) (g.S.Source.faults c.args.source.now))
    (seen (g.S.Source.left c.lines.source) (g.S.Source.faults c.lines.source))
    (seen (g.S.Source.left c.answer_next.new.source) (g.S.Source.faults c.answer_next.new.source))
    (seen (g.K.Sink.written c.args.sink.now) (g.K.Sink.faults c.args.sink.now))
    (seen (g.K.Sink.written c.lines.sink) (g.K.Sink.faults c.lines.sink))
    (seen (g.K.Sink.written c.answer_next.new.sink) (g.K.Sink.faults c.answer_next.new.sink))
    c.lines.buffered c.answer_next.new.buffered c.lines.number c.lines.whole
    c.in-Last.made c.lines.invariant turn.0 turn.1)

-- a line more is answered
pub lines-preserved : goal.lines-preserved
lines-preserved g c =
    let Turns : Turn → Type 0 = λ turn. IsTurn (g.A.Answering.answers c.args.answering.now) c.args.fields.now c.lines.number c.lines.buffered c.answer_next.new.buffered
    (seen (g.S.Source.left c.lines.source) (g.S.Source.faults c.lines.source))
    (seen (g.S.Source.left c.answer_next.new.source) (g.S.Source.faults c.answer_next.new.source))
    (seen (g.K.Sink.written c.lines.sink) (g.K.Sink.faults c.lines.sink))
    (seen (g.K.Sink.written c.answer_next.new.sink) (g.K.Sink.faults c.answer_next.new.sink)) (Ok turn) in
    let turn = subst Turns c.in-Ended.is c.in_ok-made.ensures.turn in
    Progress-turn (g.A.Answering.answers c.args.answering.now) c.args.fields.now
    (seen (g.S.Source.left c.args.source.now) (g.S.Source.faults c.args.source.now))
    (seen (g.S.Source.left c.lines.source) (g.S.Source.faults c.lines.source))
    (seen (g.S.Source.left c.answer_next.new.source) (g.S.Source.faults c.answer_next.new.source))
    (seen (g.K.Sink.written c.args.sink.now) (g.K.Sink.faults c.args.sink.now))
    (seen (g.K.Sink.written c.lines.sink) (g.K.Sink.faults c.lines.sink))
    (seen (g.K.Sink.written c.answer_next.new.sink) (g.K.Sink.faults c.answer_next.new.sink))
    c.lines.buffered c.answer_next.new.buffered c.lines.number c.lines.whole
    c.in-Ended.made c.lines.invariant turn

-- the turns are at their end
pub returns : goal.returns
returns g c =
    IsListRun-limit (g.A.Answering.answers c.args.answering.now) c.args.fields.now
    (seen (g.S.Source.left c.args.source.now) (g.S.Source.faults c.args.source.now))
    (seen (g.S.Source.left c.lines.source) (g.S.Source.faults c.lines.source))
    (seen (g.K.Sink.written c.args.sink.now) (g.K.Sink.faults c.args.sink.now))
    (seen (g.K.Sink.written c.lines.sink) (g.K.Sink.faults c.lines.sink))
    c.lines.buffered c.lines.number c.lines.whole c.lines.invariant (omega (arith, c.lines-test.false))
