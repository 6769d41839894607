use Rattle.kh_runs.specs.Told.{seen}
use Rattle.line_answers.proofs.Progress.{Progress}
use Rattle.line_answers.proofs.list.lines_answered.Given as goal

-- the lines before this number are answered
abbrev pub invariant-lines : goal.invariant-lines
invariant-lines g l =
    Progress (g.A.Answering.answers l.answering) l.fields
    (seen (g.S.Source.left l.fn.source) (g.S.Source.faults l.fn.source)) (seen (g.S.Source.left l.source) (g.S.Source.faults l.source))
    (seen (g.K.Sink.written l.fn.sink) (g.K.Sink.faults l.fn.sink)) (seen (g.K.Sink.written l.sink) (g.K.Sink.faults l.sink))
    l.buffered l.number l.whole
