use Rattle.std.proofs.Common.{sym, subst}
use Rattle.kh_runs.specs.Told.{seen}
use Rattle.line_answers.specs.ListRuns.{IsListRun}
use Rattle.word_line.specs.declared.scan_command.Fields.{Fields}
use Rattle.line_answers.specs.Scans.{IsTextReply, sizes_of}
use Rattle.scan_main.proofs.list.answer_each.Goals as goal

-- one field
pub returns-in-One : goal.returns-in-One
returns-in-One g c =
    subst (λ (fields : Fields). IsListRun IsTextReply (sizes_of fields)
    (seen (g.S.Source.left c.args.source.now) (g.S.Source.faults c.args.source.now))
    (seen (g.S.Source.left c.answer_list.new.source) (g.S.Source.faults c.answer_list.new.source))
    (seen (g.K.Sink.written c.args.sink.now) (g.K.Sink.faults c.args.sink.now))
    (seen (g.K.Sink.written c.answer_list.new.sink) (g.K.Sink.faults c.answer_list.new.sink)) c.answer_list.result)
    (sym c.in-One.is) c.answer_list.ensures

-- all four
pub returns-in-All : goal.returns-in-All
returns-in-All g c =
    subst (λ (fields : Fields). IsListRun IsTextReply (sizes_of fields)
    (seen (g.S.Source.left c.args.source.now) (g.S.Source.faults c.args.source.now))
    (seen (g.S.Source.left c.answer_list-in-All.new.source) (g.S.Source.faults c.answer_list-in-All.new.source))
    (seen (g.K.Sink.written c.args.sink.now) (g.K.Sink.faults c.args.sink.now))
    (seen (g.K.Sink.written c.answer_list-in-All.new.sink) (g.K.Sink.faults c.answer_list-in-All.new.sink)) c.answer_list-in-All.result)
    (sym c.in-All.is) c.answer_list-in-All.ensures
