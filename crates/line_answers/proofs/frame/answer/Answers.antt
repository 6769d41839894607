use Rattle.std.proofs.Common.{ap, inl, ◌∙◌}
use Rattle.std.proofs.lemmas.Result.{err_from_is_err_and}
use Rattle.line_reader.specs.Lines.{Kept}
use Rattle.line_answers.specs.Questions.{numbered_line, question}
use Rattle.line_answers.proofs.AnsweredLists.{AreAnswered-part}
use Rattle.line_answers.proofs.frame.answer.Goals as goal

-- the frame of an answer is written in part, or there is no memory for it
pub returns-in_err-write_frame-in-Ok-clause-answered : goal.returns-in_err-write_frame-in-Ok-clause-answered
returns-in_err-write_frame-in-Ok-clause-answered g c = λ line is.
    let stop = err_from_is_err_and c.from_residual.result c.from_residual.ensures.1 in
    rw (stop.1, stop.2)
    (AreAnswered-part (g.A.Answering.answers c.args.answering.now) (question (numbered_line c.args.asked.number line) c.args.field)
    c.in-Ok.reply (g.K.Sink.written c.args.sink.now) (g.K.Sink.written c.write_frame.new.sink) c.in_err-write_frame-in-Ok.field-0.0
    (inl (c.in-Ok.ensures line (c.bytes.ensures ∙ ap (λ (k : Kept). k.bytes) is))) c.in_err-write_frame-in-Ok.ensures.part)
