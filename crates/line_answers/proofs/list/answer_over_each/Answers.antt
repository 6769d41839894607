use Rattle.std.proofs.Common.{◌+◌, ◌∷◌, [], ◌&&◌, List, map, take, drop, subst, sym, ◌∙◌, Ok, Err}
use Rattle.std.proofs.lemmas.Result.{err_from_is_err_and}
use Rattle.line_answers.specs.Answered.{AreAllAnswered, ArePartlyAnswered}
use Rattle.line_answers.specs.Questions.{Question, numbered_line, question}
use Rattle.line_answers.proofs.AnsweredLists.{AreAnswered-before, AreAnswered-behind, fields-all, fields-more}
use Rattle.line_answers.proofs.list.answer_over_each.Goals as goal

-- the line is not answered over this field
pub returns-in_err-whole-clause-answered : goal.returns-in_err-whole-clause-answered
returns-in_err-whole-clause-answered g c = λ bytes is.
    let stop = err_from_is_err_and c.from_residual.result c.from_residual.ensures.1 in
    let line = numbered_line c.args.asked.number bytes in
    let Answers = g.A.Answering.answers c.args.answering.now in
    let here = c.fields.field-index in
    let fields = c.args.fields.now in
    let part = AreAnswered-behind Answers (map (question line) (take here fields)) (question line c.field-item.result ∷ [])
    (g.K.Sink.written c.args.sink.now) (g.K.Sink.written c.fields.sink) (g.K.Sink.written c.answer.new.sink) c.fields.whole (Err c.in_err-whole.field-0.0)
    (c.fields.invariant.answered bytes is) (c.in_err-whole.ensures.answered bytes is) in
    let to_here = subst (λ (l : List Question). ArePartlyAnswered Answers l (g.K.Sink.written c.args.sink.now) (g.K.Sink.written c.answer.new.sink) c.in_err-whole.field-0.0)
    (sym (fields-more line fields here c.field-item.result c.fields-test.true c.field-item.is)) part in
    let whole = AreAnswered-before Answers (map (question line) (take (here + 1) fields)) (map (question line) (drop (here + 1) fields))
    (g.K.Sink.written c.args.sink.now) (g.K.Sink.written c.answer.new.sink) c.in_err-whole.field-0.0 to_here in
    rw (stop.1, stop.2)
    (subst (λ (l : List Question). ArePartlyAnswered Answers l (g.K.Sink.written c.args.sink.now) (g.K.Sink.written c.answer.new.sink) c.in_err-whole.field-0.0)
    (fields-all line fields (here + 1)) whole)

-- one field more
pub fields-preserved : goal.fields-preserved
fields-preserved g c = record {
  answered = λ bytes is.
      let line = numbered_line c.args.asked.number bytes in
      let Answers = g.A.Answering.answers c.args.answering.now in
      let here = c.fields.field-index in
      let both = AreAnswered-behind Answers (map (question line) (take here c.args.fields.now)) (question line c.field-item.result ∷ [])
      (g.K.Sink.written c.args.sink.now) (g.K.Sink.written c.fields.sink) (g.K.Sink.written c.answer.new.sink) c.fields.whole (Ok c.in_ok-whole.field-0)
      (c.fields.invariant.answered bytes is) (c.in_ok-whole.ensures.answered bytes is) in
      subst (λ (l : List Question). AreAllAnswered Answers l (g.K.Sink.written c.args.sink.now) (g.K.Sink.written c.answer.new.sink) (c.fields.whole && c.in_ok-whole.field-0))
      (sym (fields-more line c.args.fields.now here c.field-item.result c.fields-test.true c.field-item.is)) both;
  stayed = c.in_ok-whole.ensures.stayed (λ bad. cc) ∙ c.fields.invariant.stayed;
}
