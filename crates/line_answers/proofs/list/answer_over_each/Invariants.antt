use Rattle.std.proofs.Common.{◌≡◌, List, ℕ, map, take}
use Rattle.line_reader.specs.Lines.{kept}
use Rattle.line_answers.specs.Answered.{AreAllAnswered}
use Rattle.line_answers.specs.Questions.{numbered_line, question}
use Rattle.line_answers.proofs.list.answer_over_each.Given as goal

-- the line is answered over the fields so far
abbrev pub invariant-fields : goal.invariant-fields
invariant-fields g l = record {
  answered : (bytes : List ℕ) → l.asked.line.now ≡ kept bytes
      → AreAllAnswered (g.A.Answering.answers l.answering) (map (question (numbered_line l.asked.number bytes)) (take l.field-index l.fields))
      (g.K.Sink.written l.fn.sink) (g.K.Sink.written l.sink) l.whole;
  stayed : g.K.Sink.faults l.sink ≡ g.K.Sink.faults l.fn.sink;
}
