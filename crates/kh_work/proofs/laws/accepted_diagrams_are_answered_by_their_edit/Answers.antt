use Rattle.std.proofs.Common.{refl, take}
use Rattle.undo_stack.proofs.HistoryLemmas.{HasSumOf-edited}
use Rattle.kh_work.proofs.AnswerLemmas.{IsAnswer-edit}
use Rattle.kh_work.proofs.laws.accepted_diagrams_are_answered_by_their_edit.Goals as goal

pub returns : goal.returns
returns c = record {
  answer = IsAnswer-edit;
  sum = λ lines code count is. (HasSumOf-edited (take count lines) code is).diagram;
  nothing = λ code. refl;
}
