use Rattle.kh_work.proofs.CaseAnswers.{IsAnswer-faulty, IsAnswer-faulty_before, IsAnswer-unread, IsAnswer-unread_before}
use Rattle.kh_work.proofs.laws.cases.refused_codes_are_answered_by_their_refusal.Goals as goal

pub returns : goal.returns
returns c = record {
  text = IsAnswer-unread;
  code = IsAnswer-faulty;
  text_before = IsAnswer-unread_before;
  code_before = IsAnswer-faulty_before;
}
