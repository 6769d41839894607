use Rattle.kh_work.proofs.TurnAnswers.{IsAnswer-refused_second, IsAnswer-union, union_reply-text}
use Rattle.kh_work.proofs.laws.accepted_diagrams_are_answered_by_their_union.Goals as goal

pub returns : goal.returns
returns c = record { answer = IsAnswer-union; text = union_reply-text; refused = IsAnswer-refused_second }
