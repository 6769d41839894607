use Rattle.kh_work.proofs.CaseAnswers.{IsAnswer-many, IsAnswer-many_certified, IsAnswer-many_marked, IsAnswer-many_scheduled}
use Rattle.kh_work.proofs.laws.cases.too_many_generators_are_answered_by_their_limit.Goals as goal

pub returns : goal.returns
returns c = record {
  homology = IsAnswer-many;
  certify = IsAnswer-many_certified;
  reduced = IsAnswer-many_marked;
  schedule = IsAnswer-many_scheduled;
}
