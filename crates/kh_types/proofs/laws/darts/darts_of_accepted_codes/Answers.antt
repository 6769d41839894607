use Rattle.kh_types.proofs.AcceptedLemmas.{HasArcsTwice-accepted}
use Rattle.kh_types.proofs.DartPairs.{HasPairedDarts-twice, IsPartner-partner_at, IsOtherPlace-partner_at}
use Rattle.kh_types.proofs.laws.darts.darts_of_accepted_codes.Goals as goal

pub returns-clause-twice : goal.returns-clause-twice
returns-clause-twice c = HasArcsTwice-accepted

pub returns-clause-pairs : goal.returns-clause-pairs
returns-clause-pairs c = HasPairedDarts-twice

pub returns-clause-places : goal.returns-clause-places
returns-clause-places c = IsPartner-partner_at

pub returns-clause-none_alone : goal.returns-clause-none_alone
returns-clause-none_alone c = λ crossings twice place below. (IsOtherPlace-partner_at crossings place twice below).differs
