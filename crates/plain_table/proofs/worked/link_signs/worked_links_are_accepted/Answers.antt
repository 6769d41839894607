use Rattle.std.proofs.Common.{refl}
use Rattle.kh_types.specs.Acceptance.{first_fault, accepted}
use Rattle.plain_table.proofs.worked.link_signs.worked_links_are_accepted.Goals as goal

pub returns-clause-accepted_six_arcs : goal.returns-clause-accepted_six_arcs
unfolding first_fault accepted
returns-clause-accepted_six_arcs c = refl

pub returns-clause-accepted_four_arcs : goal.returns-clause-accepted_four_arcs
unfolding first_fault accepted
returns-clause-accepted_four_arcs c = refl

pub returns-clause-accepted_curl_back : goal.returns-clause-accepted_curl_back
unfolding first_fault accepted
returns-clause-accepted_curl_back c = refl

pub returns-clause-accepted_not : goal.returns-clause-accepted_not
unfolding first_fault accepted
returns-clause-accepted_not c = refl
