use Rattle.kh_types.proofs.AcceptedLemmas.{HasArcsTwice-accepted}
use Rattle.slide_laws.proofs.Sides.{HasSides-triangle}
use Rattle.slide_laws.proofs.SlidTriangle.{sum_with-slid, state_sum-slid}
use Rattle.slide_laws.proofs.laws.slides_keep_the_state_sum.Goals as goal

pub returns-clause-slid : goal.returns-clause-slid
returns-clause-slid c code x y z accepted is heights exponent =
    sum_with-slid code x y z accepted (HasSides-triangle code.crossings x y z (HasArcsTwice-accepted code accepted) is) heights exponent

pub returns-clause-renumbered : goal.returns-clause-renumbered
returns-clause-renumbered c f code new x y z accepted is heights same holds plus exponent =
    state_sum-slid f code new x y z accepted (HasSides-triangle code.crossings x y z (HasArcsTwice-accepted code accepted) is) heights same holds
    plus exponent
