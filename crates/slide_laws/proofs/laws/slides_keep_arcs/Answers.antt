use Rattle.kh_types.proofs.AcceptedLemmas.{HasArcsTwice-accepted}
use Rattle.slide_laws.proofs.Sides.{HasSides-triangle}
use Rattle.slide_laws.proofs.SlidArcs.{length-slid, HasArcsTwice-slid}
use Rattle.slide_laws.proofs.SlidHeads.{HasHeadsAndTails-slid}
use Rattle.slide_laws.proofs.laws.slides_keep_arcs.Goals as goal

pub returns-clause-size : goal.returns-clause-size
returns-clause-size c = length-slid

pub returns-clause-twice : goal.returns-clause-twice
returns-clause-twice c crossings x y z twice is = HasArcsTwice-slid crossings x y z twice (HasSides-triangle crossings x y z twice is)

pub returns-clause-directed : goal.returns-clause-directed
returns-clause-directed c code x y z accepted is =
    HasHeadsAndTails-slid code x y z accepted (HasSides-triangle code.crossings x y z (HasArcsTwice-accepted code accepted) is)
