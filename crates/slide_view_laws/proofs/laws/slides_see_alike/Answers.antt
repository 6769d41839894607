use Rattle.slide_view_laws.proofs.SlideFacts.{see-before, see-after, see-across_before, see-across_after, see-middle}
use Rattle.slide_view_laws.proofs.laws.slides_see_alike.Goals as goal

pub returns-clause-before : goal.returns-clause-before
returns-clause-before cx old new p q r outside place arcs slid below = see-before old new p q r arcs slid outside place below

pub returns-clause-after : goal.returns-clause-after
returns-clause-after cx old new p q r outside place arcs slid below = see-after old new p q r arcs slid outside place below

pub returns-clause-across_before : goal.returns-clause-across_before
returns-clause-across_before cx old new p q r outside arcs slid = see-across_before old new p q r arcs slid outside

pub returns-clause-across_after : goal.returns-clause-across_after
returns-clause-across_after cx old new p q r outside arcs slid = see-across_after old new p q r arcs slid outside

pub returns-clause-middle : goal.returns-clause-middle
returns-clause-middle cx old new p q r outside place arcs slid below = see-middle old new p q r arcs slid outside place below
