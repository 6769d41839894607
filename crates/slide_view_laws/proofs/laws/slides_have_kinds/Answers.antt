use Rattle.slide_view_laws.proofs.SlideFacts.{see-kind_before, see-kind_after}
use Rattle.slide_view_laws.proofs.laws.slides_have_kinds.Goals as goal

pub returns-clause-before : goal.returns-clause-before
returns-clause-before cx old new p q r outside inner arcs slid below = see-kind_before old new p q r arcs slid outside inner below

pub returns-clause-after : goal.returns-clause-after
returns-clause-after cx old new p q r outside inner arcs slid below = see-kind_after old new p q r arcs slid outside inner below
