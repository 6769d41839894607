use Rattle.slide_view_laws.proofs.SlideFacts.{IsView-old, IsView-new, view-same}
use Rattle.slide_view_laws.proofs.laws.slides_have_views.Goals as goal

pub returns-clause-before : goal.returns-clause-before
returns-clause-before cx = IsView-old

pub returns-clause-after : goal.returns-clause-after
returns-clause-after cx = IsView-new

pub returns-clause-same : goal.returns-clause-same
returns-clause-same cx = view-same
