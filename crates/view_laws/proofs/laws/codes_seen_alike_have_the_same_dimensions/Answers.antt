use Rattle.view_laws.proofs.PlainViews.{dimension-plain}
use Rattle.view_laws.proofs.laws.codes_seen_alike_have_the_same_dimensions.Goals as goal

pub returns : goal.returns
returns c = dimension-plain
