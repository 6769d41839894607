use Rattle.braid_maker.proofs.Bottoms.{bottom_name-is, least-bottom}
use Rattle.braid_maker.proofs.laws.components_of_closures_begin_at_their_least_bottoms.Goals as goal

pub returns : goal.returns
returns c = record { names = bottom_name-is; least = least-bottom }
