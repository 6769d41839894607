use Rattle.std.proofs.Common.{length}
use Rattle.tangle_maps.proofs.choices.+add_choices.Given as goal

abbrev pub decreases-add_choices : goal.decreases-add_choices
decreases-add_choices g l = length l.discs.now
