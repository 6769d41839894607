use Rattle.code_passes.proofs.EndsOfArcs.{HasEnds-moving}
use Rattle.code_passes.proofs.laws.arcs_have_two_ends.Goals as goal

pub returns : goal.returns
returns c = λ crossings directed arc is_arc moves. HasEnds-moving crossings directed arc is_arc moves
