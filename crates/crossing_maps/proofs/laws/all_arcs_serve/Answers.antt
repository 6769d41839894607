use Rattle.crossing_maps.proofs.AllArcs.{pairs-serve, closed-serve}
use Rattle.crossing_maps.proofs.laws.all_arcs_serve.Goals as goal

pub returns : goal.returns
returns c = record { pairs = pairs-serve; closed = closed-serve }
