use Rattle.crossing_maps.proofs.PlaceLaws.{closed-arcs, near-arcs, opened-arcs, slots-below}
use Rattle.crossing_maps.proofs.laws.places_have_arcs.Goals as goal

pub returns : goal.returns
returns c = record { slots = slots-below; opened = opened-arcs; near = near-arcs; closed = closed-arcs }
