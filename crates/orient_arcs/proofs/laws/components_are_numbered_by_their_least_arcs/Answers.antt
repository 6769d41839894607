use Rattle.orient_arcs.proofs.FirstArcs.{number_within, number-together, first_arc-le, number-first_arc, first_arc-ascending}
use Rattle.orient_arcs.proofs.laws.components_are_numbered_by_their_least_arcs.Goals as goal

pub returns : goal.returns
returns c = record {
  within = number_within;
  together = number-together;
  least = first_arc-le;
  back = number-first_arc;
  ascending = first_arc-ascending;
}
