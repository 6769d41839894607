use Rattle.std.proofs.Common.{◌≡◌}
use Rattle.sparse_block.specs.Inside.{lists_in}
use Rattle.cube_signs.specs.Chosen.{has_minus}
use Rattle.cube_signs.specs.ChosenParts.{all_places_to, chosen_to}
use Rattle.cube_signs.proofs.cube.Cube.all_chosen.Given as goal

abbrev pub invariant-degrees : goal.invariant-degrees
invariant-degrees l = record {
  names : lists_in l.names.items ≡ chosen_to (has_minus l.circles) l.self l.fn.lowest.j l.k;
  places : lists_in l.before.items ≡ all_places_to (has_minus l.circles) l.self l.fn.lowest.j l.k;
}
