use Rattle.std.proofs.Common.{◌≡◌}
use Rattle.cube_signs.specs.Chosen.{chosen_before, has_minus}
use Rattle.cube_signs.specs.ChosenParts.{places_to}
use Rattle.cube_signs.proofs.chosen.places_before.Given as goal

abbrev pub invariant-names : goal.invariant-names
invariant-names l = record {
  places : l.before.items ≡ places_to (has_minus l.circles) l.names l.k;
  count : l.count ≡ chosen_before (has_minus l.circles) l.names l.k;
}
