use Rattle.std.proofs.Common.{◌≡◌, ℕ, take, length, slice_index}
use Rattle.tangle_maps.specs.declared.pairing.TheConstants.{POINTS}
use Rattle.std.specs.List.{Contains}
use Rattle.crossing_maps.specs.Counts.{genus_at}
use Rattle.crossing_maps.specs.ListedPlaces.{places_in}
use Rattle.crossing_maps.proofs.genus.genera_in.Given as goal

abbrev pub invariant-components : goal.invariant-components
invariant-components l = record {
  size : length l.genera ≡ POINTS;
  noted : (k : ℕ) → Contains (take l.component-index l.components) k → slice_index l.genera k ≡ genus_at (places_in l.lists) k;
}
