use Rattle.std.proofs.Common.{◌≡◌, ℕ, take, length, slice_index}
use Rattle.tangle_maps.specs.declared.pairing.TheConstants.{POINTS}
use Rattle.std.specs.List.{Contains}
use Rattle.tangle_maps.specs.Seams.{genus_by}
use Rattle.tangle_maps.proofs.seam.genera.Given as goal

abbrev pub invariant-components : goal.invariant-components
invariant-components l = record {
  size : length l.genera ≡ POINTS;
  noted : (k : ℕ) → Contains (take l.component-index l.components) k → slice_index l.genera k ≡ genus_by k l.arcs l.first l.second l.whole;
}
