use Rattle.std.proofs.Common.{◌≡◌, map}
use Rattle.std.specs.List.{range_with_len}
use Rattle.cube_signs.specs.Tables.{own_base, HaveSizes}
use Rattle.cube_signs.proofs.cube.Cube.places.Given as goal

abbrev pub invariant-states : goal.invariant-states
invariant-states l = record {
  bases : l.bases.items ≡ map (own_base l.self l.j) (range_with_len 0 l.state);
  sizes : HaveSizes l.self l.j l.state l.sizes;
}
