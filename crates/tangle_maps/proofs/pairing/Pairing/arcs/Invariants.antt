use Rattle.std.proofs.Common.{◌≡◌, ◌≤◌, length}
use Rattle.std.specs.List.{filter, range_with_len}
use Rattle.tangle_maps.specs.Pairings.{is_paired}
use Rattle.tangle_maps.proofs.pairing.Pairing.arcs.Given as goal

abbrev pub invariant-arcs : goal.invariant-arcs
invariant-arcs l = record {
  paired : l.arcs.items ≡ filter (is_paired l.self.partners) (range_with_len 0 l.arc);
  bound : length l.arcs.items ≤ l.arc;
}
