use Rattle.std.proofs.Common.{◌≡◌, take}
use Rattle.std.specs.List.{flat_map, fold, range_with_len}
use Rattle.added_crossing_laws.specs.Steps.{pairs_at}
use Rattle.tangle_maps.specs.declared.pairing.TheConstants.{POINTS}
use Rattle.crossing_maps.specs.Partners.{paired_up}
use Rattle.crossing_maps.proofs.behind.paired_by.Given as goal

abbrev pub invariant-arcs : goal.invariant-arcs
invariant-arcs l =
    l.made.partners ≡ fold paired_up (range_with_len 0 POINTS) (flat_map (pairs_at l.opened l.classes) (take l.arc-index l.opened))
