use Rattle.std.proofs.Common.{◌≡◌, take}
use Rattle.std.specs.List.{fold}
use Rattle.kh_types.specs.Classes.{joined}
use Rattle.tangle_maps.specs.Pairings.{joins_of}
use Rattle.tangle_maps.proofs.pairing.join_pairs.Given as goal

abbrev pub invariant-arcs : goal.invariant-arcs
invariant-arcs l = l.classes ≡ fold joined l.initial.classes (joins_of l.pairing.partners (take l.arc-index l.arcs))
