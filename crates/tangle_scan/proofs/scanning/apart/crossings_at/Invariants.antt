use Rattle.std.proofs.Common.{◌≡◌, map, take}
use Rattle.code_passes.specs.Parts.{slots_in}
use Rattle.tangle_scan.proofs.scanning.apart.crossings_at.Given as goal

abbrev pub invariant-places : goal.invariant-places
invariant-places l = l.crossings.items ≡ map (slots_in l.diagram.crossings) (take l.at l.places)
