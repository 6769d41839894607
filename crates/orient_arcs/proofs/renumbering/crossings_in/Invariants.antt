use Rattle.std.proofs.Common.{◌≡◌, map, take}
use Rattle.orient_arcs.specs.Renumbered.{number_in, renamed_crossing}
use Rattle.orient_arcs.proofs.renumbering.crossings_in.Given as goal

abbrev pub invariant-crossings : goal.invariant-crossings
invariant-crossings l = l.crossings.items ≡ map (renamed_crossing (number_in l.order)) (take l.crossing-index l.parts.crossings)
