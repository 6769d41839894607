use Rattle.std.proofs.Common.{◌≡◌, map}
use Rattle.std.specs.List.{range_with_len}
use Rattle.link_algebra.specs.Mirrors.{mirror_slots}
use Rattle.link_algebra.proofs.turns.mirror_crossings.Given as goal

abbrev pub invariant-places : goal.invariant-places
invariant-places l = l.crossings.items ≡ map (mirror_slots l.diagram.crossings) (range_with_len 1 l.place)
