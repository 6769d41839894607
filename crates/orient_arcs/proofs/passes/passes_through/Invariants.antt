use Rattle.std.proofs.Common.{◌≡◌}
use Rattle.std.specs.List.{flat_map, range_with_len}
use Rattle.code_passes.specs.Parts.{passes_at}
use Rattle.orient_arcs.proofs.passes.passes_through.Given as goal

abbrev pub invariant-places : goal.invariant-places
invariant-places l = l.passes.items ≡ flat_map (passes_at l.parts) (range_with_len 0 l.place)
