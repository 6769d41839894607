use Rattle.std.proofs.Common.{◌≡◌, map}
use Rattle.std.specs.List.{flat_map, range_with_len}
use Rattle.kh_types.specs.Generators.{generators_of}
use Rattle.plain_table.specs.Placed.{placed_in}
use Rattle.plain_table.proofs.generators.generators.Given as goal

abbrev pub invariant-states : goal.invariant-states
invariant-states l = l.made.items ≡ map (placed_in l.diagram) (flat_map (generators_of l.diagram) (range_with_len 0 l.state))
