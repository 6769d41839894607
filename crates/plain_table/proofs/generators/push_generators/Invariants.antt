use Rattle.std.proofs.Common.{◌≡◌, ◌++◌, map}
use Rattle.std.specs.List.{range_with_len}
use Rattle.kh_types.specs.Generators.{generator_of}
use Rattle.plain_table.specs.Placed.{placed_in}
use Rattle.plain_table.proofs.generators.push_generators.Given as goal

abbrev pub invariant-labels : goal.invariant-labels
invariant-labels l = l.made.items ≡ l.initial.made.items ++ map (placed_in l.diagram) (map (generator_of l.state) (range_with_len 0 l.label))
