use Rattle.std.proofs.Common.{◌≡◌, map}
use Rattle.std.specs.List.{range_with_len}
use Rattle.kh_types.specs.Generators.{generator_of}
use Rattle.cube_tests.proofs.made_complexes.labels.Given as goal

abbrev pub invariant-labels : goal.invariant-labels
invariant-labels l = l.made.items ≡ map (generator_of l.state) (range_with_len 0 l.label)
