use Rattle.std.proofs.Common.{◌≡◌, ◌++◌, map, take}
use Rattle.kh_types.specs.Generators.{generator_of}
use Rattle.cube_signs.proofs.names.push_labels.Given as goal

abbrev pub invariant-labels : goal.invariant-labels
invariant-labels l = l.names.items ≡ l.initial.names.items ++ map (generator_of l.state) (take l.k l.labels)
