use Rattle.std.proofs.Common.{◌≡◌, ◌++◌, take, drop, map}
use Rattle.kh_types.specs.Classes.{merged}
use Rattle.tangle_maps.proofs.names.join.Given as goal

abbrev pub invariant-loop-class : goal.invariant-loop-class
invariant-loop-class l =
    l.classes ≡ map (merged l.x l.y) (take l.class-index l.initial.classes) ++ drop l.class-index l.initial.classes
