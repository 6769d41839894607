use Rattle.std.proofs.Common.{◌≡◌, ◌++◌, take, drop, map}
use Rattle.morse_drawing.specs.OpenEnds.{renamed}
use Rattle.morse_drawing.proofs.open_ends.rename.Given as goal

abbrev pub invariant-loop-end : goal.invariant-loop-end
invariant-loop-end l =
    l.row ≡ map (renamed l.old l.new) (take l.end-index l.initial.row) ++ drop l.end-index l.initial.row
