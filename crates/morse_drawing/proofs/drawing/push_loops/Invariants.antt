use Rattle.std.proofs.Common.{◌≡◌, ◌++◌}
use Rattle.morse_drawing.specs.Pages.{loop_slices}
use Rattle.morse_drawing.proofs.drawing.push_loops.Given as goal

abbrev pub invariant-loops : goal.invariant-loops
invariant-loops l = l.slices.items ≡ l.initial.slices.items ++ loop_slices l.counter
