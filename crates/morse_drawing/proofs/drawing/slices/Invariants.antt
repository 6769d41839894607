use Rattle.morse_drawing.proofs.NextPages.{IsPageAfter}
use Rattle.morse_drawing.proofs.drawing.slices.Given as goal

abbrev pub invariant-steps : goal.invariant-steps
invariant-steps l = IsPageAfter l.diagram l.counter l.page
