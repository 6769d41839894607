use Rattle.std.proofs.Common.{arith}
use Rattle.std.proofs.Common.{◌∙◌, sym}
use Rattle.morse_drawing.proofs.StepLemmas.{paired_room}
use Rattle.morse_drawing.proofs.step.close_pair.Goals as goal

pub close-requires-clause-within : goal.close-requires-clause-within
close-requires-clause-within c =
    (paired_room c.args.diagram.now c.args.page.now c.in-Some.place c.requires (sym c.paired.ensures ∙ c.in-Some.is)).0

pub close-requires-clause-strands : goal.close-requires-clause-strands
close-requires-clause-strands = omega arith
