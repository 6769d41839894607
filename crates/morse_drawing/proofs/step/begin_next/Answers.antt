use Rattle.std.proofs.lemmas.Bool.Decides.{nat_tests}
use Rattle.std.proofs.Common.{arith}
use Rattle.std.proofs.Common.{◌∙◌, sym}
use Rattle.morse_drawing.proofs.StepLemmas.{undrawn_room}
use Rattle.morse_drawing.proofs.step.begin_next.Goals as goal

pub begin-requires-clause-crossing : goal.begin-requires-clause-crossing
begin-requires-clause-crossing c =
    (undrawn_room c.args.diagram.now c.args.page.now c.in-Some.crossing c.requires (sym c.undrawn.ensures ∙ c.in-Some.is)).0

pub begin-requires-clause-room : goal.begin-requires-clause-room
begin-requires-clause-room = grind (arith, nat_tests)
