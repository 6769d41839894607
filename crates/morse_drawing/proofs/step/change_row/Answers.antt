use Rattle.std.proofs.Common.{◌∙◌, sym, arith}
use Rattle.morse_drawing.proofs.StepLemmas.{leading_room}
use Rattle.morse_drawing.proofs.step.change_row.Goals as goal

pub partner_of-dart-requires-clause-within : goal.partner_of-dart-requires-clause-within
partner_of-dart-requires-clause-within c =
    (leading_room c.args.diagram.now c.args.page.now c.in-Some.place c.requires (sym c.leading.ensures ∙ c.in-Some.is)).0

pub cross-requires-clause-dart : goal.cross-requires-clause-dart
cross-requires-clause-dart c = omega (arith, c.partner_of-dart.ensures.below, c.requires.within)

pub cross-requires-clause-within : goal.cross-requires-clause-within
cross-requires-clause-within c =
    (leading_room c.args.diagram.now c.args.page.now c.in-Some.place c.requires (sym c.leading.ensures ∙ c.in-Some.is)).0

pub cross-requires-clause-strands : goal.cross-requires-clause-strands
cross-requires-clause-strands c =
    (leading_room c.args.diagram.now c.args.page.now c.in-Some.place c.requires (sym c.leading.ensures ∙ c.in-Some.is)).1

pub cross-requires-clause-room : goal.cross-requires-clause-room
cross-requires-clause-room c =
    (leading_room c.args.diagram.now c.args.page.now c.in-Some.place c.requires (sym c.leading.ensures ∙ c.in-Some.is)).2
