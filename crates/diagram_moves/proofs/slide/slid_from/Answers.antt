use Rattle.std.proofs.Common.{◌∙◌, ap, sym, subst}
use Rattle.orient_arcs.specs.Renumbered.{renumber}
use Rattle.diagram_moves.specs.Joinable.{AreReady}
use Rattle.diagram_moves.proofs.SlideLemmas.{strands_at}
use Rattle.diagram_moves.proofs.slide.slid_from.Goals as goal

pub renumbered-requires : goal.renumbered-requires
renumbered-requires c =
    let made = c.slid_parts.ensures
    ∙ strands_at c.args.diagram.now c.args.crossing c.args.slot c.dart_at_slot-x.result c.step-y.result c.step-z.result
    c.dart_at_slot-x.ensures.dart c.step-y.ensures.step c.step-z.ensures.step in
    subst AreReady (sym made) c.requires.ready

pub returns : goal.returns
returns c =
    let made = c.slid_parts.ensures
    ∙ strands_at c.args.diagram.now c.args.crossing c.args.slot c.dart_at_slot-x.result c.step-y.result c.step-z.result
    c.dart_at_slot-x.ensures.dart c.step-y.ensures.step c.step-z.ensures.step in
    c.renumbered.ensures ∙ ap renumber made
