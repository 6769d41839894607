use Rattle.std.proofs.Common.{◌∙◌, ℕ, ap, ap₂, sym, subst}
use Rattle.kink_and_finger_laws.specs.Drops.{without_finger}
use Rattle.orient_arcs.specs.Renumbered.{renumber}
use Rattle.diagram_moves.specs.Joinable.{AreReady}
use Rattle.diagram_moves.proofs.DropLemmas.{fingers_are_ready}
use Rattle.diagram_moves.proofs.drops.without_finger.Goals as goal

pub renumbered-requires : goal.renumbered-requires
renumbered-requires c =
    let made = c.dropped.ensures
    ∙ ap₂ (λ (p q : ℕ). (without_finger c.args.diagram.now p q)) c.saturating_sub.ensures c.saturating_sub-2.ensures in
    subst AreReady (sym made)
    (fingers_are_ready c.args.diagram.now c.args.first c.args.second c.diagram_laws.ensures.accepted c.requires)

pub returns : goal.returns
returns c =
    let made = c.dropped.ensures
    ∙ ap₂ (λ (p q : ℕ). (without_finger c.args.diagram.now p q)) c.saturating_sub.ensures c.saturating_sub-2.ensures in
    c.renumbered.ensures ∙ ap renumber made
