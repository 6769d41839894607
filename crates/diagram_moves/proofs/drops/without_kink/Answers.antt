use Rattle.std.proofs.Common.{◌∙◌, ℕ, ap, sym, subst}
use Rattle.kh_types.specs.Code.{place_of}
use Rattle.kink_and_finger_laws.specs.Drops.{without_finger}
use Rattle.code_passes.specs.Parts.{Parts}
use Rattle.orient_arcs.specs.Renumbered.{renumber}
use Rattle.diagram_moves.specs.Joinable.{AreReady}
use Rattle.diagram_moves.proofs.DropLemmas.{kinks_are_ready, without_one}
use Rattle.diagram_moves.proofs.drops.without_kink.Goals as goal

pub renumbered-requires : goal.renumbered-requires
renumbered-requires c =
    let made = c.dropped.ensures ∙ ap (λ (p : ℕ). (without_finger c.args.diagram.now p p)) c.saturating_sub-place.ensures in
    subst AreReady (sym made) (kinks_are_ready c.args.diagram.now c.args.crossing c.diagram_laws.ensures.accepted c.requires)

pub returns : goal.returns
returns c =
    let made = c.dropped.ensures ∙ ap (λ (p : ℕ). (without_finger c.args.diagram.now p p)) c.saturating_sub-place.ensures in
    c.renumbered.ensures ∙ ap renumber made
    ∙ ap (λ (s : Parts). renumber s) (without_one c.args.diagram.now (place_of c.args.crossing))
