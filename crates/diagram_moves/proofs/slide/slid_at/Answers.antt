use Rattle.std.proofs.Common.{◌∙◌, ℕ, ap, sym, subst}
use Rattle.diagram_moves.specs.Joinable.{AreReady}
use Rattle.diagram_moves.specs.Moved.{slid_from}
use Rattle.diagram_moves.specs.SlideSteps.{slid_parts_at}
use Rattle.diagram_moves.proofs.slide.slid_at.Goals as goal

pub slid_from-requires-clause-ready : goal.slid_from-requires-clause-ready
slid_from-requires-clause-ready c =
    subst (λ (slot : ℕ). AreReady (slid_parts_at c.args.diagram.now c.args.corners.first slot)) (sym c.taken_slot.ensures.slot)
    c.requires.ready

pub returns : goal.returns
returns c =
    c.slid_from.ensures
    ∙ ap (λ (slot : ℕ). slid_from c.args.diagram.now c.args.corners.first slot) c.taken_slot.ensures.slot
