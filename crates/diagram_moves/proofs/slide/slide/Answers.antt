use Rattle.std.proofs.Common.{◌∙◌, sym}
use Rattle.diagram_moves.proofs.SlideLemmas.{slides_are_ready}
use Rattle.diagram_moves.proofs.slide.slide.Goals as goal

pub slid_at-requires : goal.slid_at-requires
slid_at-requires c =
    slides_are_ready c.args.diagram.now c.args.corners.first c.args.corners.second c.args.corners.third c.diagram_laws.ensures.accepted
    (sym c.slide_fault.ensures ∙ c.in-None.is)
