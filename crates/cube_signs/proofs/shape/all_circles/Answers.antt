use Rattle.std.proofs.Common.{◌∙◌}
use Rattle.cube_signs.proofs.StateLists.{resolutions-more}
use Rattle.cube_signs.proofs.shape.all_circles.Goals as goal

pub states-preserved : goal.states-preserved
states-preserved c =
    resolutions-more c.args.diagram.now c.states.all.items c.push.new.self.items c.circles.result c.states.state c.states.invariant
    (c.circles.ensures.code ∙ c.new-smoothings.ensures) c.circles.ensures.state c.in_ok-push.ensures.items
