use Rattle.std.proofs.Common.{◌∙◌, ap, arith, take_all}
use Rattle.std.specs.List.{filter}
use Rattle.cube_signs.specs.Chosen.{has_minus}
use Rattle.cube_signs.proofs.chosen.chosen_of.Goals as goal

pub returns : goal.returns
returns c =
    c.names.invariant
    ∙ ap (filter (has_minus c.args.circles.now)) (take_all c.names.k c.args.names.now (omega (arith, c.names-test.false)))
