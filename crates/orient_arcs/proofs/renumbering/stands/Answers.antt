use Rattle.std.proofs.Common.{◌∙◌}
use Rattle.orient_arcs.proofs.StepLemmas.{is_in_map}
use Rattle.orient_arcs.proofs.renumbering.stands.Goals as goal

pub returns : goal.returns
returns c = c.enters_some.ensures ∙ is_in_map c.args.passes.now c.args.name
