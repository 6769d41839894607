use Rattle.std.proofs.Common.{◌∙◌, sym}
use Rattle.cancel_log.proofs.LineTexts.{cut-taken}
use Rattle.cancel_log.proofs.saying.cut_at_space.Goals as goal

pub returns-clause-some : goal.returns-clause-some
returns-clause-some c = cut-taken c.args.text.now c.in_ok-space.space (sym c.first_space.ensures ∙ c.in_ok-space.was)
