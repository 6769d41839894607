-- The text is joined from the left, and its definition from the right.
use Rattle.std.proofs.Common.{append_assoc, ◌∙◌}
use Rattle.kh_replies.proofs.check.counts_line.Goals as goal

pub returns : goal.returns
returns c = c.in_ok-format.ensures.ok ∙ simp append_assoc
