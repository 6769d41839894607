use Rattle.std.proofs.Common.{◌∙◌, ap}
use Rattle.kh_types.specs.StateSum.{state_sum}
use Rattle.undo_stack.proofs.editor.Editor.do_move.Goals as goal

pub returns-clause-sum : goal.returns-clause-sum
returns-clause-sum c =
    λ exponent. c.in_ok-changed.ensures.sum exponent ∙ ap (λ history. state_sum history.diagram exponent) c.self.view_is
