use Rattle.undo_stack.proofs.HistoryLemmas.{edited-short}
use Rattle.undo_stack.proofs.undo_laws.histories_are_bounded.Goals as goal

pub returns : goal.returns
returns c = edited-short
