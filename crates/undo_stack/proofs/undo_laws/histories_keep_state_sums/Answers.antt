use Rattle.undo_stack.proofs.HistoryLemmas.{HasSumOf-edited}
use Rattle.undo_stack.proofs.undo_laws.histories_keep_state_sums.Goals as goal

pub returns : goal.returns
returns c = HasSumOf-edited
