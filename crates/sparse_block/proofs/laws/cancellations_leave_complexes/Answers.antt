use Rattle.sparse_block.proofs.CancelledComplexes.{complex-cancel}
use Rattle.sparse_block.proofs.laws.cancellations_leave_complexes.Goals as goal

pub returns : goal.returns
returns c = complex-cancel
