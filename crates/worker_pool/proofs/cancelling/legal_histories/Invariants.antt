use Rattle.std.proofs.Common.{ℕ, ◌<◌, get_or}
use Rattle.shared_block.specs.BlockHistories.{BlockHistory, HasLegalHistory}
use Rattle.worker_pool.proofs.cancelling.legal_histories.Given as goal

abbrev pub invariant-places : goal.invariant-places
invariant-places g l = (k : ℕ) (d : BlockHistory) → k < l.k → HasLegalHistory g.F.PrimeField.P (get_or l.blocks k d)
