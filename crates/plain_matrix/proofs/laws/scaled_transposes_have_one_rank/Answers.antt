use Rattle.plain_matrix.proofs.ScaledRanks.{rank-scaled_transposes}
use Rattle.plain_matrix.proofs.laws.scaled_transposes_have_one_rank.Goals as goal

pub returns : goal.returns
returns c = rank-scaled_transposes
