use Rattle.kh_types.proofs.RankLemmas.{rank-zeros}
use Rattle.kh_types.proofs.laws.ranks.rows_of_zeros_do_not_count.Goals as goal

pub returns : goal.returns
returns c = rank-zeros
