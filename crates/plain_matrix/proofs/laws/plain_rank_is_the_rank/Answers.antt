use Rattle.kh_types.proofs.PivotLemmas.{rank-determined}
use Rattle.kh_types.proofs.PlainRank.{rank-least}
use Rattle.plain_matrix.proofs.laws.plain_rank_is_the_rank.Goals as goal

pub returns-clause-plain : goal.returns-clause-plain
returns-clause-plain c = rank-least

pub returns-clause-unique : goal.returns-clause-unique
returns-clause-unique c = rank-determined
