use Rattle.plain_matrix.proofs.EliminationRanks.{rank-pivots}
use Rattle.kh_types.proofs.RankLaws.{rank-cancelled_matrix}
use Rattle.plain_matrix.proofs.laws.rank_counts_any_pivots.Goals as goal

pub returns-clause-pivots : goal.returns-clause-pivots
returns-clause-pivots c = rank-pivots

pub returns-clause-cancelled : goal.returns-clause-cancelled
returns-clause-cancelled c = rank-cancelled_matrix
