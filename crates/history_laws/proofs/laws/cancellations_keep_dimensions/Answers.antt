use Rattle.history_laws.proofs.DegreeRanks.{rank-at_pivot, rank-others, dimension_of-cancel}
use Rattle.history_laws.proofs.RankSumLemmas.{rank_sum-cancel}
use Rattle.history_laws.proofs.laws.cancellations_keep_dimensions.Goals as goal

pub returns-clause-dimensions : goal.returns-clause-dimensions
returns-clause-dimensions c = dimension_of-cancel

pub returns-clause-pivot : goal.returns-clause-pivot
returns-clause-pivot c = rank-at_pivot

pub returns-clause-others : goal.returns-clause-others
returns-clause-others c = rank-others

pub returns-clause-sum : goal.returns-clause-sum
returns-clause-sum c = rank_sum-cancel
