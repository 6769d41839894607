use Rattle.history_laws.proofs.HistoryEnds.{dimension_of-add, rank_sum-half}
use Rattle.history_laws.proofs.laws.ranks_fit_into_places.Goals as goal

pub returns-clause-rest : goal.returns-clause-rest
returns-clause-rest c = dimension_of-add

pub returns-clause-half : goal.returns-clause-half
returns-clause-half c = rank_sum-half
