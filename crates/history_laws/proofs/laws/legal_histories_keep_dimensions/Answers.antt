use Rattle.sparse_block.proofs.HistoryLemmas.{complex-replay}
use Rattle.history_laws.proofs.HistoryRanks.{dimension_of-replay}
use Rattle.history_laws.proofs.HistoryEnds.{alive_count-end, length-zero}
use Rattle.history_laws.proofs.laws.legal_histories_keep_dimensions.Goals as goal

pub returns-clause-complex : goal.returns-clause-complex
returns-clause-complex c = complex-replay

pub returns-clause-dimensions : goal.returns-clause-dimensions
returns-clause-dimensions c = dimension_of-replay

pub returns-clause-alive : goal.returns-clause-alive
returns-clause-alive c = alive_count-end

pub returns-clause-size : goal.returns-clause-size
returns-clause-size c = length-zero
