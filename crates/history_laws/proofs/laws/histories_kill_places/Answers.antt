use Rattle.sparse_block.proofs.HistoryLemmas.{low-replay, degrees-replay, places-replay}
use Rattle.history_laws.proofs.HistoryRanks.{live_places-replay}
use Rattle.history_laws.proofs.HistoryEnds.{length-half}
use Rattle.history_laws.proofs.laws.histories_kill_places.Goals as goal

pub returns-clause-low : goal.returns-clause-low
returns-clause-low c = low-replay

pub returns-clause-degrees : goal.returns-clause-degrees
returns-clause-degrees c = degrees-replay

pub returns-clause-places : goal.returns-clause-places
returns-clause-places c = places-replay

pub returns-clause-alive : goal.returns-clause-alive
returns-clause-alive c = live_places-replay

pub returns-clause-half : goal.returns-clause-half
returns-clause-half c = length-half
