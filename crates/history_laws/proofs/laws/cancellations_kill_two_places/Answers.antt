use Rattle.sparse_block.proofs.PlaceLemmas.{alive_count-at_pivot, alive_count-after_pivot, alive_count-others}
use Rattle.sparse_block.proofs.LivePlaces.{live_places-cancel}
use Rattle.history_laws.proofs.laws.cancellations_kill_two_places.Goals as goal

pub returns-clause-column : goal.returns-clause-column
returns-clause-column c = alive_count-at_pivot

pub returns-clause-row : goal.returns-clause-row
returns-clause-row c = alive_count-after_pivot

pub returns-clause-others : goal.returns-clause-others
returns-clause-others c = alive_count-others

pub returns-clause-all : goal.returns-clause-all
returns-clause-all c = live_places-cancel
