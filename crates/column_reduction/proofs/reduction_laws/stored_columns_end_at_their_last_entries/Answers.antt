use Rattle.column_reduction.proofs.Stored.{stored-below, stored-ends, stored-less, stored-none}
use Rattle.column_reduction.proofs.reduction_laws.stored_columns_end_at_their_last_entries.Goals as goal

pub returns-clause-below : goal.returns-clause-below
returns-clause-below c = stored-below

pub returns-clause-ends : goal.returns-clause-ends
returns-clause-ends c = stored-ends

pub returns-clause-empty : goal.returns-clause-empty
returns-clause-empty c = stored-none

pub returns-clause-less : goal.returns-clause-less
returns-clause-less c = stored-less
