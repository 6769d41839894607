use Rattle.sparse_block.proofs.EntryLemmas.{entries-entries_of, value_at-entries_of, entries_of-line_of}
use Rattle.sparse_block.proofs.laws.entries_denote_lines.Goals as goal

pub returns-clause-entries : goal.returns-clause-entries
returns-clause-entries c = entries-entries_of

pub returns-clause-values : goal.returns-clause-values
returns-clause-values c = value_at-entries_of

pub returns-clause-unique : goal.returns-clause-unique
returns-clause-unique c = entries_of-line_of
