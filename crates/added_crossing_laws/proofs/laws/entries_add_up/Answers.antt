use Rattle.added_crossing_laws.proofs.Entries.{entries-add_up, saddle-adds_up}
use Rattle.added_crossing_laws.proofs.laws.entries_add_up.Goals as goal

pub returns : goal.returns
returns c = record { terms = entries-add_up; saddles = saddle-adds_up }
