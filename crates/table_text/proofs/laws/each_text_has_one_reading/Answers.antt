use Rattle.table_text.proofs.ReadingLemmas.{IsTableReading-some, IsTableReading-one}
use Rattle.table_text.proofs.laws.each_text_has_one_reading.Goals as goal

pub returns-clause-some : goal.returns-clause-some
returns-clause-some c = IsTableReading-some

pub returns-clause-one : goal.returns-clause-one
returns-clause-one c = IsTableReading-one
