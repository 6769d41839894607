use Rattle.std.proofs.Common.{refl}
use Rattle.std.specs.Fmt.{digits}
use Rattle.plain_table.proofs.worked.rows.worked_table_texts.Goals as goal

pub returns-clause-Row : goal.returns-clause-Row
unfolding digits
returns-clause-Row c = refl

pub returns-clause-row_text : goal.returns-clause-row_text
unfolding digits
returns-clause-row_text c = refl

pub returns-clause-Table : goal.returns-clause-Table
unfolding digits
returns-clause-Table c = refl

pub returns-clause-table_text : goal.returns-clause-table_text
unfolding digits
returns-clause-table_text c = refl
