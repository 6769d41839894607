use Rattle.homology_tables.proofs.TableLemmas.{IsTable-table}
use Rattle.homology_tables.proofs.laws.tables_of_diagrams_are_tables.Goals as goal

pub returns : goal.returns
returns c = λ p code is. IsTable-table p code
