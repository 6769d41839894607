use Rattle.std.proofs.Common.{refl}
use Rattle.std.specs.Fmt.{digits}
use Rattle.homology_tables.proofs.laws.worked_table.Goals as goal

pub returns-clause-table : goal.returns-clause-table
returns-clause-table c = refl

pub returns-clause-there : goal.returns-clause-there
returns-clause-there c = refl

pub returns-clause-nowhere : goal.returns-clause-nowhere
returns-clause-nowhere c = refl

pub returns-clause-total : goal.returns-clause-total
returns-clause-total c = refl

pub returns-clause-euler : goal.returns-clause-euler
unfolding digits
returns-clause-euler c = refl
