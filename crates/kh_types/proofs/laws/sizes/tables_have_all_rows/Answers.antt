use Rattle.kh_types.specs.declared.limits.TheConstants.{EXPONENT}
use Rattle.kh_types.proofs.AcceptedLemmas.{IsAccepted-is}
use Rattle.kh_types.proofs.TableRows.{Contains-table, rows_within-are}
use Rattle.kh_types.proofs.laws.sizes.tables_have_all_rows.Goals as goal

pub returns-clause-all : goal.returns-clause-all
returns-clause-all c = λ p code i j is. Contains-table p code i j ((IsAccepted-is code).0 is)

pub returns-clause-only : goal.returns-clause-only
returns-clause-only c = rows_within-are EXPONENT
