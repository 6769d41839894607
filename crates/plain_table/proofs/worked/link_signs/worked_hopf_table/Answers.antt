use Rattle.std.proofs.Common.{refl}
use Rattle.std.specs.Fmt.{digits}
use Rattle.plain_table.proofs.worked.link_signs.worked_hopf_table.Goals as goal

pub returns-clause-table_text_hopf : goal.returns-clause-table_text_hopf
unfolding digits
returns-clause-table_text_hopf c = refl

pub returns-clause-table_text_hopf_over_three : goal.returns-clause-table_text_hopf_over_three
unfolding digits
returns-clause-table_text_hopf_over_three c = refl
