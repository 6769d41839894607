-- Clause by clause, since together they may pass the bound on steps.
use Rattle.std.proofs.Common.{refl}
use Rattle.std.specs.Fmt.{digits}
use Rattle.answer_laws.proofs.worked.mirror_of_the_hopf_link_turns_its_table.Goals as goal

pub returns-clause-table : goal.returns-clause-table
unfolding digits
returns-clause-table c = refl

pub returns-clause-turned : goal.returns-clause-turned
unfolding digits
returns-clause-turned c = refl

pub returns-clause-mirrored : goal.returns-clause-mirrored
unfolding digits
returns-clause-mirrored c = refl
