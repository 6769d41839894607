use Rattle.std.proofs.lemmas.Bool.Decides.{nat_tests}
use Rattle.std.proofs.Common.{arith}
use Rattle.sparse_block.proofs.HistoryLemmas.{legal-append, legal-parts, legal-push, replay-append}
use Rattle.history_laws.proofs.laws.histories_are_put_together.Goals as goal

pub returns-clause-legal : goal.returns-clause-legal
returns-clause-legal = grind (arith, nat_tests, legal-parts, legal-append)

pub returns-clause-replayed : goal.returns-clause-replayed
returns-clause-replayed c = replay-append

pub returns-clause-longer : goal.returns-clause-longer
returns-clause-longer c = legal-push
