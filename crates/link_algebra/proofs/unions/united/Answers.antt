use Rattle.std.proofs.lemmas.Bool.Decides.{nat_tests}
use Rattle.std.proofs.Common.{arith}
use Rattle.link_algebra.proofs.UnionLemmas.{union-accepted}
use Rattle.link_algebra.proofs.unions.united.Goals as goal

pub of_accepted-requires : goal.of_accepted-requires
of_accepted-requires = grind (arith, nat_tests, union-accepted)
