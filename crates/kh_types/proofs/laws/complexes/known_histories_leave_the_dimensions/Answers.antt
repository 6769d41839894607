use Rattle.std.proofs.lemmas.Bool.Decides.{nat_tests}
use Rattle.std.proofs.Common.{arith}
use Rattle.kh_types.proofs.laws.complexes.known_histories_leave_the_dimensions.Goals as goal

pub returns : goal.returns
returns = grind (arith, nat_tests)
