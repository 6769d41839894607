use Rattle.std.proofs.lemmas.Bool.Decides.{nat_tests}
use Rattle.std.proofs.Common.{arith}
use Rattle.kh_types.proofs.laws.acceptance.known_codes_have_these_parts.Goals as goal

pub returns : goal.returns
returns = grind (arith, nat_tests)
