use Rattle.kh_types.proofs.AcceptedLemmas.{IsAccepted-is}
use Rattle.jones_sum.proofs.StateSumLemmas.{state_sum-outside}
use Rattle.jones_sum.proofs.laws.state_sums_are_within_the_exponents.Goals as goal

pub returns : goal.returns
returns c = λ code exponent is. state_sum-outside code exponent ((IsAccepted-is code).0 is)
