use Rattle.kh_types.proofs.AcceptedLemmas.{IsAccepted-is}
use Rattle.kh_types.proofs.CircleBound.{circle_count-le, circle_count-within}
use Rattle.kh_types.proofs.laws.sizes.circles_are_bounded.Goals as goal

pub returns-clause-any : goal.returns-clause-any
returns-clause-any c = λ code state is. circle_count-le code state ((IsAccepted-is code).0 is).directed.slots

pub returns-clause-within : goal.returns-clause-within
returns-clause-within c = λ code state is. circle_count-within code state ((IsAccepted-is code).0 is)
