use Rattle.kh_types.proofs.CheckerboardLemmas.{choice-from_none, none-from_choice}
use Rattle.kh_types.proofs.laws.checkerboard.checkerboard_is_a_choice.Goals as goal

pub returns : goal.returns
returns c = λ crossings. (choice-from_none crossings, none-from_choice crossings)
