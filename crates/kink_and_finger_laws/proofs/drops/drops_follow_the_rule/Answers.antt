use Rattle.kink_and_finger_laws.proofs.DropRules.{IsLeft-dropped, left-one, names-one}
use Rattle.kink_and_finger_laws.proofs.drops.drops_follow_the_rule.Goals as goal

pub returns : goal.returns
returns c = record { rule = IsLeft-dropped; one = left-one; names = names-one }
