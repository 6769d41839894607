use Rattle.std.proofs.Common.{refl}
use Rattle.std.specs.Fmt.{digits}
use Rattle.morse_drawing.proofs.laws.worked_texts.Goals as goal

pub returns-clause-one_loop : goal.returns-clause-one_loop
unfolding digits
returns-clause-one_loop c = refl

pub returns-clause-curl : goal.returns-clause-curl
unfolding digits
returns-clause-curl c = refl

pub returns-clause-none : goal.returns-clause-none
returns-clause-none c = refl
