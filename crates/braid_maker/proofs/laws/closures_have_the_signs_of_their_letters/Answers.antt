use Rattle.braid_maker.proofs.Signs.{sign-closure}
use Rattle.braid_maker.proofs.laws.closures_have_the_signs_of_their_letters.Goals as goal

pub returns : goal.returns
returns c = sign-closure
