use Rattle.std.proofs.Common.{refl}
use Rattle.braid_maker.proofs.laws.generators_of_the_first_number.Goals as goal

pub returns : goal.returns
returns c = refl
