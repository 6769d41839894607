use Rattle.std.proofs.Common.{refl}
use Rattle.std.specs.Fmt.{digits}
use Rattle.reduced_cube.proofs.laws.known_reduced_tables.Goals as goal

pub returns : goal.returns
unfolding digits
returns c = record { loop_alone = refl; curled = refl; three = refl; three_over_three = refl; hopf = refl }
