use Rattle.union_laws.proofs.UnitedCubes.{AreAlike-united}
use Rattle.union_laws.proofs.laws.unions.cubes_of_unions_are_products.Goals as goal

pub returns : goal.returns
returns c p plus minus second_plus second_minus first second field first_is second_is =
    AreAlike-united p first second field first_is second_is plus minus second_plus second_minus
