use Rattle.tangle_maps.proofs.WeighLemmas.{factor_one}
use Rattle.tangle_maps.proofs.composing.times_factor.Goals as goal

pub returns-else-genus-eq1 : goal.returns-else-genus-eq1
returns-else-genus-eq1 g c =
    factor_one g.F.PrimeField.P (g.F.PrimeField.value_of c.args.value) c.args.load c.args.genus c.if-load-gt1.false c.requires
    c.if-genus-eq1.false (c.element_laws.ensures.below c.args.value)
