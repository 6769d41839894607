use Rattle.std.proofs.Common.{take}
use Rattle.dotted_maps.specs.Maps.{scaled}
use Rattle.tangle_maps.specs.Sums.{AreReduced, IsSum}
use Rattle.tangle_maps.proofs.sum.add_scaled.Given as goal

abbrev pub invariant-terms : goal.invariant-terms
invariant-terms g l = record {
  sum : IsSum g.F.PrimeField.P l.initial.terms.items (scaled (g.F.PrimeField.value_of l.factor) (take l.term-index l.more)) l.terms.items;
  reduced : AreReduced g.F.PrimeField.P l.terms.items;
}
