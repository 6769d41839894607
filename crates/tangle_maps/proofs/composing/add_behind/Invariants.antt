use Rattle.std.proofs.Common.{◌≡◌, take}
use Rattle.std.specs.List.{flat_map}
use Rattle.dotted_maps.specs.Maps.{scaled}
use Rattle.tangle_maps.specs.Seams.{seam_terms}
use Rattle.tangle_maps.specs.Sums.{AreReduced, IsSum}
use Rattle.tangle_maps.proofs.composing.add_behind.Given as goal

abbrev pub invariant-others : goal.invariant-others
invariant-others g l = record {
  same : l.seam ≡ l.initial.seam;
  sum : IsSum g.F.PrimeField.P l.initial.terms.items
      (scaled (g.F.PrimeField.value_of l.factor) (flat_map (seam_terms l.initial.seam l.term) (take l.other-index l.second))) l.terms.items;
  reduced : AreReduced g.F.PrimeField.P l.terms.items;
}
