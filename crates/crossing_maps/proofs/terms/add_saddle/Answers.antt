use Rattle.std.proofs.Common.{◌∷◌, [], subst}
use Rattle.std.proofs.lemmas.Result.{on_ok_weaker}
use Rattle.dotted_maps.specs.Maps.{scaled}
use Rattle.tangle_maps.specs.Seams.{seam_listed}
use Rattle.tangle_maps.specs.Sums.{IsSum, dotted_term}
use Rattle.crossing_maps.proofs.NewLemmas.{AreReduced_one, saddle_made}
use Rattle.crossing_maps.proofs.terms.add_saddle.Goals as goal

pub add_all-requires-clause-first : goal.add_all-requires-clause-first
add_all-requires-clause-first g c =
    AreReduced_one g.F.PrimeField.P 0 c.dotted-2.result c.element_laws.ensures.field.above_one c.dotted-2.ensures

pub add_all-requires-clause-second : goal.add_all-requires-clause-second
add_all-requires-clause-second g c =
    AreReduced_one g.F.PrimeField.P c.args.marks c.dotted.result c.element_laws.ensures.field.above_one c.dotted.ensures

pub returns-clause-sum : goal.returns-clause-sum
returns-clause-sum g c = λ code k m label other are is.
    on_ok_weaker c.add_all.result
    (λ sum. saddle_made g.F.PrimeField.P (g.F.PrimeField.value_of c.args.sign) code k m label other c.args.seam.now c.args.marks
    c.args.terms.now.items c.add_all.new.terms.items are is
    (subst (λ t. IsSum g.F.PrimeField.P c.args.terms.now.items
    (scaled (g.F.PrimeField.value_of c.args.sign) (seam_listed c.args.seam.now (dotted_term 0 1 ∷ []) (t ∷ []))) c.add_all.new.terms.items)
    c.dotted.ensures
    (subst (λ t. IsSum g.F.PrimeField.P c.args.terms.now.items
    (scaled (g.F.PrimeField.value_of c.args.sign) (seam_listed c.args.seam.now (t ∷ []) (c.dotted.result ∷ []))) c.add_all.new.terms.items)
    c.dotted-2.ensures sum)))
    c.add_all.ensures.sum
