use Rattle.std.proofs.Common.{subst}
use Rattle.std.proofs.lemmas.Result.{on_ok_weaker}
use Rattle.dotted_maps.specs.Maps.{scaled}
use Rattle.tangle_maps.specs.Sums.{IsSum}
use Rattle.tangle_maps.specs.Ways.{listed_along}
use Rattle.tangle_maps.proofs.WayLemmas.{way-facts}
use Rattle.tangle_maps.proofs.ComposeLemmas.{cancelled}
use Rattle.tangle_maps.proofs.cancelling.cancel.Goals as goal

pub returns-clause-entry : goal.returns-clause-entry
returns-clause-entry g c =
    let p = g.F.PrimeField.P in
    let way = c.args.way.now in
    on_ok_weaker c.add_composition.result
    (λ is. cancelled p (g.F.PrimeField.value_of c.args.pivot) way c.args.entry.now.items c.add_composition.new.terms.items
    (way-facts way c.requires.way) c.element_laws.ensures.field
    (subst (λ f. IsSum p c.args.entry.now.items (scaled f (listed_along way)) c.add_composition.new.terms.items)
    c.minus_inverse.ensures is))
    c.add_composition.ensures.sum
