use Rattle.tangle_maps.proofs.ProductLemmas.{product-made}
use Rattle.tangle_maps.proofs.known.product_of.Goals as goal

pub returns : goal.returns
returns g c =
    product-made g.F.PrimeField.P (g.F.PrimeField.value_of c.of.result) c.args.dots c.args.others c.args.seam.now c.unit.result
    c.unit-2.result c.new-terms.result.items c.add_composed.new.terms.items c.new-terms.ensures.items c.of.ensures c.unit.ensures
    c.unit-2.ensures c.add_composed.ensures.reduced c.in_ok-add_composed.ensures.sum
