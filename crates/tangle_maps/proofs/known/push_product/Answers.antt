use Rattle.tangle_maps.specs.declared.known.Product.{Product}
use Rattle.tangle_maps.proofs.ProductLemmas.{products-pushed}
use Rattle.tangle_maps.proofs.known.push_product.Goals as goal

pub returns-clause-made : goal.returns-clause-made
returns-clause-made g c =
    let product : Product = record { dots = c.args.dots; others = c.args.others; terms = c.in_ok-terms.terms } in
    products-pushed g.F.PrimeField.P c.args.seam.now product c.args.made.now.items c.push.new.self.items c.in_ok-terms.ensures
    c.in_ok-push.ensures.items c.requires.made
