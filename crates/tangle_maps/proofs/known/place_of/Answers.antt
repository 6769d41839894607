use Rattle.std.proofs.Common.{ℕ, List, subst, sym}
use Rattle.tangle_maps.specs.Products.{AreProductsOver, HasProductAt}
use Rattle.tangle_maps.specs.declared.known.Product.{Product}
use Rattle.tangle_maps.proofs.known.place_of.Goals as goal

pub push_product-requires-clause-made : goal.push_product-requires-clause-made
push_product-requires-clause-made g c = c.turn_to.ensures.products c.args.seam.now c.requires.products

pub returns-in-Some-clause-products : goal.returns-in-Some-clause-products
returns-in-Some-clause-products g c =
    subst (λ (p : ℕ). AreProductsOver p c.args.seam.now c.turn_to.new.products.made.items) (sym c.turn_to.ensures.elements)
    (c.turn_to.ensures.products c.args.seam.now c.requires.products)

pub returns-in-Some-clause-place : goal.returns-in-Some-clause-place
returns-in-Some-clause-place g c =
    let p = g.F.PrimeField.P in
    let seam = c.args.seam.now in
    subst (λ (made : List Product). HasProductAt p seam c.args.dots c.args.others made c.in-Some.place) c.as_slice.ensures.value
    (c.in-Some.ensures p seam
    (subst (λ (made : List Product). AreProductsOver p seam made) (sym c.as_slice.ensures.value)
    (c.turn_to.ensures.products seam c.requires.products)))
