use Rattle.std.proofs.Common.{List, subst, sym}
use Rattle.std.proofs.lemmas.Result.{on_ok_weaker}
use Rattle.dotted_maps.specs.declared.term.Term.{Term}
use Rattle.dotted_maps.specs.Maps.{scaled}
use Rattle.tangle_maps.specs.Products.{IsProduct}
use Rattle.tangle_maps.specs.Seams.{seam_terms}
use Rattle.tangle_maps.specs.Sums.{IsSum}
use Rattle.tangle_maps.specs.declared.known.Product.{Product}
use Rattle.tangle_maps.specs.declared.seam.Seam.{Seam}
use Rattle.tangle_maps.proofs.ProductLemmas.{product_added}
use Rattle.tangle_maps.proofs.known.KnownSeam.add_composed.Goals as goal

pub returns-clause-sum : goal.returns-clause-sum
returns-clause-sum g c =
    let p = g.F.PrimeField.P in
    let factor = g.F.PrimeField.value_of c.args.factor in
    let term = c.args.term.now in
    let other = c.args.other.now in
    let old = c.args.terms.now.items in
    let new = c.add_scaled.new.terms.items in
    let found : Product = c.index.result.now in
    let seam = c.self.inside.seam in
    let is : IsProduct p seam term.dots other.dots c.as_slice-known.result.now =
    subst (λ (terms : List Term). IsProduct p seam term.dots other.dots terms) (sym c.as_slice-known.ensures)
    (subst (λ (q : Product). IsProduct p seam term.dots other.dots q.terms.items) (sym c.index.ensures)
    (c.in_ok-place.ensures.place.is found)) in
    on_ok_weaker c.add_scaled.result
    (λ sum. subst (λ (s : Seam). IsSum p old (scaled factor (seam_terms s term other)) new) c.self.view_is
    (product_added p factor (g.F.PrimeField.value_of c.product.result) seam term other c.as_slice-known.result.now old new is
    c.product.ensures sum))
    c.add_scaled.ensures.sum
