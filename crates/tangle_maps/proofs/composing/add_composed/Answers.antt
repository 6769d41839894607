use Rattle.std.proofs.Common.{ℕ, List, ap₂, subst, subst₂, sym}
use Rattle.std.specs.Prelude.{slice_index}
use Rattle.std.specs.List.{AllByRecursion, Contains}
use Rattle.std.proofs.lemmas.Result.{on_ok_weaker}
use Rattle.dotted_maps.specs.Choices.{choices}
use Rattle.tangle_maps.specs.Chosen.{chosen}
use Rattle.tangle_maps.specs.Sums.{IsSum}
use Rattle.tangle_maps.proofs.ChoiceLemmas.{composed_added}
use Rattle.tangle_maps.proofs.composing.add_composed.Goals as goal

pub returns-clause-sum : goal.returns-clause-sum
returns-clause-sum g c =
    let p = g.F.PrimeField.P in
    let weighed = g.F.PrimeField.value_of c.weigh-weighed.result in
    let left = c.weigh-weighed.new.left in
    on_ok_weaker c.add_weighed.result
    (λ is. composed_added p (g.F.PrimeField.value_of c.args.factor) (g.F.PrimeField.value_of c.product-value.result) weighed c.args.seam.now
    c.args.term.now c.args.other.now left c.args.terms.now.items c.add_weighed.new.terms.items c.requires.seam c.weigh-weighed.ensures.left
    c.product-value.ensures c.weigh-weighed.ensures.value
    (subst (λ xs. IsSum p c.args.terms.now.items xs c.add_weighed.new.terms.items)
    (ap₂ (λ (xs ys : List ℕ). chosen 0 0 weighed (choices xs ys (slice_index left))) c.deref.ensures.0 c.deref-2.ensures.0) is))
    c.add_weighed.ensures.sum

pub add_weighed-requires-clause-named : goal.add_weighed-requires-clause-named
add_weighed-requires-clause-named g c =
    subst₂ (λ (xs ys : List ℕ). AllByRecursion (λ k. Contains xs k) ys) (sym c.deref.ensures.0) (sym c.deref-2.ensures.0)
    c.requires.seam.named
