use Rattle.std.proofs.Common.{List, sym, ap, ◌∙◌}
use Rattle.std.specs.List.{position}
use Rattle.dotted_maps.specs.declared.term.Term.{Term}
use Rattle.tangle_maps.specs.Sums.{has_dots}
use Rattle.tangle_maps.proofs.SumLemmas.{found_dots, pushed_reduced}
use Rattle.tangle_maps.proofs.sum.add_term.Goals as goal

pub returns-in-Some-clause-sum : goal.returns-in-Some-clause-sum
returns-in-Some-clause-sum g c =
    found_dots g.F.PrimeField.P c.args.terms.now.items c.add_at.new.terms.items c.args.dots c.in-Some.place
    (g.F.PrimeField.value_of c.args.value)
    (ap (λ (xs : List Term). position (has_dots c.args.dots) xs) (sym c.as_slice.ensures) ∙ sym c.place_of.ensures ∙ c.in-Some.is)
    c.add_at.ensures.sum

pub returns-in_ok-push-in-None-clause-reduced : goal.returns-in_ok-push-in-None-clause-reduced
returns-in_ok-push-in-None-clause-reduced g c =
    pushed_reduced g.F.PrimeField.P c.args.terms.now.items c.push.new.self.items c.args.dots c.value-coefficient.result
    (ap (λ (xs : List Term). position (has_dots c.args.dots) xs) (sym c.as_slice.ensures) ∙ sym c.place_of.ensures ∙ c.in-None.is)
    c.if-coefficient-eq0.false c.value-coefficient.ensures.below c.in_ok-push-in-None.ensures.ok c.requires
