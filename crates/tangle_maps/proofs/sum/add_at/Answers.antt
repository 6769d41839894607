use Rattle.std.proofs.Common.{◌+◌, ◌%◌, subst, sym, ap, ◌∙◌}
use Rattle.std.specs.Prelude.{get_or}
use Rattle.tangle_maps.specs.Sums.{AreReduced, dotted_term}
use Rattle.tangle_maps.proofs.SumLemmas.{removed_at, set_at, reduced_set_at, AreReduced-remove}
use Rattle.tangle_maps.proofs.sum.add_at.Goals as goal

pub returns-then-coefficient-eq0-clause-sum : goal.returns-then-coefficient-eq0-clause-sum
returns-then-coefficient-eq0-clause-sum g c =
    removed_at g.F.PrimeField.P c.args.terms.now.items c.remove.new.self.items c.args.place (g.F.PrimeField.value_of c.args.value)
    c.sum_at-coefficient.result c.element_laws.ensures.field.above_one c.requires.place
    (c.sum_at-coefficient.ensures.sum
    ∙ ap (λ xs. ((get_or xs c.args.place (dotted_term 0 0)).coefficient + g.F.PrimeField.value_of c.args.value) % g.F.PrimeField.P)
    c.as_slice-2.ensures) c.if-coefficient-eq0.true c.remove.ensures.items

pub returns-then-coefficient-eq0-clause-reduced : goal.returns-then-coefficient-eq0-clause-reduced
returns-then-coefficient-eq0-clause-reduced g c =
    subst (λ xs. AreReduced g.F.PrimeField.P xs) (sym c.remove.ensures.items)
    (AreReduced-remove g.F.PrimeField.P c.args.terms.now.items c.args.place c.requires.place c.requires.reduced)

pub returns-else-coefficient-eq0-clause-sum : goal.returns-else-coefficient-eq0-clause-sum
returns-else-coefficient-eq0-clause-sum g c =
    set_at g.F.PrimeField.P c.args.terms.now.items c.put.new.terms.items c.args.place (g.F.PrimeField.value_of c.args.value)
    c.sum_at-coefficient.result (get_or c.as_slice.result.now c.args.place (dotted_term 0 0)).dots
    c.element_laws.ensures.field.above_one c.requires.place
    (c.sum_at-coefficient.ensures.sum
    ∙ ap (λ xs. ((get_or xs c.args.place (dotted_term 0 0)).coefficient + g.F.PrimeField.value_of c.args.value) % g.F.PrimeField.P)
    c.as_slice-2.ensures) (ap (λ xs. (get_or xs c.args.place (dotted_term 0 0)).dots) c.as_slice.ensures) c.put.ensures

pub returns-else-coefficient-eq0-clause-reduced : goal.returns-else-coefficient-eq0-clause-reduced
returns-else-coefficient-eq0-clause-reduced g c =
    reduced_set_at g.F.PrimeField.P c.args.terms.now.items c.put.new.terms.items c.args.place
    c.sum_at-coefficient.result (get_or c.as_slice.result.now c.args.place (dotted_term 0 0)).dots c.requires.place
    c.if-coefficient-eq0.false c.sum_at-coefficient.ensures.below
    (ap (λ xs. (get_or xs c.args.place (dotted_term 0 0)).dots) c.as_slice.ensures) c.put.ensures c.requires.reduced
