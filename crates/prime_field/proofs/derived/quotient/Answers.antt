use Rattle.prime_field.proofs.FieldLemmas.{product_mod-inverse_of, product_mod-quotient}
use Rattle.prime_field.proofs.derived.quotient.Goals as goal

pub returns-clause-value : goal.returns-clause-value
returns-clause-value g c =
    let value_of = g.F.PrimeField.value_of in
    let laws = c.element_laws.ensures in
    product_mod-inverse_of g.F.PrimeField.P (value_of c.args.dividend) (value_of c.args.divisor) (value_of c.inverse.result)
    (value_of c.mul.result) laws.field (laws.below c.args.divisor) c.requires (laws.below c.inverse.result) c.inverse.ensures
    c.mul.ensures

pub returns-clause-back : goal.returns-clause-back
returns-clause-back g c =
    let value_of = g.F.PrimeField.value_of in
    let laws = c.element_laws.ensures in
    product_mod-quotient g.F.PrimeField.P (value_of c.args.dividend) (value_of c.args.divisor) (value_of c.inverse.result)
    (value_of c.mul.result) laws.field (laws.below c.args.dividend) c.inverse.ensures c.mul.ensures
