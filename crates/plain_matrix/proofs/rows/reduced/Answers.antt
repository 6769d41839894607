use Rattle.std.proofs.Common.{map}
use Rattle.plain_matrix.proofs.RowLemmas.{lead-other, values-reduced}
use Rattle.plain_matrix.proofs.rows.reduced.Goals as goal

pub quotient-factor-requires : goal.quotient-factor-requires
quotient-factor-requires g c =
    lead-other c.lead_of-column.result (g.F.PrimeField.value_of c.entry-2.result)
    (map g.F.PrimeField.value_of c.args.pivot.now) c.requires c.lead_of-column.ensures c.entry-2.ensures

pub returns : goal.returns
returns g c =
    let value_of = g.F.PrimeField.value_of in
    values-reduced value_of g.F.PrimeField.P c.lead_of-column.result (value_of c.entry.result) (value_of c.entry-2.result)
    (value_of c.quotient-factor.result) (map value_of c.args.pivot.now) (map value_of c.args.row.now) c.in_ok-made.made.items
    c.drop_column.new.row.items c.lead_of-column.ensures c.entry.ensures c.entry-2.ensures c.quotient-factor.ensures.value
    c.in_ok-made.ensures c.drop_column.ensures
