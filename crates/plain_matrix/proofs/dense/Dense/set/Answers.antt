use Rattle.std.proofs.Common.{ap, length, ◌<◌, arith, map}
use Rattle.std.proofs.lemmas.List.{length-map}
use Rattle.plain_matrix.proofs.InsideLemmas.{values_of-set}
use Rattle.plain_matrix.proofs.dense.Dense.set.Goals as goal

pub returns : goal.returns
returns g c =
    let within : c.args.row < length c.self.inside.rows.items =
    omega (
      arith,
      c.requires.row,
      ap (λ matrix. length matrix.rows) c.self.view_is,
      length-map c.self.inside.rows.items (λ row. map g.F.PrimeField.value_of row.items),
    ) in
    rw (← c.self.view_is)
    (ap (λ rows. record { rows = rows; columns = c.self.inside.columns })
    (values_of-set g.F.PrimeField.value_of c.self.inside.rows.items c.args.row c.args.column c.index_mut.result.now
    c.args.value within c.index_mut.ensures.value))
