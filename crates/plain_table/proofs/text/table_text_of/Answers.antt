use Rattle.std.proofs.Common.{◌∙◌, ap, string_bytes}
use Rattle.kh_types.specs.Table.{rows_within}
use Rattle.kh_types.specs.declared.limits.TheConstants.{EXPONENT}
use Rattle.plain_table.proofs.TableLemmas.{table_text_found}
use Rattle.plain_table.proofs.text.table_text_of.Goals as goal

pub returns : goal.returns
returns g c =
    table_text_found string_bytes g.F.PrimeField.P c.args.diagram.now c.deref.result.now c.table_text.result
    (c.deref.ensures.value ∙ c.in_ok-rows.ensures ∙ ap (rows_within EXPONENT g.F.PrimeField.P) c.in_ok-cube.ensures)
    c.table_text.ensures
