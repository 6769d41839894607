use Rattle.std.proofs.Common.{◌∙◌, subst, sym}
use Rattle.kh_types.specs.Table.{Table}
use Rattle.homology_tables.specs.Tables.{IsTable}
use Rattle.homology_tables.proofs.TableLemmas.{IsTable-table}
use Rattle.shared_block.proofs.Blocks.{table-all}
use Rattle.shared_block.proofs.table.whole_table.Goals as goal

pub of_rows-requires : goal.of_rows-requires
of_rows-requires g c =
    let p = g.F.PrimeField.P in
    let code = c.args.diagram.now in
    subst (λ (made : Table). IsTable made) (sym (table-all p c.P.result code c.args.rows.items c.P.ensures c.requires.rows))
    (IsTable-table p code c.diagram_laws.ensures.few c.requires.size
    c.element_laws.ensures.prime)

pub returns : goal.returns
returns g c =
    c.of_rows.ensures ∙ table-all g.F.PrimeField.P c.P.result c.args.diagram.now c.args.rows.items c.P.ensures c.requires.rows
