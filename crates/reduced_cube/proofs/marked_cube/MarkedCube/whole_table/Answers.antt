use Rattle.std.proofs.Common.{◌∙◌, ap, arith, length, subst, sym}
use Rattle.kh_types.specs.Table.{Table}
use Rattle.homology_tables.specs.Tables.{IsTable}
use Rattle.reduced_cube.specs.Marks.{Marked}
use Rattle.reduced_cube.proofs.ReducedTables.{IsTable-reduced, table-whole}
use Rattle.reduced_cube.proofs.marked_cube.MarkedCube.whole_table.Goals as goal

pub of_rows-requires : goal.of_rows-requires
of_rows-requires g c =
    let p = g.F.PrimeField.P in
    let marked = c.args.self.now in
    subst (λ (made : Table). IsTable made)
    (sym (table-whole p marked.code marked.mark c.P.result c.args.rows.items c.P.ensures c.requires.rows))
    (IsTable-reduced p marked.code marked.mark
    (omega (
      arith,
      c.diagram_laws.ensures.few,
      ap (λ code. length code.crossings) c.diagram.ensures,
      ap (λ (marked : Marked). length marked.code.crossings) c.self.view_is,
    ))
    c.requires.size c.element_laws.ensures.prime)

pub returns : goal.returns
returns g c =
    let marked = c.args.self.now in
    c.of_rows.ensures
    ∙ table-whole g.F.PrimeField.P marked.code marked.mark c.P.result c.args.rows.items c.P.ensures c.requires.rows
