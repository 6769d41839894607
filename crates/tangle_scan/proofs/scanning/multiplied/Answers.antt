use Rattle.std.proofs.Common.{◌∙◌, ℕ, List, ap, ap₂, arith}
use Rattle.kh_types.specs.Table.{Row, Table, table}
use Rattle.union_laws.specs.Pieces.{first_piece, other_pieces}
use Rattle.union_laws.specs.UnitedRows.{rows_product}
use Rattle.tangle_scan.specs.CountedRows.{all_rows_by}
use Rattle.tangle_scan.proofs.PieceLemmas.{dimension-small, table-multiplied, table_with}
use Rattle.tangle_scan.proofs.scanning.multiplied.Goals as goal

pub product_rows-requires : goal.product_rows-requires
product_rows-requires g c =
    let code = c.args.diagram.now in
    let p = g.F.PrimeField.P in
    let laws = c.diagram_laws.ensures in
    let rows = λ (t : Table). t.rows in
    λ i j. omega (
      arith,
      ap₂ (λ (r s : List Row). rows_product r s i j) (c.rows.ensures ∙ ap rows c.requires.first)
          (c.rows-2.ensures ∙ ap rows c.requires.others),
      c.pieces_multiply_tables.ensures.small p code c.element_laws.ensures.prime laws.accepted laws.few i j,
      dimension-small p code i j laws.accepted laws.few,
    )

pub returns : goal.returns
returns g c =
    let code = c.args.diagram.now in
    let p = g.F.PrimeField.P in
    let laws = c.diagram_laws.ensures in
    let first = (table p (first_piece code)).rows in
    let others = (table p (other_pieces code)).rows in
    let rows = λ (t : Table). t.rows in
    c.of_rows.ensures
    ∙ ap (λ (q : ℕ). table_with q c.in_ok-rows.rows.items) c.P.ensures
    ∙ table-multiplied p code c.in_ok-rows.rows.items first others
    (c.pieces_multiply_tables.ensures.small p code c.element_laws.ensures.prime laws.accepted laws.few)
    (c.in_ok-rows.ensures
    ∙ ap₂ (λ (r s : List Row). all_rows_by (rows_product r s) c.count.result) (c.rows.ensures ∙ ap rows c.requires.first)
    (c.rows-2.ensures ∙ ap rows c.requires.others)
    ∙ ap (all_rows_by (rows_product first others)) c.count.ensures.count)
