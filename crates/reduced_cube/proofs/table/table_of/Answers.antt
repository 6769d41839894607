use Rattle.std.proofs.Common.{rules, arith, to_z, of_z, w16, sym, subst, take, ◌≡◌, ◌+◌}
use Rattle.std.specs.List.{flat_map}
use Rattle.homology_tables.proofs.BlockTables.{rows-all, rows-more}
use Rattle.reduced_cube.specs.Marks.{Marked}
use Rattle.reduced_cube.specs.Reduced.{reduced_degrees, reduced_rows}
use Rattle.reduced_cube.proofs.table.table_of.Goals as goal

pub degrees-preserved : goal.degrees-preserved
degrees-preserved g c =
    let p = g.F.PrimeField.P in
    let cube = c.in_ok-cube.cube in
    let degrees = c.in_ok-degrees.degrees.items in
    subst
    (λ (cube : Marked). c.push_block.new.rows.items ≡ flat_map (reduced_rows p cube.code cube.mark) (take (c.degrees.k + 1) degrees))
    (sym c.cube.view_is)
    (rows-more (reduced_rows p cube.code cube.mark) degrees c.degrees.k c.index.result.now (to_z w16 (of_z w16 c.index.result.now))
    c.degrees.rows.items c.push_block.new.rows.items
    (subst (λ (cube : Marked). c.degrees.rows.items ≡ flat_map (reduced_rows p cube.code cube.mark) (take c.degrees.k degrees))
    c.cube.view_is c.degrees.invariant)
    (omega (arith, c.degrees-test.true, c.len-k-end.ensures)) c.index.ensures (search rules) c.in_ok-push_block.ensures)

pub whole_table-requires-clause-rows : goal.whole_table-requires-clause-rows
whole_table-requires-clause-rows g c =
    let p = g.F.PrimeField.P in
    let cube = c.in_ok-cube.cube in
    let degrees = c.in_ok-degrees.degrees.items in
    rows-all (reduced_rows p cube.code cube.mark) degrees (reduced_degrees cube.code cube.mark) c.degrees.k c.degrees.rows.items
    (subst (λ (cube : Marked). c.degrees.rows.items ≡ flat_map (reduced_rows p cube.code cube.mark) (take c.degrees.k degrees))
    c.cube.view_is c.degrees.invariant)
    (omega (arith, c.degrees-test.false, c.len-k-end.ensures)) c.in_ok-degrees.ensures
