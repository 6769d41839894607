use Rattle.std.proofs.Common.{◌≡◌, ◌+◌, ◌*◌, ◌^◌, ◌≤◌, ◌∙◌, List, length, ap, sym, subst, arith, take, get_or, ℤ, pos, ◌+ℤ◌, to_z, of_z}
use Rattle.std.specs.Prelude.{unsigned_abs}
use Rattle.std.specs.List.{All, sum_by}
use mir.Syntax.{w128}
use Rattle.std.proofs.lemmas.Int.{ints}
use Rattle.std.proofs.Math.Seq.{take-length}
use Rattle.kh_types.specs.declared.limits.TheConstants.{EXPONENT}
use Rattle.kh_types.specs.StateSum.{signed_by}
use Rattle.kh_types.specs.Table.{Row}
use Rattle.jones_sum.specs.Coefficients.{coefficients_of}
use Rattle.jones_sum.proofs.CoefficientLemmas.{within-low, within-high}
use Rattle.scan_main.specs.SmallRows.{IsSmallRow}
use Rattle.scan_main.proofs.EulerLines.{IsSmallRow-item, sum-small}
use Rattle.scan_main.proofs.EulerLemmas.{coefficients-small, coefficients_of-row, rows_euler}
use Rattle.scan_main.proofs.characteristic.euler.Goals as goal

pub place_of-requires : goal.place_of-requires
place_of-requires c =
    let rows = c.rows-rows.result.now in
    let are : All IsSmallRow rows = subst (All IsSmallRow) (sym c.rows-rows.ensures) c.requires.small in
    let row = c.row-item.result in
    let is = IsSmallRow-item rows row c.rows.row-index are c.rows-test.true c.row-item.is in
    let same : c.row.inside.j ≡ row.j = ap (λ (r : Row). r.j) c.row.view_is in
    record {
      low = omega (arith, ints, within-low row.j is.j, same);
      high = omega (arith, ints, within-high row.j is.j, same);
    }

-- the coefficient and the dimension together are in size at most the sum of all dimensions
small : (c : goal.After-coefficients-1)
    → unsigned_abs (get_or c.rows.coefficients c.place_of.result (pos 0)) + unsigned_abs c.signed_dim.result ≤ 2 ^ 84
small c =
    let rows = c.rows-rows.result.now in
    let row = c.row-item.result in
    let signed : c.signed_dim.result ≡ signed_by row.i row.dim =
    c.signed_dim.ensures ∙ ap (λ (r : Row). signed_by r.i r.dim) c.row.view_is in
    omega (
      arith,
      coefficients-small rows row c.rows.row-index c.place_of.result c.rows.coefficients c.rows-test.true c.row-item.is
          c.rows.invariant c.place_of.ensures.within,
      ap unsigned_abs signed,
      sum-small rows (subst (All IsSmallRow) (sym c.rows-rows.ensures) c.requires.small)
          (omega (arith, ap length c.rows-rows.ensures, c.requires.few)),
    )

pub overflow_add-coefficients : goal.overflow_add-coefficients
overflow_add-coefficients c = let h = small c in omega (arith, ints, h)

pub rows-preserved : goal.rows-preserved
rows-preserved c =
    let rows = c.rows-rows.result.now in
    let row = c.row-item.result in
    let k = c.rows.row-index in
    let place = c.place_of.result in
    let old = c.rows.coefficients in
    let are : All IsSmallRow rows = subst (All IsSmallRow) (sym c.rows-rows.ensures) c.requires.small in
    let is = IsSmallRow-item rows row k are c.rows-test.true c.row-item.is in
    let same : c.row.inside.j ≡ row.j = ap (λ (r : Row). r.j) c.row.view_is in
    let signed : c.signed_dim.result ≡ signed_by row.i row.dim =
    c.signed_dim.ensures ∙ ap (λ (r : Row). signed_by r.i r.dim) c.row.view_is in
    let h = small c in
    let sum : to_z w128 (of_z w128 (to_z w128 (of_z w128 (get_or old place (pos 0))) +ℤ to_z w128 (of_z w128 c.signed_dim.result)))
    ≡ get_or old place (pos 0) +ℤ c.signed_dim.result = omega (arith, ints, h) in
    coefficients_of-row rows row k place old
    (to_z w128 (of_z w128 (to_z w128 (of_z w128 (get_or old place (pos 0))) +ℤ to_z w128 (of_z w128 c.signed_dim.result))))
    c.rows-test.true c.row-item.is c.rows.invariant
    (omega (arith, ints, c.place_of.ensures.place, within-low row.j is.j, within-high row.j is.j, same))
    c.place_of.ensures.within (sum ∙ ap (λ (z : ℤ). get_or old place (pos 0) +ℤ z) signed)

pub returns : goal.returns
returns c =
    let rows = c.rows-rows.result.now in
    let all : c.rows.row-index ≡ length rows = omega arith in
    c.of_coefficients.ensures
    ∙ c.rows.invariant
    ∙ ap (λ (some : List Row). coefficients_of (rows_euler some))
    (ap (λ k. take k rows) all ∙ take-length rows ∙ c.rows-rows.ensures)
