use Rattle.std.proofs.Common.{◌≡◌, ℤ, sym, subst, arith, to_z, of_z, w16}
use Rattle.std.proofs.lemmas.Int.{ints}
use Rattle.sparse_block.specs.Least.{FindsLeast}
use Rattle.cancel_step.specs.Foreign.{ShowsBetween}
use Rattle.cancel_step.proofs.ForeignLemmas.{finds-between}
use Rattle.cancel_step.proofs.comparing.other_line.Goals as goal

pub returns : goal.returns
returns g c =
    let complex = c.args.complex.now.complex in
    let columns = c.args.columns.now in
    let rows = c.args.rows.now in
    let i = to_z w16 (of_z w16 c.args.degree) in
    let same : i ≡ c.args.degree = omega (arith, ints, c.ranges.degree) in
    subst (λ (i : ℤ). FindsLeast (ShowsBetween complex i columns rows) c.lesser.result) same
    (subst (FindsLeast (ShowsBetween complex i columns rows)) (sym c.lesser.ensures)
    (finds-between complex i columns rows c.in_lines.result c.in_lines-2.result c.in_lines.ensures c.in_lines-2.ensures))
