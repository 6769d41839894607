use Rattle.std.proofs.Common.{◌≡◌, ◌∙◌, ℤ, List, ap, sym, subst, subst₂, arith, to_z, of_z, w16}
use Rattle.std.proofs.lemmas.Int.{ints}
use Rattle.kh_types.specs.Complex.{Pivot}
use Rattle.sparse_block.specs.Changes.{PlacedLine}
use Rattle.cancel_step.specs.Copies.{Copied, split_parts}
use Rattle.sparse_block.specs.Least.{FindsLeast}
use Rattle.cancel_step.specs.Foreign.{ShowsBetween}
use Rattle.cancel_step.specs.declared.side.Side.{Side}
use Rattle.cancel_step.proofs.CopiedLemmas.{copied-lines}
use Rattle.cancel_step.proofs.SideLemmas.{size_on}
use Rattle.cancel_step.proofs.comparing.foreign_column.Goals as goal

pub other_line-requires-clause-columns : goal.other_line-requires-clause-columns
other_line-requires-clause-columns g c =
    let p = g.F.PrimeField.P in
    let was = c.look.invariant in
    let look : Copied = split_parts c.look.inside.pivot c.look.inside.count c.look.inside.lines in (
      p,
      size_on Side.Columns was.complex look.pivot.degree,
      copied-lines Side.Columns p look was c.columns.result
          (c.columns.ensures ∙ sym (ap (λ (parts : Copied). parts.columns) c.look.view_is)),
    )

pub other_line-requires-clause-rows : goal.other_line-requires-clause-rows
other_line-requires-clause-rows g c =
    let p = g.F.PrimeField.P in
    let was = c.look.invariant in
    let look : Copied = split_parts c.look.inside.pivot c.look.inside.count c.look.inside.lines in (
      p,
      size_on Side.Rows was.complex look.pivot.degree,
      copied-lines Side.Rows p look was c.rows.result
          (c.rows.ensures ∙ sym (ap (λ (parts : Copied). parts.rows) c.look.view_is)),
    )

pub returns : goal.returns
returns g c =
    let complex = c.args.complex.now.complex in
    let found = c.other_line.result in
    let same : to_z w16 (of_z w16 c.pivot.inside.degree) ≡ c.pivot.inside.degree = omega (arith, ints, c.pivot.ranges) in
    let look = c.args.look.now in
    let is_degree =
    same ∙ ap (λ (pivot : Pivot). pivot.degree) c.pivot.view_is ∙ ap (λ (parts : Copied). parts.pivot.degree) c.look.view_is in
    subst (λ (i : ℤ). FindsLeast (ShowsBetween complex i look.columns look.rows) found) is_degree
    (subst₂
    (λ (columns rows : List PlacedLine).
    FindsLeast (ShowsBetween complex (to_z w16 (of_z w16 c.pivot.inside.degree)) columns rows) found)
    c.columns.ensures c.rows.ensures c.other_line.ensures)
