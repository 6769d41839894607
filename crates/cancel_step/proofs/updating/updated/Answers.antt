use Rattle.std.proofs.Common.{◌≡◌, ◌≢◌, ℕ, ◌∙◌, map, ap, sym, subst}
use Rattle.kh_types.specs.Complex.{Pivot}
use Rattle.sparse_block.specs.Entries.{value_at}
use Rattle.cancel_step.specs.Copies.{Copied, WasPatched, split_parts}
use Rattle.cancel_step.specs.Lines.{AreLines, entries_with, line_cleared}
use Rattle.cancel_step.specs.declared.side.Side.{Side}
use Rattle.cancel_step.proofs.CopiedLemmas.{copied-cleared, copied-lines, copied-pivot}
use Rattle.cancel_step.proofs.SideLemmas.{size_on}
use Rattle.cancel_step.proofs.updating.updated.Goals as goal

pub lines_cleared-requires-clause-entries : goal.lines_cleared-requires-clause-entries
lines_cleared-requires-clause-entries g c =
    let look : Copied = split_parts c.look.inside.pivot c.look.inside.count c.look.inside.lines in (
      size_on Side.Columns c.look.invariant.complex look.pivot.degree,
      copied-lines Side.Columns g.F.PrimeField.P look c.look.invariant c.columns.result
          (c.columns.ensures ∙ sym (ap (λ (parts : Copied). parts.columns) c.look.view_is)),
    )

pub lines_cleared-requires-clause-pivot : goal.lines_cleared-requires-clause-pivot
lines_cleared-requires-clause-pivot g c =
    let look : Copied = split_parts c.look.inside.pivot c.look.inside.count c.look.inside.lines in
    subst (λ (pivot : Pivot). value_at (entries_with c.columns.result pivot.column) pivot.row ≢ 0) (sym c.pivot.view_is)
    (copied-pivot Side.Columns g.F.PrimeField.P look c.look.invariant c.columns.result
    (c.columns.ensures ∙ sym (ap (λ (parts : Copied). parts.columns) c.look.view_is)))

pub lines_cleared-requires-2-clause-entries : goal.lines_cleared-requires-2-clause-entries
lines_cleared-requires-2-clause-entries g c =
    let look : Copied = split_parts c.look.inside.pivot c.look.inside.count c.look.inside.lines in (
      size_on Side.Rows c.look.invariant.complex look.pivot.degree,
      copied-lines Side.Rows g.F.PrimeField.P look c.look.invariant c.rows.result
          (c.rows.ensures ∙ sym (ap (λ (parts : Copied). parts.rows) c.look.view_is)),
    )

pub lines_cleared-requires-2-clause-pivot : goal.lines_cleared-requires-2-clause-pivot
lines_cleared-requires-2-clause-pivot g c =
    let look : Copied = split_parts c.look.inside.pivot c.look.inside.count c.look.inside.lines in
    subst (λ (pivot : Pivot). value_at (entries_with c.rows.result pivot.row) pivot.column ≢ 0) (sym c.pivot.view_is)
    (copied-pivot Side.Rows g.F.PrimeField.P look c.look.invariant c.rows.result
    (c.rows.ensures ∙ sym (ap (λ (parts : Copied). parts.rows) c.look.view_is)))

pub returns : goal.returns
returns g c =
    let p = g.F.PrimeField.P in
    let was = c.look.invariant in
    let field = c.element_laws.ensures.field in
    let look : Copied = split_parts c.look.inside.pivot c.look.inside.count c.look.inside.lines in
    let made = c.in_ok-columns.columns.items in
    let are_columns =
    copied-cleared Side.Columns p look was c.columns.result
    (c.columns.ensures ∙ sym (ap (λ (parts : Copied). parts.columns) c.look.view_is)) field made
    (subst
    (λ (pivot : Pivot).
    (size : ℕ) → AreLines p size c.columns.result
    → made ≡ map (line_cleared p size (entries_with c.columns.result pivot.column) pivot.row) c.columns.result)
    c.pivot.view_is c.in_ok-columns.ensures) in
    let made_rows = c.in_ok-rows.rows.items in
    let are_rows =
    copied-cleared Side.Rows p look was c.rows.result
    (c.rows.ensures ∙ sym (ap (λ (parts : Copied). parts.rows) c.look.view_is)) field made_rows
    (subst
    (λ (pivot : Pivot).
    (size : ℕ) → AreLines p size c.rows.result
    → made_rows ≡ map (line_cleared p size (entries_with c.rows.result pivot.row) pivot.column) c.rows.result)
    c.pivot.view_is c.in_ok-rows.ensures) in
    subst (λ (look : Copied). WasPatched p look made made_rows) c.look.view_is
    (record { from = was; are_columns = are_columns; are_rows = are_rows })
