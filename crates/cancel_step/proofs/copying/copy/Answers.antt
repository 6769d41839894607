use Rattle.std.proofs.Common.{◌≡◌, ◌∙◌, ◌++◌, List, length, ap, ap₂, map}
use Rattle.sparse_block.specs.Entries.{Entry}
use Rattle.sparse_block.specs.Changes.{PlacedLine}
use Rattle.sparse_block.specs.Complexes.{column_of, row_of}
use Rattle.cancel_step.specs.Copies.{columns_across, copied, line_across, rows_across, split_parts}
use Rattle.cancel_step.proofs.SpanLemmas.{parts-split}
use Rattle.cancel_step.proofs.copying.copy.Given.{Over}
use Rattle.cancel_step.proofs.copying.copy.Goals.{In_ok-copy_lines-2}
use Rattle.cancel_step.proofs.copying.copy.Goals as goal

are_copied : (g : Over) (c : In_ok-copy_lines-2 g)
    → split_parts c.args.pivot c.len-count.result c.copy_lines-2.new.lines ≡ copied c.args.complex.now.complex c.args.pivot
are_copied g c =
    let complex = c.args.complex.now.complex in
    let pivot = c.args.pivot in
    let columns : List PlacedLine = columns_across complex pivot complex in
    let rows : List PlacedLine = rows_across complex pivot complex in
    let are_columns : c.copy_lines.new.lines ≡ columns =
    c.in_ok-copy_lines.ensures
    ∙ ap₂ (λ (lines : List PlacedLine) (row : List Entry). lines ++ map (line_across (column_of complex pivot.degree)) row)
    c.in_ok-lines.ensures c.own_entries-row.ensures in
    let are_lines : c.copy_lines-2.new.lines ≡ columns ++ rows =
    c.in_ok-copy_lines-2.ensures
    ∙ ap₂ (λ (lines : List PlacedLine) (column : List Entry). lines ++ map (line_across (row_of complex pivot.degree)) column) are_columns
    c.own_entries-column.ensures in
    parts-split pivot c.len-count.result columns rows c.copy_lines-2.new.lines (c.len-count.ensures ∙ ap length are_columns) are_lines

pub invariant_of-result : goal.invariant_of-result
invariant_of-result g c =
    record {
      complex = c.args.complex.now.complex;
      is_complex = c.complex_laws.ensures.complex;
      is_pivot = c.requires;
      are_copied = are_copied g c;
    }

pub returns : goal.returns
returns g c = are_copied g (goal.at.returns g c).In_ok-copy_lines-2
