use Rattle.std.proofs.lemmas.Bool.Decides.{nat_tests}
use Rattle.std.proofs.Common.{◌≡◌, ◌∙◌, arith, ap, length, take}
use Rattle.std.proofs.lemmas.List.{length-map}
use Rattle.smallvec.specs.SmallVec.{SmallVec}
use Rattle.sparse_block.specs.Entries.{Entry}
use Rattle.sparse_block.specs.Inside.{entries_in}
use Rattle.sparse_block.proofs.LineLemmas.{line-entries_in, entries-at-height}
use Rattle.sparse_block.proofs.MatrixLemmas.{rows_of-none, rows_of-more, length-rows_of}
use Rattle.sparse_block.proofs.lines.rows_of.Goals as goal

pub columns-init : goal.columns-init
columns-init c = c.in_ok-rows.ensures ∙ rows_of-none c.args.height

pub push_column-requires : goal.push_column-requires
push_column-requires c =
    let columns = c.args.columns.now in
    let rows = c.columns.rows.items in
    let height : length rows ≡ c.args.height =
    omega (
      arith,
      length-map rows (λ (line : SmallVec Entry). line.items),
      ap length c.columns.invariant,
      length-rows_of c.args.height (take c.columns.column (entries_in columns)),
    ) in
    record {
      column = omega (arith, c.columns-test.true, c.requires.count);
      entries = (
        c.requires.entries.0,
        entries-at-height c.requires.entries.0 c.args.height c.columns.column (length rows) columns c.index-columns-column.result
            c.as_slice.result.now c.columns-test.true c.index-columns-column.is c.as_slice.ensures height c.requires.entries.1,
      );
    }

pub columns-preserved : goal.columns-preserved
columns-preserved = grind (arith, nat_tests, rows_of-more, length-map, line-entries_in)
