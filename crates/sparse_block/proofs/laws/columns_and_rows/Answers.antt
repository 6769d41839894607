use Rattle.std.proofs.Common.{refl}
use Rattle.sparse_block.proofs.ReadingLemmas.{number-column_of, column-entries, row-entries}
use Rattle.sparse_block.proofs.laws.columns_and_rows.Goals as goal

pub returns : goal.returns
returns c =
    record {
      column = number-column_of;
      row = λ complex i row column. refl;
      entries_of_column = column-entries;
      entries_of_row = row-entries;
    }
