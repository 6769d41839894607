use Rattle.std.proofs.Common.{◌≡◌, ◌≤◌, ◌-◌, length, take}
use Rattle.table_text.specs.Versions.{IsTableIn, table_lines}
use Rattle.table_text.proofs.RowOrder.{table_of}
use Rattle.table_text.proofs.reader.read_lines.Given as goal

-- the lines so far are those of the table so far
abbrev pub invariant-lines : goal.invariant-lines
invariant-lines l =
    record {
      within : l.place ≤ length l.text;
      so_far : take l.place l.text ≡ table_lines (table_of l.field l.rows.items);
      table : IsTableIn l.version (table_of l.field l.rows.items);
    }

abbrev pub decreases-lines : goal.decreases-lines
decreases-lines l = length l.text - l.place
