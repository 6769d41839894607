use Rattle.std.proofs.Common.{ℕ, take}
use Rattle.std.specs.List.{Contains}
use Rattle.tangle_scan.specs.Eliminations.{AreMore, HasHead, named_in}
use Rattle.tangle_scan.proofs.clearing.rows.note_column.Given as goal

abbrev pub invariant-entries : goal.invariant-entries
invariant-entries l =
    record {
      noted : (y : ℕ) → HasHead (take l.entry-index l.column) y → Contains (named_in l.rows.items y) l.place;
      kept : AreMore l.initial.rows.items l.rows.items;
    }
