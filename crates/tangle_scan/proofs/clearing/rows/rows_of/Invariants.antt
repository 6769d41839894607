use Rattle.std.proofs.Common.{◌≡◌, ◌<◌, ℕ, length}
use Rattle.std.specs.List.{Contains}
use Rattle.tangle_scan.specs.Eliminations.{HasHead, column_in, named_in}
use Rattle.tangle_scan.proofs.clearing.rows.rows_of.Given as goal

abbrev pub invariant-columns : goal.invariant-columns
invariant-columns l =
    record {
      size : length l.rows.items ≡ length l.columns;
      noted : (x : ℕ) → x < l.place → (y : ℕ) → HasHead (column_in l.columns x) y → Contains (named_in l.rows.items y) x;
    }
