use Rattle.std.proofs.Common.{◌≡◌, ◌++◌, List, map}
use Rattle.std.specs.List.{range_with_len}
use Rattle.scan_laws.specs.Adding.{Origin, origin_of}
use Rattle.tangle_scan.specs.AddedBridges.{AreBridgesFrom}
use Rattle.tangle_scan.specs.Additions.{AreColumnsFrom}
use Rattle.tangle_scan.proofs.adding.columns.push_columns_of.Given as goal

abbrev pub invariant-labels : goal.invariant-labels
invariant-labels g l = record {
  columns : (from : List Origin) → AreColumnsFrom g.F.PrimeField.P l.links.adding.now from l.initial.made.items
      → AreColumnsFrom g.F.PrimeField.P l.links.adding.now
      (from ++ map (origin_of l.parent.place l.smoothing) (range_with_len 0 l.label)) l.made.items;
  saddle : l.saddle ≡ l.initial.saddle;
  bridges : AreBridgesFrom l.links.adding.now l.smoothing l.parent.place l.bridges.items;
}
