use Rattle.std.proofs.Common.{◌≡◌, ◌++◌, List, map}
use Rattle.std.specs.List.{range_with_len}
use Rattle.scan_laws.specs.Adding.{Origin, origin_of}
use Rattle.tangle_scan.specs.Additions.{HasEntriesTo, origin_in}
use Rattle.tangle_scan.proofs.adding.entries.push_all_along.Given as goal

abbrev pub invariant-labels : goal.invariant-labels
invariant-labels g l = record {
  same : l.bridge ≡ l.initial.bridge;
  entries : (targets : List Origin) → HasEntriesTo g.F.PrimeField.P l.links.adding.now (origin_in l.arrow.from.now) targets l.initial.column.items
      → HasEntriesTo g.F.PrimeField.P l.links.adding.now (origin_in l.arrow.from.now)
      (targets ++ map (origin_of l.head.place l.arrow.from.now.side.smoothing) (range_with_len 0 l.label)) l.column.items;
}
