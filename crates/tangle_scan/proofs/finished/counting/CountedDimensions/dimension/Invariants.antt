use Rattle.std.proofs.Common.{◌≡◌, ◌≤◌, ◌*◌, ◌^◌, take}
use Rattle.kh_types.specs.declared.limits.TheConstants.{CIRCLES}
use Rattle.tangle_scan.specs.Tallies.{count_at, once, tallied}
use Rattle.tangle_scan.proofs.finished.counting.CountedDimensions.dimension.Given as goal

abbrev pub invariant-tallies : goal.invariant-tallies
invariant-tallies l = record {
  total : l.total ≡ tallied (count_at l.self.loops l.self.plus l.self.minus l.i l.j) (take l.tally-index l.self.tallies.items);
  within : l.total ≤ tallied once (take l.tally-index l.self.tallies.items) * 2 ^ CIRCLES;
}
