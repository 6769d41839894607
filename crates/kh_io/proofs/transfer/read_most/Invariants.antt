use Rattle.std.proofs.Common.{◌≡◌, ◌+◌, ◌-◌, ◌≤◌, length}
use Rattle.std.specs.Io.KnownBytes.{Consumes}
use Rattle.kh_io.proofs.transfer.read_most.Given as goal

-- the bytes so far are what was taken, and each read but the last gave one
abbrev pub invariant-reading : goal.invariant-reading
invariant-reading g l = record {
  taken : Consumes (g.S.Source.left l.fn.source) (g.S.Source.left l.source) l.bytes.items;
  size : length l.bytes.items ≤ l.fn.most;
  stayed : g.S.Source.faults l.source ≡ g.S.Source.faults l.fn.source;
  reads : g.S.Source.reads l.source ≤ g.S.Source.reads l.fn.source + length l.bytes.items;
}

-- the bytes that may still come
abbrev pub decreases-reading : goal.decreases-reading
decreases-reading g l = l.fn.most - length l.bytes.items
