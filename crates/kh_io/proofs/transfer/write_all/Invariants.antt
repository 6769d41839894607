use Rattle.std.proofs.Common.{◌≡◌, ◌-◌, ◌≤◌, length, take}
use Rattle.std.specs.Io.KnownBytes.{Appends}
use Rattle.kh_io.proofs.transfer.write_all.Given as goal

-- the bytes so far are written, and no write has come before the first of them
abbrev pub invariant-writing : goal.invariant-writing
invariant-writing g l = record {
  prefix : Appends (g.K.Sink.written l.fn.sink) (g.K.Sink.written l.sink) (take l.at l.bytes);
  inside : l.at ≤ length l.bytes;
  stayed : g.K.Sink.faults l.sink ≡ g.K.Sink.faults l.fn.sink;
  same : l.at ≡ 0 → l.sink ≡ l.fn.sink;
}

abbrev pub decreases-writing : goal.decreases-writing
decreases-writing g l = length l.bytes - l.at
