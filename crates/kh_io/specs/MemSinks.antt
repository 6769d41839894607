-- What contracts see of a sink in memory.
use Rattle.std.specs.Prelude.{length, ◌≤◌, ◌<◌, vec_capacity}
use Rattle.kh_io.specs.Stores.{Store}
use Rattle.kh_io.specs.declared.mem_sink.MemSink.TheInside.{Inside}

-- the fields without where they lie in memory
abbrev pub store_of : Inside → Store
store_of sink = record {
  written = sink.written.items;
  room = sink.room;
  piece = sink.piece;
  fail = sink.fail.items;
  calls = sink.calls;
  faults = sink.faults;
}

-- what is written has room, the memory for all the room is there, and a write may take some
pub record KeepsStore (sink : Inside) : Type 0 where
  pub inside : length sink.written.items ≤ sink.room
  pub memory : sink.room ≤ vec_capacity sink.written
  pub some : 0 < sink.piece
