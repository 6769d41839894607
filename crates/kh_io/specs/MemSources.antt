-- What contracts see of a source in memory.
use Rattle.std.specs.Prelude.{drop, length, ◌≤◌, ◌<◌}
use Rattle.kh_io.specs.Supplies.{Supply}
use Rattle.kh_io.specs.declared.mem_source.MemSource.TheInside.{Inside}

-- the bytes behind the place up to which they were read are still to come
abbrev pub supply_of : Inside → Supply
supply_of source = record {
  left = drop source.at source.bytes.items;
  piece = source.piece;
  fail = source.fail.items;
  calls = source.calls;
  faults = source.faults;
}

-- that place is inside the bytes, and a read may give some
pub record KeepsSupply (source : Inside) : Type 0 where
  pub inside : source.at ≤ length source.bytes.items
  pub some : 0 < source.piece
