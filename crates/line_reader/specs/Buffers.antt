-- What contracts see of buffered bytes.
use Rattle.std.specs.Prelude.{ℕ, ◌≤◌, List, drop, take, length}
use Rattle.line_reader.specs.declared.buffered.Buffered.TheInside.{Inside}

-- the bytes of the last read behind the place up to which they were taken
abbrev pub bytes_of : Inside → List ℕ
bytes_of buffered = drop buffered.at (take buffered.end buffered.bytes)

-- that place is within these bytes, and these are within the room
pub record KeepsBytes (buffered : Inside) : Type 0 where
  pub taken : buffered.at ≤ buffered.end
  pub room : buffered.end ≤ length buffered.bytes
