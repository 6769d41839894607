-- Sources in memory as plain data.
use Rattle.std.specs.Prelude.{ℕ, List, drop, length, min, Contains}
use Rattle.kh_io.specs.Faults.{next_count}

-- a source: the bytes still to come, the most bytes of a read, the numbers of the reads that fail,
-- and how many reads and faults there were
pub record Supply : Type 0 where
  pub left : List ℕ
  pub piece : ℕ
  pub fail : List ℕ
  pub calls : ℕ
  pub faults : ℕ

-- the source before its first read
abbrev pub first_supply : List ℕ → ℕ → List ℕ → Supply
first_supply bytes piece fail = record {
  left = bytes;
  piece = piece;
  fail = fail;
  calls = 0;
  faults = 0;
}

-- the call that follows so many calls is one of those that fail
abbrev pub FailsNext : List ℕ → ℕ → Type 0
FailsNext fail calls = Contains fail (next_count calls)

-- how many bytes the next read gives into so much room: the least of a piece, what is left, the room
abbrev pub next_piece : Supply → ℕ → ℕ
next_piece supply room = min supply.piece (min (length supply.left) room)

-- the source after a read that gave so many bytes
abbrev pub supply_after_read : Supply → ℕ → Supply
supply_after_read supply count = record supply {
  left = drop count supply.left;
  calls = next_count supply.calls;
}

-- the source after a read that failed
abbrev pub supply_after_fault : Supply → Supply
supply_after_fault supply = record supply {
  calls = next_count supply.calls;
  faults = next_count supply.faults;
}
