-- Sinks in memory as plain data.
use Rattle.std.specs.Prelude.{ℕ, ◌≤◌, ◌-◌, List, [], ◌++◌, length, min}
use Rattle.kh_io.specs.Faults.{next_count}

-- a sink: the bytes written, the most bytes in all, the most bytes of a write, the numbers of the
-- writes that fail, and how many writes and faults there were
pub record Store : Type 0 where
  pub written : List ℕ
  pub room : ℕ
  pub piece : ℕ
  pub fail : List ℕ
  pub calls : ℕ
  pub faults : ℕ

-- the sink before its first write
abbrev pub first_store : ℕ → ℕ → List ℕ → Store
first_store room piece fail = record {
  written = [];
  room = room;
  piece = piece;
  fail = fail;
  calls = 0;
  faults = 0;
}

-- all the room is taken
abbrev pub IsFull : Store → Type 0
IsFull store = store.room ≤ length store.written

-- how many of so many bytes the next write takes: the least of a piece, the room left, the bytes
abbrev pub next_taken : Store → ℕ → ℕ
next_taken store count = min store.piece (min (store.room - length store.written) count)

-- the sink after a write that took these bytes
abbrev pub store_after_write : Store → List ℕ → Store
store_after_write store bytes = record store {
  written = store.written ++ bytes;
  calls = next_count store.calls;
}

-- the sink after a write that failed
abbrev pub store_after_fault : Store → Store
store_after_fault store = record store {
  calls = next_count store.calls;
  faults = next_count store.faults;
}
