-- The columns, or the rows, of one degree in memory: they may give their memory back once none has an entry.
use Rattle.std.specs.Prelude.{◌≡◌, ℕ, ◌-◌, ◌++◌, ◌⊎◌, List, [], length, nat_eq, not, replicate, Bool}
use Rattle.std.specs.List.{count_by, list_all}
use Rattle.sparse_block.specs.Entries.{Entry}

-- no line has an entry
abbrev pub no_entries : List (List Entry) → Bool
no_entries lines = list_all (λ line. nat_eq (length line) 0) lines

-- how many lines have an entry
abbrev pub filled_count : List (List Entry) → ℕ
filled_count lines = count_by (λ line. not (nat_eq (length line) 0)) lines

-- so many lines: those in memory, and empty ones behind them
abbrev pub padded : ℕ → List (List Entry) → List (List Entry)
padded size lines = lines ++ replicate (size - length lines) []

-- all lines are in memory, or none is; and the lines that have an entry are counted
pub record AreHeld (size : ℕ) (lines : List (List Entry)) (count : ℕ) : Type 0 where
  pub whole : (length lines ≡ size) ⊎ (lines ≡ [])
  pub counted : count ≡ filled_count lines
