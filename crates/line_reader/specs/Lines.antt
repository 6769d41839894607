-- What is kept of a line.
use Rattle.std.specs.Prelude.{ℕ, ◌+◌, Bool, not, List, take}
use Rattle.std.specs.List.{list_any}
use Rattle.kh_types.specs.declared.limits.TheConstants.{INPUT_BYTES}
use Rattle.kh_lex.specs.Cuts.{is_blank}
use Rattle.line_reader.specs.declared.line.Line.TheInside.{Inside}

-- the first bytes of a line, and whether one of its bytes is no blank
pub record Kept : Type 0 where
  pub bytes : List ℕ
  pub has_code : Bool

-- a line has a byte that is no blank
abbrev pub has_code : List ℕ → Bool
has_code line = list_any (λ byte. not (is_blank byte)) line

-- what is kept of a line: all its bytes, unless it has more than a code may have, and then one more than that
abbrev pub kept : List ℕ → Kept
kept line = record { bytes = take (INPUT_BYTES + 1) line; has_code = has_code line }

-- the same without where it lies in memory
abbrev pub kept_inside : Inside → Kept
kept_inside line = record { bytes = line.bytes.items; has_code = line.has_code }
