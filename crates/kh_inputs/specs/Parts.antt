-- The parts of an input: a code, and behind its first semicolon a script or a second code.
use Rattle.std.specs.Prelude.{ℕ, ◌+◌, ◌==◌, Bool, not, List, length, drop}
use Rattle.std.specs.List.{take_while}

-- a byte is no semicolon, which is byte 59
abbrev pub is_no_semicolon : ℕ → Bool
is_no_semicolon byte = not (byte == 59)

-- the bytes before the first semicolon, and all of them where there is none
abbrev pub code_part : List ℕ → List ℕ
code_part bytes = take_while is_no_semicolon bytes

-- the bytes behind the first semicolon, and none where there is none
abbrev pub part_behind : List ℕ → List ℕ
part_behind bytes = drop (length (code_part bytes) + 1) bytes
