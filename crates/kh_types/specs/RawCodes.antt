-- What contracts see of a raw code.
use Rattle.std.specs.Prelude.{ℕ, nat_le, if◌then◌else◌}
use Rattle.kh_types.specs.Code.{Code}
use Rattle.kh_types.specs.declared.limits.TheConstants.{GREATEST_ARC}
use Rattle.kh_types.specs.declared.code.RawCode.TheInside.{Inside}

-- the arc that a number of a text names; 0, which is no arc, for a number above the greatest
abbrev pub arc_named : ℕ → ℕ
arc_named n = if nat_le n GREATEST_ARC then n else 0

-- the code that contracts see: the crossings that the list holds, and the loops
abbrev pub code_of_raw : Inside → Code
code_of_raw raw = record { crossings = raw.crossings.items; loops = raw.loops }
