-- A count that a kink raises or leaves.
use Rattle.std.specs.Prelude.{ℕ, Bool, if◌then◌else◌}

-- one more, where a test holds
abbrev pub one_where : Bool → ℕ
one_where holds = if holds then 1 else 0
