-- Signs as residues.
use Rattle.std.specs.Prelude.{ℕ, ◌-◌, ◌%◌, nat_eq, if◌then◌else◌}

-- modulo p, -1 to a power
abbrev pub sign_of_power : ℕ → ℕ → ℕ
sign_of_power p n = if nat_eq (n % 2) 0 then 1 else p - 1
