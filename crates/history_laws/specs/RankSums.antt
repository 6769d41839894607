-- The ranks of the matrices of a complex.
use Rattle.std.specs.Prelude.{ℕ, ℤ, pos, ◌-ℤ◌}
use Rattle.std.specs.List.{sum_by}
use Rattle.kh_types.specs.Rank.{rank}
use Rattle.kh_types.specs.Complex.{Complex, degree_of}

-- the rank of the matrix out of degree i
abbrev pub rank_out : ℕ → Complex → ℤ → ℕ
rank_out p complex i = rank p (degree_of complex i).matrix

-- the rank of the matrix into degree i, which is the one out of degree i - 1
abbrev pub rank_into : ℕ → Complex → ℤ → ℕ
rank_into p complex i = rank_out p complex (i -ℤ pos 1)

-- the ranks of all matrices together
abbrev pub rank_sum : ℕ → Complex → ℕ
rank_sum p complex = sum_by (λ degree. rank p degree.matrix) complex.degrees
