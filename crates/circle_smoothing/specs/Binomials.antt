-- Binomial coefficients.
use Rattle.std.specs.Prelude.{ℕ, zero, suc, ◌+◌, ◌/◌, ◌%◌}
use Rattle.kh_types.specs.declared.limits.TheConstants.{CIRCLES}

-- in how many ways so many of n things can be chosen: one fewer of the others with the last, or as many of the others without it
-- (Pascal's triangle)
abbrev pub binomial : ℕ → ℕ → ℕ
binomial n zero = 1
binomial zero (suc chosen) = 0
binomial (suc n) (suc chosen) = binomial n chosen + binomial n (suc chosen)

-- the binomial coefficient at a place of a table with a row for each number of things, and a column for each that is chosen, of
-- the numbers from 0 to CIRCLES
abbrev pub binomial_at : ℕ → ℕ
binomial_at place = binomial (place / (CIRCLES + 1)) (place % (CIRCLES + 1))
