-- The sum over states as a sum over their kinds: states that have equally many ones and equally many circles have the same term.
use Rattle.std.specs.Prelude.{ℕ, ℤ, pos, ◌*ℤ◌, List, map}
use Rattle.std.specs.List.{enumerate_from}
use Rattle.kh_types.specs.StateSum.{int_sum, term_of}
use Rattle.circle_smoothing.specs.Kinds.{kind_circles, kind_ones}

-- the sum of a value of each kind, taken as often as the kind is counted
abbrev pub counted_sum : (ℕ → ℤ) → List ℕ → ℤ
counted_sum value counts = int_sum (map (λ kind. pos kind.1 *ℤ value kind.0) (enumerate_from 0 counts))

-- what a state of a kind adds to the coefficient of q ^ e
abbrev pub kind_term : ℕ → ℕ → ℤ → ℕ → ℤ
kind_term plus minus exponent kind = term_of plus minus exponent (kind_ones kind) (kind_circles kind)
