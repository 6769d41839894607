-- The state sum, which is the unnormalised Jones polynomial, and the graded Euler characteristic of a table. A Laurent
-- polynomial is the function from exponents to coefficients.
use Rattle.std.specs.Prelude.{ℕ, zero, suc, ◌+◌, ◌*◌, ◌%◌, ℤ, pos, negsuc, neg_ℤ, ◌+ℤ◌, ◌-ℤ◌, List, [], ◌∷◌, ◌++◌, map, nat_eq, not, if◌then◌else◌, codes}
use Rattle.std.specs.List.{filter, flat_map}
use Rattle.std.specs.Ordering.{int_eq}
use Rattle.std.specs.Fmt.{signed_decimal}
use Rattle.kh_types.specs.Code.{Code}
use Rattle.kh_types.specs.Directions.{plus_count, minus_count}
use Rattle.kh_types.specs.Circles.{circle_count}
use Rattle.kh_types.specs.Generators.{one_count, states}
use Rattle.kh_types.specs.Table.{Table, from_minus}
use Rattle.kh_types.specs.declared.limits.TheConstants.{EXPONENT}

-- the sum of some integers
abbrev pub int_sum : List ℤ → ℤ
int_sum [] = pos 0
int_sum (x ∷ xs) = x +ℤ int_sum xs

-- a number, with a minus sign where a degree is odd
abbrev pub signed_by_parity : ℕ → ℕ → ℤ
signed_by_parity size x = if nat_eq (size % 2) 0 then pos x else neg_ℤ (pos x)

-- -1 to a degree, times a number
abbrev pub signed_by : ℤ → ℕ → ℤ
signed_by (pos i) x = signed_by_parity i x
signed_by (negsuc i) x = signed_by_parity (suc i) x

-- the coefficient of q ^ e in (q + q^-1) ^ k: each factor gives q or q^-1
abbrev pub circle_coefficient : ℕ → ℤ → ℕ
circle_coefficient zero exponent = if int_eq exponent (pos 0) then 1 else 0
circle_coefficient (suc k) exponent = circle_coefficient k (exponent -ℤ pos 1) + circle_coefficient k (exponent +ℤ pos 1)

-- what a state with r ones adds to the coefficient of q ^ e, where n+ crossings are positive and n- negative: its term is
-- (-1)^(r - n-) q^(r + n+ - 2n-) (q + q^-1)^circles
abbrev pub term_of : ℕ → ℕ → ℤ → ℕ → ℕ → ℤ
term_of plus minus exponent r circles =
    signed_by (pos r -ℤ pos minus)
    (circle_coefficient circles ((exponent -ℤ pos (r + plus)) +ℤ pos (2 * minus)))

-- the same of a state of a code, at given numbers of positive and negative crossings
abbrev pub term_with : ℕ → ℕ → Code → ℤ → ℕ → ℤ
term_with plus minus code exponent state = term_of plus minus exponent (one_count code state) (circle_count code state)

-- the same at the code's own numbers
abbrev pub state_term : Code → ℤ → ℕ → ℤ
state_term code exponent state = term_with (plus_count code.crossings) (minus_count code.crossings) code exponent state

-- the coefficient of q ^ e of the state sum at given numbers of positive and negative crossings: the sum over all states
abbrev pub sum_with : ℕ → ℕ → Code → ℤ → ℤ
sum_with plus minus code exponent = int_sum (map (term_with plus minus code exponent) (states code))

-- the coefficient of q ^ e of the state sum: that at the code's own numbers (Bar-Natan 2002, section 2, unnormalised)
abbrev pub state_sum : Code → ℤ → ℤ
state_sum code exponent = sum_with (plus_count code.crossings) (minus_count code.crossings) code exponent

-- the coefficient of q ^ e of the graded Euler characteristic of a table: the signed sum of the dimensions with j = e
-- (Bar-Natan 2002, section 3)
abbrev pub euler : Table → ℤ → ℤ
euler homology exponent =
    int_sum (map (λ row. signed_by row.i row.dim) (filter (λ row. int_eq row.j exponent) homology.rows))

-- a term of a polynomial
pub record Term : Type 0 where
  pub coefficient : ℤ
  pub exponent : ℤ

-- the terms of a polynomial with a coefficient other than 0, by exponent, ascending; within the limits exponents are at most
-- EXPONENT in size
abbrev pub terms : (ℤ → ℤ) → List Term
terms polynomial =
    filter (λ term. not (int_eq term.coefficient (pos 0)))
    (map (λ exponent. record { coefficient = polynomial exponent; exponent = exponent }) (from_minus EXPONENT))

-- a term, after a space
abbrev pub term_text : Term → List ℕ
term_text term = codes " " ++ (signed_decimal term.coefficient ++ (codes "*q^" ++ signed_decimal term.exponent))

-- the terms, or 0 where there are none
abbrev pub terms_text : List Term → List ℕ
terms_text [] = codes " 0"
terms_text (term ∷ more) = flat_map term_text (term ∷ more)

-- the Jones line
abbrev pub polynomial_text : (ℤ → ℤ) → List ℕ
polynomial_text polynomial = codes "jones" ++ (terms_text (terms polynomial) ++ codes "\n")
