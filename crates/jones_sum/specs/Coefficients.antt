-- Polynomials as lists of coefficients.
use Rattle.std.specs.Prelude.{ℤ, pos, negsuc, ◌+ℤ◌, List, map, slice_index_or}
use Rattle.kh_types.specs.Table.{from_minus}
use Rattle.kh_types.specs.declared.limits.TheConstants.{EXPONENT}

-- the coefficients of a polynomial at the exponents from -EXPONENT to EXPONENT, ascending
abbrev pub coefficients_of : (ℤ → ℤ) → List ℤ
coefficients_of polynomial = map polynomial (from_minus EXPONENT)

-- the element at a place of a list; 0 before its first place and behind its last
abbrev pub element_at : List ℤ → ℤ → ℤ
element_at list (pos place) = slice_index_or list place (pos 0)
element_at list (negsuc before) = pos 0

-- the coefficient at an exponent, where the first of a list of coefficients is that at -EXPONENT; 0 where the list has none
abbrev pub coefficient_in : List ℤ → ℤ → ℤ
coefficient_in coefficients exponent = element_at coefficients (exponent +ℤ pos EXPONENT)
