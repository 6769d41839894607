-- The terms of a polynomial, as texts.
use Rattle.std.specs.Prelude.{ℕ, ℤ, pos, List, [], ◌∷◌, ◌++◌, codes, if◌then◌else◌}
use Rattle.std.specs.Ordering.{int_eq}
use Rattle.kh_types.specs.StateSum.{term_text}

-- the text of the term of an exponent, and nothing where its coefficient is 0
abbrev pub text_at : (ℤ → ℤ) → ℤ → List ℕ
text_at polynomial exponent =
    if int_eq (polynomial exponent) (pos 0) then []
    else term_text (record { coefficient = polynomial exponent; exponent = exponent })

-- the Jones line with the texts of all terms, and 0 where there are none
abbrev pub jones_line_of : List ℕ → List ℕ
jones_line_of [] = codes "jones 0\n"
jones_line_of (byte ∷ more) = codes "jones" ++ ((byte ∷ more) ++ codes "\n")
