-- Outside the exponents the Euler characteristic of a table is 0, since no row of a table has such a degree.
use Rattle.std.proofs.Common.{◌≡◌, suc, ◌∙◌, List, [], ◌∷◌, map, ap, refl, subst, arith, ℤ, pos, cond}
use Rattle.std.specs.Prelude.{false}
use Rattle.std.specs.List.{All, filter}
use Rattle.std.specs.Ordering.{int_eq}
use Rattle.std.proofs.lemmas.Bool.{false_from_ne_true}
use Rattle.std.proofs.lemmas.Bool.Decides.{Decides-int_eq}
use Rattle.kh_types.specs.declared.limits.TheConstants.{EXPONENT}
use Rattle.kh_types.specs.StateSum.{int_sum, signed_by}
use Rattle.kh_types.specs.Table.{Row, IsWithin}
use Rattle.homology_tables.specs.Tables.{IsRow}

-- no row of a table has a degree outside of the exponents, so that nothing is added there
none-at : (rows : List Row) (exponent : ℤ) → All IsRow rows → ¬ IsWithin EXPONENT exponent
    → filter (λ row. int_eq row.j exponent) rows ≡ []
none-at [] exponent are outside = refl
none-at (row ∷ rows) exponent are outside =
    let is : IsRow row = are 0 row (omega arith) in
    let other : int_eq row.j exponent ≡ false =
    false_from_ne_true (int_eq row.j exponent)
    (λ same. outside (subst (IsWithin EXPONENT) ((Decides-int_eq row.j exponent).0 same) is.j)) in
    ap (λ b. cond b (row ∷ filter (λ r. int_eq r.j exponent) rows) (filter (λ r. int_eq r.j exponent) rows)) other
    ∙ none-at rows exponent (λ k d below. are (suc k) d (omega (arith, below))) outside

pub euler-outside : (rows : List Row) (exponent : ℤ) → All IsRow rows → ¬ IsWithin EXPONENT exponent
    → int_sum (map (λ row. signed_by row.i row.dim) (filter (λ row. int_eq row.j exponent) rows)) ≡ pos 0
euler-outside rows exponent are outside =
    ap (λ some. int_sum (map (λ row. signed_by row.i row.dim) some)) (none-at rows exponent are outside)
