-- Crossings in any order.
use Rattle.std.proofs.Common.{◌≡◌, ℕ, ◌<◌, ◌∙◌, ℤ, List, [], ◌∷◌, ◌++◌, refl, sym, subst, ap, ap₂, append_assoc, arith}
use Rattle.kh_types.specs.Code.{Code}
use Rattle.kh_types.specs.Directions.{minus_count, plus_count}
use Rattle.kh_types.specs.Generators.{Generator}
use Rattle.kh_types.specs.Residues.{HasInverses}
use Rattle.kh_types.specs.Table.{dimension}
use Rattle.cell_laws.specs.Cells.{AreComplex, Cells, dimension_at}
use Rattle.cell_laws.specs.Cubes.{cube_of}
use Rattle.order_laws.specs.Orders.{IsReordered}
use Rattle.cell_laws.specs.Alike.{AreAlike}
use Rattle.cell_laws.specs.Filtered.{AreFiltered, survivors}
use Rattle.cell_laws.specs.DeformedCubes.{deformed_cube_of}
use Rattle.cell_laws.proofs.AlikeCells.{dimension-alike}
use Rattle.cell_laws.proofs.AlikeComplexes.{complex-alike}
use Rattle.cell_laws.proofs.AlikeSurvivors.{filtered-alike, survivors-alike}
use Rattle.cell_laws.proofs.DeformedCells.{cube-plain}
use Rattle.square_laws.specs.Deformed.{deformed_coefficient}
use Rattle.square_laws.proofs.RaisedDegrees.{deformed-below}
use Rattle.order_laws.proofs.ExchangedCodes.{code_with}
use Rattle.order_laws.proofs.ExchangedCubes.{alike-exchanged, name_of, sign_of}

-- what holds of a list, and of each list with two neighbours exchanged of which it holds, holds of it in any order
module _ {A : Type 0} (Q : List A → Type 0)
    (exchange : (front back : List A) (a b : A) → Q (front ++ a ∷ b ∷ back) → Q (front ++ b ∷ a ∷ back)) where
  -- an element is brought to the front of some
  brought : (front before after : List A) (y : A) → Q (front ++ (before ++ (y ∷ after))) → Q (front ++ (y ∷ (before ++ after)))
  brought front [] after y holds = holds
  brought front (b ∷ before) after y holds =
      exchange front (before ++ after) b y
      (subst Q (append_assoc front (b ∷ []) (y ∷ (before ++ after)))
      (brought (front ++ b ∷ []) before after y
      (subst Q (sym (append_assoc front (b ∷ []) (before ++ (y ∷ after)))) holds)))

  pub reordered : (front xs ys : List A) → IsReordered xs ys → Q (front ++ xs) → Q (front ++ ys)
  reordered front xs [] is holds = subst (λ zs. Q (front ++ zs)) is holds
  reordered front xs (y ∷ ys) (before, after, is, rest) holds =
      subst Q (append_assoc front (y ∷ []) ys)
      (reordered (front ++ y ∷ []) (before ++ after) ys rest
      (subst Q (sym (append_assoc front (y ∷ []) (before ++ after)))
      (brought front before after y (subst (λ zs. Q (front ++ zs)) is holds))))

abbrev code_of : ℕ → List (List ℕ) → Code
code_of loops crossings = record { crossings = crossings; loops = loops }

-- the deformed cubes of crossings in any order have in common what cells have that are alike
module _ (p h loops plus minus : ℕ) (field : HasInverses p) where
  pub kept-reordered : (Q : Cells Generator → Type 0)
      → ((to : Generator → Generator) (sign : Generator → ℕ) (first second : Cells Generator) → AreAlike p to sign first second
      → ((x y : Generator) → first.coefficient x y < p) → ((x y : Generator) → second.coefficient x y < p) → Q first → Q second)
      → (xs ys : List (List ℕ)) → IsReordered xs ys
      → Q (deformed_cube_of p h (record { crossings = xs; loops = loops }) plus minus)
      → Q (deformed_cube_of p h (record { crossings = ys; loops = loops }) plus minus)
  kept-reordered Q keep xs ys is =
      reordered (λ zs. Q (deformed_cube_of p h (code_of loops zs) plus minus))
      (λ front back a b.
      keep (name_of p h front back loops field) (sign_of p h front back loops field)
      (deformed_cube_of p h (code_with front back loops a b) plus minus) (deformed_cube_of p h (code_with front back loops b a) plus minus)
      (alike-exchanged p h front back loops field a b plus minus) (below (code_with front back loops a b))
      (below (code_with front back loops b a)))
      [] xs ys is
    where
      below : (code : Code) (x y : Generator) → deformed_coefficient p h code x y < p
      below code x y = deformed-below p h code x y (omega (arith, field.above_one))

  pub survivors-reordered : (i t : ℤ) (xs ys : List (List ℕ)) → IsReordered xs ys
      → survivors p (deformed_cube_of p h (record { crossings = ys; loops = loops }) plus minus) i t
      ≡ survivors p (deformed_cube_of p h (record { crossings = xs; loops = loops }) plus minus) i t
  survivors-reordered i t xs ys is =
      kept-reordered (λ cells. survivors p cells i t ≡ survivors p (deformed_cube_of p h (code_of loops xs) plus minus) i t)
      (λ to sign first second alike below other_below same.
      survivors-alike p to sign first second alike field below other_below i t ∙ same) xs ys is refl

  pub filtered-reordered : (xs ys : List (List ℕ)) → IsReordered xs ys
      → AreFiltered p (deformed_cube_of p h (record { crossings = xs; loops = loops }) plus minus)
      → AreFiltered p (deformed_cube_of p h (record { crossings = ys; loops = loops }) plus minus)
  filtered-reordered =
      kept-reordered (AreFiltered p)
      (λ to sign first second alike below other_below. filtered-alike p to sign first second other_below alike)

-- with h = 0: the plain cubes
module _ (p loops plus minus : ℕ) (field : HasInverses p) where
  plain-reordered : (Q : Cells Generator → Type 0)
      → ((to : Generator → Generator) (sign : Generator → ℕ) (first second : Cells Generator) → AreAlike p to sign first second
      → ((x y : Generator) → first.coefficient x y < p) → ((x y : Generator) → second.coefficient x y < p) → Q first → Q second)
      → (xs ys : List (List ℕ)) → IsReordered xs ys → Q (cube_of p (code_of loops xs) plus minus) → Q (cube_of p (code_of loops ys) plus minus)
  plain-reordered Q keep xs ys is holds =
      subst Q (cube-plain p (code_of loops ys) plus minus field.above_one)
      (kept-reordered p 0 loops plus minus field Q keep xs ys is
      (subst Q (sym (cube-plain p (code_of loops xs) plus minus field.above_one)) holds))

  pub dimension-reordered : (i j : ℤ) (xs ys : List (List ℕ)) → IsReordered xs ys
      → dimension_at p (cube_of p (record { crossings = ys; loops = loops }) plus minus) i j
      ≡ dimension_at p (cube_of p (record { crossings = xs; loops = loops }) plus minus) i j
  dimension-reordered i j xs ys is =
      plain-reordered (λ cells. dimension_at p cells i j ≡ dimension_at p (cube_of p (code_of loops xs) plus minus) i j)
      (λ to sign first second alike below other_below same.
      dimension-alike p to sign first second alike field below other_below i j ∙ same) xs ys is refl

  pub complex-reordered : (xs ys : List (List ℕ)) → IsReordered xs ys
      → AreComplex p (cube_of p (record { crossings = xs; loops = loops }) plus minus)
      → AreComplex p (cube_of p (record { crossings = ys; loops = loops }) plus minus)
  complex-reordered =
      plain-reordered (AreComplex p)
      (λ to sign first second alike below other_below. complex-alike p to sign first second alike other_below)

-- by codes
pub dimension-same_signs : (p : ℕ) (first second : Code) → HasInverses p → IsReordered first.crossings second.crossings
    → second.loops ≡ first.loops → plus_count second.crossings ≡ plus_count first.crossings
    → minus_count second.crossings ≡ minus_count first.crossings → (i j : ℤ) → dimension p second i j ≡ dimension p first i j
dimension-same_signs p first second field is loops plus minus i j =
    ap₂ (λ m n. dimension_at p (cube_of p second m n) i j) plus minus
    ∙ ap (λ l. dimension_at p (cube_of p (record { crossings = second.crossings; loops = l })
    (plus_count first.crossings) (minus_count first.crossings)) i j) loops
    ∙ dimension-reordered p first.loops (plus_count first.crossings) (minus_count first.crossings) field i j first.crossings
    second.crossings is
