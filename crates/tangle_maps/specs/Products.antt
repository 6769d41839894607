-- What two dot sets compose to over a seam, and the seam of three pairings, as a program keeps them.
use Rattle.std.specs.Prelude.{ℕ, ◌<◌, List, [], All, length, slice_index_or}
use Rattle.dotted_maps.specs.declared.term.Term.{Term}
use Rattle.tangle_maps.specs.Seams.{seam_terms}
use Rattle.tangle_maps.specs.Sums.{AreReduced, IsSum, dotted_term}
use Rattle.tangle_maps.specs.declared.known.Product.{Product}
use Rattle.tangle_maps.specs.declared.known.Products.{Products}
use Rattle.tangle_maps.specs.declared.seam.Seam.{Seam}

-- a reduced sum is the composition, modulo p, of two terms that have these dots and the coefficient 1
pub record IsProduct (p : ℕ) (seam : Seam) (dots others : ℕ) (terms : List Term) : Type 0 where
  pub reduced : AreReduced p terms
  pub sum : IsSum p [] (seam_terms seam (dotted_term dots 1) (dotted_term others 1)) terms

-- what is kept as the product of two dot sets is it
abbrev pub IsKeptProduct : ℕ → Seam → Product → Type 0
IsKeptProduct p seam product = IsProduct p seam product.dots product.others product.terms.items

-- all that are kept are products over a seam
abbrev pub AreProductsOver : ℕ → Seam → List Product → Type 0
AreProductsOver p seam made = All (IsKeptProduct p seam) made

-- so are those that a store has, over its own number of elements
abbrev pub AreProducts : Seam → Products → Type 0
AreProducts seam products = AreProductsOver products.elements seam products.made.items

-- the product at a place of some is that of two dot sets
pub record HasProductAt (p : ℕ) (seam : Seam) (dots others : ℕ) (made : List Product) (place : ℕ) : Type 0 where
  pub within : place < length made
  pub is : (d : Product) → IsProduct p seam dots others (slice_index_or made place d).terms.items
