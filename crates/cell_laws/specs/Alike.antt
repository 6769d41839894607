-- Lists that are one another's up to order and names, and complexes that are so up to signs.
use Rattle.std.specs.Prelude.{◌≡◌, ◌≢◌, ℕ, ◌*◌, ◌<◌, List, length, slice_index_or}
use Rattle.std.specs.List.{Contains, sum_by}
use Rattle.kh_types.specs.Residues.{Same}
use Rattle.cell_laws.specs.Cells.{Cells}

-- the images of the elements of the first list are those of the second, each as often: each function has the same sum over both
pub record AreListed {A B : Type 0} (to : A → B) (first : List A) (second : List B) : Type 0 where
  pub there : (x : A) → Contains first x → Contains second (to x)
  pub back : (y : B) → Contains second y → (x : A) × Contains first x × (to x ≡ y)
  pub sums : (f : B → ℕ) → sum_by f second ≡ sum_by (λ x. f (to x)) first

-- no two places of a list have the same element
abbrev pub HasNoDoubles : {A : Type 0} → List A → Type 0
HasNoDoubles {A} xs = (k l : ℕ) (d : A) → k < l → l < length xs → slice_index_or xs k d ≢ slice_index_or xs l d

-- two lists without doubles, whose elements correspond
pub record AreMatched {A B : Type 0} (to : A → B) (back : B → A) (first : List A) (second : List B) : Type 0 where
  pub first_once : HasNoDoubles first
  pub second_once : HasNoDoubles second
  pub there : (x : A) → Contains first x → Contains second (to x)
  pub back_there : (y : B) → Contains second y → Contains first (back y)
  pub to_back : (y : B) → Contains second y → to (back y) ≡ y
  pub back_to : (x : A) → Contains first x → back (to x) ≡ x

-- cells that correspond to others by names: their degrees are the same, and so are their coefficients, up to a factor for each cell
-- that is 1 or -1 modulo p (its square is 1)
pub record AreAlike {A B : Type 0} (p : ℕ) (to : A → B) (sign : A → ℕ) (first : Cells A) (second : Cells B) : Type 0 where
  pub listed : AreListed to first.list second.list
  pub squares : (x : A) → Contains first.list x → Same p (sign x * sign x) 1
  pub homological : (x : A) → Contains first.list x → second.homological (to x) ≡ first.homological x
  pub quantum : (x : A) → Contains first.list x → second.quantum (to x) ≡ first.quantum x
  pub coefficient : (x y : A) → Contains first.list x → Contains first.list y
      → Same p (first.coefficient x y) (sign x * (sign y * second.coefficient (to x) (to y)))
