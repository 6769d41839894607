-- A number at each two degrees, in one list, and what is added there.
use Rattle.std.specs.Prelude.{◌≡◌, ℕ, ◌+◌, ◌*◌, ◌<◌, ◌^◌, ℤ, pos, ◌+ℤ◌, cond, nat_le, Bool, true, ◌&&◌, slice_index, List}
use Rattle.std.specs.Int.RustNames.{unsigned_abs}
use Rattle.std.specs.List.{sum_by}
use Rattle.std.specs.Ordering.{int_eq}
use Rattle.kh_types.specs.Table.{Row}
use Rattle.kh_types.specs.declared.limits.TheConstants.{EXPONENT}
use Rattle.union_laws.specs.UnitedRows.{row_product}
use Rattle.tangle_scan.specs.declared.scanning.products.Grid.{Grid}

-- whether a grid for n crossings has two degrees: i from -n to n, and j from -EXPONENT to EXPONENT
abbrev pub is_in : ℕ → ℤ → ℤ → Bool
is_in n i j = nat_le (unsigned_abs i) n && nat_le (unsigned_abs j) EXPONENT

-- the place of two degrees: ascending by j, then by i
abbrev pub place_in : ℕ → ℤ → ℤ → ℕ
place_in n i j = unsigned_abs (j +ℤ pos EXPONENT) * (2 * n + 1) + unsigned_abs (i +ℤ pos n)

-- the numbers of a grid; it has 0 at other degrees
abbrev pub dims_in : Grid → ℤ → ℤ → ℕ
dims_in grid i j = cond (is_in grid.crossings i j) (slice_index grid.numbers.items (place_in grid.crossings i j)) 0

-- numbers can be added to those of a grid
abbrev pub HasRoom : (ℤ → ℤ → ℕ) → Grid → Type 0
HasRoom dims grid = (i j : ℤ) → dims_in grid i j + dims i j < 2 ^ 128

-- a grid has the numbers of another, and these are added
pub record AreRaised (dims : ℤ → ℤ → ℕ) (old new : Grid) : Type 0 where
  pub crossings : new.crossings ≡ old.crossings
  pub numbers : (i j : ℤ) → is_in old.crossings i j ≡ true → dims_in new i j ≡ dims_in old i j + dims i j

-- a number at i and j, and 0 at other degrees
abbrev pub number_at : ℤ → ℤ → ℕ → ℤ → ℤ → ℕ
number_at i j number k l = cond (int_eq i k && int_eq j l) number 0

-- the product of two rows, at the sums of their degrees
abbrev pub pair_dims : Row → Row → ℤ → ℤ → ℕ
pair_dims row other i j = row_product i j row other

-- the products of a row with each of others, at the sums of their degrees
abbrev pub row_dims : Row → List Row → ℤ → ℤ → ℕ
row_dims row others i j = sum_by (row_product i j row) others
