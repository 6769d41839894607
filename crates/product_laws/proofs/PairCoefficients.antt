-- The coefficients of a product, by whether cells are one.
use Rattle.std.proofs.lemmas.Bool.Decides.{nat_tests}
use Rattle.std.proofs.Common.{◌≡◌, ℕ, ◌*◌, ◌%◌, ◌<◌, arith, true, false}
use Rattle.std.specs.Prelude.{if◌then◌else◌}
use Rattle.std.specs.List.{Contains}
use Rattle.cell_laws.specs.Cells.{AreComplex, Cells}
use Rattle.product_laws.specs.Products.{Factor, pair_coefficient}

-- no coefficient leads from a cell to itself
pub no-loop : {A : Type 0} (p : ℕ) (cells : Cells A) (x : A) → AreComplex p cells → Contains cells.list x → cells.coefficient x x ≡ 0
no-loop p cells x complex has = grind (arith, nat_tests)

module _ {A B : Type 0} (p : ℕ) (first : Factor A) (second : Factor B) where
  abbrev c : A × B → A × B → ℕ
  c tail head = pair_coefficient p first second tail head

  pub by-first : (x u : A) (y v : B) → second.same y v ≡ true
      → c (x, y) (u, v) ≡ second.sign y * first.cells.coefficient x u % p
  by-first x u y v same = grind (arith, nat_tests)

  pub not-first : (x u : A) (y v : B) → second.same y v ≡ false
      → c (x, y) (u, v) ≡ (if first.same x u then first.sign x * second.cells.coefficient y v % p else 0)
  not-first x u y v other = grind (arith, nat_tests)

  pub by-second : (x u : A) (y v : B) → second.same y v ≡ false → first.same x u ≡ true
      → c (x, y) (u, v) ≡ first.sign x * second.cells.coefficient y v % p
  by-second x u y v other same = grind (arith, nat_tests)

  pub by-neither : (x u : A) (y v : B) → second.same y v ≡ false → first.same x u ≡ false → c (x, y) (u, v) ≡ 0
  by-neither x u y v other other_too = grind (arith, nat_tests)

  pub pair-below : 0 < p → (z w : A × B) → c z w < p
  pair-below positive z w = grind (arith, nat_tests)
