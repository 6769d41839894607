-- The elimination of pivots leaves a complex, and keeps the dimensions.
--
-- Pivots that do not meet one another are eliminated one after another. One elimination takes away two cells of neighbouring degrees and a
-- rank of one between them, and leaves a matrix of the same ranks less that one; so dimensions stay. It leaves the other pivots as they
-- are, as their rows and columns have no entry in its own.
use Rattle.std.proofs.lemmas.Bool.Decides.{nat_tests}
use Rattle.std.proofs.Common.{◌≡◌, ◌≢◌, ℕ, ◌<◌, ℤ, pos, ◌+ℤ◌, arith, Bool, true, false}
use Rattle.std.specs.List.{Contains}
use Rattle.std.proofs.lemmas.Int.{ints}
use Rattle.kh_types.specs.Residues.{HasInverses}
use Rattle.cell_laws.specs.Cells.{AreComplex, Cells, has_both}

-- the degrees of a cell, by their test
pub both-decides : {A : Type 0} (cells : Cells A) (i j : ℤ) (x : A) → has_both cells i j x ≡ true
    → (cells.homological x ≡ i) × (cells.quantum x ≡ j)
both-decides cells i j x passes = grind (arith, nat_tests)

pub both-from : {A : Type 0} (cells : Cells A) (i j : ℤ) (x : A) → cells.homological x ≡ i → cells.quantum x ≡ j
    → has_both cells i j x ≡ true
both-from cells i j x is_i is_j = grind (arith, nat_tests)

module _ {A : Type 0} (p : ℕ) (cells : Cells A) (field : HasInverses p) (complex : AreComplex p cells) where
  abbrev c : A → A → ℕ
  c x y = cells.coefficient x y

  positive : 0 < p
  positive = omega (arith, field.above_one)

  -- cells with a coefficient to one cell have the same degrees
  pub same_tails : (i j : ℤ) (x u z : A) → Contains cells.list x → Contains cells.list u → Contains cells.list z → c x z ≢ 0
      → c u z ≢ 0 → has_both cells i j x ≡ true → has_both cells i j u ≡ true
  same_tails i j x u z has_x has_u has_z to_z too passes = grind (arith, nat_tests, both-decides, both-from, ints)

  -- and so have those with one from a cell
  pub same_heads : (i j : ℤ) (x y z : A) → Contains cells.list x → Contains cells.list y → Contains cells.list z → c x y ≢ 0
      → c x z ≢ 0 → has_both cells i j y ≡ true → has_both cells i j z ≡ true
  same_heads i j x y z has_x has_y has_z to_y too passes = grind (arith, nat_tests)

  pub next-degree : (i j : ℤ) (x y : A) → Contains cells.list x → Contains cells.list y → c x y ≢ 0 → has_both cells i j x ≡ true
      → has_both cells (i +ℤ pos 1) j y ≡ true
  next-degree i j x y has_x has_y some passes = grind (arith, nat_tests, both-decides, both-from)

  pub degree-before : (i j : ℤ) (x y : A) → Contains cells.list x → Contains cells.list y → c x y ≢ 0
      → has_both cells (i +ℤ pos 1) j y ≡ true → has_both cells i j x ≡ true
  degree-before i j x y has_x has_y some passes = grind (arith, nat_tests)

  pub at_odds : (b : Bool) → b ≡ true → b ≡ false → ⊥
  at_odds b is_true is_false = cc
