-- Survivors are sums of what lasts; and where all coefficients keep the quantum degree, homology lasts.
--
-- A reduction of a complex whose coefficients keep the quantum degree keeps its dimensions too. So the cells that are left count both.
use Rattle.std.proofs.Common.{◌≡◌, ℕ, zero, suc, ◌+◌, ◌∙◌, ℤ, pos, ◌+ℤ◌, length, sym, ap, ap₂, arith}
use Rattle.std.specs.Prelude.{◌<ℤ◌}
use Rattle.std.specs.List.{Contains, range_with_len, sum_by}
use Rattle.std.proofs.lemmas.Int.{ints}
use Rattle.std.proofs.lemmas.List.Sums.{sum_by-cons}
use Rattle.kh_types.specs.Residues.{HasInverses}
use Rattle.kh_types.proofs.ListSums.{shifted, sum_by-alike}
use Rattle.cell_laws.specs.Cells.{AreComplex, Cells, cells_at, dimension_at}
use Rattle.cell_laws.specs.Elimination.{cells_left}
use Rattle.cell_laws.proofs.AlikeComplexes.{complex-left_any, dimension-left_any}
use Rattle.cell_laws.proofs.LastCells.{dimension-nothing}
use Rattle.cell_laws.specs.Filtered.{AreFiltered, lasting, survivors}
use Rattle.cell_laws.specs.Shortest.{IsReduction}
use Rattle.cell_laws.specs.Shortest.IsReduction.{over, step}
use Rattle.cell_laws.proofs.Degrees.{lengths-next}
use Rattle.cell_laws.proofs.Ends.{survivors-above}
use Rattle.cell_laws.proofs.Reductions.{lasting-reduced, reduction, survivors-reduced}

-- a sum over integers from t on: the term at t, and those from t + 1 on
sums-more : (f : ℤ → ℕ) (t : ℤ) (n : ℕ) → sum_by (λ k. f (t +ℤ pos k)) (range_with_len 0 (suc n))
    ≡ f t + sum_by (λ k. f (t +ℤ pos 1 +ℤ pos k)) (range_with_len 0 n)
sums-more f t n =
    let terms = λ (k : ℕ). f (t +ℤ pos k) in
    sum_by-cons terms 0 (range_with_len 1 n)
    ∙ ap₂ (λ a b. a + b) (ap f (here t))
    (shifted terms 0 n ∙ sum_by-alike (λ k. terms (suc k)) (λ k. f (t +ℤ pos 1 +ℤ pos k)) (λ k. ap f (one_on t k)) (range_with_len 0 n))
  where
    here : (t : ℤ) → t +ℤ pos 0 ≡ t
    here t = omega (arith, ints)

    one_on : (t : ℤ) (k : ℕ) → t +ℤ pos (suc k) ≡ t +ℤ pos 1 +ℤ pos k
    one_on t k = omega (arith, ints)

module _ {A : Type 0} (p : ℕ) (cells : Cells A) (field : HasInverses p) (filtered : AreFiltered p cells) where
  survivors-next : (i t : ℤ) → survivors p cells i t ≡ lasting p cells i t + survivors p cells i (t +ℤ pos 1)
  survivors-next i t =
      let found = reduction p field cells filtered in
      omega (
        arith,
        survivors-reduced p cells found.0 field filtered found.1 i t,
        survivors-reduced p cells found.0 field filtered found.1 i (t +ℤ pos 1),
        lasting-reduced p cells found.0 field filtered found.1 i t,
        lengths-next found.0 i t,
      )

  pub survivors-sums : (i t : ℤ) (n : ℕ) → ((x : A) → Contains cells.list x → cells.quantum x <ℤ (t +ℤ pos n))
      → survivors p cells i t ≡ sum_by (λ k. lasting p cells i (t +ℤ pos k)) (range_with_len 0 n)
  survivors-sums i t zero past = survivors-above p cells field filtered.below i t (λ x has. omega (arith, ints, past x has))
  survivors-sums i t (suc n) past =
      survivors-next i t
      ∙ ap (λ m. lasting p cells i t + m) (survivors-sums i (t +ℤ pos 1) n (λ x has. omega (arith, ints, past x has)))
      ∙ sym (sums-more (λ j. lasting p cells i j) t n)

-- a complex whose coefficients keep the quantum degree
pub filtered-level : {A : Type 0} (p : ℕ) (cells : Cells A) → AreComplex p cells → AreFiltered p cells
filtered-level p cells complex =
    record {
      below = complex.below;
      homological = complex.homological;
      quantum = λ x y has_x has_y some. omega (arith, ints, complex.quantum x y has_x has_y some);
      squares = complex.squares;
    }

dimension-reduced : {A : Type 0} (p : ℕ) (cells last : Cells A) → HasInverses p → AreComplex p cells → IsReduction p cells last
    → (i j : ℤ) → dimension_at p cells i j ≡ length (cells_at last i j)
dimension-reduced p cells last field complex (over none) i j = dimension-nothing p cells field complex.below none i j
dimension-reduced p cells last field complex (step pairs rest listed are shortest later) i j =
    sym (dimension-left_any p cells pairs rest field complex listed are i j)
    ∙ dimension-reduced p (cells_left p cells pairs rest) last field (complex-left_any p cells pairs rest field complex listed are)
    later i j

module _ {A : Type 0} (p : ℕ) (cells : Cells A) (field : HasInverses p) (complex : AreComplex p cells) where
  pub lasting-level : (i j : ℤ) → lasting p cells i j ≡ dimension_at p cells i j
  lasting-level i j =
      let filtered = filtered-level p cells complex in
      let found = reduction p field cells filtered in
      lasting-reduced p cells found.0 field filtered found.1 i j ∙ sym (dimension-reduced p cells found.0 field complex found.1 i j)

  pub survivors-level : (i t : ℤ) (n : ℕ) → ((x : A) → Contains cells.list x → cells.quantum x <ℤ (t +ℤ pos n))
      → survivors p cells i t ≡ sum_by (λ k. dimension_at p cells i (t +ℤ pos k)) (range_with_len 0 n)
  survivors-level i t n past =
      survivors-sums p cells field (filtered-level p cells complex) i t n past
      ∙ sum_by-alike (λ k. lasting p cells i (t +ℤ pos k)) (λ k. dimension_at p cells i (t +ℤ pos k))
      (λ k. lasting-level i (t +ℤ pos k)) (range_with_len 0 n)
