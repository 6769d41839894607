-- Two inner crossings: a bigon. One of the two states with one bit closes a circle, and sees what the states 0 and 3 see; these go with its
-- two objects, and the other state with one bit is left: with the same survivors, and in a complex with the same dimensions.
use Rattle.std.proofs.Common.{◌≡◌, ℕ, ◌*◌, ◌<◌, ◌∙◌, ℤ, refl, arith, Bool, true, not, ◌||◌}
use Rattle.std.specs.Prelude.{nat_eq}
use Rattle.std.specs.List.{list_all, range_with_len}
use Rattle.kh_types.specs.Residues.{HasInverses}
use Rattle.kh_types.proofs.RangeCounts.{list_all-at}
use Rattle.kh_types.proofs.Residues.{same-equal}
use Rattle.cell_laws.specs.Cells.{dimension_at}
use Rattle.cell_laws.specs.Layers.{Layers, cells_of}
use Rattle.layer_laws.specs.Cuts.{IsCut, IsLikeOne, IsNothing, IsTimes, is_step}
use Rattle.layer_laws.specs.Slid.{kind_of_bigon}
use Rattle.layer_laws.proofs.PairTests.{pairs-from, same-if}
use Rattle.layer_laws.proofs.SingleLayers.{dimension-one, survivors-one}
use Rattle.layer_laws.proofs.TwoPairs.{ArePairs, complex-left, dimension-left, entry-left, left}
use Rattle.cell_laws.specs.Filtered.{survivors}
use Rattle.layer_laws.specs.FilteredCuts.{IsFilteredCut, IsFilteredLike, unfiltered_layers}
use Rattle.layer_laws.proofs.FilteredPairs.{filtered-pairs, survivors-pairs}

pub nothing-from : (p : ℕ) (layers : Layers) (x y : ℕ) (given : ℕ → ℕ → ℕ → ℕ) → IsTimes p layers x y 0 given → IsNothing p layers x y
nothing-from p layers x y given times =
    record {
      none = λ state label other below label_below other_below.
          times.is state label other below label_below other_below
          ∙ same-equal p (0 * given state label other) 0 (never (given state label other));
    }
  where
    never : (a : ℕ) → 0 * a ≡ 0
    never a = omega arith

-- the states next to the closing one have its kind
abbrev pub has_kind : ℕ → ℕ → Bool
has_kind closing t = not (is_step 2 t closing || is_step 2 closing t) || nat_eq (kind_of_bigon closing t) (kind_of_bigon closing closing)

pub near-bigon : (closing : ℕ) → list_all (has_kind closing) (range_with_len 0 4) ≡ true → (t : ℕ) → t < 4
    → (is_step 2 t closing || is_step 2 closing t) ≡ true → kind_of_bigon closing t ≡ kind_of_bigon closing closing
near-bigon closing all t within near =
    same-if (is_step 2 t closing || is_step 2 closing t) (kind_of_bigon closing t) (kind_of_bigon closing closing) near
    (list_all-at (has_kind closing) 0 4 t all (omega arith) (omega (arith, within)))

module _ (p : ℕ) (count : ℕ → ℕ → ℕ) (saddle : ℕ → ℕ → ℕ → ℕ → ℕ → ℕ) (level : ℕ → ℕ) (layers single : Layers) (field : HasInverses p) where
  first-pairs : ArePairs 2 1 3 0 (kind_of_bigon 1)
  first-pairs = pairs-from 2 1 3 0 (kind_of_bigon 1) refl (near-bigon 1 refl)

  second-pairs : ArePairs 2 2 3 0 (kind_of_bigon 2)
  second-pairs = pairs-from 2 2 3 0 (kind_of_bigon 2) refl (near-bigon 2 refl)

  -- the first crossing's 1-smoothing with the second's 0-smoothing closes
  pub bigon-keeps_first : IsFilteredCut p 2 1 (kind_of_bigon 1) count saddle layers → IsFilteredLike p 2 1 level layers single → (i t : ℤ)
      → survivors p (cells_of single) i t ≡ survivors p (cells_of layers) i t
  bigon-keeps_first is like i t =
      let last = left p 2 1 3 0 (kind_of_bigon 1) count saddle (unfiltered_layers layers) field is.cut first-pairs in
      survivors-one p 2 1 level layers single last.inner field like
      (nothing-from p last 2 2 (saddle (kind_of_bigon 1 2) (kind_of_bigon 1 2))
      (entry-left p 2 1 3 0 (kind_of_bigon 1) count saddle (unfiltered_layers layers) field is.cut first-pairs 2 2 (omega arith)
      (omega arith) refl refl))
      (filtered-pairs p 2 1 3 0 (kind_of_bigon 1) count saddle layers field is first-pairs) i t
      ∙ survivors-pairs p 2 1 3 0 (kind_of_bigon 1) count saddle layers field is first-pairs i t

  -- the second's with the first's 0-smoothing
  pub bigon-keeps_second : IsFilteredCut p 2 2 (kind_of_bigon 2) count saddle layers → IsFilteredLike p 1 1 level layers single → (i t : ℤ)
      → survivors p (cells_of single) i t ≡ survivors p (cells_of layers) i t
  bigon-keeps_second is like i t =
      let last = left p 2 2 3 0 (kind_of_bigon 2) count saddle (unfiltered_layers layers) field is.cut second-pairs in
      survivors-one p 1 1 level layers single last.inner field like
      (nothing-from p last 1 1 (saddle (kind_of_bigon 2 1) (kind_of_bigon 2 1))
      (entry-left p 2 2 3 0 (kind_of_bigon 2) count saddle (unfiltered_layers layers) field is.cut second-pairs 1 1 (omega arith)
      (omega arith) refl refl))
      (filtered-pairs p 2 2 3 0 (kind_of_bigon 2) count saddle layers field is second-pairs) i t
      ∙ survivors-pairs p 2 2 3 0 (kind_of_bigon 2) count saddle layers field is second-pairs i t

  -- the dimensions of a complex
  pub bigon-closes_first : IsCut p 2 1 (kind_of_bigon 1) count saddle layers → IsLikeOne p 2 1 level layers single → (i j : ℤ)
      → dimension_at p (cells_of single) i j ≡ dimension_at p (cells_of layers) i j
  bigon-closes_first cut like i j =
      let last = left p 2 1 3 0 (kind_of_bigon 1) count saddle layers field cut first-pairs in
      dimension-one p 2 1 level layers single last.inner field like
      (nothing-from p last 2 2 (saddle (kind_of_bigon 1 2) (kind_of_bigon 1 2))
      (entry-left p 2 1 3 0 (kind_of_bigon 1) count saddle layers field cut first-pairs 2 2 (omega arith) (omega arith) refl refl))
      (complex-left p 2 1 3 0 (kind_of_bigon 1) count saddle layers field cut first-pairs) i j
      ∙ dimension-left p 2 1 3 0 (kind_of_bigon 1) count saddle layers field cut first-pairs i j

  pub bigon-closes_second : IsCut p 2 2 (kind_of_bigon 2) count saddle layers → IsLikeOne p 1 1 level layers single → (i j : ℤ)
      → dimension_at p (cells_of single) i j ≡ dimension_at p (cells_of layers) i j
  bigon-closes_second cut like i j =
      let last = left p 2 2 3 0 (kind_of_bigon 2) count saddle layers field cut second-pairs in
      dimension-one p 1 1 level layers single last.inner field like
      (nothing-from p last 1 1 (saddle (kind_of_bigon 2 1) (kind_of_bigon 2 1))
      (entry-left p 2 2 3 0 (kind_of_bigon 2) count saddle layers field cut second-pairs 1 1 (omega arith) (omega arith) refl refl))
      (complex-left p 2 2 3 0 (kind_of_bigon 2) count saddle layers field cut second-pairs) i j
      ∙ dimension-left p 2 2 3 0 (kind_of_bigon 2) count saddle layers field cut second-pairs i j
