-- The elimination of an entry between objects keeps survivors, as it is that of all its pairs of cells.
use Rattle.std.proofs.lemmas.Bool.Decides.{nat_tests}
use Rattle.std.proofs.Common.{◌≡◌, ℕ, ◌*◌, ◌<◌, ◌∙◌, ℤ, List, ◌∷◌, refl, sym, subst, arith}
use Rattle.std.specs.List.{Contains}
use Rattle.kh_types.specs.Residues.{HasInverses}
use Rattle.kh_types.proofs.Residues.{same-equal}
use Rattle.cell_laws.specs.Alike.{AreAlike, AreListed}
use Rattle.cell_laws.specs.Elimination.{ArePivots, all_of, cells_left, eliminated}
use Rattle.cell_laws.specs.Layers.{IsTimesIdentity, Layer, Layers, cells_of, layer_coefficient, layer_of, layers_left}
use Rattle.cell_laws.proofs.LayerCells.{cell-beside, cells-listed, eliminated-layers, others, pair-at, pairs, pivots}
use Rattle.cell_laws.proofs.Listings.{listed-same}
use Rattle.cell_laws.specs.Filtered.{AreFiltered, survivors}
use Rattle.cell_laws.specs.Shortest.{IsShortest}
use Rattle.cell_laws.proofs.AlikeSurvivors.{filtered-alike, survivors-alike}
use Rattle.cell_laws.proofs.LeftFiltered.{filtered-left, survivors-left_any}

below-layers : (p : ℕ) (layers : Layers) (tail head c : ℕ) (rest : List ℕ) → ((x y : Layer) → layer_coefficient layers x y < p)
    → (x y : Layer) → layer_coefficient (layers_left p layers tail head c rest) x y < p
below-layers p layers tail head c rest below x y = grind (arith, nat_tests)

module _ (p : ℕ) (layers : Layers) (tail head c : ℕ) (rest : List ℕ) (field : HasInverses p)
    (filtered : AreFiltered p (cells_of layers)) (listed : AreListed (λ (o : ℕ). o) layers.objects (tail ∷ head ∷ rest))
    (tail_gone : Contains rest tail → ⊥) (head_gone : Contains rest head → ⊥) (times : IsTimesIdentity layers tail head c)
    (shortest : (state label : ℕ) → state < layers.states → label < layers.labels tail state
    → IsShortest (cells_of layers) (layer_of tail state label, layer_of head state label)) where
  abbrev pivot_pairs : List (Layer × Layer)
  pivot_pairs = pairs p layers tail head c rest field filtered.below listed tail_gone
      head_gone times

  abbrev other_cells : List Layer
  other_cells = others p layers tail head c rest field filtered.below listed tail_gone
      head_gone times

  each-shortest : (pair : Layer × Layer) → Contains pivot_pairs pair → IsShortest (cells_of layers) pair
  each-shortest pair has =
      let at = pair-at p layers tail head c rest field filtered.below listed tail_gone
      head_gone times pair has in
      subst (λ (q : Layer × Layer). IsShortest (cells_of layers) q) (sym at.is)
      (shortest at.state at.label at.state_below at.label_below)

  below-left : (x y : Layer) → layer_coefficient (layers_left p layers tail head c rest) x y < p
  below-left x y = below-layers p layers tail head c rest filtered.below x y

  alike-left : AreAlike p (λ (x : Layer). x) (λ (x : Layer). 1) (cells_left p (cells_of layers) pivot_pairs other_cells)
      (cells_of (layers_left p layers tail head c rest))
  alike-left =
      record {
        listed = listed-same other_cells;
        squares = λ x has. refl;
        homological = λ x has. refl;
        quantum = λ x has. refl;
        coefficient = λ x y has_x has_y.
            let d = layer_coefficient (layers_left p layers tail head c rest) x y in
            same-equal p (eliminated p (layer_coefficient layers) pivot_pairs x y) (1 * (1 * d))
            (eliminated-layers p layers tail head c rest field filtered.below listed
            tail_gone head_gone times x y (cell-beside layers tail head rest x tail_gone head_gone has_x)
            (cell-beside layers tail head rest y tail_gone head_gone has_y) ∙ once d);
      }
    where
      once : (n : ℕ) → n ≡ 1 * (1 * n)
      once n = omega arith

  all-listed : AreListed (λ (x : Layer). x) (cells_of layers).list (all_of pivot_pairs other_cells)
  all-listed =
      cells-listed p layers tail head c rest field filtered.below listed tail_gone
      head_gone times

  all-pivots : ArePivots (layer_coefficient layers) pivot_pairs
  all-pivots =
      pivots p layers tail head c rest field filtered.below listed tail_gone
      head_gone times

  filtered-between : AreFiltered p (cells_left p (cells_of layers) pivot_pairs other_cells)
  filtered-between =
      filtered-left p (cells_of layers) pivot_pairs other_cells all-listed field filtered all-pivots each-shortest

  pub filtered-layers : AreFiltered p (cells_of (layers_left p layers tail head c rest))
  filtered-layers =
      filtered-alike p (λ (x : Layer). x) (λ (x : Layer). 1) (cells_left p (cells_of layers) pivot_pairs other_cells)
      (cells_of (layers_left p layers tail head c rest)) below-left alike-left filtered-between

  pub survivors-layers : (i t : ℤ) → survivors p (cells_of (layers_left p layers tail head c rest)) i t ≡ survivors p (cells_of layers) i t
  survivors-layers i t =
      survivors-alike p (λ (x : Layer). x) (λ (x : Layer). 1) (cells_left p (cells_of layers) pivot_pairs other_cells)
      (cells_of (layers_left p layers tail head c rest)) alike-left field filtered-between.below below-left i t
      ∙ survivors-left_any p (cells_of layers) pivot_pairs other_cells all-listed field filtered all-pivots each-shortest i t
