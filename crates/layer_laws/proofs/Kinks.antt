-- One inner crossing: a kink. The state that closes a circle and the one that goes through see alike; the second goes with one of the two
-- objects of the first, and the other object is left: with the same survivors, and in a complex with the same dimensions.
use Rattle.std.proofs.Common.{◌≡◌, ℕ, inl, inr, ◌%◌, ◌<◌, ◌∙◌, ℤ, List, [], ◌∷◌, refl, sym, subst, arith}
use Rattle.std.specs.List.{Contains}
use Rattle.kh_types.specs.Residues.{HasInverses}
use Rattle.cell_laws.specs.Alike.{AreListed}
use Rattle.cell_laws.specs.Cells.{dimension_at}
use Rattle.cell_laws.specs.Layers.{IsTimesIdentity, Layers, cells_of, layer_of, layers_left}
use Rattle.cell_laws.proofs.LayerCells.{complex-layers, dimension-layers}
use Rattle.layer_laws.specs.Cuts.{IsCut, IsLikeOne, IsNothing, cut_objects, ones_before, step_sign}
use Rattle.layer_laws.proofs.Entries.{nothing-kept, times-identity}
use Rattle.layer_laws.proofs.Reorderings.{gone-from, listed-reordered}
use Rattle.layer_laws.proofs.SingleLayers.{dimension-one, survivors-one}
use Rattle.layer_laws.proofs.Signs.{sign-squared}
use Rattle.cell_laws.specs.Filtered.{survivors}
use Rattle.layer_laws.specs.FilteredCuts.{IsFilteredCut, IsFilteredLike, unfiltered_layers}
use Rattle.layer_laws.proofs.LevelEntries.{filtered-entry, survivors-entry}

-- an entry from one object to another goes, of three, and leaves the third without a coefficient to itself
record IsOneLeft (p closing tail head object c : ℕ) (layers : Layers) : Type 0 where
  times : IsTimesIdentity layers tail head c
  listed : AreListed (λ (o : ℕ). o) (cut_objects 1 closing) (tail ∷ head ∷ object ∷ [])
  no_tail : Contains (object ∷ []) tail → ⊥
  no_head : Contains (object ∷ []) head → ⊥
  nothing : IsNothing p (layers_left p layers tail head c (object ∷ [])) object object

module _ (p : ℕ) (count : ℕ → ℕ → ℕ) (saddle : ℕ → ℕ → ℕ → ℕ → ℕ → ℕ) (layers : Layers) (field : HasInverses p) where
  positive : 0 < p
  positive = omega (arith, field.above_one)

  -- the 0-smoothing closes: the circle with v+ goes, and that with v- is left
  first-left : IsCut p 1 0 (λ t. 0) count saddle layers → IsOneLeft p 0 0 1 2 (step_sign p 1 0 1 % p) layers
  first-left cut =
      let labels : (state : ℕ) → state < layers.states → layers.labels 1 state ≡ layers.labels 0 state =
      λ state below. cut.labels 1 state (omega arith) below ∙ sym (cut.labels 0 state (omega arith) below) in
      record {
        times = times-identity p layers 0 1 (step_sign p 1 0 1) field cut.complex.below (λ same. omega (arith, same)) labels
            (sign-squared p (ones_before 1 0 1) positive) (cut.merged 1 (omega arith) refl);
        listed = listed-reordered (cut_objects 1 0) (0 ∷ 1 ∷ 2 ∷ []) refl;
        no_tail = gone-from 0 (2 ∷ []) refl;
        no_head = gone-from 1 (2 ∷ []) refl;
        nothing = nothing-kept p layers 0 1 (step_sign p 1 0 1 % p) (2 ∷ []) 2 2 positive labels
            (inr (cut.apart_closed 0 (omega arith) refl)) cut.apart_within;
      }

  -- the 1-smoothing closes: the circle with v- goes, and that with v+ is left
  second-left : IsCut p 1 1 (λ t. 0) count saddle layers → IsOneLeft p 1 0 3 1 (step_sign p 1 0 1 % p) layers
  second-left cut =
      let labels : (state : ℕ) → state < layers.states → layers.labels 3 state ≡ layers.labels 0 state =
      λ state below. cut.closed_labels state below ∙ sym (cut.labels 0 state (omega arith) below) in
      record {
        times = times-identity p layers 0 3 (step_sign p 1 0 1) field cut.complex.below (λ same. omega (arith, same)) labels
            (sign-squared p (ones_before 1 0 1) positive) (cut.split_off 0 (omega arith) refl);
        listed = listed-reordered (cut_objects 1 1) (0 ∷ 3 ∷ 1 ∷ []) refl;
        no_tail = gone-from 0 (1 ∷ []) refl;
        no_head = gone-from 3 (1 ∷ []) refl;
        nothing = nothing-kept p layers 0 3 (step_sign p 1 0 1 % p) (1 ∷ []) 1 1 positive labels
            (inl (cut.apart_closed 1 (omega arith) refl)) (cut.apart 1 1 (omega arith) (omega arith) refl);
      }

-- what one elimination of two objects, of three, leaves
module _ (p closing tail head object c : ℕ) (count : ℕ → ℕ → ℕ) (saddle : ℕ → ℕ → ℕ → ℕ → ℕ → ℕ) (r : ℕ) (level : ℕ → ℕ)
    (layers single : Layers) (field : HasInverses p) where
  has-listed : layers.objects ≡ cut_objects 1 closing → AreListed (λ (o : ℕ). o) (cut_objects 1 closing) (tail ∷ head ∷ object ∷ [])
      → AreListed (λ (o : ℕ). o) layers.objects (tail ∷ head ∷ object ∷ [])
  has-listed is listed = subst (λ (xs : List ℕ). AreListed (λ (o : ℕ). o) xs (tail ∷ head ∷ object ∷ [])) (sym is) listed

  survivors-kink : IsFilteredCut p 1 closing (λ t. 0) count saddle layers → IsFilteredLike p object r level layers single
      → IsOneLeft p closing tail head object c (unfiltered_layers layers)
      → ((state label : ℕ) → state < layers.states → label < layers.labels tail state
      → layers.quantum (layer_of head state label) ≡ layers.quantum (layer_of tail state label))
      → (i t : ℤ) → survivors p (cells_of single) i t ≡ survivors p (cells_of layers) i t
  survivors-kink cut like is same i t =
      let listed = has-listed cut.cut.objects is.listed in
      survivors-one p object r level layers single (layers_left p layers tail head c (object ∷ [])).inner field like is.nothing
      (filtered-entry p layers tail head c (object ∷ []) field cut.filtered listed is.no_tail is.no_head is.times same) i t
      ∙ survivors-entry p layers tail head c (object ∷ []) field cut.filtered listed is.no_tail is.no_head is.times same i t

  dimension-kink : IsCut p 1 closing (λ t. 0) count saddle layers → IsLikeOne p object r level layers single
      → IsOneLeft p closing tail head object c layers
      → (i j : ℤ) → dimension_at p (cells_of single) i j ≡ dimension_at p (cells_of layers) i j
  dimension-kink cut like is i j =
      let listed = has-listed cut.objects is.listed in
      dimension-one p object r level layers single (layers_left p layers tail head c (object ∷ [])).inner field like is.nothing
      (complex-layers p layers tail head c (object ∷ []) field cut.complex listed is.no_tail is.no_head is.times) i j
      ∙ dimension-layers p layers tail head c (object ∷ []) field cut.complex listed is.no_tail is.no_head is.times i j

module _ (p : ℕ) (count : ℕ → ℕ → ℕ) (saddle : ℕ → ℕ → ℕ → ℕ → ℕ → ℕ) (level : ℕ → ℕ) (layers single : Layers) (field : HasInverses p) where
  pub kink-keeps_first : IsFilteredCut p 1 0 (λ t. 0) count saddle layers → IsFilteredLike p 2 0 level layers single → (i t : ℤ)
      → survivors p (cells_of single) i t ≡ survivors p (cells_of layers) i t
  kink-keeps_first is like =
      survivors-kink p 0 0 1 2 (step_sign p 1 0 1 % p) count saddle 0 level layers single field is like
      (first-left p count saddle (unfiltered_layers layers) field is.cut) (λ state label. is.merged 1 state label (omega arith) refl)

  pub kink-keeps_second : IsFilteredCut p 1 1 (λ t. 0) count saddle layers → IsFilteredLike p 1 1 level layers single → (i t : ℤ)
      → survivors p (cells_of single) i t ≡ survivors p (cells_of layers) i t
  kink-keeps_second is like =
      survivors-kink p 1 0 3 1 (step_sign p 1 0 1 % p) count saddle 1 level layers single field is like
      (second-left p count saddle (unfiltered_layers layers) field is.cut) (λ state label. is.split_off 0 state label (omega arith) refl)

  pub kink-closes_first : IsCut p 1 0 (λ t. 0) count saddle layers → IsLikeOne p 2 0 level layers single → (i j : ℤ)
      → dimension_at p (cells_of single) i j ≡ dimension_at p (cells_of layers) i j
  kink-closes_first cut like =
      dimension-kink p 0 0 1 2 (step_sign p 1 0 1 % p) count saddle 0 level layers single field cut like
      (first-left p count saddle layers field cut)

  pub kink-closes_second : IsCut p 1 1 (λ t. 0) count saddle layers → IsLikeOne p 1 1 level layers single → (i j : ℤ)
      → dimension_at p (cells_of single) i j ≡ dimension_at p (cells_of layers) i j
  kink-closes_second cut like =
      dimension-kink p 1 0 3 1 (step_sign p 1 0 1 % p) count saddle 1 level layers single field cut like
      (second-left p count saddle layers field cut)
