-- Two eliminations in filtered layers that are cut keep the survivors. What is left has the coefficients that are known of the layers
-- without their quantum degrees.
use Rattle.std.proofs.Common.{◌≡◌, ℕ, ◌<◌, ◌∙◌, ℤ, List}
use Rattle.kh_types.specs.Residues.{HasInverses}
use Rattle.cell_laws.specs.Layers.{Layers, cells_of, layer_of, layers_left}
use Rattle.cell_laws.proofs.Listings.{listed-same}
use Rattle.cell_laws.specs.Filtered.{AreFiltered, survivors}
use Rattle.layer_laws.specs.Slid.{left_objects}
use Rattle.layer_laws.proofs.Reorderings.{gone-from}
use Rattle.layer_laws.proofs.TwoPairs.{ArePairs, behind_first, closed, first-listed, first-times, first_number, second-times, second_number}
use Rattle.layer_laws.specs.FilteredCuts.{IsFilteredCut, unfiltered_layers}
use Rattle.layer_laws.proofs.LevelEntries.{filtered-entry, survivors-entry}

module _ (p k closing above below : ℕ) (kind : ℕ → ℕ) (count : ℕ → ℕ → ℕ) (saddle : ℕ → ℕ → ℕ → ℕ → ℕ → ℕ) (layers : Layers)
    (field : HasInverses p) (is : IsFilteredCut p k closing kind count saddle layers) (are : ArePairs k closing above below kind) where
  abbrev rest : List ℕ
  rest = behind_first k closing above below

  abbrev others : List ℕ
  others = left_objects k closing above below

  abbrev shut : ℕ
  shut = closed p k closing above below kind count saddle (unfiltered_layers layers) field is.cut are

  abbrev first_c : ℕ
  first_c = first_number p k closing above below kind count saddle (unfiltered_layers layers) field is.cut are

  abbrev second_c : ℕ
  second_c = second_number p k closing above below kind count saddle (unfiltered_layers layers) field is.cut are

  level-first : (state label : ℕ) → state < layers.states → label < layers.labels closing state
      → layers.quantum (layer_of above state label) ≡ layers.quantum (layer_of closing state label)
  level-first state label below_states = is.merged above state label are.above_within are.up below_states

  level-second : (state label : ℕ) → state < layers.states → label < layers.labels below state
      → layers.quantum (layer_of shut state label) ≡ layers.quantum (layer_of below state label)
  level-second state label below_states = is.split_off below state label are.below_within are.down below_states

  abbrev middle : Layers
  middle = layers_left p layers closing above first_c rest

  filtered-middle : AreFiltered p (cells_of middle)
  filtered-middle =
      filtered-entry p layers closing above first_c rest field is.filtered
      (first-listed p k closing above below kind count saddle (unfiltered_layers layers) field is.cut are)
      (gone-from closing rest are.no_tail) (gone-from above rest are.no_head)
      (first-times p k closing above below kind count saddle (unfiltered_layers layers) field is.cut are) level-first

  survivors-middle : (i t : ℤ) → survivors p (cells_of middle) i t ≡ survivors p (cells_of layers) i t
  survivors-middle i t =
      survivors-entry p layers closing above first_c rest field is.filtered
      (first-listed p k closing above below kind count saddle (unfiltered_layers layers) field is.cut are)
      (gone-from closing rest are.no_tail) (gone-from above rest are.no_head)
      (first-times p k closing above below kind count saddle (unfiltered_layers layers) field is.cut are) level-first i t

  abbrev pub filtered_left : Layers
  filtered_left = layers_left p middle below shut second_c others

  pub filtered-pairs : AreFiltered p (cells_of filtered_left)
  filtered-pairs =
      filtered-entry p middle below shut second_c others field filtered-middle (listed-same rest)
      (gone-from below others are.no_second_tail) (gone-from shut others are.no_second_head)
      (second-times p k closing above below kind count saddle (unfiltered_layers layers) field is.cut are) level-second

  pub survivors-pairs : (i t : ℤ) → survivors p (cells_of filtered_left) i t ≡ survivors p (cells_of layers) i t
  survivors-pairs i t =
      survivors-entry p middle below shut second_c others field filtered-middle (listed-same rest)
      (gone-from below others are.no_second_tail) (gone-from shut others are.no_second_head)
      (second-times p k closing above below kind count saddle (unfiltered_layers layers) field is.cut are) level-second i t
      ∙ survivors-middle i t
