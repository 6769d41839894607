-- The elimination of an entry between objects at equal quantum degrees, where it is a number times the identity: it keeps survivors.
use Rattle.std.proofs.Common.{◌≡◌, ℕ, ◌<◌, ℤ, ◌≤ℤ◌, List, ◌∷◌, sym, subst}
use Rattle.std.specs.List.{Contains}
use Rattle.kh_types.specs.Residues.{HasInverses}
use Rattle.cell_laws.specs.Alike.{AreListed}
use Rattle.cell_laws.specs.Cells.{AreComplex}
use Rattle.cell_laws.specs.Layers.{IsTimesIdentity, Layers, cells_of, layer_of, layers_left}
use Rattle.cell_laws.proofs.CellLists.{cell-of}
use Rattle.cell_laws.proofs.Members.{Contains-first, Contains-later}
use Rattle.cell_laws.specs.Filtered.{AreFiltered, survivors}
use Rattle.cell_laws.specs.Shortest.{IsShortest}
use Rattle.cell_laws.proofs.AlikeSurvivors.{complex-unfiltered}
use Rattle.cell_laws.proofs.LayerSurvivors.{filtered-layers, survivors-layers}
use Rattle.layer_laws.specs.FilteredCuts.{unfiltered_layers}

pub complex-unfiltered_layers : (p : ℕ) (layers : Layers) → AreFiltered p (cells_of layers) → AreComplex p (cells_of (unfiltered_layers layers))
complex-unfiltered_layers p layers filtered = complex-unfiltered p (cells_of layers) filtered

module _ (p : ℕ) (layers : Layers) (tail head c : ℕ) (rest : List ℕ) (field : HasInverses p)
    (filtered : AreFiltered p (cells_of layers)) (listed : AreListed (λ (o : ℕ). o) layers.objects (tail ∷ head ∷ rest))
    (tail_gone : Contains rest tail → ⊥) (head_gone : Contains rest head → ⊥)
    (times : IsTimesIdentity (unfiltered_layers layers) tail head c)
    (level : (state label : ℕ) → state < layers.states → label < layers.labels tail state
    → layers.quantum (layer_of head state label) ≡ layers.quantum (layer_of tail state label)) where
  has-object : (o : ℕ) → Contains (tail ∷ head ∷ rest) o → Contains layers.objects o
  has-object o has =
      let found = listed.back o has in
      subst (λ (x : ℕ). Contains layers.objects x) found.2 found.1

  same-times : IsTimesIdentity layers tail head c
  same-times =
      record {
        objects_differ = times.objects_differ;
        some = times.some;
        labels = times.labels;
        equal = times.equal;
        others = times.others;
      }

  shortest : (state label : ℕ) → state < layers.states → label < layers.labels tail state
      → IsShortest (cells_of layers) (layer_of tail state label, layer_of head state label)
  shortest state label below label_below =
      let here = cell-of layers (layer_of tail state label)
      (record { object = has-object tail (Contains-first tail (head ∷ rest)); state = below; label = label_below }) in
      let there = cell-of layers (layer_of head state label)
      (record {
        object = has-object head (Contains-later tail head (head ∷ rest) (Contains-first head rest));
        state = below;
        label = subst (λ (n : ℕ). label < n) (sym (times.labels state below)) label_below;
      }) in
      record {
        out = λ y has_y some.
            subst (λ (q : ℤ). q ≤ℤ layers.quantum y) (sym (level state label below label_below))
            (filtered.quantum (layer_of tail state label) y here has_y some);
        into = λ x has_x some.
            subst (λ (q : ℤ). layers.quantum x ≤ℤ q) (level state label below label_below)
            (filtered.quantum x (layer_of head state label) has_x there some);
      }

  pub filtered-entry : AreFiltered p (cells_of (layers_left p layers tail head c rest))
  filtered-entry = filtered-layers p layers tail head c rest field filtered listed tail_gone head_gone same-times shortest

  pub survivors-entry : (i t : ℤ) → survivors p (cells_of (layers_left p layers tail head c rest)) i t ≡ survivors p (cells_of layers) i t
  survivors-entry i t = survivors-layers p layers tail head c rest field filtered listed tail_gone head_gone same-times shortest i t
