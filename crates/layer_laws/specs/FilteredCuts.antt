-- Layers of a filtered cube that is cut at the crossings of a move. With the quantum degrees forgotten they are layers that are cut, of
-- which all is known already; and the entries that go keep the quantum degree.
use Rattle.std.specs.Prelude.{◌≡◌, ℕ, ◌+◌, ◌^◌, ◌<◌, pos, true}
use Rattle.cell_laws.specs.Layers.{Layers, cells_of, layer_of}
use Rattle.cell_laws.specs.Filtered.{AreFiltered}
use Rattle.layer_laws.specs.Cuts.{IsCut, IsLikeOne, is_step}

-- the layers with their quantum degrees forgotten: all are 0
abbrev pub unfiltered_layers : Layers → Layers
unfiltered_layers layers =
    record {
      objects = layers.objects;
      states = layers.states;
      labels = layers.labels;
      homological = layers.homological;
      quantum = λ x. pos 0;
      inner = layers.inner;
      outer = layers.outer;
    }

-- filtered layers are cut where they are so without their quantum degrees, and the circle that closes is merged, from v+, and split off,
-- to v-, at equal quantum degrees
pub record IsFilteredCut (p k closing : ℕ) (kind : ℕ → ℕ) (count : ℕ → ℕ → ℕ) (saddle : ℕ → ℕ → ℕ → ℕ → ℕ → ℕ) (layers : Layers) : Type 0
  where
    pub filtered : AreFiltered p (cells_of layers)
    pub cut : IsCut p k closing kind count saddle (unfiltered_layers layers)
    pub merged : (t state label : ℕ) → t < 2 ^ k → is_step k closing t ≡ true → state < layers.states
        → label < layers.labels closing state
        → layers.quantum (layer_of t state label) ≡ layers.quantum (layer_of closing state label)
    pub split_off : (t state label : ℕ) → t < 2 ^ k → is_step k t closing ≡ true → state < layers.states
        → label < layers.labels t state
        → layers.quantum (layer_of (closing + 2 ^ k) state label) ≡ layers.quantum (layer_of t state label)

-- filtered layers of one object, 0, that is like one of the given layers: it is so without the quantum degrees, and these are the same
pub record IsFilteredLike (p object r : ℕ) (level : ℕ → ℕ) (layers single : Layers) : Type 0 where
  pub filtered : AreFiltered p (cells_of single)
  pub like : IsLikeOne p object r level (unfiltered_layers layers) (unfiltered_layers single)
  pub quantum : (state label : ℕ) → state < layers.states → label < layers.labels object state
      → single.quantum (layer_of 0 state label) ≡ layers.quantum (layer_of object state label)
