-- Cells in layers: an object at an outer state with a label; and the elimination of one entry between objects, which is a number times
-- the identity.
use Rattle.std.specs.Prelude.{◌≡◌, ◌≢◌, ℕ, ◌*◌, ◌<◌, ℤ, List, map, nat_eq, if◌then◌else◌}
use Rattle.std.specs.List.{flat_map, range_with_len, sum_by}
use Rattle.kh_types.specs.Rank.{inverse, minus_mod}
use Rattle.cell_laws.specs.Cells.{Cells}

-- one cell: the number of its object, that of its outer state, and its label
pub record Layer : Type 0 where
  pub object : ℕ
  pub state : ℕ
  pub label : ℕ

-- objects by their numbers; how many outer states there are, and how many labels an object has at each; the degrees; the coefficient
-- from an object to an object at one state, and that of one object from a state to another, both from label to label
pub record Layers : Type 0 where
  pub objects : List ℕ
  pub states : ℕ
  pub labels : ℕ → ℕ → ℕ
  pub homological : Layer → ℤ
  pub quantum : Layer → ℤ
  pub inner : ℕ → ℕ → ℕ → ℕ → ℕ → ℕ
  pub outer : ℕ → ℕ → ℕ → ℕ → ℕ → ℕ

-- the cell of an object, a state and a label
abbrev pub layer_of : ℕ → ℕ → ℕ → Layer
layer_of object state label = record { object = object; state = state; label = label }

-- the cells of an object, by state, then by label
abbrev pub object_cells : Layers → ℕ → List Layer
object_cells layers object =
    flat_map (λ state. map (layer_of object state) (range_with_len 0 (layers.labels object state))) (range_with_len 0 layers.states)

-- from a cell to another: within a state as from object to object, else within an object as from state to state, else 0
abbrev pub layer_coefficient : Layers → Layer → Layer → ℕ
layer_coefficient layers x y =
    if nat_eq x.state y.state then layers.inner x.object y.object x.state x.label y.label
    else if nat_eq x.object y.object then layers.outer x.object x.state y.state x.label y.label else 0

-- all cells
abbrev pub cells_of : Layers → Cells Layer
cells_of layers =
    record {
      list = flat_map (object_cells layers) layers.objects;
      homological = layers.homological;
      quantum = layers.quantum;
      coefficient = layer_coefficient layers;
    }

-- the entry from an object to another is c, other than 0, times the identity: both have the same labels at each state, and the
-- coefficient between equal labels is c, and else 0
pub record IsTimesIdentity (layers : Layers) (tail head c : ℕ) : Type 0 where
  pub objects_differ : tail ≢ head
  pub some : c ≢ 0
  pub labels : (state : ℕ) → state < layers.states → layers.labels head state ≡ layers.labels tail state
  pub equal : (state label : ℕ) → state < layers.states → label < layers.labels tail state
      → layers.inner tail head state label label ≡ c
  pub others : (state label other : ℕ) → state < layers.states → label < layers.labels tail state → other < layers.labels tail state
      → label ≢ other → layers.inner tail head state label other ≡ 0

-- from an object to another within a state, less the ways that go to the head, back by c^-1 to the tail, and on, over all labels
abbrev pub inner_left : ℕ → Layers → ℕ → ℕ → ℕ → ℕ → ℕ → ℕ → ℕ → ℕ → ℕ
inner_left p layers tail head c first second state label other =
    minus_mod p (layers.inner first second state label other)
    (sum_by (λ middle. layers.inner first head state label middle * (inverse p c * layers.inner tail second state middle other))
    (range_with_len 0 (layers.labels tail state)))

-- what is left: the other objects, with these coefficients within a state, and between states as before
abbrev pub layers_left : ℕ → Layers → ℕ → ℕ → ℕ → List ℕ → Layers
layers_left p layers tail head c rest =
    record {
      objects = rest;
      states = layers.states;
      labels = layers.labels;
      homological = layers.homological;
      quantum = layers.quantum;
      inner = inner_left p layers tail head c;
      outer = layers.outer;
    }
