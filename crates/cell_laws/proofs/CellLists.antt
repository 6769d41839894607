-- The cells of layers: which they are, and that none stands twice.
use Rattle.std.proofs.lemmas.Bool.Decides.{nat_tests}
use Rattle.std.proofs.Common.{arith}
use Rattle.std.proofs.Common.{◌≡◌, ℕ, ◌<◌, ◌∙◌, List, map, sym, subst, ap}
use Rattle.std.specs.List.{Contains, range_with_len}
use Rattle.kh_types.proofs.Lists.{Contains-flat_map, Contains-map, range-contains, Contains-range}
use Rattle.cell_laws.specs.Alike.{HasNoDoubles}
use Rattle.cell_laws.specs.Layers.{Layer, Layers, cells_of, layer_of, object_cells}
use Rattle.cell_laws.proofs.Members.{Contains-flattened, Contains-made}
use Rattle.cell_laws.proofs.NoDoubles.{once-flat, once-map, once-range}

-- a cell is of an object, at a state, with a label
pub record IsCell (layers : Layers) (x : Layer) : Type 0 where
  pub object : Contains layers.objects x.object
  pub state : x.state < layers.states
  pub label : x.label < layers.labels x.object x.state

abbrev pub at_state : Layers → ℕ → ℕ → List Layer
at_state layers object state = map (layer_of object state) (range_with_len 0 (layers.labels object state))

pub cell-from : (layers : Layers) (x : Layer) → Contains (cells_of layers).list x → IsCell layers x
cell-from layers x has =
    let by_object = Contains-flattened (object_cells layers) layers.objects x has in
    let by_state = Contains-flattened (at_state layers by_object.0) (range_with_len 0 layers.states) x by_object.2 in
    let by_label = Contains-made (layer_of by_object.0 by_state.0) (range_with_len 0 (layers.labels by_object.0 by_state.0)) x by_state.2 in
    subst (λ (y : Layer). IsCell layers y) by_label.2
    (record {
      object = by_object.1;
      state = range-contains layers.states by_state.0 by_state.1;
      label = range-contains (layers.labels by_object.0 by_state.0) by_label.0 by_label.1;
    })

pub cell-of : (layers : Layers) (x : Layer) → IsCell layers x → Contains (cells_of layers).list x
cell-of layers x is =
    Contains-flat_map (object_cells layers) layers.objects x.object x is.object
    (Contains-flat_map (at_state layers x.object) (range_with_len 0 layers.states) x.state x
    (Contains-range layers.states x.state is.state)
    (Contains-map (layer_of x.object x.state) (range_with_len 0 (layers.labels x.object x.state)) x.label
    (Contains-range (layers.labels x.object x.state) x.label is.label)))

state-of : (layers : Layers) (object state : ℕ) (x : Layer) → Contains (at_state layers object state) x → x.state ≡ state
state-of layers object state x has =
    grind (arith, nat_tests, Contains-made (layer_of object state) (range_with_len 0 (layers.labels object state)) x has)

object-of : (layers : Layers) (object : ℕ) (x : Layer) → Contains (object_cells layers object) x → x.object ≡ object
object-of layers object x has =
    let by_state = Contains-flattened (at_state layers object) (range_with_len 0 layers.states) x has in
    let made = Contains-made (layer_of object by_state.0) (range_with_len 0 (layers.labels object by_state.0)) x by_state.2 in
    sym (ap (λ (y : Layer). y.object) made.2)

pub cells-once : (layers : Layers) → HasNoDoubles layers.objects → HasNoDoubles (cells_of layers).list
cells-once layers once =
    once-flat (object_cells layers) layers.objects once
    (λ object.
    once-flat (at_state layers object) (range_with_len 0 layers.states) (once-range 0 layers.states)
    (λ state.
    once-map (layer_of object state) (range_with_len 0 (layers.labels object state)) (λ k l same. ap (λ (y : Layer). y.label) same)
    (once-range 0 (layers.labels object state)))
    (λ state other x has has_too. sym (state-of layers object state x has) ∙ state-of layers object other x has_too))
    (λ object other x has has_too. sym (object-of layers object x has) ∙ object-of layers other x has_too)
