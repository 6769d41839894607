-- The elimination of an entry between objects is that of all its pairs of cells.
--
-- A scan has objects, each with a cell for each state and label of the crossings to come. An entry between objects that is a number times
-- the identity is one pivot for each pair of their cells. These pivots do not meet one another, so that they can be eliminated together,
-- and what they leave is what the elimination makes of entries between objects.
use Rattle.std.proofs.lemmas.Bool.Decides.{nat_tests}
use Rattle.std.proofs.Common.{◌≡◌, ◌≢◌, ℕ, inl, inr, ◌*◌, ◌<◌, ◌∙◌, ℤ, List, ◌∷◌, ◌++◌, map, refl, sym, subst, ap, ap₂, arith}
use Rattle.std.specs.Prelude.{nat_eq, if◌then◌else◌}
use Rattle.std.specs.List.{Contains, flat_map, range_with_len, sum_by}
use Rattle.std.proofs.lemmas.Bool.{cases_eq}
use Rattle.std.proofs.lemmas.Simd.{map-map}
use Rattle.kh_types.specs.Rank.{inverse, minus_mod}
use Rattle.kh_types.specs.Residues.{HasInverses}
use Rattle.kh_types.proofs.ListSums.{sum_by-flat_map, sum_by-map, sum_by-range_alike, sum_by-single, sum_by-zeros}
use Rattle.kh_types.proofs.Residues.{same-equal}
use Rattle.kh_types.proofs.Lists.{range-contains}
use Rattle.cell_laws.specs.Alike.{AreAlike, AreListed, HasNoDoubles}
use Rattle.cell_laws.specs.Cells.{AreComplex, dimension_at}
use Rattle.cell_laws.specs.Elimination.{ArePivots, all_of, cells_left, eliminated, way_back}
use Rattle.cell_laws.specs.Layers.{IsTimesIdentity, Layer, Layers, cells_of, layer_coefficient, layer_of, layers_left, object_cells}
use Rattle.cell_laws.proofs.AlikeCells.{dimension-alike}
use Rattle.cell_laws.proofs.AlikeComplexes.{complex-alike, complex-left_any, dimension-left_any}
use Rattle.cell_laws.proofs.Listings.{listed-flat, listed-same, pivots-without_doubles}
use Rattle.cell_laws.proofs.Members.{Contains-flattened, Contains-made}
use Rattle.cell_laws.proofs.NoDoubles.{flat_map-range, map-flat_map, once-flat, once-map, once-range}

minus-nothing : (p x : ℕ) → x < p → minus_mod p x 0 ≡ x
minus-nothing p x below = grind (arith, nat_tests)

-- coefficients, by whether states and objects are the same
pub inside-state : (layers : Layers) (x y : Layer) → x.state ≡ y.state
    → layer_coefficient layers x y ≡ layers.inner x.object y.object x.state x.label y.label
inside-state layers x y same = grind (arith, nat_tests)

pub elsewhere : (layers : Layers) (x y : Layer) → x.state ≢ y.state
    → layer_coefficient layers x y ≡ (if nat_eq x.object y.object then layers.outer x.object x.state y.state x.label y.label else 0)
elsewhere layers x y other = grind (arith, nat_tests)

pub nowhere : (layers : Layers) (x y : Layer) → x.state ≢ y.state → x.object ≢ y.object → layer_coefficient layers x y ≡ 0
nowhere layers x y other other_object = grind (arith, nat_tests)

-- a cell of an object
pub record IsCellOf (layers : Layers) (object : ℕ) (x : Layer) : Type 0 where
  pub object_is : x.object ≡ object
  pub state : x.state < layers.states
  pub label : x.label < layers.labels x.object x.state

pub cell-of : (layers : Layers) (object : ℕ) (x : Layer) → Contains (object_cells layers object) x → IsCellOf layers object x
cell-of layers object x has =
    let by_state = Contains-flattened (λ state. map (layer_of object state) (range_with_len 0 (layers.labels object state)))
    (range_with_len 0 layers.states) x has in
    let by_label = Contains-made (layer_of object by_state.0) (range_with_len 0 (layers.labels object by_state.0)) x by_state.2 in
    subst (λ (y : Layer). IsCellOf layers object y) by_label.2
    (record {
      object_is = refl;
      state = range-contains layers.states by_state.0 by_state.1;
      label = range-contains (layers.labels object by_state.0) by_label.0 by_label.1;
    })

-- a cell of objects of which two are none
pub record IsCellBeside (layers : Layers) (tail head : ℕ) (x : Layer) : Type 0 where
  pub no_tail : x.object ≢ tail
  pub no_head : x.object ≢ head
  pub state : x.state < layers.states

pub cell-beside : (layers : Layers) (tail head : ℕ) (rest : List ℕ) (x : Layer) → (Contains rest tail → ⊥) → (Contains rest head → ⊥)
    → Contains (flat_map (object_cells layers) rest) x → IsCellBeside layers tail head x
cell-beside layers tail head rest x tail_gone head_gone has =
    let found = Contains-flattened (object_cells layers) rest x has in
    let is = cell-of layers found.0 x found.2 in
    record {
      no_tail = λ same. tail_gone (subst (λ o. Contains rest o) (sym is.object_is ∙ same) found.1);
      no_head = λ same. head_gone (subst (λ o. Contains rest o) (sym is.object_is ∙ same) found.1);
      state = is.state;
    }

module _ (p : ℕ) (layers : Layers) (tail head c : ℕ) (rest : List ℕ) (field : HasInverses p)
    (small : (x y : Layer) → layer_coefficient layers x y < p)
    (listed : AreListed (λ (o : ℕ). o) layers.objects (tail ∷ head ∷ rest))
    (tail_gone : Contains rest tail → ⊥) (head_gone : Contains rest head → ⊥) (times : IsTimesIdentity layers tail head c) where
  abbrev pub pair_of : ℕ → ℕ → Layer × Layer
  pair_of state label = (layer_of tail state label, layer_of head state label)

  abbrev pub pairs_at : ℕ → List (Layer × Layer)
  pairs_at state = map (pair_of state) (range_with_len 0 (layers.labels tail state))

  abbrev pub pairs : List (Layer × Layer)
  pairs = flat_map pairs_at (range_with_len 0 layers.states)

  abbrev pub others : List Layer
  others = flat_map (object_cells layers) rest

  positive : 0 < p
  positive = omega (arith, field.above_one)

  -- the pairs
  pub record IsPairAt (pair : Layer × Layer) : Type 0 where
    pub state : ℕ
    pub label : ℕ
    pub state_below : state < layers.states
    pub label_below : label < layers.labels tail state
    pub is : pair ≡ pair_of state label

  pub pair-at : (pair : Layer × Layer) → Contains pairs pair → IsPairAt pair
  pair-at pair has =
      let by_state = Contains-flattened pairs_at (range_with_len 0 layers.states) pair has in
      let by_label = Contains-made (pair_of by_state.0) (range_with_len 0 (layers.labels tail by_state.0)) pair by_state.2 in
      record {
        state = by_state.0;
        label = by_label.0;
        state_below = range-contains layers.states by_state.0 by_state.1;
        label_below = range-contains (layers.labels tail by_state.0) by_label.0 by_label.1;
        is = sym by_label.2;
      }

  once-pairs : HasNoDoubles pairs
  once-pairs =
      once-flat pairs_at (range_with_len 0 layers.states) (once-range 0 layers.states)
      (λ state. once-map (pair_of state) (range_with_len 0 (layers.labels tail state)) (λ x y same. ap (λ (q : Layer × Layer). q.0.label) same)
      (once-range 0 (layers.labels tail state)))
      (λ s t pair first second.
      let x = Contains-made (pair_of s) (range_with_len 0 (layers.labels tail s)) pair first in
      let y = Contains-made (pair_of t) (range_with_len 0 (layers.labels tail t)) pair second in
      ap (λ (q : Layer × Layer). q.0.state) (x.2 ∙ sym y.2))

  pub pivots : ArePivots (layer_coefficient layers) pairs
  pivots =
      pivots-without_doubles (layer_coefficient layers) pairs once-pairs
      (λ pair has.
      let at = pair-at pair has in
      λ none. times.some
      (sym (times.equal at.state at.label at.state_below at.label_below)
      ∙ sym (inside-state layers (layer_of tail at.state at.label) (layer_of head at.state at.label) refl)
      ∙ ap (λ (q : Layer × Layer). layer_coefficient layers q.0 q.1) (sym at.is) ∙ none))
      (λ pair other has has_other differ.
      let at = pair-at pair has in
      let to = pair-at other has_other in
      let x = layer_of tail at.state at.label in
      let y = layer_of head to.state to.label in
      ap₂ (λ (q r : Layer × Layer). layer_coefficient layers q.0 r.1) at.is to.is
      ∙ elim (cases_eq at.state to.state) [
        | inr elsewhere ↦ nowhere layers x y elsewhere times.objects_differ
        | inl same ↦
            inside-state layers x y same
            ∙ times.others at.state at.label to.label at.state_below at.label_below
            (subst (λ s. to.label < layers.labels tail s) (sym same) to.label_below)
            (λ labels. differ (at.is ∙ ap₂ pair_of same labels ∙ sym to.is))
      ])

  -- the list of cells
  tails-listed : map (λ (q : Layer × Layer). q.0) pairs ≡ object_cells layers tail
  tails-listed = grind (arith, nat_tests, map-flat_map, flat_map-range, map-map)

  heads-listed : map (λ (q : Layer × Layer). q.1) pairs ≡ object_cells layers head
  heads-listed = grind (arith, nat_tests, map-flat_map, flat_map-range, map-map)

  pub cells-listed : AreListed (λ (x : Layer). x) (flat_map (object_cells layers) layers.objects) (all_of pairs others)
  cells-listed =
      subst (λ zs. AreListed (λ (x : Layer). x) (flat_map (object_cells layers) layers.objects) zs)
      (ap₂ (λ us vs. us ++ (vs ++ others)) (sym tails-listed) (sym heads-listed))
      (listed-flat (λ (o : ℕ). o) (λ (x : Layer). x) (object_cells layers) (object_cells layers) layers.objects (tail ∷ head ∷ rest) listed
      (λ o has. listed-same (object_cells layers o)))

  -- ways back to and from cells of other objects
  way-elsewhere : (x y : Layer) (state label : ℕ) → IsCellBeside layers tail head x → x.state ≢ state
      → way_back p (layer_coefficient layers) x y (pair_of state label) ≡ 0
  way-elsewhere x y state label x_is other = grind (arith, nat_tests)

  way-apart : (x y : Layer) (state label : ℕ) → IsCellBeside layers tail head x → IsCellBeside layers tail head y → x.state ≢ y.state
      → way_back p (layer_coefficient layers) x y (pair_of state label) ≡ 0
  way-apart x y state label x_is y_is differ = grind (arith, nat_tests)

  way-there : (x y : Layer) (label : ℕ) → x.state < layers.states → x.state ≡ y.state → label < layers.labels tail x.state
      → way_back p (layer_coefficient layers) x y (pair_of x.state label)
      ≡ layers.inner x.object head x.state x.label label * (inverse p c * layers.inner tail y.object x.state label y.label)
  way-there x y label state_below same label_below = grind (arith, nat_tests)

  -- by states
  ways-by_state : (x y : Layer) → sum_by (way_back p (layer_coefficient layers) x y) pairs
      ≡ sum_by (λ state. sum_by (λ label. way_back p (layer_coefficient layers) x y (pair_of state label))
      (range_with_len 0 (layers.labels tail state))) (range_with_len 0 layers.states)
  ways-by_state x y = grind (arith, nat_tests, sum_by-flat_map, sum_by-range_alike, sum_by-map)

  pub eliminated-layers : (x y : Layer) → IsCellBeside layers tail head x → IsCellBeside layers tail head y
      → eliminated p (layer_coefficient layers) pairs x y ≡ layer_coefficient (layers_left p layers tail head c rest) x y
  eliminated-layers x y x_is y_is = elim (cases_eq x.state y.state) [
    | inl same ↦
        let at = λ (state : ℕ). sum_by (λ label. way_back p (layer_coefficient layers) x y (pair_of state label))
        (range_with_len 0 (layers.labels tail state)) in
        ap₂ (minus_mod p) (inside-state layers x y same)
        (ways-by_state x y
        ∙ sum_by-single at 0 layers.states x.state (omega arith) (omega (arith, x_is.state))
        (λ state from below other.
        sum_by-zeros (λ label. way_back p (layer_coefficient layers) x y (pair_of state label))
        (range_with_len 0 (layers.labels tail state)) (λ label. way-elsewhere x y state label x_is (λ is. other (sym is))))
        ∙ sum_by-range_alike (λ label. way_back p (layer_coefficient layers) x y (pair_of x.state label))
        (λ label. layers.inner x.object head x.state x.label label * (inverse p c * layers.inner tail y.object x.state label y.label))
        0 (layers.labels tail x.state)
        (λ label from below. way-there x y label x_is.state same (omega (arith, below))))
        ∙ sym (inside-state (layers_left p layers tail head c rest) x y same)
    | inr differ ↦
        let at = λ (state : ℕ). sum_by (λ label. way_back p (layer_coefficient layers) x y (pair_of state label))
        (range_with_len 0 (layers.labels tail state)) in
        ap (minus_mod p (layer_coefficient layers x y))
        (ways-by_state x y
        ∙ sum_by-zeros at (range_with_len 0 layers.states)
        (λ state. sum_by-zeros (λ label. way_back p (layer_coefficient layers) x y (pair_of state label))
        (range_with_len 0 (layers.labels tail state)) (λ label. way-apart x y state label x_is y_is differ)))
        ∙ minus-nothing p (layer_coefficient layers x y) (small x y)
        ∙ elsewhere layers x y differ ∙ sym (elsewhere (layers_left p layers tail head c rest) x y differ)
  ]

  pub below-left : (x y : Layer) → layer_coefficient (layers_left p layers tail head c rest) x y < p
  below-left x y = grind (arith, nat_tests)

  alike-left : AreAlike p (λ (x : Layer). x) (λ (x : Layer). 1) (cells_left p (cells_of layers) pairs others)
      (cells_of (layers_left p layers tail head c rest))
  alike-left =
      record {
        listed = listed-same others;
        squares = λ x has. refl;
        homological = λ x has. refl;
        quantum = λ x has. refl;
        coefficient = λ x y has_x has_y.
            let d = layer_coefficient (layers_left p layers tail head c rest) x y in
            same-equal p (eliminated p (layer_coefficient layers) pairs x y) (1 * (1 * d))
            (eliminated-layers x y (cell-beside layers tail head rest x tail_gone head_gone has_x)
            (cell-beside layers tail head rest y tail_gone head_gone has_y) ∙ once d);
      }
    where
      once : (n : ℕ) → n ≡ 1 * (1 * n)
      once n = omega arith

-- so where the layers are a complex, what is left is one, with the same dimensions
module _ (p : ℕ) (layers : Layers) (tail head c : ℕ) (rest : List ℕ) (field : HasInverses p)
    (complex : AreComplex p (cells_of layers)) (listed : AreListed (λ (o : ℕ). o) layers.objects (tail ∷ head ∷ rest))
    (tail_gone : Contains rest tail → ⊥) (head_gone : Contains rest head → ⊥) (times : IsTimesIdentity layers tail head c) where
  abbrev cancelled : List (Layer × Layer)
  cancelled = pairs p layers tail head c rest field complex.below listed tail_gone head_gone times

  abbrev kept : List Layer
  kept = others p layers tail head c rest field complex.below listed tail_gone head_gone times

  all-listed : AreListed (λ (x : Layer). x) (cells_of layers).list (all_of cancelled kept)
  all-listed = cells-listed p layers tail head c rest field complex.below listed tail_gone head_gone times

  complex-between : AreComplex p (cells_left p (cells_of layers) cancelled kept)
  complex-between =
      complex-left_any p (cells_of layers) cancelled kept field complex all-listed
      (pivots p layers tail head c rest field complex.below listed tail_gone head_gone times)

  pub complex-layers : AreComplex p (cells_of (layers_left p layers tail head c rest))
  complex-layers =
      complex-alike p (λ (x : Layer). x) (λ (x : Layer). 1) (cells_left p (cells_of layers) cancelled kept)
      (cells_of (layers_left p layers tail head c rest))
      (alike-left p layers tail head c rest field complex.below listed tail_gone head_gone times)
      (below-left p layers tail head c rest field complex.below listed tail_gone head_gone times) complex-between

  pub dimension-layers : (i j : ℤ)
      → dimension_at p (cells_of (layers_left p layers tail head c rest)) i j ≡ dimension_at p (cells_of layers) i j
  dimension-layers i j =
      dimension-alike p (λ (x : Layer). x) (λ (x : Layer). 1) (cells_left p (cells_of layers) cancelled kept)
      (cells_of (layers_left p layers tail head c rest))
      (alike-left p layers tail head c rest field complex.below listed tail_gone head_gone times) field complex-between.below
      (below-left p layers tail head c rest field complex.below listed tail_gone head_gone times) i j
      ∙ dimension-left_any p (cells_of layers) cancelled kept field complex all-listed
      (pivots p layers tail head c rest field complex.below listed tail_gone head_gone times) i j
