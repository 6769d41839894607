-- Layers of a code before and after a slide: three inner crossings, and the kinds of their states before and after. What two eliminations
-- leave of layers that are cut.
use Rattle.std.specs.Prelude.{◌≡◌, ◌≢◌, ℕ, ◌+◌, ◌-◌, ◌^◌, ◌<◌, ℤ, List, [], ◌∷◌, nat_eq, Bool, not, ◌&&◌, ◌||◌, if◌then◌else◌, slice_index}
use Rattle.std.specs.List.{Contains, filter, range_with_len}
use Rattle.kh_types.specs.Bits.{ones}
use Rattle.kh_types.specs.Residues.{Same}
use Rattle.cell_laws.specs.Cells.{AreComplex, dimension_at}
use Rattle.cell_laws.specs.Layers.{Layers, cells_of, layer_of}
use Rattle.layer_laws.specs.Cuts.{IsTimes, is_step, ones_before}
use Rattle.cell_laws.specs.Signs.{sign_of_power}

-- what is left when the circle's state with v+ goes with a state above it, and a state below it with the circle's state with v-
abbrev pub is_left : ℕ → ℕ → ℕ → ℕ → Bool
is_left closing above below t = not (nat_eq t closing) && (not (nat_eq t above) && not (nat_eq t below))

abbrev pub left_objects : ℕ → ℕ → ℕ → ℕ → List ℕ
left_objects k closing above below = filter (is_left closing above below) (range_with_len 0 (2 ^ k))

-- a way from one of these to another leads to the state above, back to the closing one with v+, and on
abbrev pub goes_above : ℕ → ℕ → ℕ → ℕ → ℕ → Bool
goes_above k closing above tail head = is_step k tail above && is_step k closing head

-- or to the closing one with v-, back to the state below, and on
abbrev pub goes_below : ℕ → ℕ → ℕ → ℕ → ℕ → Bool
goes_below k closing below tail head = is_step k tail closing && is_step k below head

-- so the coefficient from one to another is 0, but along an edge or one such way
abbrev pub is_joined : ℕ → ℕ → ℕ → ℕ → ℕ → ℕ → Bool
is_joined k closing above below tail head =
    is_step k tail head || (goes_above k closing above tail head || goes_below k closing below tail head)

-- it has the sign of -1 to this power: the edge's; or of the three edges of the way, and one more for what is taken off
abbrev pub left_power : ℕ → ℕ → ℕ → ℕ → ℕ → ℕ → ℕ
left_power k closing above below tail head =
    if is_step k tail head then ones_before k tail head
    else if goes_above k closing above tail head
    then 1 + (ones_before k tail above + (ones_before k closing above + ones_before k closing head))
    else 1 + (ones_before k tail closing + (ones_before k below closing + ones_before k below head))

abbrev pub left_number : ℕ → ℕ → ℕ → ℕ → ℕ → ℕ → ℕ → ℕ
left_number p k closing above below tail head =
    if is_joined k closing above below tail head then sign_of_power p (left_power k closing above below tail head) else 0

-- with three inner crossings: a state above the closing one, and a state below it
abbrev pub above_of : ℕ → ℕ
above_of closing = slice_index (0 ∷ 3 ∷ 3 ∷ 7 ∷ 5 ∷ 7 ∷ 7 ∷ []) closing

abbrev pub below_of : ℕ → ℕ
below_of closing = slice_index (0 ∷ 0 ∷ 0 ∷ 1 ∷ 0 ∷ 1 ∷ 2 ∷ []) closing

-- what is left of layers that are cut at three crossings: five objects, with these numbers times the saddles of their kinds; all else is as
-- it was, and so are the dimensions
pub record AreFiveLeft (p closing : ℕ) (kind : ℕ → ℕ) (saddle : ℕ → ℕ → ℕ → ℕ → ℕ → ℕ) (layers left : Layers) : Type 0 where
  pub complex : AreComplex p (cells_of left)
  pub objects : left.objects ≡ left_objects 3 closing (above_of closing) (below_of closing)
  pub states : left.states ≡ layers.states
  pub labels : left.labels ≡ layers.labels
  pub homological : left.homological ≡ layers.homological
  pub quantum : left.quantum ≡ layers.quantum
  pub outer : left.outer ≡ layers.outer
  pub entries : (x y : ℕ) → Contains left.objects x → Contains left.objects y
      → IsTimes p left x y (left_number p 3 closing (above_of closing) (below_of closing) x y) (saddle (kind x) (kind y))
  pub dimensions : (i j : ℤ) → dimension_at p (cells_of left) i j ≡ dimension_at p (cells_of layers) i j

-- the kind of an inner state of a bigon: the state opposite the closing one has a kind of its own, and the others have one
abbrev pub kind_of_bigon : ℕ → ℕ → ℕ
kind_of_bigon closing t = if nat_eq t (3 - closing) then 1 else 0

-- an inner state is the closing one, or is one edge from it
abbrev pub is_near : ℕ → ℕ → Bool
is_near closing t = nat_eq t closing || (is_step 3 t closing || is_step 3 closing t)

-- the kind of an inner state before a slide: the closing state and its neighbours have one kind, and each other state its own
abbrev pub kind_before : ℕ → ℕ → ℕ
kind_before closing t = if is_near closing t then closing else t

-- and after it: the closing state and its neighbours have the kind that the state opposite had, and this has theirs
abbrev pub kind_after : ℕ → ℕ → ℕ
kind_after closing t = if is_near closing t then 7 - closing else if nat_eq t (7 - closing) then closing else t

-- the degrees of the objects where nothing closes, and their coefficients between outer states, depend on their numbers of ones and their
-- kinds
pub record IsMeasured (p closing : ℕ) (kind : ℕ → ℕ) (height : ℕ → ℕ → ℤ) (weight : ℕ → ℕ → ℕ → ℕ → ℤ)
    (between : ℕ → ℕ → ℕ → ℕ → ℕ → ℕ → ℕ) (layers : Layers) : Type 0 where
  pub homological : (t state label : ℕ) → t < 8 → t ≢ closing → state < layers.states → label < layers.labels t state
      → layers.homological (layer_of t state label) ≡ height (ones 3 t) state
  pub quantum : (t state label : ℕ) → t < 8 → t ≢ closing → state < layers.states → label < layers.labels t state
      → layers.quantum (layer_of t state label) ≡ weight (ones 3 t) (kind t) state label
  pub outer : (t state next label other : ℕ) → t < 8 → t ≢ closing → state < layers.states → next < layers.states → state ≢ next
      → label < layers.labels t state → other < layers.labels t next
      → Same p (layers.outer t state next label other) (between (ones 3 t) (kind t) state next label other)
