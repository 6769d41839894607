-- The edges of the cube that a pairing and the crossings still to come make: what merges or splits, and the coefficient.
use Rattle.std.specs.Prelude.{◌≡◌, ◌≢◌, ◌⊎◌, ℕ, zero, suc, ◌++◌, slice_index, ◌-◌, ◌*◌, ◌<◌, List, [], ◌∷◌, length, map, nat_eq, Bool, ◌&&◌, ◌||◌, if◌then◌else◌, slice_index_or}
use Rattle.std.specs.List.{filter, list_all, list_any, range_with_len, Contains}
use Rattle.std.specs.Str.{bytes_eq}
use Rattle.kh_types.specs.Bits.{bit}
use Rattle.kh_types.specs.Classes.{classes_of}
use Rattle.kh_types.specs.Code.{Code, arc_in}
use Rattle.kh_types.specs.Differential.{is_merge, is_split}
use Rattle.kh_types.specs.Edges.{is_other}
use Rattle.kh_types.specs.Darts.{HasArcsTwice}
use Rattle.genus_laws.specs.CutCodes.{outer_smoothings}
use Rattle.added_crossing_laws.specs.Pairings.{IsPairingOf}
use Rattle.added_crossing_laws.specs.Codes.{points_at, pairing_behind, circles_before, circle_before}

-- a circle of a pairing, a smoothing of the crossing and what a state joins after it is touched where an arc at the crossing is on it
abbrev pub is_touched_at : Code → ℕ → ℕ → ℕ → List (ℕ × ℕ) → ℕ → Bool
is_touched_at code k smoothing state m circle =
    list_any
    (λ slot. nat_eq (circle_before code k smoothing state m (arc_in (slice_index_or code.crossings k []) slot)) circle)
    (range_with_len 0 4)

-- the circles that the crossing touches, by their least arcs
abbrev pub touched_at : Code → ℕ → ℕ → ℕ → List (ℕ × ℕ) → List ℕ
touched_at code k smoothing state m =
    filter (is_touched_at code k smoothing state m) (circles_before code k smoothing state m)

-- every circle that is not touched has the same label after the edge
abbrev pub keeps_labels_at : Code → ℕ → ℕ → List (ℕ × ℕ) → (ℕ → ℕ) → (ℕ → ℕ) → Bool
keeps_labels_at code k state m label other_label =
    list_all (λ circle. is_touched_at code k 0 state m circle || nat_eq (label circle) (other_label circle))
    (circles_before code k 0 state m)

-- the labels of the touched circles are a row of the merge table or of the split table
abbrev pub changes_labels_at : Code → ℕ → ℕ → List (ℕ × ℕ) → (ℕ → ℕ) → (ℕ → ℕ) → Bool
changes_labels_at code k state m label other_label =
    let labels = map label (touched_at code k 0 state m) in
    let others = map other_label (touched_at code k 1 state m) in
    is_merge labels others || is_split labels others

-- the coefficient along the edge from the 0-smoothing of the crossing to its 1-smoothing, without its sign (Bar-Natan 2002): for a pairing
-- in place of the crossings before
abbrev pub edge_at : Code → ℕ → ℕ → List (ℕ × ℕ) → (ℕ → ℕ) → (ℕ → ℕ) → ℕ
edge_at code k state m label other_label =
    if keeps_labels_at code k state m label other_label && changes_labels_at code k state m label other_label then 1 else 0

-- the number of a change of labels: the merge table has a row more, v- and v- to h times v-, and so has the split table, v+ to minus times v+
-- and v+ (Bar-Natan 2005)
abbrev pub changed : ℕ → ℕ → List ℕ → List ℕ → ℕ
changed h minus labels others =
    if is_merge labels others || is_split labels others then 1
    else (if bytes_eq labels (1 ∷ 1 ∷ []) && bytes_eq others (1 ∷ []) then h
    else (if bytes_eq labels (0 ∷ []) && bytes_eq others (0 ∷ 0 ∷ []) then minus else 0))

-- and the coefficient with these rows
abbrev pub edge_with : ℕ → ℕ → Code → ℕ → ℕ → List (ℕ × ℕ) → (ℕ → ℕ) → (ℕ → ℕ) → ℕ
edge_with h minus code k state m label other_label =
    if keeps_labels_at code k state m label other_label
    then changed h minus (map label (touched_at code k 0 state m)) (map other_label (touched_at code k 1 state m)) else 0

-- from one smoothing of the crossing to the other two circles become one, which has the name of the one that is kept: they are those
-- that the crossing touches before, and it is what it touches after; the other name is gone, and every other circle keeps its name
-- and its arcs and loops
pub record TwoBecomeOneAt (code : Code) (k state : ℕ) (m : List (ℕ × ℕ)) (first second kept gone : ℕ) : Type 0 where
  pub order : kept < gone
  pub touched_first : touched_at code k first state m ≡ kept ∷ gone ∷ []
  pub touched_second : touched_at code k second state m ≡ kept ∷ []
  pub names : circles_before code k second state m ≡ filter (is_other gone) (circles_before code k first state m)
  pub one : (arc : ℕ) → Contains (points_at code k).alive arc → circle_before code k first state m arc ≡ gone
      → circle_before code k second state m arc ≡ kept
  pub others : (arc : ℕ) → Contains (points_at code k).alive arc → circle_before code k first state m arc ≢ gone
      → circle_before code k second state m arc ≡ circle_before code k first state m arc

-- along the edge from the 0-smoothing to the 1-smoothing two circles become one, or one becomes two
abbrev pub MergesOrSplitsAt : Code → ℕ → ℕ → List (ℕ × ℕ) → Type 0
MergesOrSplitsAt code k state m =
    (kept : ℕ) × (gone : ℕ) × (TwoBecomeOneAt code k state m 0 1 kept gone ⊎ TwoBecomeOneAt code k state m 1 0 kept gone)

-- a pairing of the open arcs after the first k crossings of a code, where another crossing comes
pub record IsPairedAt (code : Code) (k : ℕ) (m : List (ℕ × ℕ)) : Type 0 where
  pub twice : HasArcsTwice code.crossings
  pub crossing : k < length code.crossings
  pub paired : IsPairingOf (points_at code k).opened m

-- the labels are 0 for v+ and 1 for v-
pub record AreBits (label other_label : ℕ → ℕ) : Type 0 where
  pub first_bit : (x : ℕ) → label x < 2
  pub second_bit : (x : ℕ) → other_label x < 2

-- the marks at the circles after an edge: v+ has a hollow dot
abbrev pub opposite : (ℕ → ℕ) → ℕ → ℕ
opposite label x = 2 * (1 - label x)

-- the pairing that a state makes of the open arcs after the first k crossings: one crossing after another is added with its smoothing
abbrev pub pairing_of : Code → ℕ → ℕ → List (ℕ × ℕ)
pairing_of code state zero = []
pairing_of code state (suc k) = pairing_behind code k (bit state k) (pairing_of code state k)

-- the circle of an arc in this pairing and what the state joins at the crossings still to come
abbrev pub circle_with : Code → ℕ → List (ℕ × ℕ) → ℕ → ℕ → ℕ
circle_with code state m k x = slice_index (classes_of (points_at code k).size (m ++ outer_smoothings code.crossings state k)) x
