-- What an edge of the cube does to circles.
use Rattle.std.specs.Prelude.{◌≡◌, ◌≢◌, ◌⊎◌, ℕ, ◌+◌, ◌^◌, ◌<◌, [], ◌∷◌, Bool, not, nat_eq}
use Rattle.std.specs.List.{filter}
use Rattle.kh_types.specs.Code.{Code, arc_in, place_of, slots_of}
use Rattle.kh_types.specs.Circles.{circles_of, circle_of, circle_names, circle_count}
use Rattle.kh_types.specs.Differential.{touched}
use Rattle.kh_types.specs.Permutations.{AreJoined}

-- the state behind an edge: at the crossing it has the 1-smoothing, where the state before the edge has the 0-smoothing
abbrev pub state_behind : ℕ → ℕ → ℕ
state_behind state crossing = state + 2 ^ place_of crossing

-- the arc at a slot of a crossing
abbrev pub arc_at_slot : Code → ℕ → ℕ → ℕ
arc_at_slot code crossing slot = arc_in (slots_of code.crossings crossing) slot

-- along an edge the circles at the slots 0 and 2 of the crossing, the ends of its under pass, are joined, forwards or backwards
abbrev pub JoinsOrParts : Code → ℕ → ℕ → Type 0
JoinsOrParts code state crossing =
    let before = circles_of code state in
    let behind = circles_of code (state_behind state crossing) in
    let x = arc_at_slot code crossing 0 in
    let y = arc_at_slot code crossing 2 in
    AreJoined before behind x y ⊎ AreJoined behind before x y

-- whether a name is another than the one that is gone
abbrev pub is_other : ℕ → ℕ → Bool
is_other gone name = not (nat_eq name gone)

-- from one state to another two circles become one at a crossing, which has the name of the one that is kept: they are the circles
-- that the crossing touches before, and their one circle is what it touches after; the other name is gone, and every other circle
-- keeps its name, its arcs and its loops
pub record TwoBecomeOne (code : Code) (before after crossing kept gone : ℕ) : Type 0 where
  pub order : kept < gone
  pub touched_before : touched code before crossing ≡ kept ∷ gone ∷ []
  pub touched_after : touched code after crossing ≡ kept ∷ []
  pub names : circle_names code after ≡ filter (is_other gone) (circle_names code before)
  pub count : circle_count code before ≡ circle_count code after + 1
  pub one : (arc : ℕ) → circle_of (circles_of code before) arc ≡ gone → circle_of (circles_of code after) arc ≡ kept
  pub others : (arc : ℕ) → circle_of (circles_of code before) arc ≢ gone
      → circle_of (circles_of code after) arc ≡ circle_of (circles_of code before) arc

-- along an edge two circles become one, or one becomes two
abbrev pub MergesOrSplits : Code → ℕ → ℕ → Type 0
MergesOrSplits code state crossing =
    let behind = state_behind state crossing in
    (kept : ℕ) × (gone : ℕ)
    × (TwoBecomeOne code state behind crossing kept gone ⊎ TwoBecomeOne code behind state crossing kept gone)
