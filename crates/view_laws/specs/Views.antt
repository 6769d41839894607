-- Views of a code: names of arcs and loops, through which its states' circles are seen, and circles that close inside.
use Rattle.std.specs.Prelude.{◌≡◌, ◌≢◌, ◌⊎◌, ℕ, ◌*◌, ◌+◌, ◌%◌, ◌^◌, ◌<◌, ◌≤◌, List, [], length, nat_eq, Bool}
use Rattle.std.specs.List.{Contains}
use Rattle.kh_types.specs.Bits.{bit}
use Rattle.kh_types.specs.Code.{Code, IsCrossing, place_of}
use Rattle.kh_types.specs.Circles.{circles_of, circle_of}
use Rattle.kh_types.specs.CircleNumbers.{IsName}
use Rattle.kh_types.specs.Edges.{MergesOrSplits}
use Rattle.cell_laws.specs.Alike.{HasNoDoubles}
use Rattle.view_laws.specs.Partitions.{AgreeOn}

-- a view of a code: how many of its crossings, the first ones, are inner ones; names, each of an arc or a loop of the code; and for
-- each state of the inner crossings an arc or a loop of each circle that closes inside
pub record View : Type 0 where
  pub inner : ℕ
  pub names : List ℕ
  pub arc : ℕ → ℕ
  pub closed : ℕ → List ℕ

-- the state of all crossings, by that of the inner ones and that of the others
abbrev pub joint_state : View → ℕ → ℕ → ℕ
joint_state view inside outside = inside + 2 ^ view.inner * outside

-- the circle of an arc or a loop at a state
abbrev pub circle_at : Code → ℕ → ℕ → ℕ
circle_at code state arc = circle_of (circles_of code state) arc

-- two arcs or loops are on one circle of a state
abbrev pub AreTogether : Code → ℕ → ℕ → ℕ → Type 0
AreTogether code state x y = circle_at code state x ≡ circle_at code state y

-- two names are together at a state where their arcs are on one circle
abbrev pub together : Code → View → ℕ → ℕ → ℕ → Bool
together code view state x y = nat_eq (circle_at code state (view.arc x)) (circle_at code state (view.arc y))

-- what closes inside, at a state of all crossings
abbrev pub closed_at : View → ℕ → List ℕ
closed_at view state = view.closed (state % 2 ^ view.inner)

-- the circle of an arc or a loop shows in a name
abbrev pub ShowsIn : Code → View → ℕ → ℕ → Type 0
ShowsIn code view state arc =
    (x : ℕ) × Contains view.names x × (circle_at code state (view.arc x) ≡ circle_at code state arc)

-- or it closes inside
abbrev pub Closes : Code → View → ℕ → ℕ → Type 0
Closes code view state arc =
    (z : ℕ) × Contains (closed_at view state) z × (circle_at code state z ≡ circle_at code state arc)

-- a view is one of a code where its names differ, and are those of arcs and loops; and where at each state of the inner crossings at
-- most one circle closes, such that at every state every circle shows in a name or closes inside, and none does both
pub record IsView (code : Code) (view : View) : Type 0 where
  pub fits : view.inner ≤ length code.crossings
  pub once : HasNoDoubles view.names
  pub arcs : (x : ℕ) → Contains view.names x → IsName code (view.arc x)
  pub closed_arcs : (inside z : ℕ) → inside < 2 ^ view.inner → Contains (view.closed inside) z → IsName code z
  pub few : (inside : ℕ) → inside < 2 ^ view.inner → length (view.closed inside) ≤ 1
  pub shows : (state arc : ℕ) → state < 2 ^ length code.crossings → IsName code arc
      → ShowsIn code view state arc ⊎ Closes code view state arc
  pub apart : (state z x : ℕ) → state < 2 ^ length code.crossings → Contains (closed_at view state) z → Contains view.names x
      → circle_at code state z ≢ circle_at code state (view.arc x)

-- along every edge of a code's cube two circles become one, or one becomes two: so it is in accepted codes
abbrev pub HasSaddles : Code → Type 0
HasSaddles code =
    (state crossing : ℕ) → IsCrossing code.crossings crossing → bit state (place_of crossing) ≡ 0 → MergesOrSplits code state crossing

-- what is needed of a code: the circle of an arc or a loop is named by one of its arcs or loops, and edges merge or split: so it is in
-- accepted codes
pub record HasCircles (code : Code) : Type 0 where
  pub named : (state arc : ℕ) → IsName code arc → IsName code (circle_at code state arc)
  pub own : (state arc : ℕ) → IsName code arc → circle_at code state (circle_at code state arc) ≡ circle_at code state arc
  pub saddles : HasSaddles code

-- two views see the same of two states, of one code or of two: on the names of the first, which are those of the second too, they have
-- the same names together
abbrev pub SeeAlike : Code → View → ℕ → Code → View → ℕ → Type 0
SeeAlike code view state other_code other_view other_state =
    AgreeOn view.names (together code view state) (together other_code other_view other_state)

-- a step of the inner crossings: from one state of them to another that has a 1 more, at one place
pub record IsInnerStep (view : View) (t u i : ℕ) : Type 0 where
  pub place : i < view.inner
  pub inside : t < 2 ^ view.inner
  pub zero_there : bit t i ≡ 0
  pub behind : u ≡ t + 2 ^ i

-- a view without inner crossings
abbrev pub plain_view : List ℕ → (ℕ → ℕ) → View
plain_view names arc = record { inner = 0; names = names; arc = arc; closed = λ inside. [] }

-- it is one of a code where its names differ, are those of arcs and loops, and show each circle
pub record IsPlain (code : Code) (names : List ℕ) (arc : ℕ → ℕ) : Type 0 where
  pub once : HasNoDoubles names
  pub arcs : (x : ℕ) → Contains names x → IsName code (arc x)
  pub shows : (state other : ℕ) → state < 2 ^ length code.crossings → IsName code other
      → (x : ℕ) × Contains names x × (circle_at code state (arc x) ≡ circle_at code state other)
