-- The row of a drawing: the open darts of one face, in their order round it.
use Rattle.std.specs.Prelude.{◌≡◌, ◌≢◌, ℕ, ◌⊎◌, ◌+◌, ◌*◌, ◌/◌, ◌%◌, ◌<◌, List, [], ◌∷◌}
use Rattle.std.specs.List.{AllByRecursion}
use Rattle.kh_types.specs.Darts.{IsPairing, face_step}
use Rattle.face_walk.specs.AddedArcs.{IsPart}

-- f leads from x through the numbers of a list to y, one step at a time
abbrev pub IsWay : (ℕ → ℕ) → ℕ → List ℕ → ℕ → Type 0
IsWay f x [] y = f x ≡ y
IsWay f x (z ∷ zs) y = (f x ≡ z) × IsWay f z zs y

-- face steps lead from one dart to another, and all darts between have arcs
pub record IsLink (n : ℕ) (partner : ℕ → ℕ) (dart next : ℕ) : Type 0 where
  pub between : List ℕ
  pub way : IsWay (face_step partner) dart between next
  pub closed : AllByRecursion (λ z. (z < 4 * n) × (partner z ≢ z)) between

-- from a dart at the right of a list each leads to its left neighbour, and the last to a dart at the left of the list
abbrev pub AreLinked : ℕ → (ℕ → ℕ) → ℕ → List ℕ → ℕ → Type 0
AreLinked n partner left [] right = IsLink n partner right left
AreLinked n partner left (z ∷ zs) right = IsLink n partner z left × AreLinked n partner z zs right

-- each dart of a list leads to its left neighbour, and the first to the last
abbrev pub AreRound : ℕ → (ℕ → ℕ) → List ℕ → Type 0
AreRound n partner [] = Unit {0}
AreRound n partner (x ∷ xs) = AreLinked n partner x xs x

-- no number stands twice
abbrev pub AreDifferent : List ℕ → Type 0
AreDifferent [] = Unit {0}
AreDifferent (x ∷ xs) = AllByRecursion (λ z. z ≢ x) xs × AreDifferent xs

-- a number stands in a list
abbrev pub IsIn : ℕ → List ℕ → Type 0
IsIn y [] = ⊥
IsIn y (x ∷ xs) = (y ≡ x) ⊎ IsIn y xs

-- the open darts of one face, each once, from left to right against the face steps
pub record IsDartRow (n : ℕ) (partner : ℕ → ℕ) (row : List ℕ) : Type 0 where
  pub round : AreRound n partner row
  pub are_open : AllByRecursion (λ z. (z < 4 * n) × (partner z ≡ z)) row
  pub once : AreDifferent row

-- the dart at the slot after, round the same crossing
abbrev pub turned_back : ℕ → ℕ
turned_back dart = 4 * (dart / 4) + (dart % 4 + 1) % 4

-- the other three darts of a crossing, in the order of the slots after the given one
abbrev pub other_three : ℕ → List ℕ
other_three dart = turned_back dart ∷ turned_back (turned_back dart) ∷ turned_back (turned_back (turned_back dart)) ∷ []

-- a drawing under way: some arcs of the whole are closed and some crossings are drawn. The row has the open darts of the drawn
-- crossings, and the others are bare
pub record IsDrawing (n : ℕ) (part whole : ℕ → ℕ) (drawn row : List ℕ) : Type 0 where
  pub is_partner : IsPairing (4 * n) part
  pub is_part : IsPart (4 * n) part whole
  pub is_row : IsDartRow n part row
  pub at_drawn : AllByRecursion (λ z. IsIn (z / 4) drawn) row
  pub all_open : (x : ℕ) → x < 4 * n → part x ≡ x → IsIn (x / 4) drawn → IsIn x row
  pub others_bare : (x : ℕ) → x < 4 * n → (IsIn (x / 4) drawn → ⊥) → part x ≡ x
