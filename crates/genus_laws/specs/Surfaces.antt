-- Pairings of open points, and the surfaces of two pairings and of what is joined outside.
use Rattle.std.specs.Prelude.{◌≡◌, ℕ, ◌+◌, ◌<◌, List, ◌++◌, Bool, true, false, not, ◌&&◌, ◌||◌}
use Rattle.kh_types.specs.Classes.{classes_of, is_least, Respects, AreBelow}
use Rattle.genus_laws.specs.Orbits.{count_in, parts_in}

-- pairs lead from the points below n of one kind to those of another, one to one: what has one value at the two points of each pair
-- has one value at each point of the first kind and at the next, and the other way round
pub record Lead (n : ℕ) (from to : ℕ → Bool) (pairs : List (ℕ × ℕ)) : Type 0 where
  pub next : ℕ → ℕ
  pub back : ℕ → ℕ
  pub below : AreBelow n pairs
  pub next_below : (x : ℕ) → x < n → from x ≡ true → next x < n
  pub next_to : (x : ℕ) → x < n → from x ≡ true → to (next x) ≡ true
  pub back_below : (y : ℕ) → y < n → to y ≡ true → back y < n
  pub back_from : (y : ℕ) → y < n → to y ≡ true → from (back y) ≡ true
  pub back_next : (x : ℕ) → x < n → from x ≡ true → back (next x) ≡ x
  pub next_back : (y : ℕ) → y < n → to y ≡ true → next (back y) ≡ y
  pub joins : (g : ℕ → ℕ) → Respects g pairs → (x : ℕ) → x < n → from x ≡ true → g x ≡ g (next x)
  pub only : (g : ℕ → ℕ) → ((x : ℕ) → x < n → from x ≡ true → g x ≡ g (next x)) → Respects g pairs

-- what is not of a kind
abbrev pub other_than : (ℕ → Bool) → ℕ → Bool
other_than kind x = not (kind x)

-- two pairings m and k of the open points lead from their ends to their starts, and w leads back outside: from each point whose end
-- is not open to one whose start is not. No point is open at both
pub record IsSurface (n : ℕ) (ends starts : ℕ → Bool) (m k w : List (ℕ × ℕ)) : Type 0 where
  pub apart : (x : ℕ) → x < n → ends x ≡ true → starts x ≡ false
  pub first : Lead n ends starts m
  pub second : Lead n ends starts k
  pub outer : Lead n (other_than ends) (other_than starts) w

-- the components of the surface
abbrev pub surface_components : ℕ → List (ℕ × ℕ) → List (ℕ × ℕ) → List (ℕ × ℕ) → List ℕ
surface_components n m k w = classes_of n (m ++ (k ++ w))

-- an open point
abbrev pub ends_or_starts : (ℕ → Bool) → (ℕ → Bool) → ℕ → Bool
ends_or_starts ends starts x = ends x || starts x

-- the discs of two pairings are the classes of open points, by their least points
abbrev pub is_disc : (ℕ → Bool) → (ℕ → Bool) → List ℕ → ℕ → Bool
is_disc ends starts discs x = ends_or_starts ends starts x && is_least discs x

-- the faces of a component: the discs of the two pairings, and the circles of each with what is joined outside
abbrev pub faces_in : ℕ → (ℕ → Bool) → (ℕ → Bool) → List (ℕ × ℕ) → List (ℕ × ℕ) → List (ℕ × ℕ) → ℕ → ℕ
faces_in n ends starts m k w name =
    let all = surface_components n m k w in
    count_in n all name (is_disc ends starts (classes_of n (m ++ k)))
    + (parts_in n all name (classes_of n (m ++ w)) + parts_in n all name (classes_of n (k ++ w)))

-- its strips: half its open points, which are its ends
abbrev pub strips_in : ℕ → (ℕ → Bool) → List (ℕ × ℕ) → List (ℕ × ℕ) → List (ℕ × ℕ) → ℕ → ℕ
strips_in n ends m k w name = count_in n (surface_components n m k w) name ends
