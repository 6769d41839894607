-- The two smoothings of a crossing, and the faces of the saddle between them.
use Rattle.std.specs.Prelude.{◌≡◌, ℕ, ◌+◌, List, ◌++◌, Bool}
use Rattle.kh_types.specs.Classes.{classes_of, Respects}
use Rattle.genus_laws.specs.Orbits.{count_in}
use Rattle.genus_laws.specs.Surfaces.{ends_or_starts, is_disc}
use Rattle.genus_laws.specs.Pairings.{is_closed_circle}

-- pairs join two points with two others, and nothing else
pub record JoinTwo (pairs : List (ℕ × ℕ)) (a b a_too b_too : ℕ) : Type 0 where
  pub joins : (g : ℕ → ℕ) → Respects g pairs → (g a ≡ g b) × (g a_too ≡ g b_too)
  pub only : (g : ℕ → ℕ) → g a ≡ g b → g a_too ≡ g b_too → Respects g pairs

-- the components of the saddle from one smoothing s of a crossing to the other, t, of a pairing m
abbrev pub saddle_components : ℕ → List (ℕ × ℕ) → List (ℕ × ℕ) → List (ℕ × ℕ) → List ℕ
saddle_components n m s t = classes_of n (m ++ (s ++ t))

-- in a component, for one of the smoothings: the circles that it closes, and the discs of the new pairing and the last one
abbrev pub side_faces : ℕ → (ℕ → Bool) → (ℕ → Bool) → List ℕ → List ℕ → List (ℕ × ℕ) → List (ℕ × ℕ) → ℕ → ℕ
side_faces n ends starts all circles new last name =
    count_in n all name (is_closed_circle n (ends_or_starts ends starts) circles) + count_in n all name (is_disc ends starts (classes_of n (new ++ last)))
