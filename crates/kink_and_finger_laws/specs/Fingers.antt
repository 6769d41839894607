-- A second Reidemeister move: the two crossings of a finger, cut out of their diagram at its four ends.
use Rattle.std.specs.Prelude.{◌≡◌, ◌≢◌, ◌⊎◌, ◌<◌, ◌≤◌, ℕ, List, [], ◌∷◌, Bool, not, if◌then◌else◌}
use Rattle.kink_and_finger_laws.specs.FingerAdd.{crossing_with}

-- the ends are numbered as those of a triangle: 1 and 2 are the tail and the head of the over arc, 3 and 4 those of the under arc, 5
-- and 6 stand for nothing; of the sides 7 is the over arc's middle, 8 the under arc's, and 9 is a number that nothing touches

-- the two crossings: the over arc passes the first, then the second; they have opposite signs; the under arc passes them in the same
-- order or in the other
abbrev pub finger : Bool → Bool → List (List ℕ)
finger is_positive in_order =
    crossing_with is_positive (if in_order then 3 else 8) (if in_order then 8 else 4) 1 7
    ∷ crossing_with (not is_positive) (if in_order then 8 else 3) (if in_order then 4 else 8) 7 2
    ∷ []

-- two numbers are among two others
abbrev pub AreAmong : ℕ → ℕ → ℕ → ℕ → Type 0
AreAmong x y p q = ((x ≡ p) ⊎ (x ≡ q)) × ((y ≡ p) ⊎ (y ≡ q))

-- the ends below m stand on old arcs, and with a finger on new ones: low gives each new arc the old one that it was part of, and
-- where two new arcs were one they are the tail and the head of the over arc, or of the under arc; the middles are as the number 0
pub record HasFinger (m : ℕ) (arcs low old new : ℕ → ℕ) : Type 0 where
  pub lowered : (end : ℕ) → end < m → old end ≡ low (new end)
  pub apart : (x y : ℕ) → x < m → y < m → low (new x) ≡ low (new y)
      → (new x ≡ new y) ⊎ (AreAmong (new x) (new y) (arcs 1) (arcs 2) ⊎ AreAmong (new x) (new y) (arcs 3) (arcs 4))
  pub over : low (arcs 2) ≡ low (arcs 1)
  pub under : low (arcs 4) ≡ low (arcs 3)
  pub middles : (side : ℕ) → 7 ≤ side → side < 10 → low (arcs 0) ≡ low (arcs side)
  pub ends : (i j : ℕ) → i < j → j < 5 → arcs i ≢ arcs j
