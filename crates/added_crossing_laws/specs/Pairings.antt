-- Pairings of open arcs, as lists of pairs of points, and faces with marks.
use Rattle.std.specs.Prelude.{◌≡◌, ℕ, ◌+◌, List, ◌++◌, map, nat_eq, if◌then◌else◌}
use Rattle.std.specs.List.{sum_by, Contains}
use Rattle.surface_laws.specs.Points.{Points, AreAmong, circles}

-- a face at a point, with the marks that a function gives to the point
abbrev pub face_with : (ℕ → ℕ) → ℕ → ℕ × ℕ
face_with marks point = (point, marks point)

-- such a face at each of some points
abbrev pub marked_by : (ℕ → ℕ) → List ℕ → List (ℕ × ℕ)
marked_by marks points = map (face_with marks) points

-- a face at each circle of two pairings and of what is joined outside: those of the pairing m before, marked by one function, and those
-- of the pairing n after, marked by another
abbrev pub circle_faces : Points → List (ℕ × ℕ) → List (ℕ × ℕ) → List (ℕ × ℕ) → (ℕ → ℕ) → (ℕ → ℕ) → List (ℕ × ℕ)
circle_faces points m n w before after = marked_by before (circles points m w) ++ marked_by after (circles points n w)

-- how many ends of a pair a point is: 0, 1, or 2 where the pair joins the point with itself
abbrev pub ends_in : ℕ → ℕ × ℕ → ℕ
ends_in x pair = (if nat_eq pair.0 x then 1 else 0) + (if nat_eq pair.1 x then 1 else 0)

-- how many ends of all pairs a point is
abbrev pub end_count : List (ℕ × ℕ) → ℕ → ℕ
end_count pairs x = sum_by (ends_in x) pairs

-- pairs are a pairing of some points: their ends are such points, and each of the points is one end of one pair, and no other end
pub record IsPairingOf (points : List ℕ) (pairs : List (ℕ × ℕ)) : Type 0 where
  pub among : AreAmong points pairs
  pub once : (x : ℕ) → Contains points x → end_count pairs x ≡ 1
