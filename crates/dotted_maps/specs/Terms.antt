-- A term between two pairings is a set of dotted discs. The number of it, as an entry between labels of the circles.
use Rattle.std.specs.Prelude.{ℕ, List, ◌++◌}
use Rattle.surface_laws.specs.Surfaces.{IsClosed, value}
use Rattle.surface_laws.specs.Points.{Points, AreAmong, discs, circles}
use Rattle.surface_laws.specs.Sheets.{marked, marked_else, sheet}

-- dots and labels are numbers, whose bits stand at the places of discs and circles in their lists: 1 for a dot, 0 for v+, 1 for v-

-- its faces are discs, with dots where they are dotted, the circles of m, with dots at v-, and those of n, with hollow dots at v+
abbrev pub term_faces : Points → List (ℕ × ℕ) → List (ℕ × ℕ) → List (ℕ × ℕ) → ℕ → ℕ → ℕ → List (ℕ × ℕ)
term_faces points m n w dots before after =
    marked dots (discs points m n) ++ (marked before (circles points m w) ++ marked_else after (circles points n w))

-- the entry of a term from the labels of the circles of m to those of n
abbrev pub entry : ℕ → ℕ → Points → List (ℕ × ℕ) → List (ℕ × ℕ) → List (ℕ × ℕ) → ℕ → ℕ → ℕ → ℕ
entry h k points m n w dots before after = value h k (sheet points m n w (term_faces points m n w dots before after))

-- two pairings and what is joined outside make a closed surface
pub record AreGlued (points : Points) (m n w : List (ℕ × ℕ)) : Type 0 where
  pub first : AreAmong points.opened m
  pub second : AreAmong points.opened n
  pub outside : AreAmong points.alive w
  pub closed : IsClosed (sheet points m n w (term_faces points m n w 0 0 0))
