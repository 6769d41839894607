-- The composition of two terms is a sum of terms: the coefficient of each dot set.
use Rattle.std.specs.Prelude.{ℕ, List, ◌++◌}
use Rattle.surface_laws.specs.Surfaces.{value}
use Rattle.surface_laws.specs.Points.{Points, inner, discs}
use Rattle.surface_laws.specs.Sheets.{marked, marked_else, sheet}

-- the faces of a term from m to n, of one from n to o, and those from m to o, with hollow dots where no dot of a third one stands
abbrev pub composed_faces : Points → List (ℕ × ℕ) → List (ℕ × ℕ) → List (ℕ × ℕ) → ℕ → ℕ → ℕ → List (ℕ × ℕ)
composed_faces points m n o dots others kept =
    marked_else kept (discs points m o) ++ (marked dots (discs points m n) ++ marked others (discs points n o))

-- the coefficient with which a dot set from m to o stands in the composition of dots from m to n, and after them others from n to o
abbrev pub composed : ℕ → ℕ → Points → List (ℕ × ℕ) → List (ℕ × ℕ) → List (ℕ × ℕ) → ℕ → ℕ → ℕ → ℕ
composed h k points m n o dots others kept =
    value h k (sheet (inner points) m o n (composed_faces points m n o dots others kept))
