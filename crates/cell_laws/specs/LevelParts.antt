-- The part of cells that keeps the quantum degree: of a filtered complex, what its first page is the homology of.
use Rattle.std.specs.Prelude.{ℕ, if◌then◌else◌}
use Rattle.std.specs.Ordering.{int_eq}
use Rattle.cell_laws.specs.Cells.{Cells}

-- the coefficient where the quantum degrees are equal, and 0 where they differ
abbrev pub level_coefficient : {A : Type 0} → Cells A → A → A → ℕ
level_coefficient cells x y = if int_eq (cells.quantum x) (cells.quantum y) then cells.coefficient x y else 0

-- the same cells with these coefficients
abbrev pub level_part : {A : Type 0} → Cells A → Cells A
level_part cells =
    record {
      list = cells.list;
      homological = cells.homological;
      quantum = cells.quantum;
      coefficient = level_coefficient cells;
    }
