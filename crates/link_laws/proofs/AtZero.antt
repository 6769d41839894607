-- Where h is 0 what lasts is the homology.
use Rattle.std.proofs.Common.{◌≡◌, ℕ, ◌-◌, ◌∙◌, ℤ, pos, ◌+ℤ◌, ap, IsTrue}
use Rattle.kh_types.specs.Acceptance.{accepted}
use Rattle.kh_types.specs.Code.{Code}
use Rattle.kh_types.specs.Directions.{minus_count, plus_count}
use Rattle.kh_types.specs.Generators.{Generator}
use Rattle.kh_types.specs.Residues.{HasInverses}
use Rattle.kh_types.specs.Table.{dimension}
use Rattle.cell_laws.specs.Cells.{Cells}
use Rattle.cell_laws.specs.Cubes.{cube_of}
use Rattle.cell_laws.specs.Filtered.{lasting}
use Rattle.cell_laws.proofs.CubeCells.{AreComplex-cube}
use Rattle.cell_laws.proofs.DeformedCells.{cube-plain}
use Rattle.cell_laws.proofs.LevelSurvivors.{lasting-level}
use Rattle.link_laws.specs.CodeSurvivors.{code_survivors}

pub survivors-zero : (p : ℕ) (code : Code) (i j : ℤ) → HasInverses p → IsTrue (accepted code)
    → code_survivors p 0 code i j - code_survivors p 0 code i (j +ℤ pos 1) ≡ dimension p code i j
survivors-zero p code i j field is =
    let plus = plus_count code.crossings in
    let minus = minus_count code.crossings in
    ap (λ (cells : Cells Generator). lasting p cells i j) (cube-plain p code plus minus field.above_one)
    ∙ lasting-level p (cube_of p code plus minus) field (AreComplex-cube p code plus minus field.above_one is) i j
