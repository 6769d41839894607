-- A code with its crossings in another order, where each keeps its sign, has the same survivors.
use Rattle.std.proofs.Common.{◌≡◌, ℕ, ◌∙◌, ℤ, ap, ap₂}
use Rattle.kh_types.specs.Code.{Code}
use Rattle.kh_types.specs.Directions.{minus_count, plus_count}
use Rattle.kh_types.specs.Residues.{HasInverses}
use Rattle.cell_laws.specs.DeformedCubes.{deformed_cube_of}
use Rattle.cell_laws.specs.Filtered.{survivors}
use Rattle.order_laws.specs.Orders.{IsReordered}
use Rattle.order_laws.proofs.Orders.{survivors-reordered}
use Rattle.link_laws.specs.CodeSurvivors.{code_survivors}

pub survivors-same_signs : (p h : ℕ) (first second : Code) → HasInverses p → IsReordered first.crossings second.crossings
    → second.loops ≡ first.loops → plus_count second.crossings ≡ plus_count first.crossings
    → minus_count second.crossings ≡ minus_count first.crossings → (i t : ℤ)
    → code_survivors p h second i t ≡ code_survivors p h first i t
survivors-same_signs p h first second field is loops plus minus i t =
    ap₂ (λ m n. survivors p (deformed_cube_of p h second m n) i t) plus minus
    ∙ ap (λ l. survivors p (deformed_cube_of p h (record { crossings = second.crossings; loops = l })
    (plus_count first.crossings) (minus_count first.crossings)) i t) loops
    ∙ survivors-reordered p h first.loops (plus_count first.crossings) (minus_count first.crossings) field i t first.crossings
    second.crossings is
