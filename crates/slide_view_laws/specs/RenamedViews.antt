-- A view of a code as a view of the code under other numbers.
use Rattle.std.specs.Prelude.{◌≡◌, ℕ, map}
use Rattle.kh_types.specs.Code.{Code}
use Rattle.gluing_laws.specs.Codes.{IsRenumbered, HoldsArcs}
use Rattle.view_laws.specs.Views.{View}

-- the names stay, and each of their arcs and loops has its other number
abbrev pub renamed_view : (ℕ → ℕ) → View → View
renamed_view f view =
    record { inner = view.inner; names = view.names; arc = λ x. f (view.arc x); closed = λ inside. map f (view.closed inside) }

-- a code under other numbers, where the number 0 stays: so the numbers of arcs and loops are arcs and loops, and all of them
pub record IsRenumberedOnto (f : ℕ → ℕ) (old new : Code) : Type 0 where
  pub renumbered : IsRenumbered f old new
  pub holds : HoldsArcs old
  pub zero_kept : f 0 ≡ 0
