-- A code that cannot be drawn in the plane without crossings that it does not list.
use Rattle.std.specs.Prelude.{[], ◌∷◌}
use Rattle.kh_types.specs.Code.{Code}
use Rattle.kh_types.specs.WorkedCodes.{slots_with, without_loops}

-- the virtual trefoil with its second crossing changed: what went over goes under
abbrev pub changed_virtual_trefoil : Code
changed_virtual_trefoil = without_loops (slots_with 3 1 4 2 ∷ slots_with 2 1 3 4 ∷ [])
