use Rattle.std.proofs.Common.{[], ◌∷◌, refl}
use Rattle.kh_types.specs.WorkedCodes.{slots_with}
use Rattle.order_laws.proofs.worked.known_orders.Goals as goal

pub returns-clause-other : goal.returns-clause-other
returns-clause-other c =
    (slots_with 1 4 2 5 ∷ slots_with 3 6 4 1 ∷ [], [], refl, (slots_with 1 4 2 5 ∷ [], [], refl, ([], [], refl, refl)))
