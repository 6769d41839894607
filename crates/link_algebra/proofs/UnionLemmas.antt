-- What the call for the union owes: accepted codes, and the product of the state sums.
use Rattle.std.proofs.lemmas.Bool.Decides.{nat_tests}
use Rattle.std.proofs.Common.{◌≡◌, ℕ, ◌+◌, ◌*◌, ◌≤◌, ℤ, length, arith, IsTrue}
use Rattle.kh_types.specs.Acceptance.{accepted}
use Rattle.kh_types.specs.Code.{Code}
use Rattle.kh_types.specs.Components.{component_count}
use Rattle.kh_types.specs.StateSum.{state_sum}
use Rattle.kh_types.specs.declared.limits.TheConstants.{CROSSINGS, EXPONENT, LOOPS}
use Rattle.kh_types.proofs.AcceptedCodes.{accepted_arcs}
use Rattle.kh_types.proofs.CircleBound.{circle_count-le}
use Rattle.kh_types.proofs.FewComponents.{component_count-le}
use Rattle.kh_types.proofs.Heads.{HasNoSingleArcs-accepted}
use Rattle.orient_arcs.proofs.ComponentLemmas.{accepted_few}
use Rattle.link_algebra.specs.Unions.{crossings_together, loops_together, product_coefficient, union_of}
use Rattle.link_algebra.proofs.UnitedAccepted.{accepted-both}
use Rattle.link_algebra.proofs.UnitedSigns.{plus-both}
use Rattle.link_algebra.proofs.UnitedSums.{state_sum-united}

pub union-accepted : (first second : Code) → IsTrue (accepted first) → IsTrue (accepted second)
    → crossings_together first second ≤ CROSSINGS → loops_together first second ≤ LOOPS → IsTrue (accepted (union_of first second))
union-accepted first second first_is second_is few less =
    grind (arith, nat_tests, HasNoSingleArcs-accepted, accepted-both, component_count-le)

pub union-sum : (first second : Code) (most : ℕ) (exponent : ℤ) → IsTrue (accepted first) → IsTrue (accepted second)
    → 3 * length first.crossings + component_count first.crossings + first.loops ≤ most
    → state_sum (union_of first second) exponent ≡ product_coefficient most (state_sum first) (state_sum second) exponent
union-sum first second most exponent first_is second_is fits =
    state_sum-united first second most exponent first_is second_is (plus-both first second first_is second_is)
    (λ state. omega (arith, fits, circle_count-le first state (λ dart. accepted_arcs first dart first_is)))

pub union-sum_within : (first second : Code) (exponent : ℤ) → IsTrue (accepted first) → IsTrue (accepted second)
    → length first.crossings ≤ CROSSINGS
    → state_sum (union_of first second) exponent ≡ product_coefficient EXPONENT (state_sum first) (state_sum second) exponent
union-sum_within first second exponent first_is second_is few =
    union-sum first second EXPONENT exponent first_is second_is (omega (arith, few, accepted_few first first_is))
