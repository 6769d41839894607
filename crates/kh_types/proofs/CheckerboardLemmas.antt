-- The checkerboard condition and its fault.
use Rattle.std.proofs.lemmas.Bool.Decides.{nat_tests}
use Rattle.std.proofs.Common.{◌≡◌, ℕ, ◌-◌, ◌+◌, ◌*◌, ◌^◌, ◌∙◌, List, [], ◌∷◌, length, refl, sym, ap, arith, Bool, true, not}
use Rattle.std.specs.Prelude.{None}
use Rattle.kh_types.specs.declared.fault.CodeFault.{CodeFault}
use Rattle.kh_types.specs.declared.fault.CodeFault.TheVariants.{Checkerboard}
use Rattle.kh_types.specs.Checkerboard.{solves_at, solves_up_to, has_choice, IsCheckerboard}
use Rattle.kh_types.specs.Acceptance.{checkerboard_at, checkerboard_fault, fault_if}
use Rattle.kh_types.proofs.Ranges.{list_any-below, list_any-found, list_all-range_prefix}
use Rattle.kh_types.proofs.FaultLemmas.{none_at, none_of_all}

-- a test whose failure would be a fault holds where there is none
kept_true : (holds : Bool) (fault : CodeFault) → fault_if (not holds) fault ≡ None → holds ≡ true
kept_true holds fault none = grind (arith, nat_tests)

-- an arc without a fault has a choice
has_choice-none : (crossings : List (List ℕ)) (arc : ℕ) → checkerboard_at crossings arc ≡ None → has_choice crossings arc ≡ true
has_choice-none crossings arc none = kept_true (has_choice crossings arc) (Checkerboard arc) none

pub choice-from_none : (crossings : List (List ℕ)) → checkerboard_fault crossings ≡ None → IsCheckerboard crossings
choice-from_none [] none = record { choice = 0; below = omega arith; solves = refl }
choice-from_none (crossing ∷ crossings) none =
    let all = crossing ∷ crossings in
    let last = 2 * length all - 1 in
    let last_is : 1 + last ≡ 2 * length all = omega arith in
    let none_last : checkerboard_at all (2 * length all) ≡ None =
    ap (λ arc. checkerboard_at all arc) (sym last_is) ∙ none_at (checkerboard_at all) 1 (2 * length all) last (omega arith) none in
    let found = list_any-found (solves_up_to all (2 * length all)) (2 ^ length all)
    (has_choice-none all (2 * length all) none_last) in
    record { choice = found.0; below = found.1; solves = found.2 }

pub none-from_choice : (crossings : List (List ℕ)) → IsCheckerboard crossings → checkerboard_fault crossings ≡ None
none-from_choice crossings solution =
    none_of_all (checkerboard_at crossings) 1 (2 * length crossings)
    (λ k below.
    let solves = list_all-range_prefix (solves_at crossings solution.choice) 1 (1 + k) (2 * length crossings) (omega arith)
    solution.solves in
    let some = list_any-below (solves_up_to crossings (1 + k)) (2 ^ length crossings) solution.choice solution.below solves in
    ap (λ b. fault_if (not b) (Checkerboard (1 + k))) some)
