-- The first fault of the numbers of a range.
use Rattle.std.proofs.lemmas.Bool.Decides.{nat_tests}
use Rattle.std.proofs.Common.{◌≡◌, ℕ, zero, suc, ◌+◌, ◌-◌, ◌<◌, ◌∙◌, List, [], ◌∷◌, ◌++◌, refl, ap, sym, arith}
use Rattle.std.specs.Prelude.{Option, Some, None, is_none, IsTrue}
use Rattle.std.specs.List.{range_with_len}
use Rattle.std.specs.Option.{option_or}
use Rattle.kh_types.specs.declared.fault.CodeFault.{CodeFault}
use Rattle.kh_types.specs.Code.{Code}
use Rattle.kh_types.specs.Acceptance.{first_of, direction_fault, checkerboard_fault, genus_fault, components_fault, first_fault, accepted}
use Rattle.kh_types.proofs.Ranges.{range_more, range_around}

option_or_assoc : (a b c : Option CodeFault) → option_or (option_or a b) c ≡ option_or a (option_or b c)
option_or_assoc a b c = grind (arith, nat_tests)

first_of-append : (fault_at : ℕ → Option CodeFault) (xs ys : List ℕ)
    → first_of fault_at (xs ++ ys) ≡ option_or (first_of fault_at xs) (first_of fault_at ys)
first_of-append fault_at [] ys = refl
first_of-append fault_at (x ∷ xs) ys = grind (arith, nat_tests, option_or_assoc, first_of-append fault_at xs ys)

-- the fault of a number, where the numbers before it have none
pub first_of_at : (fault_at : ℕ → Option CodeFault) (a n k j : ℕ) (fault : CodeFault) → k < n → a + k ≡ j
    → first_of fault_at (range_with_len a k) ≡ None → fault_at j ≡ Some fault
    → first_of fault_at (range_with_len a n) ≡ Some fault
first_of_at fault_at a n k j fault below is_j none has =
    let later = range_with_len (j + 1) (n - (k + 1)) in
    ap (λ xs. first_of fault_at xs) (range_around a n k j below is_j)
    ∙ first_of-append fault_at (range_with_len a k) (j ∷ later)
    ∙ ap (λ o. option_or o (first_of fault_at (j ∷ later))) none
    ∙ ap (λ o. option_or o (first_of fault_at later)) has

-- no fault, where one more number has none
pub none_of_more : (fault_at : ℕ → Option CodeFault) (a k j : ℕ) → a + k ≡ j
    → first_of fault_at (range_with_len a k) ≡ None → fault_at j ≡ None
    → first_of fault_at (range_with_len a (k + 1)) ≡ None
none_of_more fault_at a k j is_j none has_none =
    ap (λ xs. first_of fault_at xs) (range_more a k j is_j)
    ∙ first_of-append fault_at (range_with_len a k) (j ∷ [])
    ∙ ap (λ o. option_or o (first_of fault_at (j ∷ []))) none
    ∙ ap (λ o. option_or o None) has_none

-- where the numbers of a range have no fault, none of them has one, and the other way round
option_or-none : (a b : Option CodeFault) → option_or a b ≡ None → (a ≡ None) × (b ≡ None)
option_or-none a b none = grind (arith, nat_tests)

pub none_at : (fault_at : ℕ → Option CodeFault) (a n k : ℕ) → k < n → first_of fault_at (range_with_len a n) ≡ None
    → fault_at (a + k) ≡ None
none_at fault_at a n k below none =
    let later = range_with_len (a + k + 1) (n - (k + 1)) in
    let cut : first_of fault_at (range_with_len a n)
    ≡ option_or (first_of fault_at (range_with_len a k)) (first_of fault_at ((a + k) ∷ later)) =
    ap (λ xs. first_of fault_at xs) (range_around a n k (a + k) below refl)
    ∙ first_of-append fault_at (range_with_len a k) ((a + k) ∷ later) in
    let rest = option_or-none (first_of fault_at (range_with_len a k)) (first_of fault_at ((a + k) ∷ later)) (sym cut ∙ none) in
    (option_or-none (fault_at (a + k)) (first_of fault_at later) rest.1).0

pub none_of_all : (fault_at : ℕ → Option CodeFault) (a n : ℕ) → ((k : ℕ) → k < n → fault_at (a + k) ≡ None)
    → first_of fault_at (range_with_len a n) ≡ None
none_of_all fault_at a zero none = refl
none_of_all fault_at a (suc n) none =
    let e : suc n ≡ n + 1 = omega arith in
    ap (λ m. first_of fault_at (range_with_len a m)) e
    ∙ none_of_more fault_at a n (a + n) refl (none_of_all fault_at a n (λ k below. none k (omega arith))) (none n (omega arith))

-- no fault, by its test
pub none_is : (fault : Option CodeFault) → IsTrue (is_none fault) → fault ≡ None
none_is fault none = grind (arith, nat_tests)

-- an accepted code breaks none of the four groups of rules
pub faults-from_accepted : (code : Code) → IsTrue (accepted code)
    → (direction_fault code.crossings ≡ None) × (checkerboard_fault code.crossings ≡ None) × (genus_fault code.crossings ≡ None)
    × (components_fault code ≡ None)
unfolding first_fault accepted
faults-from_accepted code holds =
    let direction = direction_fault code.crossings in
    let checkerboard = checkerboard_fault code.crossings in
    let genus = genus_fault code.crossings in
    let all = option_or-none direction (option_or checkerboard (option_or genus (components_fault code)))
    (none_is (option_or direction (option_or checkerboard (option_or genus (components_fault code)))) holds) in
    let later = option_or-none checkerboard (option_or genus (components_fault code)) all.1 in
    let last = option_or-none genus (components_fault code) later.1 in
    (all.0, later.0, last.0, last.1)

-- the first of four faults, where there is none
first_of_none : (a b c d : Option CodeFault) → a ≡ None → b ≡ None → c ≡ None → d ≡ None
    → IsTrue (is_none (option_or a (option_or b (option_or c d))))
first_of_none a b c d no_a no_b no_c no_d = grind (arith, nat_tests)

pub accepted-from_faults : (code : Code)
    → (direction_fault code.crossings ≡ None) × (checkerboard_fault code.crossings ≡ None) × (genus_fault code.crossings ≡ None)
    × (components_fault code ≡ None)
    → IsTrue (accepted code)
unfolding first_fault accepted
accepted-from_faults code none =
    first_of_none (direction_fault code.crossings) (checkerboard_fault code.crossings) (genus_fault code.crossings)
    (components_fault code) none.0 none.1 none.2 none.3
