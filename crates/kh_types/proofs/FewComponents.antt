-- A component of a directed code without single arcs has two arcs or more, so that there are at most as many as crossings.
--
-- Count the least arcs of components among the numbers 1 to 2n. No arc is its own next, so the number behind a least arc is in its
-- component, and is the least of none; nor is the last arc the least of one. Numbers of which no two are neighbours are at most half of a
-- range (`count_by-half`), so there are at most n components. Then no fault is one of components before the code breaks another rule.
use Rattle.std.proofs.Common.{◌≡◌, ◌≢◌, ℕ, zero, suc, inl, inr, ◌+◌, ◌*◌, ◌<◌, ◌≤◌, ◌∙◌, List, [], ◌∷◌, length, ap, arith, Bool, true, false, cond}
use Rattle.std.specs.Prelude.{Option, Some, None, nat_eq, nat_lt, slice_index, if◌then◌else◌}
use Rattle.std.specs.List.{range_with_len, count_by}
use Rattle.std.specs.Option.{option_or}
use Rattle.std.proofs.lemmas.Bool.{cases_Bool, cases_lt, eqb-true, false_from_ne_true}
use Rattle.std.proofs.lemmas.Bool.Decides.{nat_tests}
use Rattle.std.proofs.lemmas.List.{get_or_past}
use Rattle.std.proofs.lemmas.List.Sums.{length-filter, sum_by-cons}
use Rattle.kh_types.specs.declared.fault.CodeFault.{CodeFault}
use Rattle.kh_types.specs.declared.fault.CodeFault.TheVariants.{Components}
use Rattle.kh_types.specs.declared.limits.TheConstants.{CROSSINGS, LOOPS, COMPONENTS}
use Rattle.kh_types.specs.Code.{Code, arc_count, arcs, IsArc}
use Rattle.kh_types.specs.Classes.{is_least}
use Rattle.kh_types.specs.Components.{components_of, component_of, component_count}
use Rattle.kh_types.specs.Directions.{HasNoSingleArcs}
use Rattle.kh_types.specs.Accepted.{IsDirected}
use Rattle.kh_types.specs.Acceptance.{fault_if, first_of, direction_fault, checkerboard_at, checkerboard_fault, genus_fault, components_fault, first_fault}
use Rattle.kh_types.proofs.AcceptedLemmas.{direction_fault-none}
use Rattle.kh_types.proofs.CheckerboardLemmas.{choice-from_none}
use Rattle.kh_types.proofs.Heads.{HasNoSingleArcs-checkerboard}
use Rattle.kh_types.proofs.NextArcs.{IsNamed-components_of}

-- the first number of a range, counted
first_of_range : (p : ℕ → Bool) (a n : ℕ)
    → count_by p (range_with_len a (suc n)) ≡ cond (p a) 1 0 + count_by p (range_with_len (a + 1) n)
first_of_range p a n = sum_by-cons (λ x. cond (p x) 1 0) a (range_with_len (a + 1) n)

-- at most half of some numbers pass, where none that passes is the last, and none is followed by one that passes
pub count_by-half : (p : ℕ → Bool) (a n : ℕ)
    → ((x : ℕ) → a ≤ x → x < a + n → p x ≡ true → (x + 1 < a + n) × (p (x + 1) ≡ false))
    → 2 * count_by p (range_with_len a n) ≤ n
count_by-half p a zero apart = omega arith
count_by-half p a (suc zero) apart = grind (arith, nat_tests, cases_Bool, first_of_range)
count_by-half p a (suc (suc n)) apart = elim (cases_Bool (p a)) [
  | inl passes ↦
      let after = (apart a (omega arith) (omega arith) passes).1 in
      let rest = count_by-half p (a + 1 + 1) n (λ x from below this.
      let e = apart x (omega (arith, from)) (omega (arith, below)) this in (omega (arith, e.0), e.1)) in
      let one : count_by p (range_with_len a (suc (suc n))) ≡ 1 + (0 + count_by p (range_with_len (a + 1 + 1) n)) =
      first_of_range p a (suc n) ∙ ap (λ b. cond b 1 0 + count_by p (range_with_len (a + 1) (suc n))) passes
      ∙ ap (λ m. 1 + m) (first_of_range p (a + 1) n ∙ ap (λ b. cond b 1 0 + count_by p (range_with_len (a + 1 + 1) n)) after) in
      omega (arith, one, rest)
  | inr fails ↦
      let rest = count_by-half p (a + 1) (suc n) (λ x from below this.
      let e = apart x (omega (arith, from)) (omega (arith, below)) this in (omega (arith, e.0), e.1)) in
      let none : count_by p (range_with_len a (suc (suc n))) ≡ 0 + count_by p (range_with_len (a + 1) (suc n)) =
      first_of_range p a (suc n) ∙ ap (λ b. cond b 1 0 + count_by p (range_with_len (a + 1) (suc n))) fails in
      omega (arith, none, rest)
]

-- what is not the next of itself is followed by an arc of the same component
step_of : (components : List ℕ) (arc : ℕ) → slice_index components arc ≡ arc
    → (if nat_eq (component_of components (arc + 1)) (component_of components arc) then arc + 1 else component_of components arc) ≢ arc
    → slice_index components (arc + 1) ≡ arc
step_of components arc own differs = grind (arith, nat_tests)

-- so the least arc of a component is followed by an arc that is not the least of one
least-apart : (crossings : List (List ℕ)) → IsDirected crossings → HasNoSingleArcs crossings → (arc : ℕ) → IsArc crossings arc
    → is_least (components_of crossings) arc ≡ true
    → (arc + 1 < 1 + arc_count crossings) × (is_least (components_of crossings) (arc + 1) ≡ false)
least-apart crossings directed no_single arc is least =
    grind (arith, nat_tests, eqb-true, step_of, cases_lt, get_or_past, IsNamed-components_of, false_from_ne_true)

pub component_count-le : (crossings : List (List ℕ)) → IsDirected crossings → HasNoSingleArcs crossings
    → component_count crossings ≤ length crossings
component_count-le crossings directed no_single =
    let counted = length-filter (is_least (components_of crossings)) (arcs crossings) in
    let half = count_by-half (is_least (components_of crossings)) 1 (arc_count crossings)
    (λ arc from below least. least-apart crossings directed no_single arc
    (record { positive = from; within = omega (arith, below) }) least) in
    omega (arith, counted, half)

-- the faults of the other rules are none of components

option_or-other : (count : ℕ) (a b : Option CodeFault) → a ≢ Some (Components count) → b ≢ Some (Components count)
    → option_or a b ≢ Some (Components count)
option_or-other count a b first second = grind (arith, nat_tests)

first_of-other : (count : ℕ) (fault_at : ℕ → Option CodeFault) (xs : List ℕ)
    → ((x : ℕ) → fault_at x ≢ Some (Components count)) → first_of fault_at xs ≢ Some (Components count)
first_of-other count fault_at [] each = λ same. absurd (cc)
first_of-other count fault_at (x ∷ xs) each = grind (arith, nat_tests, option_or-other, first_of-other count fault_at xs each)

fault_if-other : (count : ℕ) (holds : Bool) (fault : CodeFault) → fault ≢ Components count
    → fault_if holds fault ≢ Some (Components count)
fault_if-other count holds fault other = grind (arith, nat_tests)

direction_fault-other : (count : ℕ) (crossings : List (List ℕ)) → direction_fault crossings ≢ Some (Components count)
direction_fault-other count crossings = grind (arith, nat_tests, option_or-other, first_of-other, fault_if-other)

last_of : (count : ℕ) (direction checkerboard genus components : Option CodeFault) → direction ≢ Some (Components count)
    → checkerboard ≢ Some (Components count) → genus ≢ Some (Components count)
    → (direction ≡ None → checkerboard ≡ None → components ≢ Some (Components count))
    → option_or direction (option_or checkerboard (option_or genus components)) ≢ Some (Components count)
last_of count direction checkerboard genus components first second third last = grind (arith, nat_tests)

few_fault : (most found : ℕ) (fault : CodeFault) → found ≤ most → fault_if (nat_lt most found) fault ≡ None
few_fault most found fault few = grind (arith, nat_tests)

-- no rule on components comes first, where there are no more crossings and loops than a text has
pub first_fault-other : (code : Code) (count : ℕ) → length code.crossings ≤ CROSSINGS → code.loops ≤ LOOPS
    → first_fault code ≢ Some (Components count)
unfolding first_fault
first_fault-other code count few_crossings few_loops =
    let crossings = code.crossings in
    last_of count (direction_fault crossings) (checkerboard_fault crossings) (genus_fault crossings) (components_fault code)
    (direction_fault-other count crossings)
    (first_of-other count (checkerboard_at crossings) (arcs crossings) (λ arc. fault_if-other count _ _ (λ same. absurd (cc))))
    (fault_if-other count _ _ (λ same. absurd (cc)))
    (λ no_direction no_checkerboard same.
    let directed = (direction_fault-none crossings).0 no_direction in
    let few = component_count-le crossings directed
    (HasNoSingleArcs-checkerboard crossings directed (choice-from_none crossings no_checkerboard)) in
    let none = few_fault COMPONENTS (component_count crossings + code.loops)
    (Components (component_count crossings + code.loops)) (omega (arith, few, few_crossings, few_loops)) in
    absurd (cc))
