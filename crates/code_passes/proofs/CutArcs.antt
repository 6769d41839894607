-- The components of a directed code are intervals that follow one another.
--
-- The least arc of a component is followed by the others of it, and the number behind its last arc is the least of the next, if it is an
-- arc at all. So the least arcs cut the numbers 1 to 2n into intervals (`IsFirst-next`), and a list of first arcs with their sizes, read as
-- such a cut, is the list of the components.
use Rattle.std.proofs.Common.{◌≡◌, ℕ, zero, suc, inl, inr, ◌+◌, ◌-◌, ◌<◌, ◌≤◌, ◌∙◌, List, [], ◌∷◌, ◌++◌, refl, sym, ap, subst, arith, Bool, true, false, cond}
use Rattle.std.specs.List.{filter, range_with_len}
use Rattle.std.proofs.lemmas.Bool.{cases_lt, cases_eq, eq-eqb}
use Rattle.std.proofs.lemmas.Bool.Decides.{nat_tests}
use Rattle.std.proofs.lemmas.List.{get_or_past}
use Rattle.std.proofs.lemmas.List.Elements.{filter-append}
use Rattle.kh_types.specs.Code.{arc_count, IsArc}
use Rattle.kh_types.specs.Classes.{is_least}
use Rattle.kh_types.specs.Components.{components_of, arcs_in, first_arcs}
use Rattle.kh_types.specs.Accepted.{IsDirected}
use Rattle.kh_types.proofs.Ranges.{range-append}
use Rattle.kh_types.proofs.NextArcs.{component, HasPlace-directed, IsNamed-components_of, component-inside}
use Rattle.kh_types.proofs.FilteredRanges.{filter-none}
use Rattle.code_passes.proofs.LeastArcs.{IsFirstOf-directed, components_size}

-- how many arcs the component has that an arc is the first of
abbrev pub size : List (List ℕ) → ℕ → ℕ
size crossings first = arcs_in (components_of crossings) first

-- an arc is the first of its component
pub record IsFirst (crossings : List (List ℕ)) (arc : ℕ) : Type 0 where
  pub is_arc : IsArc crossings arc
  pub own : component crossings arc ≡ arc

-- its component has the numbers from it on, and there are some
pub size-positive : (crossings : List (List ℕ)) → IsDirected crossings → (first : ℕ) → IsFirst crossings first → 1 ≤ size crossings first
size-positive crossings directed first is =
    grind (arith, nat_tests, HasPlace-directed crossings directed first is.is_arc, component crossings first)

pub component-in : (crossings : List (List ℕ)) → IsDirected crossings → (first arc : ℕ) → IsFirst crossings first
    → first ≤ arc → arc < first + size crossings first → component crossings arc ≡ first
component-in crossings directed first arc is from below = grind (arith, nat_tests)

-- the last of them is an arc
pub end-within : (crossings : List (List ℕ)) → IsDirected crossings → (first : ℕ) → IsFirst crossings first
    → first + size crossings first ≤ arc_count crossings + 1
end-within crossings directed first is = elim (cases_lt (arc_count crossings + 1) (first + size crossings first)) [
  | inr within ↦ within
  | inl past ↦
      let last = arc_count crossings + 1 in
      let inside = component-in crossings directed first last is (omega (arith, is.is_arc.within)) past in
      absurd (omega (
        arith,
        inside,
        is.is_arc.positive,
        get_or_past (components_of crossings) last 0 (omega (arith, components_size crossings)),
      ))
]

-- the number behind it is the first of another component, if it is an arc
pub IsFirst-next : (crossings : List (List ℕ)) → IsDirected crossings → (first : ℕ) → IsFirst crossings first
    → first + size crossings first ≤ arc_count crossings → IsFirst crossings (first + size crossings first)
IsFirst-next crossings directed first is within = record { is_arc = is_arc; own = own }
  where
    next : ℕ
    next = first + size crossings first

    is_arc : IsArc crossings next
    is_arc = record { positive = omega (arith, is.is_arc.positive); within = within }

    other : ℕ
    other = component crossings next

    own_other : component crossings other ≡ other
    own_other = (IsNamed-components_of crossings directed).own next (omega (arith, within))

    own : other ≡ next
    own =
        let place = HasPlace-directed crossings directed next is_arc in
        elim (cases_eq other next) [
          | inl same ↦ same
          | inr differ ↦ elim (cases_lt other first) [
            | inl before ↦
                let inside = component-inside crossings directed next first is_arc (omega (arith, before))
                (omega (arith, place.below)) in
                absurd (omega (arith, inside, is.own, before))
            | inr behind ↦
                let inside = component-in crossings directed first other is behind (omega (arith, place.from, differ)) in
                let same : other ≡ first = sym own_other ∙ inside in
                let alike : size crossings other ≡ size crossings first = ap (size crossings) same in
                absurd (omega (arith, place.below, same, alike))
          ]
        ]

-- some first arcs cut n numbers from a on: the first of them is a, and the others cut what is behind its component
abbrev pub Cut : List (List ℕ) → ℕ → List ℕ → ℕ → Type 0
Cut crossings a [] n = n ≡ 0
Cut crossings a (first ∷ firsts) n =
    (first ≡ a) × IsFirst crossings a × (size crossings a ≤ n) × Cut crossings (a + size crossings a) firsts (n - size crossings a)

-- one number passes, and then none of the k - 1 behind it
filter-first : (p : ℕ → Bool) (a n k : ℕ) → 1 ≤ k → k ≤ n → p a ≡ true → ((j : ℕ) → a < j → j < a + k → p j ≡ false)
    → filter p (range_with_len a n) ≡ a ∷ filter p (range_with_len (a + k) (n - k))
filter-first p a zero k positive within passes fails = absurd (omega (arith, positive, within))
filter-first p a (suc n) k positive within passes fails =
    let rest = filter p (range_with_len (a + 1) n) in
    let parts : n ≡ k - 1 + (suc n - k) = omega (arith, positive, within) in
    let next : a + 1 + (k - 1) ≡ a + k = omega (arith, positive) in
    let later = filter p (range_with_len (a + k) (suc n - k)) in
    ap (λ b. cond b (a ∷ rest) rest) passes
    ∙ ap (λ xs. a ∷ xs)
    (ap (λ m. filter p (range_with_len (a + 1) m)) parts
    ∙ ap (λ xs. filter p xs) (range-append (a + 1) (k - 1) (suc n - k))
    ∙ filter-append p (range_with_len (a + 1) (k - 1)) (range_with_len (a + 1 + (k - 1)) (suc n - k))
    ∙ ap (λ m. filter p (range_with_len (a + 1) (k - 1)) ++ filter p (range_with_len m (suc n - k))) next
    ∙ ap (λ xs. xs ++ later)
    (filter-none p (a + 1) (k - 1) (λ j from below. fails j (omega (arith, from)) (omega (arith, below, positive)))))

-- behind the first of a component the others of it are not the first
others-fail : (crossings : List (List ℕ)) → IsDirected crossings → (first arc : ℕ) → IsFirst crossings first → first < arc
    → arc < first + size crossings first → is_least (components_of crossings) arc ≡ false
others-fail crossings directed first arc is after below = grind (arith, nat_tests)

Cut-from : (crossings : List (List ℕ)) → IsDirected crossings → (steps a n : ℕ) → n ≤ steps → a + n ≡ arc_count crossings + 1
    → (1 ≤ n → IsFirst crossings a) → Cut crossings a (filter (is_least (components_of crossings)) (range_with_len a n)) n
Cut-from crossings directed steps a zero few end begins = refl
Cut-from crossings directed zero a (suc n) few end begins = absurd (omega (arith, few))
Cut-from crossings directed (suc steps) a (suc n) few end begins =
    let is = begins (omega arith) in
    let p = is_least (components_of crossings) in
    let k = size crossings a in
    let positive = size-positive crossings directed a is in
    let within : k ≤ suc n = omega (arith, end-within crossings directed a is, end) in
    let parts = filter-first p a (suc n) k positive within (eq-eqb (component crossings a) a is.own)
    (λ j after below. others-fail crossings directed a j is after below) in
    let rest = Cut-from crossings directed steps (a + k) (suc n - k) (omega (arith, few, positive)) (omega (arith, end, within))
    (λ some. IsFirst-next crossings directed a is (omega (arith, some, end))) in
    subst (λ (xs : List ℕ). Cut crossings a xs (suc n)) (sym parts) (refl, is, within, rest)

-- the least arcs of the components of a directed code cut its arcs
pub Cut-first_arcs : (crossings : List (List ℕ)) → IsDirected crossings → Cut crossings 1 (first_arcs crossings) (arc_count crossings)
Cut-first_arcs crossings directed =
    Cut-from crossings directed (arc_count crossings) 1 (arc_count crossings) (omega arith) (omega arith)
    (λ some. record {
      is_arc = record { positive = omega arith; within = some };
      own = first_own some;
    })
  where
    first_own : 1 ≤ arc_count crossings → component crossings 1 ≡ 1
    first_own some =
        let is : IsArc crossings 1 = record { positive = omega arith; within = some } in
        let named = IsNamed-components_of crossings directed in
        let least = named.least 1 (omega (arith, some)) in
        let positive = (IsFirstOf-directed crossings directed 1 is).is_arc.positive in
        omega (arith, least, positive)
