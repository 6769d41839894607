-- The least arcs of the components: ascending, and each the one of its own component.
--
-- The least arcs are the numbers that pass a test in a range, so they ascend, and each stands once in their list. The number of a component
-- is the place of its least arc there. From this: arcs have one number exactly where they are in one component, the arc that follows has
-- the same, and the arcs of a number are an interval from its least arc on.
use Rattle.std.proofs.Common.{◌≡◌, ◌↔◌, ℕ, zero, suc, inl, inr, ◌+◌, ◌-◌, ◌<◌, ◌≤◌, ◌∙◌, List, ◌∷◌, length, get_or, refl, sym, ap, subst, arith, Bool, true, false}
use Rattle.std.specs.Prelude.{nat_eq, IsTrue}
use Rattle.std.specs.List.{Contains, filter, range_with_len, position_or_len}
use Rattle.std.proofs.lemmas.Bool.{cases_Bool, cases_lt, eq-eqb, eqb-true}
use Rattle.std.proofs.lemmas.Bool.Decides.{nat_tests}
use Rattle.std.proofs.lemmas.List.Sums.{fails_before_first, passes_at_first, position_or_len_is}
use Rattle.std.proofs.lemmas.List.FromFn.{length-range_with_len, get_or-range_with_len}
use Rattle.std.proofs.lemmas.List.{get_or_past}
use Rattle.kh_types.specs.Code.{Code, arc_count, arcs, IsArc}
use Rattle.kh_types.specs.Classes.{is_least}
use Rattle.kh_types.specs.Components.{components_of, component_of, component_count, first_arcs, next}
use Rattle.kh_types.specs.Acceptance.{accepted}
use Rattle.kh_types.proofs.Lists.{Contains-filter}
use Rattle.kh_types.proofs.NextArcs.{HasPlace-directed, component-inside, component-next, next-injective}
use Rattle.orient_arcs.specs.Numbers.{component_number, first_arc, end_of, GoesRound}
use Rattle.code_passes.proofs.LeastArcs.{IsFirstOf-directed, components_size}
use Rattle.orient_arcs.proofs.ComponentLemmas.{IsDirected-accepted}

-- a number of a range that passes a test
pub record Passes (p : ℕ → Bool) (a n x : ℕ) : Type 0 where
  pub from : a ≤ x
  pub below : x < a + n
  pub passes : p x ≡ true

-- what of a range passes, where its first number does, and where it does not
filter-first : (p : ℕ → Bool) (a n : ℕ) → p a ≡ true → filter p (range_with_len a (suc n)) ≡ a ∷ filter p (range_with_len (a + 1) n)
filter-first p a n passes = grind (arith, nat_tests)

filter-later : (p : ℕ → Bool) (a n : ℕ) → p a ≡ false → filter p (range_with_len a (suc n)) ≡ filter p (range_with_len (a + 1) n)
filter-later p a n fails = grind (arith, nat_tests)

Passes-later : (p : ℕ → Bool) (a n x : ℕ) → Passes p (a + 1) n x → Passes p a (suc n) x
Passes-later p a n x is = record { from = omega (arith, is.from); below = omega (arith, is.below); passes = is.passes }

Passes-cons : (p : ℕ → Bool) (a n : ℕ) (rest : List ℕ) (i : ℕ) → p a ≡ true → i < length (a ∷ rest)
    → ((k : ℕ) → k < length rest → Passes p (a + 1) n (get_or rest k 0)) → Passes p a (suc n) (get_or (a ∷ rest) i 0)
Passes-cons p a n rest i passes within later = grind (arith, nat_tests)

-- the numbers of a range that pass a test are such numbers
pub Passes-filter : (p : ℕ → Bool) (a n i : ℕ) → i < length (filter p (range_with_len a n))
    → Passes p a n (get_or (filter p (range_with_len a n)) i 0)
Passes-filter p a zero i within = absurd (omega (arith, within))
Passes-filter p a (suc n) i within = elim (cases_Bool (p a)) [
  | inl passes ↦
      let e = filter-first p a n passes in
      subst (λ (xs : List ℕ). Passes p a (suc n) (get_or xs i 0)) (sym e)
      (Passes-cons p a n (filter p (range_with_len (a + 1) n)) i passes (omega (arith, within, ap length e))
      (λ k k_within. Passes-filter p (a + 1) n k k_within))
  | inr fails ↦
      let e = filter-later p a n fails in
      subst (λ (xs : List ℕ). Passes p a (suc n) (get_or xs i 0)) (sym e)
      (Passes-later p a n (get_or (filter p (range_with_len (a + 1) n)) i 0)
      (Passes-filter p (a + 1) n i (omega (arith, within, ap length e))))
]

-- they are ascending

ascending-cons : (a : ℕ) (rest : List ℕ) (i j : ℕ) → ((k : ℕ) → k < length rest → a < get_or rest k 0)
    → ((k m : ℕ) → k < m → m < length rest → get_or rest k 0 < get_or rest m 0) → i < j → j < length (a ∷ rest)
    → get_or (a ∷ rest) i 0 < get_or (a ∷ rest) j 0
ascending-cons a rest i j greater later before within = grind (arith, nat_tests)

pub ascending-filter : (p : ℕ → Bool) (a n i j : ℕ) → i < j → j < length (filter p (range_with_len a n))
    → get_or (filter p (range_with_len a n)) i 0 < get_or (filter p (range_with_len a n)) j 0
ascending-filter p a zero i j before within = absurd (omega (arith, within))
ascending-filter p a (suc n) i j before within =
    let rest = filter p (range_with_len (a + 1) n) in
    elim (cases_Bool (p a)) [
      | inl passes ↦
          let e = filter-first p a n passes in
          subst (λ (xs : List ℕ). get_or xs i 0 < get_or xs j 0) (sym e)
          (ascending-cons a rest i j (λ k k_within. omega (arith, (Passes-filter p (a + 1) n k k_within).from))
          (λ k m k_before m_within. ascending-filter p (a + 1) n k m k_before m_within) before
          (omega (arith, within, ap length e)))
      | inr fails ↦
          let e = filter-later p a n fails in
          subst (λ (xs : List ℕ). get_or xs i 0 < get_or xs j 0) (sym e)
          (ascending-filter p (a + 1) n i j before (omega (arith, within, ap length e)))
    ]

-- a search for an element of a list ends within it, at the element
position-has : (x : ℕ) (xs : List ℕ) → Contains xs x → position_or_len (nat_eq x) xs < length xs
position-has x xs (k, below, is) = elim (cases_lt (position_or_len (nat_eq x) xs) (length xs)) [
  | inl within ↦ within
  | inr past ↦ absurd (differ (nat_eq x (get_or xs k x)) (eq-eqb x (get_or xs k x) (sym is))
      (fails_before_first (nat_eq x) xs k x (omega (arith, below, past))))
]
  where
    differ : (b : Bool) → b ≡ true → b ≡ false → ⊥
    differ b holds fails = absurd (cc)

-- the least arcs of the components

Contains-first_arcs : (code : Code) (arc : ℕ) → IsTrue (accepted code) → IsArc code.crossings arc
    → Contains (first_arcs code.crossings) (component_of (components_of code.crossings) arc)
Contains-first_arcs code arc holds is =
    let components = components_of code.crossings in
    let first = component_of components arc in
    let is_first = IsFirstOf-directed code.crossings (IsDirected-accepted code holds) arc is in
    let positive = is_first.is_arc.positive in
    let within = is_first.is_arc.within in
    Contains-filter (is_least components) (arcs code.crossings) first (eq-eqb (component_of components first) first is_first.own) (
      first - 1,
      omega (arith, length-range_with_len 1 (arc_count code.crossings), positive, within),
      get_or-range_with_len 1 (arc_count code.crossings) (first - 1) first (omega (arith, positive, within)) ∙ omega (arith, positive),
    )

-- the number of an arc's component is one of a component
pub number_within : (code : Code) (arc : ℕ) → IsTrue (accepted code) → IsArc code.crossings arc
    → component_number code.crossings arc < component_count code.crossings
number_within code arc holds is =
    position-has (component_of (components_of code.crossings) arc) (first_arcs code.crossings)
    (Contains-first_arcs code arc holds is)

-- and its least arc is that of the component
pub first_arc-number : (code : Code) (arc : ℕ) → IsTrue (accepted code) → IsArc code.crossings arc
    → first_arc code.crossings (component_number code.crossings arc) ≡ component_of (components_of code.crossings) arc
first_arc-number code arc holds is =
    let first = component_of (components_of code.crossings) arc in
    let firsts = first_arcs code.crossings in
    sym (eqb-true first (first_arc code.crossings (component_number code.crossings arc))
    (passes_at_first (nat_eq first) firsts 0 (number_within code arc holds is)))

Passes-first_arc : (crossings : List (List ℕ)) (component : ℕ) → component < component_count crossings
    → Passes (is_least (components_of crossings)) 1 (arc_count crossings) (first_arc crossings component)
Passes-first_arc crossings component within = grind (arith, nat_tests, Passes-filter)

-- the least arc of a component is an arc
pub first_is_arc : (crossings : List (List ℕ)) (component : ℕ) → component < component_count crossings
    → IsArc crossings (first_arc crossings component)
first_is_arc crossings component within =
    let is = Passes-first_arc crossings component within in
    record { positive = is.from; within = omega (arith, is.below) }

-- of its own component
pub component-first_arc : (crossings : List (List ℕ)) (component : ℕ) → component < component_count crossings
    → component_of (components_of crossings) (first_arc crossings component) ≡ first_arc crossings component
component-first_arc crossings component within =
    let first = first_arc crossings component in
    eqb-true (component_of (components_of crossings) first) first (Passes-first_arc crossings component within).passes

-- components are numbered by their least arcs
pub first_arc-ascending : (crossings : List (List ℕ)) (component later : ℕ) → component < later → later < component_count crossings
    → first_arc crossings component < first_arc crossings later
first_arc-ascending crossings component later before within = grind (arith, nat_tests, ascending-filter)

-- the number of the component of the least arc of a component is its own
pub number-first_arc : (crossings : List (List ℕ)) (component : ℕ) → component < component_count crossings
    → component_number crossings (first_arc crossings component) ≡ component
number-first_arc crossings component within =
    let first = first_arc crossings component in
    let own = component-first_arc crossings component within in
    ap (λ x. position_or_len (nat_eq x) (first_arcs crossings)) own
    ∙ position_or_len_is (nat_eq first) (first_arcs crossings) component 0 (omega (arith, within))
    (λ k before. apart first (first_arc crossings k) (first_arc-ascending crossings k component before within))
    (λ below. eq-eqb first first refl)
  where
    apart : (x y : ℕ) → y < x → nat_eq x y ≡ false
    apart x y less = grind (arith, nat_tests)

-- two arcs have one number exactly where they are in one component
pub number-together : (code : Code) (arc other : ℕ) → IsTrue (accepted code) → IsArc code.crossings arc → IsArc code.crossings other
    → (component_number code.crossings arc ≡ component_number code.crossings other)
    ↔ (component_of (components_of code.crossings) arc ≡ component_of (components_of code.crossings) other)
number-together code arc other holds is other_is = (
  λ same. sym (first_arc-number code arc holds is) ∙ ap (first_arc code.crossings) same ∙ first_arc-number code other holds other_is,
  λ same. ap (λ first. position_or_len (nat_eq first) (first_arcs code.crossings)) same,
)

-- the first arc of an arc's component is at most the arc
pub first_arc-le : (code : Code) (arc : ℕ) → IsTrue (accepted code) → IsArc code.crossings arc
    → first_arc code.crossings (component_number code.crossings arc) ≤ arc
first_arc-le code arc holds is =
    omega (
      arith,
      first_arc-number code arc holds is,
      (HasPlace-directed code.crossings (IsDirected-accepted code holds) arc is).from,
    )

-- the arc that follows

pub number-next : (code : Code) (arc : ℕ) → IsTrue (accepted code) → IsArc code.crossings arc
    → component_number code.crossings (next code.crossings arc) ≡ component_number code.crossings arc
number-next code arc holds is =
    ap (λ first. position_or_len (nat_eq first) (first_arcs code.crossings))
    (component-next code.crossings (IsDirected-accepted code holds) arc is)

pub next-once : (code : Code) (arc other : ℕ) → IsTrue (accepted code) → IsArc code.crossings arc → IsArc code.crossings other
    → next code.crossings arc ≡ next code.crossings other → arc ≡ other
next-once code arc other holds is other_is same =
    next-injective code.crossings (IsDirected-accepted code holds) arc other is other_is same

-- the numbers from the least arc of a component on, as many as it has arcs, are its arcs
pub number-inside : (code : Code) (arc other : ℕ) → IsTrue (accepted code) → IsArc code.crossings arc
    → component_of (components_of code.crossings) arc ≤ other → other < end_of code.crossings arc
    → IsArc code.crossings other × (component_number code.crossings other ≡ component_number code.crossings arc)
number-inside code arc other holds is from below =
    let crossings = code.crossings in
    let directed = IsDirected-accepted code holds in
    let same = component-inside crossings directed arc other is from below in
    let positive = (IsFirstOf-directed crossings directed arc is).is_arc.positive in (
      elim (cases_lt (arc_count crossings) other) [
        | inl past ↦
            absurd (omega (
              arith,
              same,
              positive,
              get_or_past (components_of crossings) other 0 (omega (arith, past, components_size crossings)),
            ))
        | inr within ↦ record { positive = omega (arith, from, positive); within = within }
      ],
      ap (λ first. position_or_len (nat_eq first) (first_arcs crossings)) same,
    )

pub GoesRound-accepted : (code : Code) (arc : ℕ) → IsTrue (accepted code) → IsArc code.crossings arc → GoesRound code.crossings arc
GoesRound-accepted code arc holds is =
    let place = HasPlace-directed code.crossings (IsDirected-accepted code holds) arc is in
    record {
      from = place.from;
      below = place.below;
      inside = place.inside;
      last = λ is_last. place.last (omega (arith, is_last));
    }
