-- A code under other names, which keep the order of its components, has its own numbers when it is renumbered.
--
-- The names are f of the arcs, where f keeps the order of components. The order of the parts goes over names, that of the code over arcs:
-- each walk from f of a least arc is f of the walk from the arc. As f sends later components to greater names, the new names come in the
-- order of the arcs, and what the order has is f of the first numbers (IsUpTo). A circle over all of two arcs may begin with either;
-- `ascending` decides.
use Rattle.std.proofs.Common.{◌≡◌, ◌≢◌, ℕ, zero, suc, inl, inr, ◌+◌, ◌-◌, ◌*◌, ◌<◌, ◌≤◌, ◌∙◌, List, [], ◌∷◌, ◌++◌, length, map, get_or, refl, sym, ap, ap₂, subst, arith, Bool, true, false, not, ◌&&◌}
use Rattle.std.specs.Prelude.{nat_eq, if◌then◌else◌, MatchBool, int_lt}
use Rattle.std.specs.List.{position_or_len, range_with_len, AllByRecursion}
use Rattle.std.proofs.lemmas.Bool.{cases_eq, cases_lt, cases_Bool, eq-eqb, and_from, and_parts, both_ways, not-true, ne_eqb}
use Rattle.std.proofs.lemmas.List.{length-map, map-append}
use Rattle.std.proofs.lemmas.List.FromFn.{length-range_with_len, get_or-map-range_with_len}
use Rattle.kh_types.specs.Code.{Code, arc_in, slots_of, IsArc, IsCrossing}
use Rattle.kh_types.specs.Components.{next}
use Rattle.kh_types.specs.Directions.{is_positive, head_of, HasNoSingleArcs, IsPass}
use Rattle.kh_types.specs.Accepted.{IsDirected}
use Rattle.kh_types.proofs.Heads.{IsPass-under, IsPass-over, HasEnds-directed}
use Rattle.kh_types.proofs.NextArcs.{component, HasPlace-directed, IsArc-next}
use Rattle.kh_types.proofs.Ranges.{range-append}
use Rattle.code_passes.specs.Passes.{Pass, is_over}
use Rattle.code_passes.specs.ComponentLabels.{label_at, entering_label}
use Rattle.code_passes.proofs.LeastArcs.{IsFirstOf-directed}
use Rattle.code_passes.proofs.CutArcs.{IsFirst, IsFirst-next, size, component-in, end-within, size-positive}
use Rattle.code_passes.proofs.TwoArcComponents.{ascending}
use Rattle.code_passes.specs.Parts.{Parts, ArePaired, parts_of, passes_through, passes_at, slots_in, is_positive_at, over_pass}
use Rattle.orient_arcs.specs.Renumbered.{follows, label_entered, walk, turned_names, is_in, bound_of, order_of, number_in, renumber}
use Rattle.orient_arcs.specs.Steps.{order_below, is_new}
use Rattle.orient_arcs.specs.OtherNames.{IsNamedBy, IsOverCircle, KeepsComponents}
use Rattle.orient_arcs.proofs.NamedLists.{IsIn-map, map-IsIn, own-again, rising, turned-map}
use Rattle.orient_arcs.proofs.AscendingNames.{component-behind, component-from}
use Rattle.orient_arcs.proofs.Members.{IsIn, is_in-true, true-is_in, is_in-false, position-get, AreDistinct}
use Rattle.orient_arcs.proofs.PairedPasses.{heads_of, entering-holds, entering-enters, label-once, length-heads, All-flat_map_range}
use Rattle.orient_arcs.proofs.PairedCodes.{ArePaired-directed}
use Rattle.orient_arcs.proofs.Bridge.{below-bound, distinct-order, slot-head}
use Rattle.orient_arcs.proofs.ComponentSteps.{order-same, order-turned, walk-two}
use Rattle.orient_arcs.proofs.OwnNumbers.{in-range, range-in, walk-range, turned-own, label-own, follows-next, arc-head}

module _ (code : Code) (directed : IsDirected code.crossings) (moves : HasNoSingleArcs code.crossings) (parts : Parts)
    (paired : ArePaired parts) (f : ℕ → ℕ) (named : IsNamedBy f code parts) (keeps : KeepsComponents f code.crossings) where
  abbrev cs : List (List ℕ)
  cs = code.crossings

  abbrev passes : List Pass
  passes = passes_through parts

  -- a pass of the parts is one of the code under the names
  record IsOfArc (pass : Pass) : Type 0 where
    pub arc : ℕ
    pub is_arc : IsArc code.crossings arc
    pub enters : pass.enters ≡ f arc
    pub leaves : pass.leaves ≡ f (next code.crossings arc)
    pub label : pass.label ≡ entering_label code.crossings arc

  all-arcs : AllByRecursion IsOfArc passes
  all-arcs =
      All-flat_map_range IsOfArc (passes_at parts) 0 (length parts.crossings)
      (λ place from below.
      let within : place < length code.crossings = omega (arith, below, named.size) in
      let is : IsCrossing code.crossings (place + 1) = record { positive = omega arith; within = omega (arith, within) } in
      let e : place + 1 - 1 ≡ place = omega arith in
      let under = IsPass-under cs directed moves (place + 1) is in
      let over = IsPass-over cs directed moves (place + 1) is in
      let name : (slot : ℕ) → slot < 4
      → arc_in (slots_in parts.crossings place) slot ≡ f (arc_in (slots_of code.crossings (place + 1)) slot) =
      λ slot below. named.names place slot within below ∙ ap (λ k. f (arc_in (slots_in code.crossings k) slot)) (sym e) in
      let arc : (slot : ℕ) → slot < 4 → IsArc code.crossings (arc_in (slots_of code.crossings (place + 1)) slot) =
      λ slot below. directed.slots (record { crossing = place + 1; slot = slot }) (record { crossing = is; slot = below }) in (
        record {
          arc = arc_in (slots_of code.crossings (place + 1)) 0;
          is_arc = arc 0 (omega arith);
          enters = name 0 (omega arith);
          leaves = name 2 (omega arith) ∙ ap f under.follows;
          label = sym (ap label_at under.head);
        },
        (by (is_positive code.crossings (place + 1)) (is_positive_at parts.positive place) (named.signs place within) place name arc over, tt),
      ))
    where
      by : (b c : Bool) → c ≡ b → (place : ℕ)
          → ((slot : ℕ) → slot < 4 → arc_in (slots_in parts.crossings place) slot ≡ f (arc_in (slots_of code.crossings (place + 1)) slot))
          → ((slot : ℕ) → slot < 4 → IsArc code.crossings (arc_in (slots_of code.crossings (place + 1)) slot))
          → MatchBool b (IsPass code.crossings (place + 1) 3 1) (IsPass code.crossings (place + 1) 1 3)
          → IsOfArc (over_pass (slots_in parts.crossings place) c place)
      by true true same place name arc pass = record {
        arc = arc_in (slots_of code.crossings (place + 1)) 3;
        is_arc = arc 3 (omega arith);
        enters = name 3 (omega arith);
        leaves = name 1 (omega arith) ∙ ap f pass.follows;
        label = sym (ap label_at pass.head);
      }
      by false false same place name arc pass = record {
        arc = arc_in (slots_of code.crossings (place + 1)) 1;
        is_arc = arc 1 (omega arith);
        enters = name 1 (omega arith);
        leaves = name 3 (omega arith) ∙ ap f pass.follows;
        label = sym (ap label_at pass.head);
      }
      by true false same place name arc pass = absurd (cc)
      by false true same place name arc pass = absurd (cc)

  -- the heads are the names of the arcs
  name-head : (x : ℕ) → IsArc code.crossings x → IsIn (f x) (heads_of parts paired)
  name-head x is =
      let ends = HasEnds-directed code.crossings directed moves x is in
      let dart = head_of code.crossings x in
      let within = ends.head.within in
      let place = dart.crossing - 1 in
      let below : (head_of code.crossings x).crossing - 1 < length code.crossings =
      omega (arith, within.crossing.positive, within.crossing.within) in
      subst (λ (y : ℕ). IsIn y (heads_of parts paired)) (named.names place dart.slot below within.slot ∙ ap f ends.head.on_arc)
      (slot-head parts paired place dart.slot (omega (arith, below, named.size)) within.slot)

  record IsNameOf (name : ℕ) : Type 0 where
    pub arc : ℕ
    pub is_arc : IsArc code.crossings arc
    pub name_is : name ≡ f arc

  head-name : (name : ℕ) → IsIn name (heads_of parts paired) → IsNameOf name
  head-name name is =
      let found = entering-holds parts paired IsOfArc name all-arcs is in
      record { arc = found.arc; is_arc = found.is_arc; name_is = sym (entering-enters parts paired name is) ∙ found.enters }

  named-follows : (x : ℕ) → IsArc code.crossings x → follows (passes_through parts) (f x) ≡ f (next code.crossings x)
  named-follows x is =
      let head = name-head x is in
      let found = entering-holds parts paired IsOfArc (f x) all-arcs head in
      let same : found.arc ≡ x =
      keeps.apart found.arc x found.is_arc is (sym found.enters ∙ entering-enters parts paired (f x) head) in
      found.leaves ∙ ap (λ y. f (next code.crossings y)) same

  named-label : (x : ℕ) → IsArc code.crossings x → label_entered (passes_through parts) (f x) ≡ entering_label code.crossings x
  named-label x is =
      let head = name-head x is in
      let found = entering-holds parts paired IsOfArc (f x) all-arcs head in
      let same : found.arc ≡ x =
      keeps.apart found.arc x found.is_arc is (sym found.enters ∙ entering-enters parts paired (f x) head) in
      found.label ∙ ap (entering_label code.crossings) same

  -- a walk over names is one over arcs
  walk-names : (start : ℕ) → IsArc code.crossings start → (fuel x : ℕ) → IsArc code.crossings x
      → walk (follows (passes_through parts)) (f start) fuel (f x) ≡ map f (walk (follows (passes_through (parts_of code))) start fuel x)
  walk-names start start_is zero x is = refl
  walk-names start start_is (suc fuel) x is =
      let own = follows-next code directed moves x is in
      let next_is = IsArc-next code.crossings directed x is in
      ap (λ y. f x ∷ (if nat_eq y (f start) then [] else walk (follows (passes_through parts)) (f start) fuel y)) (named-follows x is)
      ∙ (elim (cases_eq (next code.crossings x) start) [
        | inl same ↦
            ap (λ b. f x ∷ (if b then [] else walk (follows (passes_through parts)) (f start) fuel (f (next code.crossings x))))
            (eq-eqb (f (next code.crossings x)) (f start) (ap f same))
            ∙ sym (ap (λ b. f x ∷ map f (if b then [] else walk (follows (passes_through (parts_of code))) start fuel
            (follows (passes_through (parts_of code)) x)))
            (eq-eqb (follows (passes_through (parts_of code)) x) start (own ∙ same)))
        | inr other ↦
            ap (λ b. f x ∷ (if b then [] else walk (follows (passes_through parts)) (f start) fuel (f (next code.crossings x))))
            (ne_eqb (f (next code.crossings x)) (f start)
            (λ same. other (keeps.apart (next code.crossings x) start next_is start_is same)))
            ∙ ap (λ ys. f x ∷ ys) (walk-names start start_is fuel (next code.crossings x) next_is)
            ∙ ap (λ y. f x ∷ map f (walk (follows (passes_through (parts_of code))) start fuel y)) (sym own)
            ∙ sym (ap (λ b. f x ∷ map f (if b then [] else walk (follows (passes_through (parts_of code))) start fuel
            (follows (passes_through (parts_of code)) x)))
            (ne_eqb (follows (passes_through (parts_of code)) x) start (λ same. other (sym own ∙ same))))
      ])

  length-passes : length (passes_through parts) ≡ 2 * length code.crossings
  length-passes =
      let size = length-heads parts paired in
      sym (length-map passes (λ (pass : Pass). pass.enters)) ∙ size ∙ ap (λ n. 2 * n) named.size

  -- the names of a component, in order
  abbrev names_from : ℕ → List ℕ
  names_from first = map f (range_with_len first (size code.crossings first))

  turned-first : (first : ℕ) → IsFirst code.crossings first
      → turned_names (label_entered (passes_through parts)) (walk (follows (passes_through parts)) (f first) (length (passes_through parts)) (f first))
      ≡ names_from first
  turned-first first is =
      let some = size-positive code.crossings directed first is in
      let end = end-within code.crossings directed first is in
      let zero_more : first ≡ first + 0 = omega arith in
      let none_less : size code.crossings first - 0 ≡ size code.crossings first = omega arith in
      let own : walk (follows (passes_through (parts_of code))) first (length (passes_through parts)) first
      ≡ range_with_len first (size code.crossings first) =
      ap (λ x. walk (follows (passes_through (parts_of code))) first (length (passes_through parts)) x) zero_more
      ∙ walk-range code directed moves first is (length (passes_through parts)) 0 (omega (arith, some))
      (omega (arith, length-passes, end, is.is_arc.positive))
      ∙ ap₂ (λ x n. range_with_len x n) (sym zero_more) none_less in
      ap (turned_names (label_entered (passes_through parts)))
      (walk-names first is.is_arc (length (passes_through parts)) first is.is_arc ∙ ap (map f) own)
      ∙ turned-map f (label_entered (passes_through parts)) (label_entered (passes_through (parts_of code)))
      (range_with_len first (size code.crossings first))
      (λ x here.
      let r = range-in first (size code.crossings first) x here in
      let x_is : IsArc code.crossings x = record { positive = omega (arith, r.0, is.is_arc.positive); within = omega (arith, r.1, end) } in
      named-label x x_is ∙ sym (label-own code directed moves x x_is))
      ∙ ap (map f) (turned-own code directed moves first is)

  -- so from the other arc of a circle over all
  turned-second : (first : ℕ) → IsFirst code.crossings first → IsOverCircle code.crossings first
      → turned_names (label_entered (passes_through parts))
      (walk (follows (passes_through parts)) (f (first + 1)) (length (passes_through parts)) (f (first + 1)))
      ≡ names_from first
  turned-second first is circle =
      let end = end-within code.crossings directed first is in
      let two = circle.two in
      let second_is : IsArc code.crossings (first + 1) =
      record { positive = omega arith; within = omega (arith, two, end) } in
      let inside = component-in code.crossings directed first (first + 1) is (omega arith) (omega (arith, two)) in
      let alike : size code.crossings (component code.crossings (first + 1)) ≡ size code.crossings first = ap (size code.crossings) inside in
      let own_alike : size code.crossings (component code.crossings first) ≡ size code.crossings first = ap (size code.crossings) is.own in
      let first_place = HasPlace-directed code.crossings directed first is.is_arc in
      let second_place = HasPlace-directed code.crossings directed (first + 1) second_is in
      let on : next code.crossings first ≡ first + 1 = first_place.inside (omega (arith, is.own, own_alike, two)) in
      let back : next code.crossings (first + 1) ≡ first =
      second_place.last (omega (arith, inside, alike, two)) ∙ inside in
      let differ : f first ≢ f (first + 1) =
      λ same. let equal = keeps.apart first (first + 1) is.is_arc second_is same in absurd (omega (arith, equal)) in
      let long : (k : ℕ) × (length (passes_through parts) ≡ suc (suc k)) =
      (length (passes_through parts) - 2, omega (arith, length-passes, is.is_arc.positive, second_is.within)) in
      let walked : walk (follows (passes_through parts)) (f (first + 1)) (length (passes_through parts)) (f (first + 1))
      ≡ f (first + 1) ∷ f first ∷ [] =
      ap (λ n. walk (follows (passes_through parts)) (f (first + 1)) n (f (first + 1))) long.1
      ∙ walk-two (follows (passes_through parts)) long.0 (f (first + 1)) (f first)
      (named-follows (first + 1) second_is ∙ ap f back) (named-follows first is.is_arc ∙ ap f on) differ in
      let here = entering_label code.crossings first in
      let there = entering_label code.crossings (first + 1) in
      let not_less : int_lt there here ≡ false =
      off (is_over here && is_over there) (int_lt there here) (and_from (is_over here) (is_over there) circle.first_over circle.second_over)
      (ascending code.crossings first (record { directed = directed; moves = moves }) is two) in
      let apart : entering_label code.crossings first ≢ entering_label code.crossings (first + 1) =
      λ same.
      let own = label-once (parts_of code) (ArePaired-directed code directed moves) first (first + 1)
      (arc-head code directed moves first is.is_arc) (arc-head code directed moves (first + 1) second_is)
      (label-own code directed moves first is.is_arc ∙ same ∙ sym (label-own code directed moves (first + 1) second_is)) in
      absurd (omega (arith, own)) in
      let rises = rising here there circle.first_over circle.second_over not_less apart in
      let test : ((is_over there && is_over here) && int_lt here there) ≡ true =
      and_from (is_over there && is_over here) (int_lt here there)
      (and_from (is_over there) (is_over here) circle.second_over circle.first_over) rises in
      ap (turned_names (label_entered (passes_through parts))) walked
      ∙ ap₂ (λ x y. if (is_over x && is_over y) && int_lt y x then f first ∷ f (first + 1) ∷ [] else f (first + 1) ∷ f first ∷ [])
      (named-label (first + 1) second_is) (named-label first is.is_arc)
      ∙ ap (λ b. if b then f first ∷ f (first + 1) ∷ [] else f (first + 1) ∷ f first ∷ []) test
      ∙ sym (ap (λ n. map f (range_with_len first n)) two)
    where
      off : (a b : Bool) → a ≡ true → (a && b) ≡ false → b ≡ false
      off true b holds fails = fails
      off false b holds fails = absurd (cc)

  -- how far the order has come
  record IsNamedTo (k : ℕ) : Type 0 where
    pub last : ℕ
    pub order : order_below (passes_through parts) k ≡ map f (range_with_len 1 last)
    pub within : last ≤ 2 * length code.crossings
    pub first : last < 2 * length code.crossings → IsFirst code.crossings (last + 1)
    pub later : (x : ℕ) → IsArc code.crossings x → last < x → k ≤ f x

  in-order : (k : ℕ) (to : IsNamedTo k) (x : ℕ) → IsArc code.crossings x → IsIn (f x) (order_below (passes_through parts) k) → x ≤ to.last
  in-order k to x is here =
      let found = map-IsIn f (f x) (range_with_len 1 to.last) (subst (λ (os : List ℕ). IsIn (f x) os) to.order here) in
      let r = range-in 1 to.last found.0 found.1 in
      let within = to.within in
      let found_is : IsArc code.crossings found.0 = record { positive = r.0; within = omega (arith, r.1, within) } in
      let same = keeps.apart x found.0 is found_is found.2 in
      omega (arith, same, r.1)

  named-more : (k : ℕ) → IsNamedTo k → IsNamedTo (k + 1)
  named-more k to = elim (cases_Bool (is_new (passes_through parts) (order_below (passes_through parts) k) k)) [
    | inr old ↦ record {
      last = to.last;
      order = sym (order-same parts paired k old) ∙ to.order;
      within = to.within;
      first = to.first;
      later = λ x is after. elim (cases_eq (f x) k) [
        | inl same ↦ absurd
            (both_ways (is_new (passes_through parts) (order_below (passes_through parts) k) k) old
            (and_from (is_in (heads_of parts paired) k) (not (is_in (order_below (passes_through parts) k) k))
            (is_in-true k (heads_of parts paired) (subst (λ (y : ℕ). IsIn y (heads_of parts paired)) same (name-head x is)))
            (ap not
            (is_in-false k (order_below (passes_through parts) k)
            (λ here.
            let low = in-order k to x is (subst (λ (y : ℕ). IsIn y (order_below (passes_through parts) k)) (sym same) here) in
            absurd (omega (arith, low, after)))))))
        | inr other ↦ let from = to.later x is after in omega (arith, from, other)
      ];
    }
    | inl new ↦
        let parts_new = and_parts (is_in (heads_of parts paired) k) (not (is_in (order_below (passes_through parts) k) k)) new in
        let name = head-name k (true-is_in k (heads_of parts paired) parts_new.0) in
        let x = name.arc in
        let after : to.last < name.arc = elim (cases_lt to.last name.arc) [
          | inl more ↦ more
          | inr low ↦ absurd
              (both_ways (is_in (order_below (passes_through parts) k) k) (not-true (is_in (order_below (passes_through parts) k) k) parts_new.1)
              (is_in-true k (order_below (passes_through parts) k)
              (subst (λ (os : List ℕ). IsIn k os) (sym to.order)
              (subst (λ (y : ℕ). IsIn y (map f (range_with_len 1 to.last))) (sym name.name_is)
              (IsIn-map f name.arc (range_with_len 1 to.last)
              (in-range 1 to.last name.arc name.is_arc.positive (omega (arith, low))))))))
        ] in
        let first = to.last + 1 in
        let within = name.is_arc.within in
        let is : IsFirst code.crossings (to.last + 1) = to.first (omega (arith, after, within)) in
        let from = component-from code.crossings directed (to.last + 1) name.arc is name.is_arc (omega (arith, after)) in
        let least = to.later (to.last + 1) is.is_arc (omega arith) in
        let inside : component code.crossings name.arc ≡ to.last + 1 = elim (cases_lt (to.last + 1) (component code.crossings name.arc)) [
          | inr low ↦ omega (arith, from, low)
          | inl behind ↦
              let less = keeps.across (to.last + 1) name.arc is.is_arc name.is_arc (omega (arith, is.own, behind)) in
              absurd (omega (arith, less, least, name.name_is))
        ] in
        let place = HasPlace-directed code.crossings directed name.arc name.is_arc in
        let alike : size code.crossings (component code.crossings name.arc) ≡ size code.crossings (to.last + 1) =
        ap (size code.crossings) inside in
        let walked : turned_names (label_entered (passes_through parts)) (walk (follows (passes_through parts)) k (length (passes_through parts)) k)
        ≡ map f (range_with_len (to.last + 1) (size code.crossings (to.last + 1))) =
        subst (λ (y : ℕ). turned_names (label_entered (passes_through parts)) (walk (follows (passes_through parts)) y (length (passes_through parts)) y)
        ≡ map f (range_with_len (to.last + 1) (size code.crossings (to.last + 1)))) (sym name.name_is)
        (begun (to.last + 1) is name.arc name.is_arc inside (omega (arith, least, name.name_is)) (omega (arith, place.below, inside, alike))
        (omega (arith, after))) in
        let end = end-within code.crossings directed (to.last + 1) is in
        let first_is : to.last + 1 ≡ 1 + to.last = omega arith in
        record {
          last = to.last + size code.crossings (to.last + 1);
          order = sym (order-turned parts paired k new)
              ∙ ap₂ (λ xs ys. xs ++ ys) to.order (walked ∙ ap (λ a. map f (range_with_len a (size code.crossings (to.last + 1)))) first_is)
              ∙ sym (map-append f (range_with_len 1 to.last) (range_with_len (1 + to.last) (size code.crossings (to.last + 1))))
              ∙ ap (map f) (sym (range-append 1 to.last (size code.crossings (to.last + 1))));
          within = omega (arith, end);
          first = λ left.
              let e : to.last + 1 + size code.crossings (to.last + 1) ≡ to.last + size code.crossings (to.last + 1) + 1 = omega arith in
              subst (λ (y : ℕ). IsFirst code.crossings y) e
              (IsFirst-next code.crossings directed (to.last + 1) is (omega (arith, left)));
          later = λ y y_is y_after.
              let behind = component-behind code.crossings directed (to.last + 1) y is y_is (omega (arith, y_after)) in
              let less = keeps.across name.arc y name.is_arc y_is (omega (arith, inside, behind)) in
              omega (arith, less, name.name_is);
        }
  ]
    where
      begun : (first : ℕ) → IsFirst code.crossings first → (arc : ℕ) → IsArc code.crossings arc → component code.crossings arc ≡ first
          → f arc ≤ f first → arc < first + size code.crossings first → first ≤ arc
          → turned_names (label_entered (passes_through parts))
          (walk (follows (passes_through parts)) (f arc) (length (passes_through parts)) (f arc))
          ≡ map f (range_with_len first (size code.crossings first))
      begun first is arc arc_is inside low below from = elim (cases_eq arc first) [
        | inl same ↦
            subst (λ (y : ℕ). turned_names (label_entered (passes_through parts))
            (walk (follows (passes_through parts)) (f y) (length (passes_through parts)) (f y))
            ≡ map f (range_with_len first (size code.crossings first))) (sym same) (turned-first first is)
        | inr other ↦ elim (keeps.within arc arc_is) [
          | inl high ↦
              let same : f arc ≡ f first = omega (arith, low, high, ap f inside) in
              absurd (other (keeps.apart arc first arc_is is.is_arc same))
          | inr circle ↦
              let here : IsOverCircle code.crossings first = subst (λ (y : ℕ). IsOverCircle code.crossings y) inside circle in
              let two = here.two in
              let second : first + 1 ≡ arc = omega (arith, other, below, from, two) in
              subst (λ (y : ℕ). turned_names (label_entered (passes_through parts))
              (walk (follows (passes_through parts)) (f y) (length (passes_through parts)) (f y))
              ≡ map f (range_with_len first (size code.crossings first))) second (turned-second first is here)
        ]
      ]

  named-to : (k : ℕ) → IsNamedTo k
  named-to zero = record {
    last = 0;
    order = refl;
    within = omega arith;
    first = λ some.
        let is : IsArc code.crossings 1 = record { positive = omega arith; within = omega (arith, some) } in
        let least = (HasPlace-directed code.crossings directed 1 is).from in
        let positive = (IsFirstOf-directed code.crossings directed 1 is).is_arc.positive in
        record { is_arc = is; own = omega (arith, least, positive) };
    later = λ x is after. omega arith;
  }
  named-to (suc k) = let e : k + 1 ≡ suc k = omega arith in subst (λ (j : ℕ). IsNamedTo j) e (named-more k (named-to k))

  pub named-order : order_of (passes_through parts) ≡ map f (range_with_len 1 (2 * length code.crossings))
  named-order =
      let to = named-to (bound_of (passes_through parts)) in
      let within = to.within in
      let all : to.last ≡ 2 * length code.crossings = elim (cases_lt to.last (2 * length code.crossings)) [
        | inr done ↦ omega (arith, done, within)
        | inl more ↦
            let arc : IsArc code.crossings (to.last + 1) = record { positive = omega arith; within = omega (arith, more) } in
            let below = below-bound (passes_through parts) (f (to.last + 1)) (name-head (to.last + 1) arc) in
            let from = to.later (to.last + 1) arc (omega arith) in
            absurd (omega (arith, below, from))
      ] in
      to.order ∙ ap (λ n. map f (range_with_len 1 n)) all

  named-number : (x : ℕ) → IsArc code.crossings x → number_in (order_of (passes_through parts)) (f x) ≡ x
  named-number x is =
      let n = 2 * length code.crossings in
      let k = x - 1 in
      let at : get_or (map f (range_with_len 1 (2 * length code.crossings))) (x - 1) 0 ≡ f x =
      get_or-map-range_with_len f 1 n k x 0 (omega (arith, is.positive, is.within)) (omega (arith, is.positive)) in
      let distinct : AreDistinct (map f (range_with_len 1 (2 * length code.crossings))) =
      subst (λ (xs : List ℕ). AreDistinct xs) named-order (distinct-order parts paired) in
      let long : length (map f (range_with_len 1 (2 * length code.crossings))) ≡ 2 * length code.crossings =
      length-map (range_with_len 1 n) f ∙ length-range_with_len 1 n in
      let place = position-get (map f (range_with_len 1 n)) k distinct (omega (arith, long, is.positive, is.within)) in
      ap (λ os. number_in os (f x)) named-order
      ∙ ap (λ p. p + 1) (ap (λ z. position_or_len (nat_eq z) (map f (range_with_len 1 n))) (sym at) ∙ place) ∙ omega (arith, is.positive)

  pub own-crossings : AllByRecursion (λ (slots : List ℕ). length slots ≡ 4) code.crossings → (renumber parts).crossings ≡ code.crossings
  own-crossings four =
      own-again (number_in (order_of (passes_through parts))) parts.crossings code.crossings named.size four
      (λ k slot below slot_below.
      let e : k + 1 - 1 ≡ k = omega arith in
      ap (number_in (order_of (passes_through parts))) (named.names k slot below slot_below)
      ∙ subst (λ (j : ℕ). number_in (order_of (passes_through parts)) (f (arc_in (slots_in code.crossings j) slot)) ≡ arc_in (slots_in code.crossings j) slot) e
      (named-number (arc_in (slots_in code.crossings (k + 1 - 1)) slot)
      (directed.slots (record { crossing = k + 1; slot = slot })
      (record { crossing = record { positive = omega arith; within = omega (arith, below) }; slot = slot_below }))))
