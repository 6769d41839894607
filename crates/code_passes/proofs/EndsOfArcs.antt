-- Each arc of a directed code that is not its own next has one head and one tail, whatever the other components are: two heads of one arc
-- are heads of an arc that is its own next, and across from two tails there are two heads of the arc before, which then is its own next too.
--
-- This is the theorem of kh_types on heads (Heads) for one arc, where other components may have single arcs: two heads of one arc make its
-- component the arc and its next, and what the rules then leave is that the arc is its own next. So the search for the head and that for
-- the tail of an arc that is not its own next find one dart each.
use Rattle.std.proofs.lemmas.Bool.Decides.{nat_tests}
use Rattle.std.proofs.Common.{◌≡◌, ◌≢◌, ℕ, inl, inr, ◌*◌, ◌∙◌, List, sym, ap, subst, length, arith, Bool, true, false, not, ◌&&◌}
use Rattle.std.specs.Prelude.{nat_eq, unwrap_or}
use Rattle.std.specs.List.{find, range_with_len}
use Rattle.std.specs.Option.{option_map}
use Rattle.std.proofs.lemmas.Bool.{and_parts, and_from, cases_Bool, not-true, eq-eqb, eqb-true, false_from_ne_true}
use Rattle.kh_types.specs.declared.dart.Dart.{Dart}
use Rattle.kh_types.specs.Code.{IsArc}
use Rattle.kh_types.specs.Components.{next}
use Rattle.kh_types.specs.Darts.{dart_at, dart_place, darts, arc_of, first_dart, partner, IsDart, IsDartOf, IsOtherDart}
use Rattle.kh_types.specs.Directions.{is_head, head_of, tail_of, HasEnds}
use Rattle.kh_types.specs.Accepted.{IsDirected}
use Rattle.kh_types.proofs.Ranges.{find-map}
use Rattle.kh_types.proofs.RangeCounts.{found-counted, count_by-but}
use Rattle.kh_types.proofs.DartPairs.{dart_place-below, dart_at-place, IsDart-at, IsOtherDart-partner, dart_or_partner, IsDartOf-first_dart}
use Rattle.kh_types.proofs.AcceptedLemmas.{HasArcsTwice-directed}
use Rattle.kh_types.proofs.NextArcs.{next-injective}
use Rattle.kh_types.proofs.DirectedPasses.{across, IsDart-across, across-across, is_head-across, arc_of-across}
use Rattle.kh_types.proofs.OneHead.{two_heads-none}

module _ (crossings : List (List ℕ)) (directed : IsDirected crossings) where
  one_head : (dart other : Dart) → next crossings (arc_of crossings dart) ≢ arc_of crossings dart → IsDart crossings dart
      → IsOtherDart crossings dart other → is_head crossings dart ≡ true → is_head crossings other ≡ true → ⊥
  one_head dart other moves is beside head other_head = grind (arith, nat_tests, two_heads-none)

  one_tail : (dart other : Dart) → next crossings (arc_of crossings dart) ≢ arc_of crossings dart → IsDart crossings dart
      → IsOtherDart crossings dart other → is_head crossings dart ≡ false → is_head crossings other ≡ false → ⊥
  one_tail dart other moves is beside tail other_tail =
      let across_is = IsDart-across crossings dart is in
      let other_is = IsDart-across crossings other beside.within in
      let before = arc_of crossings (across dart) in
      let head : is_head crossings (across dart) ≡ true = is_head-across crossings dart is.slot ∙ ap not tail in
      let other_head : is_head crossings (across other) ≡ true =
      is_head-across crossings other beside.within.slot ∙ ap not other_tail in
      let leads = λ (d : Dart) (d_is : IsDart crossings d) (d_head : is_head crossings (across d) ≡ true).
      sym (arc_of-across crossings (across d) directed (IsDart-across crossings d d_is) d_head)
      ∙ ap (λ e. arc_of crossings e) (across-across d d_is.slot) in
      let on = leads dart is head in
      one_head (across dart) (across other)
      (λ alone. moves (ap (next crossings) (sym on ∙ alone) ∙ on)) across_is
      (record {
        within = other_is;
        differs = λ same. beside.differs
            (sym (across-across other beside.within.slot) ∙ ap across same ∙ across-across dart is.slot);
        same_arc =
            next-injective crossings directed (arc_of crossings (across other)) before
            (directed.slots (across other) other_is) (directed.slots (across dart) across_is)
            (leads other beside.within other_head ∙ beside.same_arc ∙ sym on);
      }) head other_head

  -- of the two darts of the arc one is a head
  turned : (dart : Dart) → next crossings (arc_of crossings dart) ≢ arc_of crossings dart → IsDart crossings dart
      → is_head crossings (partner crossings dart) ≡ not (is_head crossings dart)
  turned dart moves is = grind (arith, nat_tests, IsOtherDart-partner, HasArcsTwice-directed, cases_Bool, one_head, one_tail)

  -- a search among the darts of a code finds one that passes, where there is one
  found_dart : (p : Dart → Bool) (dart : Dart) → IsDart crossings dart → p dart ≡ true
      → IsDart crossings (unwrap_or (find p (darts crossings)) (dart_at 0)) × (p (unwrap_or (find p (darts crossings)) (dart_at 0)) ≡ true)
  found_dart p dart is passes =
      let n = 4 * length crossings in
      let q = λ (place : ℕ). p (dart_at place) in
      let there : q (dart_place dart) ≡ true = ap p (dart_at-place crossings dart is) ∙ passes in
      let some = count_by-but q 0 n (dart_place dart) (omega arith) (omega (arith, dart_place-below crossings dart is)) there in
      let found = found-counted q 0 n (omega (arith, some)) in
      let is_found : unwrap_or (find p (darts crossings)) (dart_at 0) ≡ dart_at found.0 =
      ap (λ o. unwrap_or o (dart_at 0))
      (find-map p dart_at (range_with_len 0 n) ∙ ap (λ o. option_map dart_at o) found.1.first) in (
        subst (λ (d : Dart). IsDart crossings d) (sym is_found) (IsDart-at crossings found.0 (omega (arith, found.1.below))),
        ap p is_found ∙ found.1.passes,
      )

  -- the head and the tail of an arc that searches among all darts find
  record HasFound (arc : ℕ) : Type 0 where
    head : IsDartOf crossings arc (head_of crossings arc)
    tail : IsDartOf crossings arc (tail_of crossings arc)
    enters : is_head crossings (head_of crossings arc) ≡ true
    leaves : is_head crossings (tail_of crossings arc) ≡ false

  found_ends : (arc : ℕ) (head tail : Dart) → IsDartOf crossings arc head → IsDartOf crossings arc tail
      → is_head crossings head ≡ true → is_head crossings tail ≡ false → HasFound arc
  found_ends arc head tail head_is tail_is enters leaves =
      let is_arc = λ (dart : Dart). nat_eq (arc_of crossings dart) arc in
      let heads = found_dart (λ dart. is_arc dart && is_head crossings dart) head head_is.within
      (and_from (is_arc head) (is_head crossings head) (eq-eqb (arc_of crossings head) arc head_is.on_arc) enters) in
      let tails = found_dart (λ dart. is_arc dart && not (is_head crossings dart)) tail tail_is.within
      (and_from (is_arc tail) (not (is_head crossings tail)) (eq-eqb (arc_of crossings tail) arc tail_is.on_arc) (ap not leaves)) in
      let head_parts = and_parts (is_arc (head_of crossings arc)) (is_head crossings (head_of crossings arc)) heads.1 in
      let tail_parts = and_parts (is_arc (tail_of crossings arc)) (not (is_head crossings (tail_of crossings arc))) tails.1 in
      record {
        head = record { within = heads.0; on_arc = eqb-true (arc_of crossings (head_of crossings arc)) arc head_parts.0 };
        tail = record { within = tails.0; on_arc = eqb-true (arc_of crossings (tail_of crossings arc)) arc tail_parts.0 };
        enters = head_parts.1;
        leaves = not-true (is_head crossings (tail_of crossings arc)) tail_parts.1;
      }

  module _ (arc : ℕ) (is_arc : IsArc crossings arc) (moves : next crossings arc ≢ arc) where
    turned_on : (dart : Dart) → IsDartOf crossings arc dart → is_head crossings (partner crossings dart) ≡ not (is_head crossings dart)
    turned_on dart is = turned dart (subst (λ (x : ℕ). next crossings x ≢ x) (sym is.on_arc) moves) is.within

    IsDartOf-partner : (dart : Dart) → IsDartOf crossings arc dart → IsDartOf crossings arc (partner crossings dart)
    IsDartOf-partner dart is = grind (arith, nat_tests, IsOtherDart-partner, HasArcsTwice-directed)

    found_first : HasFound arc
    found_first =
        let dart = first_dart crossings arc in
        let first = IsDartOf-first_dart crossings arc (HasArcsTwice-directed crossings directed) is_arc in
        let second = IsDartOf-partner dart first in
        elim (cases_Bool (is_head crossings dart)) [
          | inl head ↦ found_ends arc dart (partner crossings dart) first second head (turned_on dart first ∙ ap not head)
          | inr tail ↦ found_ends arc (partner crossings dart) dart second first (turned_on dart first ∙ ap not tail) tail
        ]

    -- a dart of the arc that is a head where another is one, or a tail where that is one, is the other
    same_end : (dart end : Dart) → IsDartOf crossings arc dart → IsDartOf crossings arc end
        → is_head crossings dart ≡ is_head crossings end → dart ≡ end
    same_end dart end is end_is same =
        elim (dart_or_partner crossings end dart (HasArcsTwice-directed crossings directed) end_is.within is.within
        (is.on_arc ∙ sym end_is.on_arc)) [
          | inl one ↦ one
          | inr across_arc ↦
              absurd
              (not_turned (is_head crossings end)
              (sym same ∙ ap (λ d. is_head crossings d) across_arc ∙ turned_on end end_is))
        ]
      where
        not_turned : (b : Bool) → b ≡ not b → ⊥
        not_turned b turned = grind (arith, nat_tests, turned)

    pub HasEnds-moving : HasEnds crossings arc
    HasEnds-moving =
        let found = found_first in
        let head = head_of crossings arc in
        let tail = tail_of crossings arc in
        record {
          head = found.head;
          tail = found.tail;
          enters = found.enters;
          leaves = λ is. true_not_false (is_head crossings tail) is found.leaves;
          one_head = λ dart is enters. same_end dart head is found.head (enters ∙ sym found.enters);
          one_tail = λ dart is leaves. same_end dart tail is found.tail
              (false_from_ne_true (is_head crossings dart) leaves ∙ sym found.leaves);
          head_to_tail = same_end (partner crossings head) tail (IsDartOf-partner head found.head) found.tail
              (turned_on head found.head ∙ ap not found.enters ∙ sym found.leaves);
          tail_to_head = same_end (partner crossings tail) head (IsDartOf-partner tail found.tail) found.head
              (turned_on tail found.tail ∙ ap not found.leaves ∙ sym found.enters);
        }
      where
        true_not_false : (b : Bool) → b ≡ true → b ≡ false → ⊥
        true_not_false b holds fails = cc
