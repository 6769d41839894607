-- Each arc of a directed code has one head and one tail, where no component has a single arc.
--
-- Of the two darts of an arc one is a head: two heads are excluded in OneHead, and two tails lie across from two heads of other arcs. So
-- the search for a head and that for a tail each find the one dart there is (`HasEnds-directed`), and each pass leads from a head to the
-- dart across. A single arc, with both ends of its pass, would have two darts of one colour: a checkerboard excludes it, so accepted codes
-- have none, and the same holds for them (`HasEnds-accepted`).
use Rattle.std.proofs.lemmas.Bool.Decides.{nat_tests}
use Rattle.std.proofs.Common.{◌≡◌, ℕ, inl, inr, ◌+◌, ◌*◌, ◌%◌, ◌<◌, ◌∙◌, ◌-◌, List, refl, sym, ap, subst, length, arith, Bool, true, false, not, ◌&&◌}
use Rattle.std.specs.Prelude.{nat_eq, ◌||◌, if◌then◌else◌, unwrap_or, IsTrue, MatchBool}
use Rattle.std.specs.List.{find, range_with_len}
use Rattle.std.specs.Option.{option_map}
use Rattle.std.proofs.lemmas.Bool.{and_parts, and_from, cases_Bool, not-true, eq-eqb, eqb-true, false_from_ne_true}
use Rattle.kh_types.specs.declared.dart.Dart.{Dart}
use Rattle.kh_types.specs.Code.{Code, IsArc, IsCrossing}
use Rattle.kh_types.specs.Bits.{bit}
use Rattle.kh_types.specs.Components.{next}
use Rattle.kh_types.specs.Darts.{dart_at, dart_place, darts, arc_of, first_dart, partner, IsDart, IsDartOf, IsOtherDart}
use Rattle.kh_types.specs.Checkerboard.{IsCheckerboard}
use Rattle.kh_types.specs.Directions.{HasNoSingleArcs, is_positive, is_head, head_of, tail_of, HasEnds, IsPass}
use Rattle.kh_types.specs.Acceptance.{accepted}
use Rattle.kh_types.specs.Accepted.{IsDirected}
use Rattle.kh_types.proofs.Ranges.{find-map}
use Rattle.kh_types.proofs.RangeCounts.{found-counted, count_by-but}
use Rattle.kh_types.proofs.DartPairs.{IsDart-at, dart_place-below, dart_at-place, IsOtherDart-partner, dart_or_partner, IsDartOf-first_dart}
use Rattle.kh_types.proofs.AcceptedLemmas.{IsAccepted-is, HasArcsTwice-directed}
use Rattle.kh_types.proofs.DartColours.{IsColoured-checkerboard}
use Rattle.kh_types.proofs.PassPairs.{dart_with, IsDart-with}
use Rattle.kh_types.proofs.NextArcs.{next-injective}
use Rattle.kh_types.proofs.DirectedPasses.{across, IsDart-across, across-across, is_head-across, arc_of-across}
use Rattle.kh_types.proofs.OneHead.{two_heads-none}

-- where an arc is its own next, the two ends of its pass are its two darts
across-alone : (crossings : List (List ℕ)) (dart : Dart) → IsDirected crossings → IsDart crossings dart
    → next crossings (arc_of crossings dart) ≡ arc_of crossings dart → arc_of crossings (across dart) ≡ arc_of crossings dart
across-alone crossings dart directed is alone = elim (cases_Bool (is_head crossings dart)) [
  | inl head ↦ arc_of-across crossings dart directed is head ∙ alone
  | inr tail ↦
      let across_is = IsDart-across crossings dart is in
      let head : is_head crossings (across dart) ≡ true = is_head-across crossings dart is.slot ∙ ap not tail in
      let leads : arc_of crossings dart ≡ next crossings (arc_of crossings (across dart)) =
      ap (λ d. arc_of crossings d) (sym (across-across dart is.slot)) ∙ arc_of-across crossings (across dart) directed across_is head in
      sym
      (next-injective crossings directed (arc_of crossings dart) (arc_of crossings (across dart)) (directed.slots dart is)
      (directed.slots (across dart) across_is) (alone ∙ leads))
]

-- which a checkerboard choice forbids, since both have one colour
pub HasNoSingleArcs-checkerboard : (crossings : List (List ℕ)) → IsDirected crossings → IsCheckerboard crossings
    → HasNoSingleArcs crossings
HasNoSingleArcs-checkerboard crossings directed board arc is_arc alone =
    let twice = HasArcsTwice-directed crossings directed in
    let oriented = IsColoured-checkerboard crossings board twice in
    let first = IsDartOf-first_dart crossings arc twice is_arc in
    let dart = first_dart crossings arc in
    let same_arc = across-alone crossings dart directed first.within
    (ap (λ z. next crossings z) first.on_arc ∙ alone ∙ sym first.on_arc) in
    let same = oriented.once dart (across dart) first.within (IsDart-across crossings dart first.within) (sym same_arc)
    (one_colour (bit board.choice (dart.crossing - 1)) dart.slot) in
    omega (arith, ap (λ (d : Dart). d.slot) same, first.within.slot)
  where
    one_colour : (x slot : ℕ) → (x + slot) % 2 ≡ (x + (slot + 2) % 4) % 2
    one_colour x slot = omega arith

-- no arc has two heads, nor two tails: across from two tails are two heads of one arc
one_head : (crossings : List (List ℕ)) (dart other : Dart) → IsDirected crossings → HasNoSingleArcs crossings → IsDart crossings dart
    → IsOtherDart crossings dart other → is_head crossings dart ≡ true → is_head crossings other ≡ true → ⊥
one_head crossings dart other directed moves is beside head other_head =
    two_heads-none crossings dart other directed
    (record { within = is; beside = beside; head = head; other_head = other_head })
    (moves (arc_of crossings dart) (directed.slots dart is))

one_tail : (crossings : List (List ℕ)) (dart other : Dart) → IsDirected crossings → HasNoSingleArcs crossings → IsDart crossings dart
    → IsOtherDart crossings dart other → is_head crossings dart ≡ false → is_head crossings other ≡ false → ⊥
one_tail crossings dart other directed moves is beside tail other_tail =
    let across_is = IsDart-across crossings dart is in
    let other_is = IsDart-across crossings other beside.within in
    let head : is_head crossings (across dart) ≡ true = is_head-across crossings dart is.slot ∙ ap not tail in
    let other_head : is_head crossings (across other) ≡ true =
    is_head-across crossings other beside.within.slot ∙ ap not other_tail in
    let leads = λ (d : Dart) (d_is : IsDart crossings d) (d_head : is_head crossings (across d) ≡ true).
    sym (arc_of-across crossings (across d) directed (IsDart-across crossings d d_is) d_head)
    ∙ ap (λ e. arc_of crossings e) (across-across d d_is.slot) in
    one_head crossings (across dart) (across other) directed moves across_is
    (record {
      within = other_is;
      differs = λ same. beside.differs
          (sym (across-across other beside.within.slot) ∙ ap across same ∙ across-across dart is.slot);
      same_arc =
          next-injective crossings directed (arc_of crossings (across other)) (arc_of crossings (across dart))
          (directed.slots (across other) other_is) (directed.slots (across dart) across_is)
          (leads other beside.within other_head ∙ beside.same_arc ∙ sym (leads dart is head));
    }) head other_head

-- of the two darts of an arc one is a head
pub is_head-partner : (crossings : List (List ℕ)) (dart : Dart) → IsDirected crossings → HasNoSingleArcs crossings
    → IsDart crossings dart → is_head crossings (partner crossings dart) ≡ not (is_head crossings dart)
is_head-partner crossings dart directed moves is =
    let other = partner crossings dart in
    let beside = IsOtherDart-partner crossings dart (HasArcsTwice-directed crossings directed) is in
    elim (cases_Bool (is_head crossings dart)) [
      | inl head ↦ elim (cases_Bool (is_head crossings other)) [
        | inl other_head ↦ absurd (one_head crossings dart other directed moves is beside head other_head)
        | inr other_tail ↦ other_tail ∙ sym (ap not head)
      ]
      | inr tail ↦ elim (cases_Bool (is_head crossings other)) [
        | inl other_head ↦ other_head ∙ sym (ap not tail)
        | inr other_tail ↦ absurd (one_tail crossings dart other directed moves is beside tail other_tail)
      ]
    ]

-- a search among the darts of a code finds one that passes, where there is one
found_dart : (crossings : List (List ℕ)) (p : Dart → Bool) (dart : Dart) → IsDart crossings dart → p dart ≡ true
    → IsDart crossings (unwrap_or (find p (darts crossings)) (dart_at 0)) × (p (unwrap_or (find p (darts crossings)) (dart_at 0)) ≡ true)
found_dart crossings p dart is passes =
    let n = 4 * length crossings in
    let q = λ (place : ℕ). p (dart_at place) in
    let there : q (dart_place dart) ≡ true = ap p (dart_at-place crossings dart is) ∙ passes in
    let some = count_by-but q 0 n (dart_place dart) (omega arith) (omega (arith, dart_place-below crossings dart is)) there in
    let found = found-counted q 0 n (omega (arith, some)) in
    let is_found : unwrap_or (find p (darts crossings)) (dart_at 0) ≡ dart_at found.0 =
    ap (λ o. unwrap_or o (dart_at 0))
    (find-map p dart_at (range_with_len 0 n) ∙ ap (λ o. option_map dart_at o) found.1.first) in (
      subst (λ (d : Dart). IsDart crossings d) (sym is_found) (IsDart-at crossings found.0 (omega (arith, found.1.below))),
      ap p is_found ∙ found.1.passes,
    )

-- the head and the tail of an arc that searches among all darts find
record HasFound (crossings : List (List ℕ)) (arc : ℕ) : Type 0 where
  head : IsDartOf crossings arc (head_of crossings arc)
  tail : IsDartOf crossings arc (tail_of crossings arc)
  enters : is_head crossings (head_of crossings arc) ≡ true
  leaves : is_head crossings (tail_of crossings arc) ≡ false

found_ends : (crossings : List (List ℕ)) (arc : ℕ) (head tail : Dart) → IsDartOf crossings arc head → IsDartOf crossings arc tail
    → is_head crossings head ≡ true → is_head crossings tail ≡ false → HasFound crossings arc
found_ends crossings arc head tail head_is tail_is enters leaves =
    let is_arc = λ (dart : Dart). nat_eq (arc_of crossings dart) arc in
    let heads = found_dart crossings (λ dart. is_arc dart && is_head crossings dart) head head_is.within
    (and_from (is_arc head) (is_head crossings head) (eq-eqb (arc_of crossings head) arc head_is.on_arc) enters) in
    let tails = found_dart crossings (λ dart. is_arc dart && not (is_head crossings dart)) tail tail_is.within
    (and_from (is_arc tail) (not (is_head crossings tail)) (eq-eqb (arc_of crossings tail) arc tail_is.on_arc) (ap not leaves)) in
    let head_parts = and_parts (is_arc (head_of crossings arc)) (is_head crossings (head_of crossings arc)) heads.1 in
    let tail_parts = and_parts (is_arc (tail_of crossings arc)) (not (is_head crossings (tail_of crossings arc))) tails.1 in
    record {
      head = record { within = heads.0; on_arc = eqb-true (arc_of crossings (head_of crossings arc)) arc head_parts.0 };
      tail = record { within = tails.0; on_arc = eqb-true (arc_of crossings (tail_of crossings arc)) arc tail_parts.0 };
      enters = head_parts.1;
      leaves = not-true (is_head crossings (tail_of crossings arc)) tail_parts.1;
    }

found_first : (crossings : List (List ℕ)) → IsDirected crossings → HasNoSingleArcs crossings → (arc : ℕ) → IsArc crossings arc
    → HasFound crossings arc
found_first crossings directed moves arc is_arc =
    let twice = HasArcsTwice-directed crossings directed in
    let dart = first_dart crossings arc in
    let other = partner crossings dart in
    let first = IsDartOf-first_dart crossings arc twice is_arc in
    let beside = IsOtherDart-partner crossings dart twice first.within in
    let second : IsDartOf crossings arc other = record { within = beside.within; on_arc = beside.same_arc ∙ first.on_arc } in
    let turns = is_head-partner crossings dart directed moves first.within in
    elim (cases_Bool (is_head crossings dart)) [
      | inl head ↦ found_ends crossings arc dart other first second head (turns ∙ ap not head)
      | inr tail ↦ found_ends crossings arc other dart second first (turns ∙ ap not tail) tail
    ]

-- a dart of an arc that is a head where another is one, or a tail where that is one, is the other
same_end : (crossings : List (List ℕ)) (arc : ℕ) (dart end : Dart) → IsDirected crossings → HasNoSingleArcs crossings
    → IsDartOf crossings arc dart → IsDartOf crossings arc end → is_head crossings dart ≡ is_head crossings end → dart ≡ end
same_end crossings arc dart end directed moves is end_is same =
    elim (dart_or_partner crossings end dart (HasArcsTwice-directed crossings directed) end_is.within is.within
    (is.on_arc ∙ sym end_is.on_arc)) [
      | inl one ↦ one
      | inr across_arc ↦
          absurd
          (not_turned (is_head crossings end)
          (sym same ∙ ap (λ d. is_head crossings d) across_arc ∙ is_head-partner crossings end directed moves end_is.within))
    ]
  where
    not_turned : (b : Bool) → b ≡ not b → ⊥
    not_turned true turned = absurd (cc)
    not_turned false turned = absurd (cc)

-- the partner of a dart of an arc is on that arc
IsDartOf-partner : (crossings : List (List ℕ)) (arc : ℕ) (dart : Dart) → IsDirected crossings → IsDartOf crossings arc dart
    → IsDartOf crossings arc (partner crossings dart)
IsDartOf-partner crossings arc dart directed is = grind (arith, nat_tests, IsOtherDart-partner, HasArcsTwice-directed)

pub HasEnds-directed : (crossings : List (List ℕ)) → IsDirected crossings → HasNoSingleArcs crossings → (arc : ℕ)
    → IsArc crossings arc → HasEnds crossings arc
HasEnds-directed crossings directed moves arc is_arc =
    let found = found_first crossings directed moves arc is_arc in
    let head = head_of crossings arc in
    let tail = tail_of crossings arc in
    record {
      head = found.head;
      tail = found.tail;
      enters = found.enters;
      leaves = λ is. true_not_false (is_head crossings tail) is found.leaves;
      one_head = λ dart is enters. same_end crossings arc dart head directed moves is found.head (enters ∙ sym found.enters);
      one_tail = λ dart is leaves.
          same_end crossings arc dart tail directed moves is found.tail
          (false_from_ne_true (is_head crossings dart) leaves ∙ sym found.leaves);
      head_to_tail =
          same_end crossings arc (partner crossings head) tail directed moves (IsDartOf-partner crossings arc head directed found.head)
          found.tail (is_head-partner crossings head directed moves found.head.within ∙ ap not found.enters ∙ sym found.leaves);
      tail_to_head =
          same_end crossings arc (partner crossings tail) head directed moves (IsDartOf-partner crossings arc tail directed found.tail)
          found.head (is_head-partner crossings tail directed moves found.tail.within ∙ ap not found.leaves ∙ sym found.enters);
    }
  where
    true_not_false : (b : Bool) → b ≡ true → b ≡ false → ⊥
    true_not_false b holds fails = cc

-- each pass, from the slot of a head to the slot across
IsPass-head : (crossings : List (List ℕ)) → IsDirected crossings → HasNoSingleArcs crossings → (crossing slot : ℕ)
    → IsCrossing crossings crossing → slot < 4 → is_head crossings (dart_with crossing slot) ≡ true
    → IsPass crossings crossing slot ((slot + 2) % 4)
IsPass-head crossings directed moves crossing slot is below enters =
    let start = dart_with crossing slot in
    let start_is = IsDart-with crossings crossing slot is below in
    let end_is = IsDart-across crossings start start_is in
    let first = found_first crossings directed moves (arc_of crossings start) (directed.slots start start_is) in
    let second = found_first crossings directed moves (arc_of crossings (across start)) (directed.slots (across start) end_is) in
    record {
      head =
          same_end crossings (arc_of crossings start) (head_of crossings (arc_of crossings start)) start directed moves first.head
          (record { within = start_is; on_arc = refl }) (first.enters ∙ sym enters);
      tail =
          same_end crossings (arc_of crossings (across start)) (tail_of crossings (arc_of crossings (across start))) (across start)
          directed moves second.tail (record { within = end_is; on_arc = refl })
          (second.leaves ∙ sym (is_head-across crossings start below ∙ ap not enters));
      follows = arc_of-across crossings start directed start_is enters;
    }

pub IsPass-under : (crossings : List (List ℕ)) → IsDirected crossings → HasNoSingleArcs crossings → (crossing : ℕ)
    → IsCrossing crossings crossing → IsPass crossings crossing 0 2
IsPass-under crossings directed moves crossing is = IsPass-head crossings directed moves crossing 0 is (omega arith) refl

-- the over pass goes from slot 3 to slot 1 at a positive crossing, and from slot 1 to slot 3 at any other
pub IsPass-over : (crossings : List (List ℕ)) → IsDirected crossings → HasNoSingleArcs crossings → (crossing : ℕ)
    → IsCrossing crossings crossing
    → MatchBool (is_positive crossings crossing) (IsPass crossings crossing 3 1) (IsPass crossings crossing 1 3)
IsPass-over crossings directed moves crossing is =
    matched (is_positive crossings crossing) (IsPass crossings crossing 3 1) (IsPass crossings crossing 1 3)
    (λ positive. IsPass-head crossings directed moves crossing 3 is (omega arith) (ap (λ b. head_slot b 3) positive))
    (λ negative. IsPass-head crossings directed moves crossing 1 is (omega arith) (ap (λ b. head_slot b 1) negative))
  where
    matched : (b : Bool) (P Q : Type 0) → (b ≡ true → P) → (b ≡ false → Q) → MatchBool b P Q
    matched true P Q holds fails = holds refl
    matched false P Q holds fails = fails refl

    head_slot : Bool → ℕ → Bool
    head_slot positive slot = nat_eq slot 0 || nat_eq slot (if positive then 3 else 1)

-- the same of an accepted code
pub HasNoSingleArcs-accepted : (code : Code) → IsTrue (accepted code) → IsDirected code.crossings × HasNoSingleArcs code.crossings
HasNoSingleArcs-accepted code holds =
    let is = (IsAccepted-is code).0 holds in
    (is.directed, HasNoSingleArcs-checkerboard code.crossings is.directed is.checkerboard)

pub HasEnds-accepted : (code : Code) → IsTrue (accepted code) → (arc : ℕ) → IsArc code.crossings arc → HasEnds code.crossings arc
HasEnds-accepted code holds =
    let is = HasNoSingleArcs-accepted code holds in
    HasEnds-directed code.crossings is.0 is.1
