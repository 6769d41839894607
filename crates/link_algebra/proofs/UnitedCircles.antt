-- The circles of a disjoint union are those of both codes.
--
-- A state of the union is one of either code: its low bits and its high bits. The smoothings of the second code join numbers behind those
-- of the first; each less one, without the number 0, they are two parts side by side (ClassParts). So the numbers of circles add up, and
-- loops with them.
use Rattle.std.proofs.lemmas.Bool.Decides.{nat_tests}
use Rattle.std.proofs.Common.{IsTrue, List, [], ap, ap₂, arith, length, map, refl, subst, suc, sym, ℕ, ◌*◌, ◌++◌, ◌+◌, ◌-◌, ◌<◌, ◌^◌, ◌∙◌, ◌∷◌, ◌≡◌, ◌≤◌}
use Rattle.std.proofs.lemmas.List.{append_assoc, length-append, length-map, map-append, map-id}
use Rattle.std.proofs.lemmas.Nat.Bits.{bit_at_cat_high, bit_at_cat_low}
use Rattle.std.specs.Prelude.{slice_index_or}
use Rattle.kh_types.proofs.AcceptedLemmas.{HasArcsTwice-accepted}
use Rattle.kh_types.proofs.ClassCounts.{AreBelow-wider, class_count-circles, class_count-wider}
use Rattle.kh_types.proofs.ListSums.{sum_by-range_alike}
use Rattle.kh_types.proofs.Lists.{AllByRecursion-append}
use Rattle.kh_types.specs.Acceptance.{accepted}
use Rattle.kh_types.specs.Bits.{bit, ones}
use Rattle.kh_types.specs.Circles.{circle_count, smoothing_of, smoothings_of}
use Rattle.kh_types.specs.Classes.{AreBelow, class_count, classes_of}
use Rattle.kh_types.specs.Code.{Code, IsArc, IsCrossing, arc_count, arc_in}
use Rattle.kh_types.specs.Darts.{HasArcsTwice}
use Rattle.link_algebra.proofs.ClassParts.{class_count-append_lists, classes-parts, length-classes, lifted_pairs, sum_by-parts}
use Rattle.link_algebra.specs.Unions.{raised_slots, union_of}
use Rattle.kh_types.proofs.JoinedSlots.{smoothings_from}
use Rattle.kh_types.proofs.JointNumbers.{bit-inside, bit-outside}

-- the slots of crossings hold numbers above 0 and below another
abbrev pub SlotsHold : ℕ → List ℕ → Type 0
SlotsHold below slots = (slot : ℕ) → slot < 4 → (1 ≤ arc_in slots slot) × (arc_in slots slot < below)

pub record HoldsNames (below : ℕ) (crossings : List (List ℕ)) : Type 0 where
  pub at : (k : ℕ) → k < length crossings → SlotsHold below (slice_index_or crossings k [])

pub HoldsNames-twice : (crossings : List (List ℕ)) → HasArcsTwice crossings → HoldsNames (arc_count crossings + 1) crossings
HoldsNames-twice crossings twice =
    record {
      at = λ k below slot slot_below.
          let e : k + 1 - 1 ≡ k = omega arith in
          let is : IsCrossing crossings (k + 1) = record { positive = omega arith; within = omega (arith, below) } in
          let arc = subst (λ (m : ℕ). IsArc crossings (arc_in (slice_index_or crossings m []) slot)) e
          (twice.slots (record { crossing = k + 1; slot = slot }) (record { crossing = is; slot = slot_below })) in
          (arc.positive, omega (arith, arc.within));
    }

pub HoldsNames-accepted : (code : Code) → IsTrue (accepted code) → HoldsNames (arc_count code.crossings + 1) code.crossings
HoldsNames-accepted code is = HoldsNames-twice code.crossings (HasArcsTwice-accepted code is)

pub HoldsNames-first : (below : ℕ) (slots : List ℕ) (crossings : List (List ℕ)) → HoldsNames below (slots ∷ crossings)
    → SlotsHold below slots
HoldsNames-first below slots crossings holds = holds.at 0 (omega arith)

pub HoldsNames-rest : (below : ℕ) (slots : List ℕ) (crossings : List (List ℕ)) → HoldsNames below (slots ∷ crossings)
    → HoldsNames below crossings
HoldsNames-rest below slots crossings holds = record { at = λ k inside. holds.at (suc k) (omega (arith, inside)) }

-- pairs of names, each less 1
abbrev pub lowered : List (ℕ × ℕ) → List (ℕ × ℕ)
lowered pairs = map (λ pair. (pair.0 - 1, pair.1 - 1)) pairs

pub slot-raised : (by : ℕ) (slots : List ℕ) (slot : ℕ) → slot < 4 → arc_in (raised_slots by slots) slot ≡ arc_in slots slot + by
slot-raised by slots slot below = grind (arith, nat_tests)

-- slots whose numbers are those of others, but that they begin at a number in place of 1
abbrev pub AreMoved : ℕ → List ℕ → List ℕ → Type 0
AreMoved start moved slots = (slot : ℕ) → slot < 4 → arc_in moved slot ≡ start + (arc_in slots slot - 1)

pub AreMoved-raised : (by below : ℕ) (slots : List ℕ) → SlotsHold below slots → AreMoved (by + 1) (raised_slots by slots) slots
AreMoved-raised by below slots hold slot slot_below = omega (arith, slot-raised by slots slot slot_below, (hold slot slot_below).0)

pub AreMoved-own : (below : ℕ) (slots : List ℕ) → SlotsHold below slots → AreMoved 1 slots slots
AreMoved-own below slots hold slot slot_below = omega (arith, (hold slot slot_below).0)

-- two pairs of slots
pub pairs-moved : (start : ℕ) (moved slots : List ℕ) (p q r s : ℕ) → AreMoved start moved slots → p < 4 → q < 4 → r < 4 → s < 4
    → (arc_in moved p, arc_in moved q) ∷ (arc_in moved r, arc_in moved s) ∷ []
    ≡ lifted_pairs start (lowered ((arc_in slots p, arc_in slots q) ∷ (arc_in slots r, arc_in slots s) ∷ []))
pairs-moved start moved slots p q r s at p_below q_below r_below s_below = grind (arith, nat_tests)

-- the pairs of a smoothing
abbrev zero_pairs : List ℕ → List (ℕ × ℕ)
zero_pairs slots = (arc_in slots 0, arc_in slots 1) ∷ (arc_in slots 2, arc_in slots 3) ∷ []

abbrev one_pairs : List ℕ → List (ℕ × ℕ)
one_pairs slots = (arc_in slots 0, arc_in slots 3) ∷ (arc_in slots 1, arc_in slots 2) ∷ []

smoothing-moved : (start b : ℕ) (moved slots : List ℕ) → AreMoved start moved slots
    → smoothing_of b moved ≡ lifted_pairs start (lowered (smoothing_of b slots))
smoothing-moved start b moved slots at = grind (arith, nat_tests)

pub moved-append : (start : ℕ) (here later : List (ℕ × ℕ))
    → lifted_pairs start (lowered here) ++ lifted_pairs start (lowered later) ≡ lifted_pairs start (lowered (here ++ later))
moved-append start here later = grind (arith, nat_tests, map-append, lifted_pairs)

pairs-below : (b below : ℕ) (slots : List ℕ) → SlotsHold below slots → AreBelow below (smoothing_of b slots)
pairs-below b below slots hold = grind (arith, nat_tests)

front : (state other place : ℕ) (crossings more : List (List ℕ))
    → ((k : ℕ) → place ≤ k → k < place + length crossings → bit state k ≡ bit other k)
    → smoothings_from state place (crossings ++ more)
    ≡ smoothings_from other place crossings ++ smoothings_from state (place + length crossings) more
front state other place [] more same = let e : place ≡ place + 0 = omega arith in ap (λ p. smoothings_from state p more) e
front state other place (slots ∷ crossings) more same =
    grind (arith, nat_tests, smoothings_from, append_assoc, front state other (place + 1) crossings more (λ k from below. same k (omega (arith, from)) (omega (arith, below))))

behind : (g : List ℕ → List ℕ) (state other shift start place below : ℕ) (crossings : List (List ℕ))
    → ((slots : List ℕ) → SlotsHold below slots → AreMoved start (g slots) slots)
    → ((k : ℕ) → place ≤ k → k < place + length crossings → bit state (shift + k) ≡ bit other k) → HoldsNames below crossings
    → smoothings_from state (shift + place) (map g crossings) ≡ lifted_pairs start (lowered (smoothings_from other place crossings))
behind g state other shift start place below [] moved same hold = refl
behind g state other shift start place below (slots ∷ crossings) moved same hold =
    let e : shift + place + 1 ≡ shift + (place + 1) = omega arith in
    let here = smoothing_of (bit other place) slots in
    let later = smoothings_from other (place + 1) crossings in
    ap₂ (λ b ps. smoothing_of b (g slots) ++ ps) (same place (omega arith) (omega arith))
    (ap (λ p. smoothings_from state p (map g crossings)) e
    ∙ behind g state other shift start (place + 1) below crossings moved
    (λ k from inside. same k (omega (arith, from)) (omega (arith, inside))) (HoldsNames-rest below slots crossings hold))
    ∙ ap (λ ps. ps ++ lifted_pairs start (lowered later))
    (smoothing-moved start (bit other place) (g slots) slots (moved slots (HoldsNames-first below slots crossings hold)))
    ∙ moved-append start here later

pub own : (state below : ℕ) (crossings : List (List ℕ)) → HoldsNames below crossings
    → smoothings_of crossings state ≡ lifted_pairs 1 (lowered (smoothings_of crossings state))
own state below crossings hold =
    ap (smoothings_from state 0) (sym (map-id crossings))
    ∙ behind (λ slots. slots) state state 0 1 0 below crossings (AreMoved-own below) (λ k from inside. ap (bit state) (omega arith)) hold

pub smoothings-small : (state place below : ℕ) (crossings : List (List ℕ)) → HoldsNames below crossings
    → AreBelow below (smoothings_from state place crossings)
smoothings-small state place below [] hold = tt
smoothings-small state place below (slots ∷ crossings) hold =
    grind (arith, nat_tests, AllByRecursion-append, smoothings_from, pairs-below, HoldsNames-first, HoldsNames-rest, smoothings-small state (place + 1) below crossings (HoldsNames-rest below slots crossings hold))

pub lifted_pairs-below : (m n : ℕ) (pairs : List (ℕ × ℕ)) → AreBelow n pairs → AreBelow (m + n) (lifted_pairs m pairs)
lifted_pairs-below m n [] below = tt
lifted_pairs-below m n (pair ∷ pairs) below = grind (arith, nat_tests, lifted_pairs-below m n pairs below.1)

below-lifted_pairs : (m n : ℕ) (pairs : List (ℕ × ℕ)) → AreBelow (m + n) (lifted_pairs m pairs) → AreBelow n pairs
below-lifted_pairs m n [] below = tt
below-lifted_pairs m n (pair ∷ pairs) below = grind (arith, nat_tests, below-lifted_pairs m n pairs below.1)

pub lowered-below : (n : ℕ) (pairs : List (ℕ × ℕ)) → pairs ≡ lifted_pairs 1 (lowered pairs) → AreBelow (n + 1) pairs
    → AreBelow n (lowered pairs)
lowered-below n pairs is below = grind (arith, nat_tests, below-lifted_pairs)

-- two states, one of either code, are a state of the union
abbrev pub state_of_both : Code → ℕ → ℕ → ℕ
state_of_both first a b = a + 2 ^ length first.crossings * b

pub smoothings-both : (first second : Code) (a b : ℕ) → IsTrue (accepted second) → a < 2 ^ length first.crossings
    → smoothings_of (union_of first second).crossings (state_of_both first a b)
    ≡ smoothings_of first.crossings a ++ lifted_pairs (arc_count first.crossings + 1) (lowered (smoothings_of second.crossings b))
smoothings-both first second a b second_is small =
    let n = length first.crossings in
    let by = arc_count first.crossings in
    let s = state_of_both first a b in
    let e : 0 + n ≡ n + 0 = omega arith in
    front s a 0 first.crossings (map (raised_slots by) second.crossings) (λ k from below. bit-inside n a b k (omega (arith, below)))
    ∙ ap (λ ps. smoothings_of first.crossings a ++ ps)
    (ap (λ p. smoothings_from s p (map (raised_slots by) second.crossings)) e
    ∙ behind (raised_slots by) s b n (by + 1) 0 (arc_count second.crossings + 1) second.crossings
    (AreMoved-raised by (arc_count second.crossings + 1)) (λ k from below. bit-outside n a b k small)
    (HoldsNames-accepted second second_is))

pub length-both : (first second : Code) → length (union_of first second).crossings ≡ length first.crossings + length second.crossings
length-both first second = grind (arith, nat_tests, length-append, length-map)

-- circles by classes without loops
circle_count-arcs : (code : Code) (state : ℕ) → AreBelow (arc_count code.crossings + 1) (smoothings_of code.crossings state)
    → circle_count code state + 1 ≡ class_count (classes_of (arc_count code.crossings + 1) (smoothings_of code.crossings state)) + code.loops
circle_count-arcs code state small =
    let m = arc_count code.crossings + 1 in
    let pairs = smoothings_of code.crossings state in
    let e : arc_count code.crossings + code.loops + 1 ≡ m + code.loops = omega arith in
    sym (class_count-circles code state (AreBelow-wider m (arc_count code.crossings + code.loops + 1) pairs (omega arith) small))
    ∙ ap (λ k. class_count (classes_of k pairs)) e ∙ class_count-wider m code.loops pairs small

-- the number of circles of a union
pub circle_count-both : (first second : Code) (a b : ℕ) → IsTrue (accepted first) → IsTrue (accepted second)
    → a < 2 ^ length first.crossings
    → circle_count (union_of first second) (state_of_both first a b) ≡ circle_count first a + circle_count second b
circle_count-both first second a b first_is second_is small =
    let m = arc_count first.crossings + 1 in
    let n = arc_count second.crossings in
    let both = union_of first second in
    let s = state_of_both first a b in
    let pairs = smoothings_of first.crossings a in
    let more = smoothings_of second.crossings b in
    let later = lowered more in
    let below = smoothings-small a 0 m first.crossings (HoldsNames-accepted first first_is) in
    let more_below = smoothings-small b 0 (n + 1) second.crossings (HoldsNames-accepted second second_is) in
    let more_own = own b (n + 1) second.crossings (HoldsNames-accepted second second_is) in
    let later_below = lowered-below n more more_own more_below in
    let one_more : n + 1 ≡ 1 + n = omega arith in
    let size : arc_count both.crossings + 1 ≡ m + n = omega (arith, length-both first second) in
    let all = smoothings-both first second a b second_is small in
    let all_below : AreBelow (m + n) (pairs ++ lifted_pairs m later) =
    AllByRecursion-append (λ pair. (pair.0 < m + n) × (pair.1 < m + n)) pairs (lifted_pairs m later)
    (AreBelow-wider m (m + n) pairs (omega arith) below) (lifted_pairs-below m n later later_below) in
    let united_below : AreBelow (arc_count both.crossings + 1) (smoothings_of both.crossings s) =
    subst (λ (ps : List (ℕ × ℕ)). AreBelow (arc_count both.crossings + 1) ps) (sym all)
    (subst (λ (c : ℕ). AreBelow c (pairs ++ lifted_pairs m later)) (sym size) all_below) in
    let parts : class_count (classes_of (arc_count both.crossings + 1) (smoothings_of both.crossings s))
    ≡ class_count (classes_of m pairs) + class_count (classes_of n later) =
    ap₂ (λ c ps. class_count (classes_of c ps)) size all ∙ ap class_count (classes-parts m n pairs later below later_below)
    ∙ class_count-append_lists m (classes_of m pairs) (classes_of n later) (length-classes m pairs below).0 in
    let one : class_count (classes_of (n + 1) more) ≡ 1 + class_count (classes_of n later) =
    ap₂ (λ c ps. class_count (classes_of c ps)) one_more more_own ∙ ap class_count (classes-parts 1 n [] later tt later_below)
    ∙ class_count-append_lists 1 (classes_of 1 []) (classes_of n later) refl in
    omega (
      arith,
      circle_count-arcs both s united_below,
      parts,
      one,
      circle_count-arcs first a below,
      circle_count-arcs second b more_below,
    )
