-- Two circles become one along an edge, forwards or backwards: their names, and the circles that the crossing touches.
--
-- Along an edge one crossing changes its smoothing, and the pairs of all others stay. So the classes of the circles are joined once, those
-- of the arcs at the slots 0 and 2 (EdgeCircles). The names then follow: the greater of the two disappears, the lesser stands for both, and
-- the circles that the crossing touches are two before and one after, or the other way round (`merges_or_splits`).
use Rattle.std.proofs.Common.{◌≡◌, ◌≢◌, ℕ, ◌⊎◌, inl, inr, ◌+◌, ◌*◌, ◌<◌, ◌≤◌, ◌∙◌, [], ◌∷◌, refl, sym, ap, subst, length, arith, Bool, true, false, ◌&&◌, not, IsTrue}
use Rattle.std.specs.Prelude.{nat_eq, ◌||◌, min, max, slice_index}
use Rattle.std.specs.List.{filter}
use Rattle.std.proofs.lemmas.Bool.{cases_lt}
use Rattle.std.proofs.lemmas.Bool.Decides.{nat_tests}
use Rattle.std.proofs.lemmas.List.{get_or_past}
use Rattle.kh_types.specs.Acceptance.{accepted}
use Rattle.kh_types.specs.Bits.{bit}
use Rattle.kh_types.specs.Classes.{is_least, joined, merged}
use Rattle.kh_types.specs.Code.{Code, IsArc, IsCrossing, arc_count, arcs_and_loops, place_of}
use Rattle.kh_types.specs.Circles.{circles_of, circle_names, smoothings_of}
use Rattle.kh_types.specs.Darts.{dart_at}
use Rattle.kh_types.specs.Differential.{is_touched, touched}
use Rattle.kh_types.proofs.AcceptedLemmas.{HasArcsTwice-accepted}
use Rattle.kh_types.proofs.ClassLemmas.{classes-finest, length-joined, merged-greatest, merged-kept, slice_index-joined}
use Rattle.kh_types.proofs.DartPairs.{IsDart-at}
use Rattle.kh_types.proofs.JoinedClasses.{HasMore-names, max-fixed, min-fixed}
use Rattle.kh_types.proofs.Lists.{filter-range_agree, length-HasMore}
use Rattle.kh_types.specs.Permutations.{AreJoined}
use Rattle.kh_types.specs.Edges.{MergesOrSplits, TwoBecomeOne, arc_at_slot, is_other, state_behind}
use Rattle.kh_types.specs.CircleSteps.{arc_at, across, joined_slot}
use Rattle.kh_types.proofs.CircleCycles.{IsNamed-circles, circles-across, smoothings-below}
use Rattle.kh_types.proofs.EdgeBits.{bit-set_there}
use Rattle.kh_types.proofs.EdgeCircles.{joins_or_parts}
use Rattle.kh_types.proofs.FilteredRanges.{filter-filter, filter-one, filter-two}
use Rattle.kh_types.proofs.JoinedSlots.{across-below, across-slot, arc_at-slot, respects-across}

-- the circle of the arc at a slot of a crossing
abbrev pub circle_at : Code → ℕ → ℕ → ℕ → ℕ
circle_at code state crossing slot = slice_index (circles_of code state) (arc_at_slot code crossing slot)

-- the slots of a crossing hold arcs
pub IsArc-slot : (code : Code) (crossing slot : ℕ) → IsTrue (accepted code) → IsCrossing code.crossings crossing → slot < 4
    → IsArc code.crossings (arc_at_slot code crossing slot)
IsArc-slot code crossing slot is is_crossing below =
    let k = place_of crossing in
    subst (λ (arc : ℕ). IsArc code.crossings arc) (arc_at-slot code.crossings k slot below)
    ((HasArcsTwice-accepted code is).slots (dart_at (4 * k + slot))
    (IsDart-at code.crossings (4 * k + slot) (omega (arith, below, is_crossing.positive, is_crossing.within))))

-- in a state the smoothing of a crossing joins its slots by pairs
circle_at-joined : (code : Code) (state crossing slot smoothing : ℕ) → IsTrue (accepted code) → IsCrossing code.crossings crossing
    → slot < 4 → joined_slot smoothing slot < 4 → bit state (place_of crossing) ≡ smoothing
    → circle_at code state crossing (joined_slot smoothing slot) ≡ circle_at code state crossing slot
circle_at-joined code state crossing slot smoothing is is_crossing below joined_below is_bit =
    let k = place_of crossing in
    let class : ℕ → ℕ = λ arc. slice_index (circles_of code state) arc in
    let crossing_below : k < length code.crossings = omega (arith, is_crossing.positive, is_crossing.within) in
    let there : across state (4 * k + slot) ≡ 4 * k + joined_slot smoothing slot =
    across-slot state k slot below ∙ ap (λ b. 4 * k + joined_slot b slot) is_bit in
    ap class (sym (arc_at-slot code.crossings k (joined_slot smoothing slot) joined_below))
    ∙ ap (λ p. class (arc_at code.crossings p)) (sym there)
    ∙ circles-across code state (4 * k + slot) is (omega (arith, below, crossing_below))
    ∙ ap class (arc_at-slot code.crossings k slot below)

-- the number 0 stands alone: no arc and no loop has it as its circle
pub circle-positive : (code : Code) (state x : ℕ) → IsTrue (accepted code) → 1 ≤ x → x < arc_count code.crossings + code.loops + 1
    → 1 ≤ slice_index (circles_of code state) x
circle-positive code state x is from below =
    let crossings = code.crossings in
    let n = arc_count crossings + code.loops + 1 in
    let named = IsNamed-circles code state is in
    let class = slice_index (circles_of code state) x in
    let positive = λ (place : ℕ) (place_below : place < 4 * length crossings).
    (HasArcsTwice-accepted code is).slots (dart_at place) (IsDart-at crossings place place_below) in
    let same : min class 1 ≡ min x 1 =
    classes-finest (λ z. min z 1) n (smoothings_of crossings state)
    (respects-across (λ z. min z 1) crossings state
    (λ place place_below.
    both_positive (arc_at crossings (across state place)) (arc_at crossings place)
    (positive (across state place) (across-below (length crossings) state place place_below)).positive
    (positive place place_below).positive))
    (smoothings-below code state is) class x (omega (arith, named.least x below, below)) below (named.own x below) in
    omega (arith, same, from)
  where
    both_positive : (x y : ℕ) → 1 ≤ x → 1 ≤ y → min x 1 ≡ min y 1
    both_positive x y x_from y_from = omega (arith, x_from, y_from)

-- whether one of four numbers is x
abbrev one_of : ℕ → ℕ → ℕ → ℕ → ℕ → Bool
one_of a b c d x = nat_eq a x || (nat_eq b x || (nat_eq c x || (nat_eq d x || false)))

hit : (a b c d k g x : ℕ) → ((a ≡ k) × (c ≡ g)) ⊎ ((a ≡ g) × (c ≡ k)) → (x ≡ k) ⊎ (x ≡ g) → one_of a b c d x ≡ true
hit a b c d k g x two is = grind (arith, nat_tests)

-- the arcs at a crossing are on the circles k and g
record AreOn (code : Code) (state crossing k g : ℕ) : Type 0 where
  two : ((circle_at code state crossing 0 ≡ k) × (circle_at code state crossing 2 ≡ g))
      ⊎ ((circle_at code state crossing 0 ≡ g) × (circle_at code state crossing 2 ≡ k))
  second : (circle_at code state crossing 1 ≡ k) ⊎ (circle_at code state crossing 1 ≡ g)
  fourth : (circle_at code state crossing 3 ≡ k) ⊎ (circle_at code state crossing 3 ≡ g)

touches : (code : Code) (state crossing k g x : ℕ) → AreOn code state crossing k g → (x ≡ k) ⊎ (x ≡ g)
    → slice_index (circles_of code state) x ≡ x → (is_least (circles_of code state) x && is_touched code state crossing x) ≡ true
touches code state crossing k g x on is own = grind (arith, nat_tests)

touches_not : (code : Code) (state crossing k g x : ℕ) → AreOn code state crossing k g → x ≢ k → x ≢ g
    → (is_least (circles_of code state) x && is_touched code state crossing x) ≡ false
touches_not code state crossing k g x on not_k not_g = grind (arith, nat_tests)

-- so it touches these two
touched-two : (code : Code) (state crossing k g : ℕ) → AreOn code state crossing k g → 1 ≤ k → k < g
    → g < 1 + (arc_count code.crossings + code.loops)
    → slice_index (circles_of code state) k ≡ k → slice_index (circles_of code state) g ≡ g
    → touched code state crossing ≡ k ∷ g ∷ []
touched-two code state crossing k g on from order below own_k own_g =
    filter-filter (is_least (circles_of code state)) (is_touched code state crossing) (arcs_and_loops code)
    ∙ filter-two (λ x. is_least (circles_of code state) x && is_touched code state crossing x) 1 (arc_count code.crossings + code.loops)
    k g from order below (touches code state crossing k g k on (inl refl) own_k) (touches code state crossing k g g on (inr refl) own_g)
    (λ j j_from j_below not_k not_g. touches_not code state crossing k g j on not_k not_g)

-- or this one, where they are one
touched-one : (code : Code) (state crossing k : ℕ) → AreOn code state crossing k k → 1 ≤ k
    → k < 1 + (arc_count code.crossings + code.loops) → slice_index (circles_of code state) k ≡ k
    → touched code state crossing ≡ k ∷ []
touched-one code state crossing k on from below own =
    filter-filter (is_least (circles_of code state)) (is_touched code state crossing) (arcs_and_loops code)
    ∙ filter-one (λ x. is_least (circles_of code state) x && is_touched code state crossing x) 1 (arc_count code.crossings + code.loops)
    k from below (touches code state crossing k k k on (inl refl) own)
    (λ j j_from j_below other. touches_not code state crossing k k j on other other)

-- class numbers before and after the classes p and q have become one

in_order : (p q z : ℕ) → (z ≡ p) ⊎ (z ≡ q) → (z ≡ min p q) ⊎ (z ≡ max p q)
in_order p q z is = grind (arith, nat_tests)

both_in_order : (p q : ℕ) → ((p ≡ min p q) × (q ≡ max p q)) ⊎ ((p ≡ max p q) × (q ≡ min p q))
both_in_order p q = grind (arith, nat_tests)

pub becomes_least : (p q z : ℕ) → (z ≡ p) ⊎ (z ≡ q) → merged p q z ≡ min p q
becomes_least p q z is = grind (arith, nat_tests)

pub stays_least : (p q c x : ℕ) → p ≢ q → (x ≡ max p q → c ≡ x) → (x ≡ min p q → c ≡ x)
    → nat_eq (merged p q c) x ≡ (nat_eq c x && not (nat_eq x (max p q)))
stays_least p q c x apart own_greatest own_least = grind (arith, nat_tests)

-- the circles of the arcs at the slots 0 and 2 have become one
two_become_one : (code : Code) (before after crossing : ℕ) → IsTrue (accepted code) → IsCrossing code.crossings crossing
    → (circle_at code before crossing 1 ≡ circle_at code before crossing 0)
    ⊎ (circle_at code before crossing 1 ≡ circle_at code before crossing 2)
    → (circle_at code before crossing 3 ≡ circle_at code before crossing 0)
    ⊎ (circle_at code before crossing 3 ≡ circle_at code before crossing 2)
    → AreJoined (circles_of code before) (circles_of code after) (arc_at_slot code crossing 0) (arc_at_slot code crossing 2)
    → TwoBecomeOne code before after crossing (min (circle_at code before crossing 0) (circle_at code before crossing 2))
    (max (circle_at code before crossing 0) (circle_at code before crossing 2))
two_become_one code before after crossing is is_crossing second fourth join =
    let most = arc_count code.crossings + code.loops in
    let n = most + 1 in
    let circles = circles_of code before in
    let afterwards = circles_of code after in
    let first = arc_at_slot code crossing 0 in
    let third = arc_at_slot code crossing 2 in
    let p = circle_at code before crossing 0 in
    let q = circle_at code before crossing 2 in
    let kept = min p q in
    let gone = max p q in
    let named = IsNamed-circles code before is in
    let is_n = named.size in
    let slot_below : (slot : ℕ) → slot < 4 → arc_at_slot code crossing slot < n =
    λ slot below. omega (arith, (IsArc-slot code crossing slot is is_crossing below).within) in
    let first_below = slot_below 0 (omega arith) in
    let third_below = slot_below 2 (omega arith) in
    let p_least = named.least first first_below in
    let q_least = named.least third third_below in
    let p_from = circle-positive code before first is (IsArc-slot code crossing 0 is is_crossing (omega arith)).positive first_below in
    let q_from = circle-positive code before third is (IsArc-slot code crossing 2 is is_crossing (omega arith)).positive third_below in
    let kept_own : slice_index circles kept ≡ kept =
    min-fixed (λ z. slice_index circles z) p q (named.own first first_below) (named.own third third_below) in
    let gone_own : slice_index circles gone ≡ gone =
    max-fixed (λ z. slice_index circles z) p q (named.own first first_below) (named.own third third_below) in
    let order : kept < gone = omega (arith, join.apart) in
    let kept_from : 1 ≤ kept = omega (arith, p_from, q_from) in
    let gone_below : gone < 1 + most = omega (arith, p_least, q_least, first_below, third_below) in
    let now : (x : ℕ) → x < n → slice_index afterwards x ≡ merged p q (slice_index circles x) =
    λ x x_below. ap (λ cs. slice_index cs x) join.one ∙ slice_index-joined circles (first, third) x (omega (arith, is_n, x_below)) in
    let after_length : length afterwards ≡ n = ap length join.one ∙ length-joined circles (first, third) ∙ is_n in
    let more = HasMore-names n 1 most circles (first, third) named (omega arith) first_below third_below join.apart
    (omega (arith, kept_from, order)) in
    record {
      order = order;
      touched_before = touched-two code before crossing kept gone
          (record {
            two = both_in_order p q;
            second = in_order p q (circle_at code before crossing 1) second;
            fourth = in_order p q (circle_at code before crossing 3) fourth;
          })
          kept_from order gone_below kept_own gone_own;
      touched_after = touched-one code after crossing kept
          (record {
            two = inl (now first first_below ∙ becomes_least p q p (inl refl), now third third_below ∙ becomes_least p q q (inr refl));
            second = inl (now (arc_at_slot code crossing 1) (slot_below 1 (omega arith))
                ∙ becomes_least p q (circle_at code before crossing 1) second);
            fourth = inl (now (arc_at_slot code crossing 3) (slot_below 3 (omega arith))
                ∙ becomes_least p q (circle_at code before crossing 3) fourth);
          })
          kept_from (omega (arith, order, gone_below))
          (now kept (omega (arith, order, gone_below)) ∙ ap (λ z. merged p q z) kept_own ∙ merged-kept p q kept (omega (arith, order)));
      names =
          filter-range_agree (is_least afterwards) (λ x. is_least circles x && is_other gone x) 1 most
          (λ x from below.
          ap (λ c. nat_eq c x) (now x (omega (arith, below)))
          ∙ stays_least p q (slice_index circles x) x join.apart
          (λ is_gone. ap (λ z. slice_index circles z) is_gone ∙ gone_own ∙ sym is_gone)
          (λ is_kept. ap (λ z. slice_index circles z) is_kept ∙ kept_own ∙ sym is_kept))
          ∙ sym (filter-filter (is_least circles) (is_other gone) (arcs_and_loops code));
      count = length-HasMore gone (circle_names code before) (filter (is_least (joined circles (first, third))) (arcs_and_loops code)) more
          ∙ ap (λ cs. length (filter (is_least cs) (arcs_and_loops code)) + 1) (sym join.one);
      one = λ x is_gone. elim (cases_lt x n) [
        | inl x_below ↦ now x x_below ∙ merged-greatest p q (slice_index circles x) is_gone
        | inr past ↦ absurd (omega (arith, is_gone, get_or_past circles x 0 (omega (arith, is_n, past)), order))
      ];
      others = λ x other. elim (cases_lt x n) [
        | inl x_below ↦ now x x_below ∙ merged-kept p q (slice_index circles x) other
        | inr past ↦
            get_or_past afterwards x 0 (omega (arith, after_length, past)) ∙ sym (get_or_past circles x 0 (omega (arith, is_n, past)))
      ];
    }

-- the circles of the arcs at the slots 0 and 2 of a crossing are two in the one state, and one in the other
pub record IsJoin (code : Code) (before after crossing : ℕ) : Type 0 where
  pub join : AreJoined (circles_of code before) (circles_of code after) (arc_at_slot code crossing 0) (arc_at_slot code crossing 2)
  pub circles : TwoBecomeOne code before after crossing (min (circle_at code before crossing 0) (circle_at code before crossing 2))
      (max (circle_at code before crossing 0) (circle_at code before crossing 2))

-- along an edge this is so forwards, or backwards
pub IsJoin-edge : (code : Code) (state crossing : ℕ) → IsTrue (accepted code) → IsCrossing code.crossings crossing
    → bit state (place_of crossing) ≡ 0
    → IsJoin code state (state_behind state crossing) crossing ⊎ IsJoin code (state_behind state crossing) state crossing
IsJoin-edge code state crossing is is_crossing zero =
    let behind = state_behind state crossing in
    let one = bit-set_there state (place_of crossing) zero in
    elim (joins_or_parts code state crossing is is_crossing zero) [
      | inl join ↦ inl (record {
        join = join;
        circles = two_become_one code state behind crossing is is_crossing
            (inl (circle_at-joined code state crossing 0 0 is is_crossing (omega arith) (omega arith) zero))
            (inr (circle_at-joined code state crossing 2 0 is is_crossing (omega arith) (omega arith) zero)) join;
      })
      | inr part ↦ inr (record {
        join = part;
        circles = two_become_one code behind state crossing is is_crossing
            (inr (circle_at-joined code behind crossing 2 1 is is_crossing (omega arith) (omega arith) one))
            (inl (circle_at-joined code behind crossing 0 1 is is_crossing (omega arith) (omega arith) one)) part;
      })
    ]

-- so two circles become one, or one becomes two
pub merges_or_splits : (code : Code) (state crossing : ℕ) → IsTrue (accepted code) → IsCrossing code.crossings crossing
    → bit state (place_of crossing) ≡ 0 → MergesOrSplits code state crossing
merges_or_splits code state crossing is is_crossing zero =
    let behind = state_behind state crossing in
    let p = λ (s : ℕ). circle_at code s crossing 0 in
    let q = λ (s : ℕ). circle_at code s crossing 2 in
    elim (IsJoin-edge code state crossing is is_crossing zero) [
      | inl forth ↦ (min (p state) (q state), max (p state) (q state), inl forth.circles)
      | inr back ↦ (min (p behind) (q behind), max (p behind) (q behind), inr back.circles)
    ]
