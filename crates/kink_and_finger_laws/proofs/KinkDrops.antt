-- Where a crossing with a kink is dropped, the others get the partners that are left when it is smoothed through the kink. These
-- leave them on the sphere; partners have one name, which no other dart has; one is a head and one a tail, and their colours
-- differ. The kink's arc joins two neighbouring darts. Names: each dropped pass has one name at both ends, and the kink's arc
-- ties the two passes. Heads: the smoothed strand runs along the kink's arc backwards, so the test for heads is turned at its two
-- darts. Colours change from slot to slot round a crossing. No others: the pair of a dart that is left, taken back to all darts,
-- has one value at all four darts of the crossing, hence at all arcs of one name; so two darts of one name are one or partners.
-- The lemmas at the top serve bigons too.
use Rattle.std.proofs.Common.{◌≡◌, ◌≢◌, ℕ, ◌⊎◌, inl, inr, ◌+◌, ◌*◌, ◌%◌, ◌<◌, ◌≤◌, ◌∙◌, List, sym, ap, subst, arith, refl, Bool, true, not, ◌||◌, length, IsTrue, cond, eqb-true, eq-eqb}
use Rattle.std.specs.Prelude.{nat_eq, slice_index, min}
use Rattle.std.specs.List.{filter, range_with_len}
use Rattle.std.proofs.lemmas.Bool.Decides.{nat_tests}
use Rattle.kh_types.specs.Code.{Code}
use Rattle.kh_types.specs.Acceptance.{accepted}
use Rattle.kh_types.specs.Colours.{IsColoured}
use Rattle.kh_types.specs.Darts.{partner_at, HasArcsTwice, IsPairing}
use Rattle.kh_types.proofs.AcceptedLemmas.{HasArcsTwice-accepted}
use Rattle.kh_types.proofs.Heads.{HasNoSingleArcs-accepted}
use Rattle.gluing_laws.specs.Arcs.{arc_by_place}
use Rattle.gluing_laws.specs.Codes.{arc_of_dart}
use Rattle.kink_and_finger_laws.specs.Drops.{straight_names}
use Rattle.kink_and_finger_laws.specs.Pulls.{dart_in, late, early, early_dart, smoothed, IsClosedPlanar}
use Rattle.kink_and_finger_laws.specs.Dropping.{HasKinkAt}
use Rattle.kink_and_finger_laws.proofs.DroppedDarts.{is_code_head, is_colour, class_name, IsDropped}
use Rattle.kink_and_finger_laws.proofs.OldDarts.{IsClosedPlanar-accepted, arc_of_dart-partner, partner-named, heads-partner, colours-partner, on_arcs, on_arcs-at, arc_of_dart-below, arc_of_dart-in, across_cases, heads-across, colours-next, dart_in-next, place_in}
use Rattle.kink_and_finger_laws.proofs.KeptCodes.{places-but, straight-joined, straight-finest}
use Rattle.kink_and_finger_laws.proofs.Smoothed.{IsClosedPlanar-smoothed, smoothed-named, dart_in-below, dart_cases, IsPermutation-late, IsPermutation-dartwise, dart_in-apart}
use Rattle.kink_and_finger_laws.proofs.SmoothedValues.{smoothed-flipped, IsTakenBack, IsTakenBack-smoothed}

-- the names of the two arcs of each pass of a crossing that is gone are one
pub class_name-across : (crossings : List (List ℕ)) (gone : ℕ → Bool) (c q : ℕ) → HasArcsTwice crossings → c < length crossings
    → gone c ≡ true → class_name crossings gone (dart_in c q) ≡ class_name crossings gone (dart_in c (q + 2))
class_name-across crossings gone c q twice below is =
    let names = straight_names crossings gone in
    let joined = straight-joined crossings gone c twice below is in
    let at : (r s : ℕ) → r % 4 ≡ s → class_name crossings gone (dart_in c r) ≡ slice_index names (arc_by_place crossings c s) =
    λ r s same. ap (slice_index names) (arc_of_dart-in crossings c r) ∙ ap (λ z. slice_index names (arc_by_place crossings c z)) same in
    elim (across_cases q) [
      | inl low ↦ elim low [
        | inl a ↦ at q 0 a.0 ∙ joined.0 ∙ sym (at (q + 2) 2 a.1)
        | inr a ↦ at q 1 a.0 ∙ joined.1 ∙ sym (at (q + 2) 3 a.1)
      ]
      | inr high ↦ elim high [
        | inl a ↦ at q 2 a.0 ∙ sym joined.0 ∙ sym (at (q + 2) 0 a.1)
        | inr a ↦ at q 3 a.0 ∙ sym joined.1 ∙ sym (at (q + 2) 1 a.1)
      ]
    ]

-- a function of arcs that has one value at the two darts of each pass
pub on_arcs-across : (crossings : List (List ℕ)) (f : ℕ → ℕ) (c : ℕ)
    → ((q : ℕ) → f (arc_of_dart crossings (dart_in c q)) ≡ f (arc_of_dart crossings (dart_in c (q + 2))))
    → (f (arc_by_place crossings c 0) ≡ f (arc_by_place crossings c 2)) × (f (arc_by_place crossings c 1) ≡ f (arc_by_place crossings c 3))
on_arcs-across crossings f c across = (
  sym (ap f (arc_of_dart-in crossings c 0)) ∙ across 0 ∙ ap f (arc_of_dart-in crossings c 2),
  sym (ap f (arc_of_dart-in crossings c 1)) ∙ across 1 ∙ ap f (arc_of_dart-in crossings c 3),
)

-- the pair of a dart, by the least of its two
abbrev pub pair_of : (ℕ → ℕ) → ℕ → ℕ
pair_of partner x = min x (partner x)

pub pair_of-partner : (m : ℕ) (partner : ℕ → ℕ) → IsPairing m partner → (x : ℕ) → x < m
    → pair_of partner (partner x) ≡ pair_of partner x
pair_of-partner m partner pairing x below = omega arith

pub pair_of-same : (m : ℕ) (partner : ℕ → ℕ) → IsPairing m partner → (x y : ℕ) → x < m → y < m
    → pair_of partner x ≡ pair_of partner y → (y ≡ x) ⊎ (y ≡ partner x)
pair_of-same m partner pairing x y x_below y_below same = grind (arith, nat_tests)

-- a test with the other value at two darts
abbrev pub turned_at : (ℕ → Bool) → ℕ → ℕ → ℕ → Bool
turned_at test v s x = cond (nat_eq x v || nat_eq x s) (not (test x)) (test x)

pub turned_at-there : (test : ℕ → Bool) (v s x : ℕ) → (x ≡ v) ⊎ (x ≡ s) → turned_at test v s x ≡ not (test x)
turned_at-there test v s x is = grind (arith, nat_tests)

pub turned_at-else : (test : ℕ → Bool) (v s x : ℕ) → x ≢ v → x ≢ s → turned_at test v s x ≡ test x
turned_at-else test v s x not_v not_s = grind (arith, nat_tests)

-- where v and s are partners the turned test is told apart by partners, as the test is
pub turned_at-flips : (m : ℕ) (partner : ℕ → ℕ) (test : ℕ → Bool) (v s : ℕ) → IsPairing m partner → v < m → partner v ≡ s
    → ((x : ℕ) → x < m → test (partner x) ≡ not (test x))
    → (x : ℕ) → x < m → turned_at test v s (partner x) ≡ not (turned_at test v s x)
turned_at-flips m partner test v s pairing v_below mates flips x below = grind (arith, nat_tests)

pub kink-partner : (crossings : List (List ℕ)) (c p : ℕ) → HasArcsTwice crossings → HasKinkAt crossings c p
    → partner_at crossings (dart_in c p) ≡ dart_in c (p + 1)
kink-partner crossings c p twice kink =
    let e : p % 4 ≡ p = omega (arith, kink.slot) in
    partner-named crossings twice (dart_in c p) (dart_in c (p + 1)) (dart_in-below (length crossings) c p kink.below)
    (dart_in-below (length crossings) c (p + 1) kink.below) (λ same. (dart_in-apart c p).4 (sym same))
    (arc_of_dart-in crossings c (p + 1) ∙ sym kink.same ∙ sym (ap (arc_by_place crossings c) e) ∙ sym (arc_of_dart-in crossings c p))

pub early-away : (c k q x : ℕ) → c ≤ k → x < 4 * k → early_dart c k x ≢ dart_in c q
early-away c k q x within below = grind (arith, nat_tests)

pub IsDropped-kink : (code : Code) (choice k c p : ℕ) → IsTrue (accepted code) → IsColoured code.crossings choice
    → length code.crossings ≡ k + 1 → HasKinkAt code.crossings c p
    → IsDropped code.crossings (nat_eq c) choice k (early c k) (smoothed (partner_at code.crossings) c k p)
IsDropped-kink code choice k c p is coloured size kink =
    let crossings = code.crossings in
    let gone : ℕ → Bool = nat_eq c in
    let partner : ℕ → ℕ = partner_at code.crossings in
    let twice = HasArcsTwice-accepted code is in
    let directed = HasNoSingleArcs-accepted code is in
    let c_gone : nat_eq c c ≡ true = eq-eqb c c refl in
    let closed : IsClosedPlanar (k + 1) (partner_at code.crossings) =
    subst (λ (n : ℕ). IsClosedPlanar n (partner_at code.crossings)) size (IsClosedPlanar-accepted code is) in
    let within : c ≤ k = omega (arith, kink.below, size) in
    let large : (x : ℕ) → x < 4 * (k + 1) → x < 4 * length code.crossings = λ x below. omega (arith, below, size) in
    let v = dart_in c p in
    let s = dart_in c (p + 1) in
    let t = dart_in c (p + 2) in
    let u = dart_in c (p + 3) in
    let apart = dart_in-apart c p in
    let mates = kink-partner crossings c p twice kink in
    let v_below : dart_in c p < 4 * (k + 1) = dart_in-below (k + 1) c p (omega (arith, within)) in
    let next_two : p + 1 + 2 ≡ p + 3 = omega arith in
    let names : ℕ → ℕ = class_name crossings gone in
    let own_name : class_name crossings gone (dart_in c (p + 1)) ≡ class_name crossings gone (dart_in c p) =
    ap (slice_index (straight_names crossings gone))
    (ap (arc_of_dart crossings) (sym mates) ∙ arc_of_dart-partner crossings twice (dart_in c p) (large v v_below)) in
    let first_name : class_name crossings gone (dart_in c (p + 1)) ≡ class_name crossings gone (dart_in c (p + 2)) =
    own_name ∙ class_name-across crossings gone c p twice kink.below c_gone in
    let second_name : class_name crossings gone (dart_in c (p + 3)) ≡ class_name crossings gone (dart_in c p) =
    ap (λ q. class_name crossings gone (dart_in c q)) (sym next_two)
    ∙ sym (class_name-across crossings gone c (p + 1) twice kink.below c_gone) ∙ own_name in
    let head : ℕ → Bool = is_code_head crossings in
    let test : ℕ → Bool = turned_at (is_code_head crossings) (dart_in c p) (dart_in c (p + 1)) in
    let head_flips : (x : ℕ) → x < 4 * (k + 1) → is_code_head crossings (partner_at code.crossings x) ≡ not (is_code_head crossings x) =
    λ x below. heads-partner crossings directed.0 directed.1 x (large x below) in
    let test_flips = turned_at-flips (4 * (k + 1)) partner head v s closed.pairing v_below mates head_flips in
    let s_head : is_code_head crossings (dart_in c (p + 1)) ≡ not (is_code_head crossings (dart_in c p)) =
    ap (is_code_head crossings) (sym mates) ∙ head_flips v v_below in
    let first_test : turned_at (is_code_head crossings) (dart_in c p) (dart_in c (p + 1)) (dart_in c (p + 1))
    ≡ not (turned_at (is_code_head crossings) (dart_in c p) (dart_in c (p + 1)) (dart_in c (p + 2))) =
    turned_at-there head v s s (inr refl)
    ∙ ap not (s_head ∙ sym (heads-across crossings c p)
    ∙ sym (turned_at-else head v s t (λ same. apart.5 (sym same)) (λ same. apart.0 (sym same)))) in
    let second_test : turned_at (is_code_head crossings) (dart_in c p) (dart_in c (p + 1)) (dart_in c (p + 3))
    ≡ not (turned_at (is_code_head crossings) (dart_in c p) (dart_in c (p + 1)) (dart_in c p)) =
    turned_at-else head v s u apart.1 apart.2
    ∙ ap (λ q. is_code_head crossings (dart_in c q)) (sym next_two) ∙ heads-across crossings c (p + 1)
    ∙ ap not (s_head ∙ sym (turned_at-there head v s v (inl refl))) in
    let new : ℕ → ℕ = smoothed (partner_at code.crossings) c k p in
    let new_closed = IsClosedPlanar-smoothed k partner c p closed within in
    let taken : IsTakenBack k (partner_at code.crossings) c p (pair_of (smoothed (partner_at code.crossings) c k p)) =
    IsTakenBack-smoothed k partner c p (pair_of (smoothed (partner_at code.crossings) c k p)) closed within
    (pair_of-partner (4 * k) (smoothed (partner_at code.crossings) c k p) new_closed.pairing) in
    let early_below : (x : ℕ) → x < 4 * k → early_dart c k x < 4 * (k + 1) =
    λ x below. (IsPermutation-dartwise (k + 1) (late c k) (early c k) (IsPermutation-late c k within)).back_below x (omega (arith, below)) in
    record {
      places = ap (λ n. filter (λ x. not (nat_eq c x)) (range_with_len 0 n)) size ∙ places-but c k within;
      closed = new_closed;
      named = smoothed-named k partner c p names closed within
          (λ x below. ap (slice_index (straight_names crossings gone)) (arc_of_dart-partner crossings twice x (large x below)))
          first_name second_name;
      heads = λ x below.
          let at : (y : ℕ) → y < 4 * k
          → turned_at (is_code_head crossings) (dart_in c p) (dart_in c (p + 1)) (early_dart c k y) ≡ is_code_head crossings (early_dart c k y) =
          λ y y_below. turned_at-else head v s (early_dart c k y) (early-away c k p y within y_below) (early-away c k (p + 1) y within y_below) in
          sym (at (new x) (new_closed.pairing.below x below))
          ∙ smoothed-flipped k partner c p test closed within test_flips first_test second_test x below ∙ ap not (at x below);
      colours = smoothed-flipped k partner c p (is_colour choice) closed within
          (λ x below. colours-partner crossings choice coloured twice x (large x below))
          (let e : p + 1 + 1 ≡ p + 2 = omega arith in
          colours-next choice c (p + 1) ∙ ap (λ q. not (is_colour choice (dart_in c q))) e)
          (let e : p + 3 + 1 ≡ p + 4 = omega arith in
          colours-next choice c (p + 3) ∙ ap (λ q. not (is_colour choice (dart_in c q))) e
          ∙ ap (λ x. not (is_colour choice x)) (dart_in-next c p));
      two = λ x y x_below y_below same.
          let whole = taken.whole in
          let shared : (z : ℕ) → z < 4 * length code.crossings → taken.whole (partner_at code.crossings z) ≡ taken.whole z =
          λ z below. taken.shared z (omega (arith, below, size)) in
          let arc : ℕ → ℕ = on_arcs crossings taken.whole in
          let arc_at : (z : ℕ) → z < 4 * (k + 1) → on_arcs crossings taken.whole (arc_of_dart crossings z) ≡ taken.whole z =
          λ z below. on_arcs-at crossings taken.whole twice shared z (large z below) in
          let own : taken.whole (dart_in c (p + 1)) ≡ taken.whole (dart_in c p) = ap taken.whole (sym mates) ∙ taken.shared v v_below in
          let all : (q : ℕ) → taken.whole (dart_in c q) ≡ taken.whole (dart_in c p) =
          λ q. elim (dart_cases c p (dart_in c q) (place_in c q)) [
            | inl a ↦ ap taken.whole a ∙ own
            | inr b ↦ elim b [
              | inl a ↦ ap taken.whole a ∙ sym taken.first ∙ own
              | inr d ↦ elim d [ inl a ↦ ap taken.whole a ∙ taken.second | inr a ↦ ap taken.whole a ]
            ]
          ] in
          let across : (q : ℕ) → on_arcs crossings taken.whole (arc_of_dart crossings (dart_in c q))
          ≡ on_arcs crossings taken.whole (arc_of_dart crossings (dart_in c (q + 2))) =
          λ q.
          let c_small : c < k + 1 = omega (arith, within) in
          arc_at (dart_in c q) (dart_in-below (k + 1) c q c_small) ∙ all q ∙ sym (all (q + 2))
          ∙ sym (arc_at (dart_in c (q + 2)) (dart_in-below (k + 1) c (q + 2) c_small)) in
          let alike = straight-finest crossings gone (on_arcs crossings taken.whole) twice
          (λ place below is_gone.
          subst (λ (q : ℕ). (on_arcs crossings taken.whole (arc_by_place crossings q 0) ≡ on_arcs crossings taken.whole (arc_by_place crossings q 2))
          × (on_arcs crossings taken.whole (arc_by_place crossings q 1) ≡ on_arcs crossings taken.whole (arc_by_place crossings q 3)))
          (eqb-true c place is_gone) (on_arcs-across crossings (on_arcs crossings taken.whole) c across))
          (arc_of_dart crossings (early_dart c k x)) (arc_of_dart crossings (early_dart c k y))
          (arc_of_dart-below crossings twice (early_dart c k x) (large (early_dart c k x) (early_below x x_below)))
          (arc_of_dart-below crossings twice (early_dart c k y) (large (early_dart c k y) (early_below y y_below))) same in
          pair_of-same (4 * k) (smoothed (partner_at code.crossings) c k p) new_closed.pairing x y x_below y_below
          (sym (taken.kept x x_below) ∙ sym (arc_at (early_dart c k x) (early_below x x_below)) ∙ alike
          ∙ arc_at (early_dart c k y) (early_below y y_below) ∙ taken.kept y y_below);
    }
