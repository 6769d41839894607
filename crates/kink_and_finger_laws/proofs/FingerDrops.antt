-- Two crossings that meet in a bigon are dropped: what is left has the partners that are left where one of them is smoothed away,
-- and then the other. This keeps it on the sphere. But dropping joins arcs straight through, and a smoothing turns at the
-- crossing: both agree where the values at the ends of the bigon's sides are exchanged. So exchanged, the names of classes and
-- the heads of darts fit the joints of both smoothings, and what both smoothings keep has one value across each pass. Then the
-- places that stay, first without the one crossing and then without the other. At last all together: the partners keep the names
-- of classes, lead from heads to tails and from one colour to the other, and each name is of two darts alone.
use Rattle.std.proofs.Common.{◌≡◌, ◌≢◌, ℕ, ◌⊎◌, inl, inr, ◌+◌, ◌*◌, ◌/◌, ◌<◌, ◌≤◌, ◌∙◌, List, [], ◌∷◌, sym, ap, subst, arith, refl, Bool, true, not, ◌||◌, length, map, IsTrue}
use Rattle.std.specs.Prelude.{nat_eq, slice_index}
use Rattle.std.specs.List.{filter, range_with_len}
use Rattle.std.proofs.lemmas.Bool.{cases_Bool}
use Rattle.std.proofs.lemmas.Bool.Decides.{nat_tests}
use Rattle.kh_types.specs.Code.{Code}
use Rattle.kh_types.specs.Acceptance.{accepted}
use Rattle.kh_types.specs.Colours.{IsColoured}
use Rattle.kh_types.specs.Darts.{partner_at}
use Rattle.kh_types.proofs.AcceptedLemmas.{HasArcsTwice-accepted}
use Rattle.kh_types.proofs.Heads.{HasNoSingleArcs-accepted}
use Rattle.kh_types.proofs.Lists.{filter-map, filter-range_agree}
use Rattle.gluing_laws.specs.Codes.{arc_of_dart}
use Rattle.kink_and_finger_laws.specs.Drops.{straight_names, is_of_two}
use Rattle.kink_and_finger_laws.specs.Pulls.{dart_in, late, early, early_dart, smoothed, IsClosedPlanar}
use Rattle.kink_and_finger_laws.specs.Dropping.{HasBigonAt}
use Rattle.kink_and_finger_laws.proofs.DroppedDarts.{is_code_head, is_colour, dartwise, class_name, IsDropped}
use Rattle.kink_and_finger_laws.proofs.OldDarts.{IsClosedPlanar-accepted, arc_of_dart-partner, heads-partner, colours-partner, on_arcs, on_arcs-at, arc_of_dart-below, heads-across, colours-next, dart_in-next}
use Rattle.kink_and_finger_laws.proofs.KeptCodes.{places-but, straight-finest}
use Rattle.kink_and_finger_laws.proofs.Smoothed.{IsClosedPlanar-smoothed, smoothed-named, dart_in-below, IsPermutation-late, IsPermutation-dartwise, block_place, block_slot}
use Rattle.kink_and_finger_laws.proofs.SmoothedValues.{smoothed-flipped, IsTakenBack, IsTakenBack-smoothed}
use Rattle.kink_and_finger_laws.proofs.KinkDrops.{class_name-across, on_arcs-across, pair_of, pair_of-partner, pair_of-same, early-away}
use Rattle.kink_and_finger_laws.proofs.CrossedSides.{eq_self, AreSides, crossed, crossed-a, crossed-b, crossed-c, crossed-d, crossed-else, crossed-partner}
use Rattle.kh_types.proofs.Tests.{twice-not}

-- the sides of a bigon
AreSides-bigon : (crossings : List (List ℕ)) (c d p q : ℕ) → HasBigonAt crossings c d p q
    → AreSides (4 * length crossings) (partner_at crossings) (dart_in c p) (dart_in c (p + 1)) (dart_in d q) (dart_in d (q + 1))
AreSides-bigon crossings c d p q bigon = omega arith

-- the darts opposite the sides keep their values
pub record AreFarKept {X : Type 0} (g h : ℕ → X) (c p : ℕ) : Type 0 where
  pub two : h (dart_in c (p + 2)) ≡ g (dart_in c (p + 2))
  pub three : h (dart_in c (p + 3)) ≡ g (dart_in c (p + 3))

crossed-far : {X : Type 0} (g : ℕ → X) (c d p q : ℕ) → c ≢ d
    → AreFarKept g (crossed g (dart_in c p) (dart_in c (p + 1)) (dart_in d q) (dart_in d (q + 1))) c p
    × AreFarKept g (crossed g (dart_in c p) (dart_in c (p + 1)) (dart_in d q) (dart_in d (q + 1))) d q
crossed-far g c d p q apart = grind (arith, nat_tests)

-- the joints of both crossings, where passes lead across in the way that turn says
pub record AreJoints {X : Type 0} (g : ℕ → X) (turn : X → X) (c p : ℕ) : Type 0 where
  pub first : g (dart_in c (p + 1)) ≡ turn (g (dart_in c (p + 2)))
  pub second : g (dart_in c (p + 3)) ≡ turn (g (dart_in c p))

crossed-joints : {X : Type 0} (g : ℕ → X) (turn : X → X) (crossings : List (List ℕ)) (c d p q : ℕ) → HasBigonAt crossings c d p q
    → ((e r : ℕ) → (e ≡ c) ⊎ (e ≡ d) → (g (dart_in e r) ≡ turn (g (dart_in e (r + 2)))) × (g (dart_in e (r + 2)) ≡ turn (g (dart_in e r))))
    → AreJoints (crossed g (dart_in c p) (dart_in c (p + 1)) (dart_in d q) (dart_in d (q + 1))) turn c p
    × AreJoints (crossed g (dart_in c p) (dart_in c (p + 1)) (dart_in d q) (dart_in d (q + 1))) turn d q
crossed-joints {X} g turn crossings c d p q bigon across =
    let m = 4 * length crossings in
    let partner : ℕ → ℕ = partner_at crossings in
    let are = AreSides-bigon crossings c d p q bigon in
    let a = dart_in c p in
    let b = dart_in c (p + 1) in
    let e = dart_in d q in
    let f = dart_in d (q + 1) in
    let far = crossed-far g c d p q bigon.apart in
    let p_next : p + 1 + 2 ≡ p + 3 = omega arith in
    let q_next : q + 1 + 2 ≡ q + 3 = omega arith in (
      record {
        first = crossed-b g m partner a b e f are ∙ (across c p (inl refl)).0 ∙ ap turn (sym far.0.two);
        second = far.0.three ∙ ap (λ r. g (dart_in c r)) (sym p_next) ∙ (across c (p + 1) (inl refl)).1
            ∙ ap turn (sym (crossed-a g m partner a b e f are));
      },
      record {
        first = crossed-d g m partner a b e f are ∙ (across d q (inr refl)).0 ∙ ap turn (sym far.1.two);
        second = far.1.three ∙ ap (λ r. g (dart_in d r)) (sym q_next) ∙ (across d (q + 1) (inr refl)).1
            ∙ ap turn (sym (crossed-c g m partner a b e f are));
      },
    )

-- the places that stay

filter-two : (c d : ℕ) (xs : List ℕ)
    → filter (λ x. not (nat_eq c x || nat_eq d x)) xs ≡ filter (λ x. not (nat_eq d x)) (filter (λ x. not (nat_eq c x)) xs)
filter-two c d [] = refl
filter-two c d (x ∷ xs) = grind (arith, nat_tests, filter-two c d xs, cases_Bool (nat_eq c x))

map-twice : (f g : ℕ → ℕ) (xs : List ℕ) → map f (map g xs) ≡ map (λ x. f (g x)) xs
map-twice f g [] = refl
map-twice f g (x ∷ xs) = ap (λ ys. f (g x) ∷ ys) (map-twice f g xs)

pub late-below : (c k d : ℕ) → c ≤ k → d < k + 1 → c ≢ d → late c k d < k
late-below c k d within below apart = grind (arith, nat_tests)

pub places-two : (c d k : ℕ) → c ≤ k + 1 → d ≤ k + 1 → c ≢ d
    → filter (λ x. not (nat_eq c x || nat_eq d x)) (range_with_len 0 (k + 1 + 1))
    ≡ map (λ i. early c (k + 1) (early (late c (k + 1) d) k i)) (range_with_len 0 k)
places-two c d k c_within d_within apart =
    let e = late c (k + 1) d in
    let e_below = late-below c (k + 1) d c_within (omega (arith, d_within)) apart in
    filter-two c d (range_with_len 0 (k + 1 + 1))
    ∙ ap (filter (λ x. not (nat_eq d x))) (places-but c (k + 1) c_within)
    ∙ filter-map (λ x. not (nat_eq d x)) (early c (k + 1)) (range_with_len 0 (k + 1))
    ∙ ap (map (early c (k + 1)))
    (filter-range_agree (λ i. not (nat_eq d (early c (k + 1) i))) (λ i. not (nat_eq (late c (k + 1) d) i)) 0 (k + 1)
    (λ i from below. alike c (k + 1) d i c_within (omega (arith, d_within)) apart (omega (arith, below)))
    ∙ places-but (late c (k + 1) d) k (omega (arith, e_below)))
    ∙ map-twice (early c (k + 1)) (early (late c (k + 1) d) k) (range_with_len 0 k)
  where
    alike : (c k d i : ℕ) → c ≤ k → d < k + 1 → c ≢ d → i < k → not (nat_eq d (early c k i)) ≡ not (nat_eq (late c k d) i)
    alike c k d i within below apart small = grind (arith, nat_tests)

early_dart-in : (c k d e r : ℕ) → early c k e ≡ d → early_dart c k (dart_in e r) ≡ dart_in d r
early_dart-in c k d e r is = grind (arith, nat_tests)

dartwise-twice : (f g : ℕ → ℕ) (x : ℕ) → dartwise f (dartwise g x) ≡ dartwise (λ i. f (g i)) x
dartwise-twice f g x = grind (arith, nat_tests, dartwise g x, block_place (g (x / 4)) x, block_slot (g (x / 4)) x)

-- functions with joints at both crossings have, with the values at the sides exchanged, one value across each pass
joints-crossed : (w : ℕ → ℕ) (crossings : List (List ℕ)) (c d p q : ℕ) → HasBigonAt crossings c d p q → AreJoints w (λ z. z) c p
    → AreJoints w (λ z. z) d q → (e r : ℕ) → (e ≡ c) ⊎ (e ≡ d)
    → crossed w (dart_in c p) (dart_in c (p + 1)) (dart_in d q) (dart_in d (q + 1)) (dart_in e r)
    ≡ crossed w (dart_in c p) (dart_in c (p + 1)) (dart_in d q) (dart_in d (q + 1)) (dart_in e (r + 2))
joints-crossed w crossings c d p q bigon c_joints d_joints e r which = grind (arith, nat_tests)

of_two : (c d place : ℕ) → (nat_eq c place || nat_eq d place) ≡ true → (place ≡ c) ⊎ (place ≡ d)
of_two c d place is = grind (arith, nat_tests)

pub IsDropped-finger : (code : Code) (choice k c d p q : ℕ) → IsTrue (accepted code) → IsColoured code.crossings choice
    → length code.crossings ≡ k + 1 + 1 → HasBigonAt code.crossings c d p q
    → IsDropped code.crossings (is_of_two c d) choice k (λ i. early c (k + 1) (early (late c (k + 1) d) k i))
    (smoothed (smoothed (partner_at code.crossings) c (k + 1) p) (late c (k + 1) d) k q)
IsDropped-finger code choice k c d p q is coloured size bigon =
    let crossings = code.crossings in
    let gone : ℕ → Bool = is_of_two c d in
    let partner : ℕ → ℕ = partner_at code.crossings in
    let middle : ℕ → ℕ = smoothed (partner_at code.crossings) c (k + 1) p in
    let e = late c (k + 1) d in
    let new : ℕ → ℕ = smoothed (smoothed (partner_at code.crossings) c (k + 1) p) (late c (k + 1) d) k q in
    let twice = HasArcsTwice-accepted code is in
    let directed = HasNoSingleArcs-accepted code is in
    let c_gone : (nat_eq c c || nat_eq d c) ≡ true = ap (λ t. t || nat_eq d c) (eq_self c) in
    let d_gone : (nat_eq c d || nat_eq d d) ≡ true = gone_second c d in
    let closed : IsClosedPlanar (k + 1 + 1) (partner_at code.crossings) =
    subst (λ (n : ℕ). IsClosedPlanar n (partner_at code.crossings)) size (IsClosedPlanar-accepted code is) in
    let c_within : c ≤ k + 1 = omega (arith, bigon.first_below, size) in
    let d_within : d ≤ k + 1 = omega (arith, bigon.second_below, size) in
    let e_below = late-below c (k + 1) d c_within (omega (arith, d_within)) bigon.apart in
    let e_within : late c (k + 1) d ≤ k = omega (arith, e_below) in
    let e_back : early c (k + 1) (late c (k + 1) d) ≡ d =
    (IsPermutation-late c (k + 1) c_within).back_f d (omega (arith, d_within)) in
    let to_d : (r : ℕ) → early_dart c (k + 1) (dart_in (late c (k + 1) d) r) ≡ dart_in d r =
    λ r. early_dart-in c (k + 1) d (late c (k + 1) d) r e_back in
    let large : (x : ℕ) → x < 4 * (k + 1 + 1) → x < 4 * length code.crossings = λ x below. omega (arith, below, size) in
    let small : (x : ℕ) → x < 4 * length code.crossings → x < 4 * (k + 1 + 1) = λ x below. omega (arith, below, size) in
    let middle_closed = IsClosedPlanar-smoothed (k + 1) partner c p closed c_within in
    let new_closed = IsClosedPlanar-smoothed k middle (late c (k + 1) d) q middle_closed e_within in
    let are = AreSides-bigon crossings c d p q bigon in
    let a = dart_in c p in
    let b = dart_in c (p + 1) in
    let s = dart_in d q in
    let t = dart_in d (q + 1) in
    let outer_below : (x : ℕ) → x < 4 * (k + 1) → early_dart c (k + 1) x < 4 * (k + 1 + 1) =
    λ x below. (IsPermutation-dartwise (k + 1 + 1) (late c (k + 1)) (early c (k + 1)) (IsPermutation-late c (k + 1) c_within)).back_below x
    (omega (arith, below)) in
    let inner_below : (x : ℕ) → x < 4 * k → early_dart (late c (k + 1) d) k x < 4 * (k + 1) =
    λ x below. (IsPermutation-dartwise (k + 1) (late (late c (k + 1) d) k) (early (late c (k + 1) d) k)
    (IsPermutation-late (late c (k + 1) d) k e_within)).back_below x (omega (arith, below)) in
    let whole_dart : (x : ℕ) → early_dart c (k + 1) (early_dart (late c (k + 1) d) k x)
    ≡ dartwise (λ i. early c (k + 1) (early (late c (k + 1) d) k i)) x =
    λ x. dartwise-twice (early c (k + 1)) (early (late c (k + 1) d) k) x in
    -- a dart that stays is no end of a side
    let away_d : (x r : ℕ) → x < 4 * k → early_dart c (k + 1) (early_dart (late c (k + 1) d) k x) ≢ dart_in d r =
    λ x r below same.
    let darts = IsPermutation-dartwise (k + 1 + 1) (late c (k + 1)) (early c (k + 1)) (IsPermutation-late c (k + 1) c_within) in
    early-away (late c (k + 1) d) k r x e_within below
    (sym (darts.f_back (early_dart (late c (k + 1) d) k x) (omega (arith, inner_below x below)))
    ∙ ap (dartwise (late c (k + 1))) (same ∙ sym (to_d r))
    ∙ darts.f_back (dart_in (late c (k + 1) d) r) (omega (arith, dart_in-below (k + 1) (late c (k + 1) d) r e_below))) in
    let away_c : (x r : ℕ) → x < 4 * k → early_dart c (k + 1) (early_dart (late c (k + 1) d) k x) ≢ dart_in c r =
    λ x r below. early-away c (k + 1) r (early_dart (late c (k + 1) d) k x) c_within (inner_below x below) in
    let name : ℕ → ℕ = class_name crossings gone in
    let name_shared : (x : ℕ) → x < 4 * length code.crossings → class_name crossings gone (partner_at code.crossings x) ≡ class_name crossings gone x =
    λ x below. ap (slice_index (straight_names crossings gone)) (arc_of_dart-partner crossings twice x below) in
    let name_across : (z r : ℕ) → (z ≡ c) ⊎ (z ≡ d)
    → (class_name crossings gone (dart_in z r) ≡ class_name crossings gone (dart_in z (r + 2)))
    × (class_name crossings gone (dart_in z (r + 2)) ≡ class_name crossings gone (dart_in z r)) =
    λ z r which.
    let one : class_name crossings gone (dart_in z r) ≡ class_name crossings gone (dart_in z (r + 2)) =
    elim which [
      | inl at ↦ class_name-across crossings gone z r twice (omega (arith, at, bigon.first_below)) (ap gone at ∙ c_gone)
      | inr at ↦ class_name-across crossings gone z r twice (omega (arith, at, bigon.second_below)) (ap gone at ∙ d_gone)
    ] in
    (one, sym one) in
    let names = crossed-partner name (λ z. z) (4 * length code.crossings) partner a b s t
    (IsClosedPlanar-accepted code is).pairing are name_shared in
    let name_joints = crossed-joints name (λ z. z) crossings c d p q bigon name_across in
    let head_across : (z r : ℕ) → (z ≡ c) ⊎ (z ≡ d)
    → (is_code_head crossings (dart_in z r) ≡ not (is_code_head crossings (dart_in z (r + 2))))
    × (is_code_head crossings (dart_in z (r + 2)) ≡ not (is_code_head crossings (dart_in z r))) =
    λ z r which.
    let one = heads-across crossings z r in
    (sym (twice-not (is_code_head crossings (dart_in z r))) ∙ ap not (sym one), one) in
    let heads = crossed-partner (is_code_head crossings) not (4 * length code.crossings) partner a b s t
    (IsClosedPlanar-accepted code is).pairing are (heads-partner crossings directed.0 directed.1) in
    let head_joints = crossed-joints (is_code_head crossings) not crossings c d p q bigon head_across in
    let taken_once : IsTakenBack k (smoothed (partner_at code.crossings) c (k + 1) p) (late c (k + 1) d) q
    (pair_of (smoothed (smoothed (partner_at code.crossings) c (k + 1) p) (late c (k + 1) d) k q)) =
    IsTakenBack-smoothed k middle (late c (k + 1) d) q (pair_of new) middle_closed e_within
    (pair_of-partner (4 * k) new new_closed.pairing) in
    let taken : IsTakenBack (k + 1) (partner_at code.crossings) c p taken_once.whole =
    IsTakenBack-smoothed (k + 1) partner c p taken_once.whole closed c_within taken_once.shared in
    let at_d : (r : ℕ) → taken.whole (dart_in d r) ≡ taken_once.whole (dart_in (late c (k + 1) d) r) =
    λ r. ap taken.whole (sym (to_d r))
    ∙ taken.kept (dart_in (late c (k + 1) d) r) (dart_in-below (k + 1) (late c (k + 1) d) r e_below) in
    let whole_shared : (x : ℕ) → x < 4 * length code.crossings → taken.whole (partner_at code.crossings x) ≡ taken.whole x =
    λ x below. taken.shared x (small x below) in
    let value : ℕ → ℕ = crossed taken.whole a b s t in
    let value_shared = crossed-partner taken.whole (λ z. z) (4 * length code.crossings) partner a b s t
    (IsClosedPlanar-accepted code is).pairing are whole_shared in
    let name_else : (x : ℕ) → x < 4 * k
    → crossed (class_name crossings gone) a b s t (early_dart c (k + 1) (early_dart (late c (k + 1) d) k x))
    ≡ class_name crossings gone (dartwise (λ i. early c (k + 1) (early (late c (k + 1) d) k i)) x) =
    λ x below.
    crossed-else (class_name crossings gone) a b s t (early_dart c (k + 1) (early_dart (late c (k + 1) d) k x)) (away_c x p below)
    (away_c x (p + 1) below) (away_d x q below) (away_d x (q + 1) below) ∙ ap (class_name crossings gone) (whole_dart x) in
    let head_else : (x : ℕ) → x < 4 * k
    → crossed (is_code_head crossings) a b s t (early_dart c (k + 1) (early_dart (late c (k + 1) d) k x))
    ≡ is_code_head crossings (dartwise (λ i. early c (k + 1) (early (late c (k + 1) d) k i)) x) =
    λ x below.
    crossed-else (is_code_head crossings) a b s t (early_dart c (k + 1) (early_dart (late c (k + 1) d) k x)) (away_c x p below)
    (away_c x (p + 1) below) (away_d x q below) (away_d x (q + 1) below) ∙ ap (is_code_head crossings) (whole_dart x) in
    let value_else : (x : ℕ) → x < 4 * k
    → crossed taken.whole a b s t (early_dart c (k + 1) (early_dart (late c (k + 1) d) k x))
    ≡ pair_of (smoothed (smoothed (partner_at code.crossings) c (k + 1) p) (late c (k + 1) d) k q) x =
    λ x below.
    crossed-else taken.whole a b s t (early_dart c (k + 1) (early_dart (late c (k + 1) d) k x)) (away_c x p below)
    (away_c x (p + 1) below) (away_d x q below) (away_d x (q + 1) below)
    ∙ taken.kept (early_dart (late c (k + 1) d) k x) (inner_below x below) ∙ taken_once.kept x below in
    let d_joints : AreJoints taken.whole (λ z. z) d q = record {
      first = at_d (q + 1) ∙ taken_once.first ∙ sym (at_d (q + 2));
      second = at_d (q + 3) ∙ taken_once.second ∙ sym (at_d q);
    } in
    let c_joints : AreJoints taken.whole (λ z. z) c p = record { first = taken.first; second = taken.second } in
    let value_across = joints-crossed taken.whole crossings c d p q bigon c_joints d_joints in
    let next_two : (z r : ℕ) → is_colour choice (dart_in z (r + 1)) ≡ not (is_colour choice (dart_in z (r + 2))) =
    λ z r. let f : r + 1 + 1 ≡ r + 2 = omega arith in
    colours-next choice z (r + 1) ∙ ap (λ r. not (is_colour choice (dart_in z r))) f in
    let next_last : (z r : ℕ) → is_colour choice (dart_in z (r + 3)) ≡ not (is_colour choice (dart_in z r)) =
    λ z r. let f : r + 3 + 1 ≡ r + 4 = omega arith in
    colours-next choice z (r + 3) ∙ ap (λ r. not (is_colour choice (dart_in z r))) f
    ∙ ap (λ x. not (is_colour choice x)) (dart_in-next z r) in
    record {
      places = ap (λ n. filter (λ x. not (nat_eq c x || nat_eq d x)) (range_with_len 0 n)) size
          ∙ places-two c d k c_within d_within bigon.apart;
      closed = new_closed;
      named = λ x below.
          sym (name_else (new x) (new_closed.pairing.below x below))
          ∙ smoothed-named k middle (late c (k + 1) d) q (λ y. crossed (class_name crossings gone) a b s t (early_dart c (k + 1) y)) middle_closed
          e_within
          (λ y y_below. smoothed-named (k + 1) partner c p (crossed (class_name crossings gone) a b s t) closed c_within
          (λ z z_below. names z (large z z_below)) name_joints.0.first name_joints.0.second y y_below)
          (ap (crossed (class_name crossings gone) a b s t) (to_d (q + 1)) ∙ name_joints.1.first
          ∙ ap (crossed (class_name crossings gone) a b s t) (sym (to_d (q + 2))))
          (ap (crossed (class_name crossings gone) a b s t) (to_d (q + 3)) ∙ name_joints.1.second
          ∙ ap (crossed (class_name crossings gone) a b s t) (sym (to_d q))) x below
          ∙ name_else x below;
      heads = λ x below.
          sym (head_else (new x) (new_closed.pairing.below x below))
          ∙ smoothed-flipped k middle (late c (k + 1) d) q (λ y. crossed (is_code_head crossings) a b s t (early_dart c (k + 1) y)) middle_closed
          e_within
          (λ y y_below. smoothed-flipped (k + 1) partner c p (crossed (is_code_head crossings) a b s t) closed c_within
          (λ z z_below. heads z (large z z_below)) head_joints.0.first head_joints.0.second y y_below)
          (ap (crossed (is_code_head crossings) a b s t) (to_d (q + 1)) ∙ head_joints.1.first
          ∙ ap (λ z. not (crossed (is_code_head crossings) a b s t z)) (sym (to_d (q + 2))))
          (ap (crossed (is_code_head crossings) a b s t) (to_d (q + 3)) ∙ head_joints.1.second
          ∙ ap (λ z. not (crossed (is_code_head crossings) a b s t z)) (sym (to_d q))) x below
          ∙ ap not (head_else x below);
      colours = λ x below.
          ap (is_colour choice) (sym (whole_dart (new x)))
          ∙ smoothed-flipped k middle (late c (k + 1) d) q (λ y. is_colour choice (early_dart c (k + 1) y)) middle_closed e_within
          (λ y y_below. smoothed-flipped (k + 1) partner c p (is_colour choice) closed c_within
          (λ z z_below. colours-partner crossings choice coloured twice z (large z z_below)) (next_two c p) (next_last c p) y y_below)
          (ap (is_colour choice) (to_d (q + 1)) ∙ next_two d q ∙ ap (λ z. not (is_colour choice z)) (sym (to_d (q + 2))))
          (ap (is_colour choice) (to_d (q + 3)) ∙ next_last d q ∙ ap (λ z. not (is_colour choice z)) (sym (to_d q))) x below
          ∙ ap (λ z. not (is_colour choice z)) (whole_dart x);
      two = λ x y x_below y_below same.
          let f : ℕ → ℕ = on_arcs crossings (crossed taken.whole a b s t) in
          let arc_at : (z : ℕ) → z < 4 * length code.crossings
          → on_arcs crossings (crossed taken.whole a b s t) (arc_of_dart crossings z) ≡ crossed taken.whole a b s t z =
          λ z below. on_arcs-at crossings (crossed taken.whole a b s t) twice value_shared z below in
          let across : (z : ℕ) → z < length code.crossings → (z ≡ c) ⊎ (z ≡ d) → (r : ℕ)
          → on_arcs crossings (crossed taken.whole a b s t) (arc_of_dart crossings (dart_in z r))
          ≡ on_arcs crossings (crossed taken.whole a b s t) (arc_of_dart crossings (dart_in z (r + 2))) =
          λ z z_below which r.
          arc_at (dart_in z r) (dart_in-below (length code.crossings) z r z_below) ∙ value_across z r which
          ∙ sym (arc_at (dart_in z (r + 2)) (dart_in-below (length code.crossings) z (r + 2) z_below)) in
          let dart : ℕ → ℕ = λ z. early_dart c (k + 1) (early_dart (late c (k + 1) d) k z) in
          let dart_below : (z : ℕ) → z < 4 * k → early_dart c (k + 1) (early_dart (late c (k + 1) d) k z) < 4 * length code.crossings =
          λ z below. large (early_dart c (k + 1) (early_dart (late c (k + 1) d) k z))
          (outer_below (early_dart (late c (k + 1) d) k z) (inner_below z below)) in
          let alike = straight-finest crossings gone (on_arcs crossings (crossed taken.whole a b s t)) twice
          (λ place below is_gone.
          on_arcs-across crossings (on_arcs crossings (crossed taken.whole a b s t)) place (across place below (of_two c d place is_gone)))
          (arc_of_dart crossings (dart x)) (arc_of_dart crossings (dart y))
          (arc_of_dart-below crossings twice (dart x) (dart_below x x_below)) (arc_of_dart-below crossings twice (dart y) (dart_below y y_below))
          (ap (class_name crossings gone) (whole_dart x) ∙ same ∙ ap (class_name crossings gone) (sym (whole_dart y))) in
          pair_of-same (4 * k) new new_closed.pairing x y x_below y_below
          (sym (value_else x x_below) ∙ sym (arc_at (dart x) (dart_below x x_below)) ∙ alike
          ∙ arc_at (dart y) (dart_below y y_below) ∙ value_else y y_below);
    }
  where
    gone_second : (c d : ℕ) → (nat_eq c d || nat_eq d d) ≡ true
    gone_second c d = grind (arith, nat_tests)
