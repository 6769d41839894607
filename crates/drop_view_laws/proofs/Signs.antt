-- Where a kink or a bigon is dropped: how many crossings of each sign are left (DropSigns).
use Rattle.std.proofs.lemmas.Bool.Decides.{nat_tests}
use Rattle.std.proofs.Common.{◌≡◌, ℕ, ◌+◌, ◌-◌, ◌%◌, ◌≤◌, ◌∙◌, length, map, sym, ap, arith, Bool, cond, not, ◌||◌, count_by, IsTrue}
use Rattle.std.specs.Prelude.{nat_eq}
use Rattle.std.specs.List.{filter, range_with_len}
use Rattle.std.proofs.lemmas.List.FromFn.{length-range_with_len}
use Rattle.std.proofs.lemmas.List.Sums.{count_by-le-length}
use Rattle.kh_types.specs.Acceptance.{accepted}
use Rattle.kh_types.specs.Bits.{one_if}
use Rattle.kh_types.specs.Code.{Code}
use Rattle.kh_types.specs.Directions.{is_positive, plus_count, positive_at}
use Rattle.kh_types.proofs.Heads.{HasNoSingleArcs-accepted}
use Rattle.kh_types.proofs.Lists.{count_by-map}
use Rattle.kh_types.proofs.RangeCounts.{count_by-alike}
use Rattle.orient_arcs.specs.Renumbered.{renumber}
use Rattle.kink_and_finger_laws.specs.DropCircles.{parts_plus, through_at}
use Rattle.kink_and_finger_laws.specs.Dropping.{HasBigonAt, HasKinkAt}
use Rattle.kink_and_finger_laws.specs.Drops.{dropped, is_of_two, kept_places, without_finger, without_kink}
use Rattle.kink_and_finger_laws.specs.Pulls.{early, late}
use Rattle.kink_and_finger_laws.proofs.FingerDrops.{places-two}
use Rattle.kink_and_finger_laws.proofs.FingerDropSums.{HasBigonAt-slots, bigon-signs, plus-kept_two}
use Rattle.kink_and_finger_laws.proofs.KinkCircles.{kept_are}
use Rattle.kink_and_finger_laws.proofs.KinkDropSums.{count-later, kink-sign, plus-kept}
use Rattle.kink_and_finger_laws.proofs.Sound.{two_below}
use Rattle.diagram_moves.specs.Kept.{IsKeptCode}
use Rattle.diagram_moves.proofs.DroppedCodes.{IsKept-finger, IsKept-kink}
use Rattle.drop_view_laws.specs.DropSigns.{AreBigonSigns, AreKinkSigns}

-- the positive crossings by places
plus-by_places : (code : Code) → plus_count code.crossings ≡ count_by (λ x. is_positive code.crossings (x + 1))
    (range_with_len 0 (length code.crossings))
plus-by_places code =
    let e : 0 + 1 ≡ 1 = omega arith in
    ap (λ a. count_by (is_positive code.crossings) (range_with_len a (length code.crossings))) (sym e)
    ∙ count-later (is_positive code.crossings) 0 (length code.crossings)

plus-left : (code new : Code) (gone : ℕ → Bool) (kept : ℕ → ℕ) (k : ℕ) → kept_places code.crossings gone ≡ map kept (range_with_len 0 k)
    → IsKeptCode code new kept k → plus_count new.crossings ≡ parts_plus (dropped code gone)
plus-left code new gone kept k places is =
    plus-by_places new
    ∙ ap (λ n. count_by (λ x. is_positive new.crossings (x + 1)) (range_with_len 0 n)) is.size
    ∙ count_by-alike (λ x. is_positive new.crossings (x + 1)) (λ x. positive_at code.crossings (kept x)) 0 k
    (λ x from below. is.signs x (omega (arith, below)))
    ∙ sym (count_by-map (positive_at code.crossings) kept (range_with_len 0 k))
    ∙ ap (count_by (positive_at code.crossings)) (sym places)
    ∙ sym (count_by-map (λ (b : Bool). b) (positive_at code.crossings) (kept_places code.crossings gone))

plus-few : (code : Code) → plus_count code.crossings ≤ length code.crossings
plus-few code =
    let few = count_by-le-length (λ x. is_positive code.crossings (x + 1)) (range_with_len 0 (length code.crossings)) in
    omega (arith, plus-by_places code, few, length-range_with_len 0 (length code.crossings))

pub AreKinkSigns-dropped : (code : Code) (c p : ℕ) → IsTrue (accepted code) → HasKinkAt code.crossings c p
    → AreKinkSigns code (renumber (without_kink code c)) p
AreKinkSigns-dropped code c p is kink =
    let new = renumber (without_kink code c) in
    let kept = IsKept-kink code c p is kink in
    let size : length code.crossings ≡ length code.crossings - 1 + 1 = omega (arith, kink.below) in
    let places = kept_are code c (length code.crossings - 1) size (omega (arith, kink.below)) in
    let left = plus-left code (renumber (without_kink code c)) (nat_eq c) (early c (length code.crossings - 1))
    (length code.crossings - 1) places kept in
    let counted = plus-kept code c kink.below in
    let sign : one_if (positive_at code.crossings c) ≡ through_at p = ap one_if (kink-sign code c p is kink) in
    let both = by (nat_eq (p % 2) 0) in
    let few = plus-few (renumber (without_kink code c)) in
    record {
      accepted_too = kept.accepted_too;
      size = omega (arith, kept.size, size);
      plus = omega (arith, counted, sign, left);
      minus = omega (arith, counted, sign, left, both, few, kept.size, size);
    }
  where
    by : (b : Bool) → cond b 1 0 + cond b 0 1 ≡ 1
    by b = grind (arith, nat_tests)

pub AreBigonSigns-dropped : (code : Code) (c d p q : ℕ) → IsTrue (accepted code) → HasBigonAt code.crossings c d p q
    → AreBigonSigns code (renumber (without_finger code c d))
AreBigonSigns-dropped code c d p q is bigon =
    let kept = IsKept-finger code c d p q is bigon in
    let directed = HasNoSingleArcs-accepted code is in
    let size = two_below (length code.crossings) c d bigon.first_below bigon.second_below bigon.apart in
    let places = ap (λ n. filter (λ z. not (nat_eq c z || nat_eq d z)) (range_with_len 0 n)) size
    ∙ places-two c d (length code.crossings - 2) (omega (arith, bigon.first_below, size)) (omega (arith, bigon.second_below, size))
    bigon.apart in
    let left = plus-left code (renumber (without_finger code c d)) (is_of_two c d)
    (λ i. early c (length code.crossings - 2 + 1) (early (late c (length code.crossings - 2 + 1) d) (length code.crossings - 2) i))
    (length code.crossings - 2) places kept in
    let counted = plus-kept_two code c d bigon.first_below bigon.second_below bigon.apart in
    let sign = bigon-signs code c d (p % 4) (q % 4) directed.0 directed.1 (HasBigonAt-slots code.crossings c d p q bigon) (omega arith)
    (omega arith) in
    let both : one_if (positive_at code.crossings c) + one_if (positive_at code.crossings d) ≡ 1 =
    ap (λ b. one_if (positive_at code.crossings c) + one_if b) sign ∙ one_of_two (positive_at code.crossings c) in
    let few = plus-few (renumber (without_finger code c d)) in
    record {
      accepted_too = kept.accepted_too;
      size = omega (arith, kept.size, size);
      plus = omega (arith, counted, both, left);
      minus = omega (arith, counted, both, left, few, kept.size, size);
    }
  where
    one_of_two : (b : Bool) → one_if b + one_if (not b) ≡ 1
    one_of_two b = grind (arith, nat_tests)
