-- The pairings that states make and their circles, and how an edge merges or splits circles.
--
-- By induction on the crossings a state's pairing is one of the open arcs, and what is alive is together in it and in what the state joins
-- at the crossings still to come, where it is in the whole state (`made`): one crossing more changes neither (`together-outside`). Where
-- the classes of two smoothings of a crossing differ by a join at two of its slots (`are-merged`), this makes the record of names and
-- touched circles (`become-one`).
use Rattle.std.proofs.Common.{◌≡◌, ◌↔◌, ℕ, zero, suc, inl, inr, ◌⊎◌, ◌+◌, ◌<◌, ◌≤◌, ◌∙◌, List, [], ◌++◌, length, refl, sym, ap, subst, arith, append_assoc, Bool}
use Rattle.std.specs.Prelude.{slice_index}
use Rattle.std.specs.List.{Contains}
use Rattle.std.proofs.lemmas.Bool.{both_ways}
use Rattle.std.proofs.lemmas.Bool.Decides.{nat_tests}
use Rattle.kh_types.specs.Bits.{bit}
use Rattle.kh_types.specs.Code.{Code}
use Rattle.kh_types.specs.Circles.{circles_of}
use Rattle.kh_types.specs.Classes.{merged, classes_of, Respects}
use Rattle.kh_types.specs.Darts.{HasArcsTwice}
use Rattle.kh_types.specs.Permutations.{AreJoined}
use Rattle.kh_types.proofs.ClassLemmas.{classes-together, slice_index-joined, merged-both, Respects-first, Respects-second}
use Rattle.kh_types.proofs.JoinedClasses.{IsNamed-classes_of}
use Rattle.genus_laws.specs.CutCodes.{outer_smoothings}
use Rattle.added_crossing_laws.specs.Pairings.{IsPairingOf}
use Rattle.added_crossing_laws.specs.Codes.{is_open, is_alive, points_at, step_at, smoothing_at, pairing_behind, circle_before}
use Rattle.added_crossing_laws.specs.Saddles.{TwoBecomeOneAt, IsPairedAt, pairing_of, circle_with}
use Rattle.added_crossing_laws.proofs.Members.{IsOneOf, those-are}
use Rattle.added_crossing_laws.proofs.Classes.{class_in, AreAmong-below, class-own, class-is}
use Rattle.added_crossing_laws.proofs.CutJoins.{near-has, next-has}
use Rattle.added_crossing_laws.proofs.KeptCircles.{together-outside}
use Rattle.added_crossing_laws.proofs.CodeSteps.{IsStep-at, slot-near, outer-split, count_of}
use Rattle.added_crossing_laws.proofs.CodeSums.{IsCut-at}
use Rattle.added_crossing_laws.proofs.Pairs.{IsPairingOf-behind}
use Rattle.added_crossing_laws.proofs.TwoCircles.{AreNamed, IsEither, AreMerged, kept_of, gone_of, AreSlots, one-merged, others-merged, order-merged, names-merged, touched-first, touched-second}
use Rattle.added_crossing_laws.proofs.CodeJoins.{joins_with, classes_with, arc_of_slot, joins-alive}

-- what is alive after the first k crossings is together there where it is in the whole state
pub record IsMade (code : Code) (state k : ℕ) (m : List (ℕ × ℕ)) : Type 0 where
  pub paired : IsPairingOf (points_at code k).opened m
  pub circles : (x y : ℕ) → Contains (points_at code k).alive x → Contains (points_at code k).alive y
      → (circle_with code state m k x ≡ circle_with code state m k y)
      ↔ (slice_index (circles_of code state) x ≡ slice_index (circles_of code state) y)

made-first : (code : Code) (state : ℕ) → IsMade code state 0 []
made-first code state = record {
  paired = record {
    among = tt;
    once = λ x has. absurd (both_ways (is_open code 0 x) refl (those-are (count_of code) (is_open code 0) x has).passes);
  };
  circles = λ x y has y_has. (λ same. same, λ same. same);
}

split-joins : (code : Code) (state k : ℕ) (m : List (ℕ × ℕ)) → k < length code.crossings
    → (m ++ smoothing_at code k (bit state k)) ++ outer_smoothings code.crossings state (k + 1) ≡ m ++ outer_smoothings code.crossings state k
split-joins code state k m below =
    append_assoc m (smoothing_at code k (bit state k)) (outer_smoothings code.crossings state (k + 1))
    ∙ ap (λ (pairs : List (ℕ × ℕ)). m ++ pairs) (sym (outer-split code state k below))

before-same : (code : Code) (state k : ℕ) (m : List (ℕ × ℕ)) (x : ℕ) → k < length code.crossings
    → circle_before code k (bit state k) state m x ≡ circle_with code state m k x
before-same code state k m x below =
    ap (λ (pairs : List (ℕ × ℕ)). slice_index (classes_of (points_at code k).size pairs) x) (split-joins code state k m below)

made-next : (code : Code) (state k : ℕ) (m : List (ℕ × ℕ)) → HasArcsTwice code.crossings → k < length code.crossings
    → IsMade code state k m → IsMade code state (k + 1) (pairing_behind code k (bit state k) m)
made-next code state k m twice below made =
    let step_is = IsStep-at code k twice below in
    let e = bit state k in
    record {
      paired = IsPairingOf-behind code k e m twice below made.paired;
      circles = λ x y has y_has.
          let x_too = next-has (step_at code k) x step_is has in
          let y_too = next-has (step_at code k) y step_is y_has in
          let outside = together-outside (step_at code k) (m ++ smoothing_at code k e) (pairing_behind code k e m)
          (outer_smoothings code.crossings state (k + 1)) x y (IsCut-at code k e state m twice below made.paired.among) has y_has in
          let there = made.circles x y x_too y_too in
          let at_x = before-same code state k m x below in
          let at_y = before-same code state k m y below in (
            λ same. there.0 (sym at_x ∙ outside.0 same ∙ at_y),
            λ same. outside.1 (at_x ∙ there.1 same ∙ sym at_y),
          );
    }

pub made : (code : Code) (state k : ℕ) → HasArcsTwice code.crossings → k ≤ length code.crossings
    → IsMade code state k (pairing_of code state k)
made code state zero twice within = made-first code state
made code state (suc k) twice within =
    let e : k + 1 ≡ suc k = omega arith in
    subst (λ j. IsMade code state j (pairing_behind code k (bit state k) (pairing_of code state k))) e
    (made-next code state k (pairing_of code state k) twice (omega (arith, within)) (made code state k twice (omega (arith, within))))

-- joined classes of states, and those of the pairing

pub record AreTogether (count : ℕ) (alive : ℕ → Bool) (classes whole : List ℕ) : Type 0 where
  pub iff : (x y : ℕ) → IsOneOf count alive x → IsOneOf count alive y
      → (slice_index classes x ≡ slice_index classes y) ↔ (slice_index whole x ≡ slice_index whole y)

split-merged : (p q u v : ℕ) → merged p q u ≡ merged p q v → (u ≡ v) ⊎ (((u ≡ p) ⊎ (u ≡ q)) × ((v ≡ p) ⊎ (v ≡ q)))
split-merged p q u v same = grind (arith, nat_tests)

pub are-merged : (count : ℕ) (alive : ℕ → Bool) (fine coarse whole behind : List ℕ) (a b : ℕ) → length whole ≡ count + 1
    → IsOneOf count alive a → IsOneOf count alive b → AreNamed count alive fine → AreNamed count alive coarse
    → AreTogether count alive fine whole → AreTogether count alive coarse behind → AreJoined whole behind a b
    → AreMerged count alive fine coarse a b
are-merged count alive fine coarse whole behind a b size a_is b_is fine_named coarse_named first second joined =
    let pair : ℕ × ℕ = (a, b) in
    let p = slice_index whole a in
    let q = slice_index whole b in
    let at : (x : ℕ) → IsOneOf count alive x → slice_index behind x ≡ merged p q (slice_index whole x) =
    λ x is. ap (λ (cs : List ℕ). slice_index cs x) joined.one ∙ slice_index-joined whole pair x (omega (arith, is.below, size)) in
    let either : (x : ℕ) → IsOneOf count alive x → (slice_index whole x ≡ p) ⊎ (slice_index whole x ≡ q)
    → IsEither fine a b (slice_index fine x) =
    λ x is two. elim two [ inl same ↦ inl ((first.iff x a is a_is).1 same) | inr same ↦ inr ((first.iff x b is b_is).1 same) ] in
    record {
      a_is = a_is;
      b_is = b_is;
      apart = λ same. joined.apart ((first.iff a b a_is b_is).0 same);
      joined = (second.iff a b a_is b_is).1 (at a a_is ∙ merged-both p q ∙ sym (at b b_is));
      keeps = λ x y x_is y_is same.
          (second.iff x y x_is y_is).1
          (at x x_is ∙ ap (λ c. merged p q c) ((first.iff x y x_is y_is).0 same) ∙ sym (at y y_is));
      parts = λ x y x_is y_is same.
          elim (split-merged p q (slice_index whole x) (slice_index whole y)
          (sym (at x x_is) ∙ (second.iff x y x_is y_is).0 same ∙ at y y_is)) [
            | inl one ↦ inl ((first.iff x y x_is y_is).1 one)
            | inr both ↦ inr (either x x_is both.0, either y y_is both.1)
          ];
      fine_named = fine_named;
      coarse_named = coarse_named;
    }

-- at a crossing

pub named-with : (code : Code) (k state smoothing : ℕ) (m : List (ℕ × ℕ)) → IsPairedAt code k m
    → AreNamed (count_of code) (is_alive code k) (classes_with code k state m smoothing)
named-with code k state smoothing m at =
    let count = count_of code in
    let n = count + 1 in
    let joins = joins_with code k state m smoothing in
    let among = joins-alive code k state smoothing m at in
    let below = AreAmong-below count (is_alive code k) joins among in
    record {
      is = λ x is. class-is count (is_alive code k) joins x among is;
      own = λ x is. class-own n joins x below (omega (arith, is.below));
      least = λ x is. (IsNamed-classes_of n joins below).least x (omega (arith, is.below));
    }

pub slot-alive : (code : Code) (k slot : ℕ) (m : List (ℕ × ℕ)) → IsPairedAt code k m → slot < 4
    → IsOneOf (count_of code) (is_alive code k) (arc_of_slot code k slot)
slot-alive code k slot m at below =
    those-are (count_of code) (is_alive code k) (arc_of_slot code k slot)
    (near-has (step_at code k) (arc_of_slot code k slot) (IsStep-at code k at.twice at.crossing)
    (slot-near code k slot at.twice at.crossing below))

pub smoothing-joined : (code : Code) (k state smoothing : ℕ) (m : List (ℕ × ℕ)) → IsPairedAt code k m
    → Respects (λ x. slice_index (classes_with code k state m smoothing) x) (smoothing_at code k smoothing)
smoothing-joined code k state smoothing m at =
    let joins = joins_with code k state m smoothing in
    let class : ℕ → ℕ = class_in (count_of code + 1) joins in
    let s = smoothing_at code k smoothing in
    Respects-second class m s
    (Respects-first class (m ++ s) (outer_smoothings code.crossings state (k + 1))
    (classes-together (count_of code + 1) joins
    (AreAmong-below (count_of code) (is_alive code k) joins (joins-alive code k state smoothing m at))))

pub slots-zero : (code : Code) (k state : ℕ) (m : List (ℕ × ℕ)) → IsPairedAt code k m
    → AreSlots (count_of code) (is_alive code k) (classes_with code k state m 0) (arc_of_slot code k)
slots-zero code k state m at = record {
  is = λ slot below. slot-alive code k slot m at below;
  either = λ slot below. by_slot code k state m (smoothing-joined code k state 0 m at) slot below;
}
  where
    by_slot : (code : Code) (k state : ℕ) (m : List (ℕ × ℕ))
        → Respects (λ x. slice_index (classes_with code k state m 0) x) (smoothing_at code k 0) → (slot : ℕ) → slot < 4
        → IsEither (classes_with code k state m 0) (arc_of_slot code k 0) (arc_of_slot code k 2)
        (slice_index (classes_with code k state m 0) (arc_of_slot code k slot))
    by_slot code k state m respects zero below = inl refl
    by_slot code k state m respects (suc zero) below = inl (sym respects.0)
    by_slot code k state m respects (suc (suc zero)) below = inr refl
    by_slot code k state m respects (suc (suc (suc zero))) below = inr (sym respects.1.0)
    by_slot code k state m respects (suc (suc (suc (suc slot)))) below = absurd (omega (arith, below))

pub slots-one : (code : Code) (k state : ℕ) (m : List (ℕ × ℕ)) → IsPairedAt code k m
    → AreSlots (count_of code) (is_alive code k) (classes_with code k state m 1) (arc_of_slot code k)
slots-one code k state m at = record {
  is = λ slot below. slot-alive code k slot m at below;
  either = λ slot below. by_slot code k state m (smoothing-joined code k state 1 m at) slot below;
}
  where
    by_slot : (code : Code) (k state : ℕ) (m : List (ℕ × ℕ))
        → Respects (λ x. slice_index (classes_with code k state m 1) x) (smoothing_at code k 1) → (slot : ℕ) → slot < 4
        → IsEither (classes_with code k state m 1) (arc_of_slot code k 0) (arc_of_slot code k 2)
        (slice_index (classes_with code k state m 1) (arc_of_slot code k slot))
    by_slot code k state m respects zero below = inl refl
    by_slot code k state m respects (suc zero) below = inr respects.1.0
    by_slot code k state m respects (suc (suc zero)) below = inr refl
    by_slot code k state m respects (suc (suc (suc zero))) below = inl (sym respects.0)
    by_slot code k state m respects (suc (suc (suc (suc slot)))) below = absurd (omega (arith, below))

pub become-one : (code : Code) (k state : ℕ) (m : List (ℕ × ℕ)) (first second : ℕ)
    → AreMerged (count_of code) (is_alive code k) (classes_with code k state m first) (classes_with code k state m second)
    (arc_of_slot code k 0) (arc_of_slot code k 2)
    → AreSlots (count_of code) (is_alive code k) (classes_with code k state m first) (arc_of_slot code k)
    → TwoBecomeOneAt code k state m first second
    (kept_of (classes_with code k state m first) (arc_of_slot code k 0) (arc_of_slot code k 2))
    (gone_of (classes_with code k state m first) (arc_of_slot code k 0) (arc_of_slot code k 2))
become-one code k state m first second merged slots =
    let count = count_of code in
    let alive = is_alive code k in
    let fine = classes_with code k state m first in
    let coarse = classes_with code k state m second in
    let arc : ℕ → ℕ = arc_of_slot code k in
    record {
      order = order-merged count alive fine coarse (arc 0) (arc 2) merged;
      touched_first = touched-first count alive fine coarse arc merged slots;
      touched_second = touched-second count alive fine coarse arc merged slots;
      names = names-merged count alive fine coarse (arc 0) (arc 2) merged;
      one = λ x has. one-merged count alive fine coarse (arc 0) (arc 2) x merged (those-are count alive x has);
      others = λ x has. others-merged count alive fine coarse (arc 0) (arc 2) x merged (those-are count alive x has);
    }
