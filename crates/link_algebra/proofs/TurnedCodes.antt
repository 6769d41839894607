-- The mirror and the reversal of an accepted code: accepted, with dual homology, and with the same.
--
-- Mirror and reversal are renumbered turns of the code (MirrorParts), so they have its faces, pieces and colours (RotatedCodes), and their
-- passes are directed: they are accepted. The mirror is dual to the code, by TurnedCircles and Duality; the reversal is dual to the mirror
-- in the same way, a turn by one slot more, so it has the homology of the code.
use Rattle.std.proofs.lemmas.Bool.Decides.{nat_tests}
use Rattle.std.proofs.Common.{◌≡◌, ℕ, zero, suc, ◌⊎◌, inl, inr, ◌+◌, ◌-◌, ◌%◌, ◌^◌, ◌<◌, ◌≤◌, ◌∙◌, ℤ, neg_ℤ, length, refl, sym, ap, ap₂, subst, arith, cond, not, Bool, IsTrue}
use Rattle.std.specs.List.{count_by, range_with_len}
use Rattle.std.proofs.lemmas.Int.{ints}
use Rattle.std.proofs.lemmas.List.Sums.{sum_by-cons}
use Rattle.kh_types.proofs.AcceptedLemmas.{HasArcsTwice-accepted}
use Rattle.kh_types.specs.Acceptance.{accepted}
use Rattle.kh_types.specs.Bits.{ones}
use Rattle.kh_types.specs.Circles.{circle_count}
use Rattle.kh_types.specs.Code.{Code, IsCrossing}
use Rattle.kh_types.specs.Directions.{is_positive, minus_count, plus_count}
use Rattle.kh_types.specs.Generators.{one_count}
use Rattle.kh_types.specs.StateSum.{state_sum, state_term}
use Rattle.kh_types.specs.Table.{dimension}
use Rattle.kh_types.specs.Residues.{HasInverses}
use Rattle.kh_types.proofs.QuantumDegrees.{plus_count-le}
use Rattle.kh_types.proofs.RangeCounts.{count_by-alike}
use Rattle.prime_field.specs.Residues.{IsSmallPrime}
use Rattle.prime_field.specs.SmallFields.{field-small_prime}
use Rattle.plain_matrix.proofs.FieldInverses.{inverses-field}
use Rattle.link_algebra.specs.Mirrors.{mirror_of, mirror_parts, reversal_of, reversal_parts}
use Rattle.link_algebra.proofs.Duality.{AreDual, dimension-dual}
use Rattle.link_algebra.proofs.Flips.{flipped, flipped-below, flipped-twice, ones-flipped}
use Rattle.link_algebra.proofs.IntSums.{sum_over, sum-range_alike}
use Rattle.link_algebra.proofs.MirrorDegrees.{minus-turned}
use Rattle.link_algebra.proofs.MirrorParts.{IsTurnOf-mirror, IsTurnOf-reversal, mirror-sign, mirror_turn, own-sign}
use Rattle.link_algebra.proofs.MovedLabels.{count-moved}
use Rattle.link_algebra.proofs.OppositeSums.{sum-flipped, term-opposite}
use Rattle.link_algebra.proofs.RotatedCodes.{IsRotated-back, opposite}
use Rattle.link_algebra.proofs.Renamings.{IsRotated, IsTurned}
use Rattle.link_algebra.proofs.TurnedCircles.{Corresponds-turned}
use Rattle.link_algebra.proofs.TurnedParts.{IsRotated-turn, accepted-turn, name, number, sign-turn}

pub small_prime-inverses : (p : ℕ) → IsSmallPrime p → HasInverses p
small_prime-inverses p prime = inverses-field p (field-small_prime p prime)

-- codes with dual homology have the same circles in states with all smoothings exchanged, and opposite state sums
pub circles-dual : (f back : ℕ → ℕ) (old new : Code) (s : ℕ) → AreDual f back old new → s < 2 ^ length old.crossings
    → circle_count new (flipped (length old.crossings) s) ≡ circle_count old s
circles-dual f back old new s are below =
    count-moved f back old new s (flipped (length old.crossings) s) are.old_is are.new_is
    (Corresponds-turned f back old new s are.old_is are.new_is are.turned below)

pub sums-dual : (f back : ℕ → ℕ) (old new : Code) (e : ℤ) → AreDual f back old new → state_sum new (neg_ℤ e) ≡ state_sum old e
sums-dual f back old new e are =
    let n = length old.crossings in
    ap (λ m. sum_over (state_term new (neg_ℤ e)) (range_with_len 0 (2 ^ m))) are.turned.size
    ∙ sum-flipped (state_term new (neg_ℤ e)) (2 ^ n)
    ∙ sum-range_alike (λ s. state_term new (neg_ℤ e) (flipped n s)) (state_term old e) 0 (2 ^ n)
    (λ s from below.
    let small : s < 2 ^ n = omega (arith, below) in
    term-opposite n (plus_count old.crossings) (minus_count old.crossings) (plus_count new.crossings) (minus_count new.crossings)
    (one_count old s) (one_count new (flipped n s)) (circle_count old s) (circle_count new (flipped n s)) e
    (all (plus_count old.crossings) n (plus_count-le old.crossings)) are.turned.signs (minus-turned f back old new are.turned)
    (ap (λ m. ones m (flipped n s) + ones n s) are.turned.size ∙ ones-flipped n s n small (omega arith))
    (circles-dual f back old new s are small))
  where
    all : (p n : ℕ) → p ≤ n → p + (n - p) ≡ n
    all p n few = omega (arith, few)

-- a code turned by one slot, one way or the other, with exchanged signs
turned-from : (by f back : ℕ → ℕ) (old new : Code) → IsRotated by f back old new
    → ((crossing : ℕ) → (by crossing ≡ 1) ⊎ (by crossing ≡ 3)) → plus_count new.crossings ≡ minus_count old.crossings
    → IsTurned f back old new
turned-from by f back old new rotated ways signs = record {
  size = rotated.size;
  loops = rotated.loops;
  names = rotated.names;
  turned = λ crossing is. (by crossing, ways crossing, λ slot below. rotated.arcs crossing slot is below);
  signs = signs;
}

pub IsRotated-through : (by f back other g home : ℕ → ℕ) (old middle new : Code) → IsRotated by f back old middle
    → IsRotated other g home middle new
    → IsRotated (λ crossing. (by crossing + other crossing) % 4) (λ x. g (f x)) (λ x. back (home x)) old new
IsRotated-through by f back other g home old middle new first second = grind (arith, nat_tests)

-- from one code that is another turned by one slot to a second one that is turned by two
between : (by f back g home : ℕ → ℕ) (old middle new : Code) → IsTrue (accepted old) → IsRotated by f back old middle
    → ((crossing : ℕ) → (by crossing ≡ 1) ⊎ (by crossing ≡ 3)) → IsRotated (λ crossing. 2) g home old new
    → plus_count new.crossings ≡ minus_count middle.crossings → IsTurned (λ x. g (back x)) (λ x. f (home x)) middle new
between by f back g home old middle new is first ways second =
    turned-from (λ crossing. (opposite by crossing + 2) % 4) (λ x. g (back x)) (λ x. f (home x)) middle new
    (IsRotated-through (opposite by) back f (λ crossing. 2) g home middle old new
    (IsRotated-back by f back old middle (HasArcsTwice-accepted old is) first) second) (λ crossing. other (by crossing) (ways crossing))
  where
    other : (b : ℕ) → (b ≡ 1) ⊎ (b ≡ 3) → (((4 - b) % 4 + 2) % 4 ≡ 1) ⊎ (((4 - b) % 4 + 2) % 4 ≡ 3)
    other b (inl one) = inl (omega (arith, one))
    other b (inr three) = inr (omega (arith, three))

-- the numbers that do not pass a test are the others
count_by-not : (p : ℕ → Bool) (a n : ℕ) → count_by (λ k. not (p k)) (range_with_len a n) + count_by p (range_with_len a n) ≡ n
count_by-not p a zero = refl
count_by-not p a (suc n) =
    omega (
      arith,
      sum_by-cons (λ k. cond (not (p k)) 1 0) a (range_with_len (a + 1) n),
      sum_by-cons (λ k. cond (p k) 1 0) a (range_with_len (a + 1) n),
      one (p a),
      count_by-not p (a + 1) n,
    )
  where
    one : (b : Bool) → cond (not b) 1 0 + cond b 1 0 ≡ 1
    one b = grind (arith, nat_tests)

module _ (code : Code) (holds : IsTrue (accepted code)) where
  abbrev pub mirror_by : ℕ → ℕ
  mirror_by crossing = mirror_turn (is_positive code.crossings crossing)

  abbrev pub mirror_number : ℕ → ℕ
  mirror_number = number mirror_by code holds (mirror_parts code) (IsTurnOf-mirror code holds)

  abbrev pub mirror_name : ℕ → ℕ
  mirror_name = name mirror_by code holds (mirror_parts code) (IsTurnOf-mirror code holds)

  abbrev pub reversal_number : ℕ → ℕ
  reversal_number = number (λ crossing. 2) code holds (reversal_parts code) (IsTurnOf-reversal code holds)

  abbrev pub reversal_name : ℕ → ℕ
  reversal_name = name (λ crossing. 2) code holds (reversal_parts code) (IsTurnOf-reversal code holds)

  pub mirror-accepted : IsTrue (accepted (mirror_of code))
  mirror-accepted = accepted-turn mirror_by code holds (mirror_parts code) (IsTurnOf-mirror code holds)

  pub mirror-rotated : IsRotated mirror_by mirror_number mirror_name code (mirror_of code)
  mirror-rotated = IsRotated-turn mirror_by code holds (mirror_parts code) (IsTurnOf-mirror code holds)

  pub reversal-accepted : IsTrue (accepted (reversal_of code))
  reversal-accepted = accepted-turn (λ crossing. 2) code holds (reversal_parts code) (IsTurnOf-reversal code holds)

  pub reversal-rotated : IsRotated (λ crossing. 2) reversal_number reversal_name code (reversal_of code)
  reversal-rotated = IsRotated-turn (λ crossing. 2) code holds (reversal_parts code) (IsTurnOf-reversal code holds)

  -- signs
  pub mirror-signs : (crossing : ℕ) → IsCrossing code.crossings crossing
      → is_positive (mirror_of code).crossings crossing ≡ not (is_positive code.crossings crossing)
  mirror-signs crossing is =
      sign-turn mirror_by code holds (mirror_parts code) (IsTurnOf-mirror code holds) crossing is
      ∙ mirror-sign code (crossing - 1) (omega (arith, is.positive, is.within))
      ∙ ap (λ c. not (is_positive code.crossings c)) (let e : crossing - 1 + 1 ≡ crossing = omega (arith, is.positive) in e)

  pub reversal-signs : (crossing : ℕ) → IsCrossing code.crossings crossing
      → is_positive (reversal_of code).crossings crossing ≡ is_positive code.crossings crossing
  reversal-signs crossing is =
      sign-turn (λ crossing. 2) code holds (reversal_parts code) (IsTurnOf-reversal code holds) crossing is
      ∙ own-sign code (crossing - 1) (omega (arith, is.positive, is.within))
      ∙ ap (is_positive code.crossings) (let e : crossing - 1 + 1 ≡ crossing = omega (arith, is.positive) in e)

  here : (k : ℕ) → 1 ≤ k → k < 1 + length code.crossings → IsCrossing code.crossings k
  here k from below = record { positive = from; within = omega (arith, below) }

  pub mirror-plus : plus_count (mirror_of code).crossings ≡ minus_count code.crossings
  mirror-plus =
      let n = length code.crossings in
      let counted : plus_count (mirror_of code).crossings
      ≡ count_by (λ c. not (is_positive code.crossings c)) (range_with_len 1 (length code.crossings)) =
      ap (λ m. count_by (is_positive (mirror_of code).crossings) (range_with_len 1 m)) mirror-rotated.size
      ∙ count_by-alike (is_positive (mirror_of code).crossings) (λ c. not (is_positive code.crossings c)) 1 n
      (λ k from below. mirror-signs k (here k from below)) in
      omega (arith, counted, count_by-not (is_positive code.crossings) 1 n)

  pub reversal-plus : plus_count (reversal_of code).crossings ≡ plus_count code.crossings
  reversal-plus = grind (arith, nat_tests, reversal-rotated, count_by-alike, reversal-signs, here)

  -- the mirror is dual to the code, and the reversal to the mirror
  mirror-ways : (crossing : ℕ) → (mirror_by crossing ≡ 1) ⊎ (mirror_by crossing ≡ 3)
  mirror-ways crossing = grind (arith, nat_tests)

  pub mirror-dual : AreDual mirror_number mirror_name code (mirror_of code)
  mirror-dual = record {
    old_is = holds;
    new_is = mirror-accepted;
    turned = turned-from mirror_by mirror_number mirror_name code (mirror_of code) mirror-rotated mirror-ways mirror-plus;
  }

  pub reversal-dual : AreDual (λ x. reversal_number (mirror_name x)) (λ x. mirror_number (reversal_name x)) (mirror_of code) (reversal_of code)
  reversal-dual = record {
    old_is = mirror-accepted;
    new_is = reversal-accepted;
    turned = between mirror_by mirror_number mirror_name reversal_number reversal_name code (mirror_of code) (reversal_of code) holds
        mirror-rotated mirror-ways reversal-rotated
        (reversal-plus ∙ sym (minus-turned mirror_number mirror_name code (mirror_of code) mirror-dual.turned));
  }

  pub mirror-dimension : (p : ℕ) (i j : ℤ) → HasInverses p → dimension p (mirror_of code) (neg_ℤ i) (neg_ℤ j) ≡ dimension p code i j
  mirror-dimension p i j inverses = dimension-dual p mirror_number mirror_name code (mirror_of code) i j inverses mirror-dual

  pub mirror-sum : (e : ℤ) → state_sum (mirror_of code) (neg_ℤ e) ≡ state_sum code e
  mirror-sum e = sums-dual mirror_number mirror_name code (mirror_of code) e mirror-dual

  back-again : (i : ℤ) → neg_ℤ (neg_ℤ i) ≡ i
  back-again i = omega (arith, ints)

  pub reversal-dimension : (p : ℕ) (i j : ℤ) → HasInverses p → dimension p (reversal_of code) i j ≡ dimension p code i j
  reversal-dimension p i j inverses =
      ap₂ (dimension p (reversal_of code)) (sym (back-again i)) (sym (back-again j))
      ∙ dimension-dual p (λ x. reversal_number (mirror_name x)) (λ x. mirror_number (reversal_name x)) (mirror_of code) (reversal_of code)
      (neg_ℤ i) (neg_ℤ j) inverses reversal-dual
      ∙ mirror-dimension p i j inverses

  pub reversal-sum : (e : ℤ) → state_sum (reversal_of code) e ≡ state_sum code e
  reversal-sum e =
      ap (state_sum (reversal_of code)) (sym (back-again e))
      ∙ sums-dual (λ x. reversal_number (mirror_name x)) (λ x. mirror_number (reversal_name x)) (mirror_of code) (reversal_of code) (neg_ℤ e)
      reversal-dual
      ∙ mirror-sum e

  pub mirror-circles : (s : ℕ) → s < 2 ^ length code.crossings
      → circle_count (mirror_of code) (flipped (length code.crossings) s) ≡ circle_count code s
  mirror-circles s below = circles-dual mirror_number mirror_name code (mirror_of code) s mirror-dual below

  pub reversal-circles : (s : ℕ) → s < 2 ^ length code.crossings → circle_count (reversal_of code) s ≡ circle_count code s
  reversal-circles s below =
      let n = length code.crossings in
      let t = flipped n s in
      let again : flipped (length (mirror_of code).crossings) t ≡ s = ap (λ m. flipped m t) mirror-rotated.size ∙ flipped-twice n s below in
      ap (circle_count (reversal_of code)) (sym again)
      ∙ circles-dual (λ x. reversal_number (mirror_name x)) (λ x. mirror_number (reversal_name x)) (mirror_of code) (reversal_of code) t
      reversal-dual (subst (λ (m : ℕ). t < 2 ^ m) (sym mirror-rotated.size) (flipped-below n s))
      ∙ mirror-circles s below
