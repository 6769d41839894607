-- The degrees of the mirror's generators are those of the diagram's with the signs exchanged, and as many have them.
--
-- The mirror has the plus crossings as minus crossings, the zeros of a state as ones, and v- for v+. Put into the two degrees, all this
-- changes their signs. As the star is one to one, as many generators have two degrees as stars have the opposite ones.
use Rattle.std.proofs.lemmas.Bool.Decides.{nat_tests}
use Rattle.std.proofs.Common.{IsTrue, ap, arith, cond, length, pos, refl, suc, sym, zero, ℕ, ℤ, ◌*◌, ◌+ℤ◌, ◌+◌, ◌-ℤ◌, ◌-◌, ◌<◌, ◌^◌, ◌∙◌, ◌≡◌, ◌≤◌}
use Rattle.std.proofs.lemmas.Bool.Decides.{Decides-like, same_from_decides}
use Rattle.std.proofs.lemmas.Int.{ints}
use Rattle.std.proofs.lemmas.List.Sums.{sum_by-cons}
use Rattle.std.specs.Bool.{Decides}
use Rattle.std.specs.List.{range_with_len, sum_by}
use Rattle.std.specs.Prelude.{neg_ℤ}
use Rattle.kh_types.proofs.ListSums.{sum_by-range_alike, shifted}
use Rattle.kh_types.proofs.QuantumDegrees.{plus_count-le}
use Rattle.kh_types.proofs.Ranges.{sum_by-range_more}
use Rattle.kh_types.specs.Acceptance.{accepted}
use Rattle.kh_types.specs.Bits.{ones}
use Rattle.kh_types.specs.Circles.{circle_count}
use Rattle.kh_types.specs.Code.{Code}
use Rattle.kh_types.specs.Directions.{minus_count, plus_count}
use Rattle.kh_types.specs.Generators.{Generator, generator_of, generators_at, has_degrees, homological_degree, one_count, quantum_degree}
use Rattle.link_algebra.proofs.Flips.{flipped, ones-flipped}
use Rattle.link_algebra.proofs.MovedLabels.{count-moved}
use Rattle.link_algebra.proofs.Renamings.{IsTurned}
use Rattle.link_algebra.proofs.GeneratorLists.{IsGenerator, label_count, length-generators_at}
use Rattle.link_algebra.proofs.Stars.{IsStar}
use Rattle.link_algebra.proofs.TurnedCircles.{Corresponds-turned}

-- what the degrees of a generator of the mirror depend on
pub record IsOpposite (old new : Code) (x y : Generator) : Type 0 where
  pub one_counts : one_count new y.state + one_count old x.state ≡ length old.crossings
  pub circles : circle_count new y.state ≡ circle_count old x.state
  pub minuses : ones (circle_count new y.state) y.label
      + ones (circle_count old x.state) x.label
      ≡ circle_count old x.state

pub minus-turned : (f back : ℕ → ℕ) (old new : Code) → IsTurned f back old new → minus_count new.crossings ≡ plus_count old.crossings
minus-turned f back old new turned = grind (arith, nat_tests, plus_count-le)

homological-opposite : (n r s plus minus other : ℕ) → s + r ≡ n → minus ≡ n - plus → plus ≤ n → other ≡ plus
    → pos s -ℤ pos other ≡ neg_ℤ (pos r -ℤ pos minus)
homological-opposite n r s plus minus other sum rest few same = omega (arith, ints, sum, rest, few, same)

quantum-opposite : (n r s plus minus other_plus other_minus c d o q : ℕ) → s + r ≡ n → minus ≡ n - plus → plus ≤ n
    → other_plus ≡ minus → other_minus ≡ plus → d ≡ c → q + o ≡ c
    → pos d -ℤ pos (2 * q) +ℤ (pos (s + other_plus) -ℤ pos (2 * other_minus))
    ≡ neg_ℤ (pos c -ℤ pos (2 * o) +ℤ (pos (r + plus) -ℤ pos (2 * minus)))
quantum-opposite n r s plus minus other_plus other_minus c d o q sum rest few same same_too circles labels =
    omega (arith, ints, sum, rest, few, same, same_too, circles, labels)

pub degrees-opposite : (f back : ℕ → ℕ) (old new : Code) (x y : Generator) → IsTurned f back old new → IsOpposite old new x y
    → (homological_degree new y ≡ neg_ℤ (homological_degree old x)) × (quantum_degree new y ≡ neg_ℤ (quantum_degree old x))
degrees-opposite f back old new x y turned is = (
  homological-opposite (length old.crossings) (one_count old x.state) (one_count new y.state) (plus_count old.crossings)
      (minus_count old.crossings) (minus_count new.crossings) is.one_counts refl (plus_count-le old.crossings)
      (minus-turned f back old new turned),
  quantum-opposite (length old.crossings) (one_count old x.state) (one_count new y.state) (plus_count old.crossings)
      (minus_count old.crossings) (plus_count new.crossings) (minus_count new.crossings) (circle_count old x.state)
      (circle_count new y.state) (ones (circle_count old x.state) x.label) (ones (circle_count new y.state) y.label) is.one_counts refl
      (plus_count-le old.crossings) turned.signs (minus-turned f back old new turned) is.circles is.minuses,
)

-- so the tests of degrees agree
has_degrees-decides : (code : Code) (i j : ℤ) (x : Generator)
    → Decides (has_degrees code i j x) ((homological_degree code x ≡ i) × (quantum_degree code x ≡ j))
has_degrees-decides code i j x = grind (arith, nat_tests)

pub has_degrees-opposite : (f back : ℕ → ℕ) (old new : Code) (i j k l : ℤ) (x y : Generator) → IsTurned f back old new
    → IsOpposite old new x y → k ≡ neg_ℤ i → l ≡ neg_ℤ j → has_degrees new k l y ≡ has_degrees old i j x
has_degrees-opposite f back old new i j k l x y turned is is_k is_l =
    let degrees = degrees-opposite f back old new x y turned is in
    same_from_decides (has_degrees new k l y) (has_degrees old i j x) (has_degrees-decides new k l y)
    (Decides-like (has_degrees old i j x)
    (λ both. (degrees.0 ∙ ap neg_ℤ both.0 ∙ sym is_k, degrees.1 ∙ ap neg_ℤ both.1 ∙ sym is_l))
    (λ both. (
      turned_back (homological_degree old x) i k (homological_degree new y) degrees.0 is_k both.0,
      turned_back (quantum_degree old x) j l (quantum_degree new y) degrees.1 is_l both.1,
    ))
    (has_degrees-decides old i j x))
  where
    turned_back : (a i k b : ℤ) → b ≡ neg_ℤ a → k ≡ neg_ℤ i → b ≡ k → a ≡ i
    turned_back a i k b first second third = omega (arith, ints, first, second, third)

-- of the star
ones-state : (f back : ℕ → ℕ) (old new : Code) (s t : ℕ) → IsTurned f back old new → s < 2 ^ length old.crossings
    → t ≡ flipped (length old.crossings) s → one_count new t + one_count old s ≡ length old.crossings
ones-state f back old new s t turned below is = grind (arith, nat_tests, ones-flipped)

pub IsOpposite-star : (f back : ℕ → ℕ) (old new : Code) (x star : Generator) → IsTurned f back old new → IsGenerator old x
    → IsStar f old new x star → IsOpposite old new x star
IsOpposite-star f back old new x star turned gen is =
    record {
      one_counts = ones-state f back old new x.state star.state turned gen.state is.state;
      circles = is.circles;
      minuses = is.minuses;
    }

pub sum_by-flipped : (f : ℕ → ℕ) (n : ℕ) → sum_by f (range_with_len 0 n) ≡ sum_by (λ k. f (n - 1 - k)) (range_with_len 0 n)
sum_by-flipped f zero = refl
sum_by-flipped f (suc n) =
    let e : suc n ≡ n + 1 = omega arith in
    let last : n ≡ suc n - 1 - 0 = omega arith in
    ap (λ m. sum_by f (range_with_len 0 m)) e ∙ sum_by-range_more f 0 n n (omega arith)
    ∙ ap (λ x. x + f n) (sum_by-flipped f n
    ∙ sum_by-range_alike (λ k. f (n - 1 - k)) (λ k. f (suc n - 1 - suc k)) 0 n
    (λ k from below. ap f (let same : n - 1 - k ≡ suc n - 1 - suc k = omega arith in same))
    ∙ sym (shifted (λ k. f (suc n - 1 - k)) 0 n))
    ∙ exchanged (sum_by (λ k. f (suc n - 1 - k)) (range_with_len 1 n)) (f n)
    ∙ ap (λ x. x + sum_by (λ k. f (suc n - 1 - k)) (range_with_len 1 n)) (ap f last)
    ∙ sym (sum_by-cons (λ k. f (suc n - 1 - k)) 0 (range_with_len 1 n))
  where
    exchanged : (a b : ℕ) → a + b ≡ b + a
    exchanged a b = omega arith

-- how many generators have two degrees
state-opposite : (f back : ℕ → ℕ) (old new : Code) (i j k l : ℤ) (s : ℕ) → IsTrue (accepted old) → IsTrue (accepted new)
    → IsTurned f back old new → k ≡ neg_ℤ i → l ≡ neg_ℤ j → s < 2 ^ length old.crossings
    → label_count new k l (flipped (length old.crossings) s) ≡ label_count old i j s
state-opposite f back old new i j k l s old_is new_is turned is_k is_l below =
    let n = length old.crossings in
    let t = flipped n s in
    let c = circle_count old s in
    let circles : circle_count new t ≡ c =
    count-moved f back old new s t old_is new_is (Corresponds-turned f back old new s old_is new_is turned below) in
    let passes : ℕ → ℕ = λ label. cond (has_degrees new k l (generator_of t label)) 1 0 in
    ap (λ m. sum_by passes (range_with_len 0 (2 ^ m))) circles
    ∙ sum_by-flipped passes (2 ^ c)
    ∙ sum_by-range_alike (λ label. passes (flipped c label)) (λ label. cond (has_degrees old i j (generator_of s label)) 1 0) 0 (2 ^ c)
    (λ label from within.
    ap (λ b. cond b 1 0) (has_degrees-opposite f back old new i j k l (generator_of s label) (generator_of t (flipped c label)) turned
    (record {
      one_counts = ones-state f back old new s t turned below refl;
      circles = circles;
      minuses = ap (λ m. ones m (flipped c label) + ones c label) circles
          ∙ ones-flipped c label c (omega (arith, within)) (omega arith);
    }) is_k is_l))

pub length-opposite : (f back : ℕ → ℕ) (old new : Code) (i j k l : ℤ) → IsTrue (accepted old) → IsTrue (accepted new)
    → IsTurned f back old new → k ≡ neg_ℤ i → l ≡ neg_ℤ j → length (generators_at new k l) ≡ length (generators_at old i j)
length-opposite f back old new i j k l old_is new_is turned is_k is_l =
    let n = length old.crossings in
    length-generators_at new k l ∙ ap (λ m. sum_by (label_count new k l) (range_with_len 0 (2 ^ m))) turned.size
    ∙ sum_by-flipped (label_count new k l) (2 ^ n)
    ∙ sum_by-range_alike (λ s. label_count new k l (flipped n s)) (label_count old i j) 0 (2 ^ n)
    (λ s from within. state-opposite f back old new i j k l s old_is new_is turned is_k is_l (omega (arith, within)))
    ∙ sym (length-generators_at old i j)
