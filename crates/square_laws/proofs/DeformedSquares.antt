-- The deformed differential squares to zero.
use Rattle.std.proofs.lemmas.Bool.Decides.{nat_tests}
use Rattle.std.proofs.Common.{◌≡◌, ◌≢◌, ℕ, ◌+◌, ◌*◌, ◌%◌, ◌^◌, ◌<◌, ◌∙◌, inl, inr, length, refl, sym, ap, arith, IsTrue}
use Rattle.std.specs.List.{sum_by, range_with_len}
use Rattle.std.proofs.lemmas.Bool.{cases_lt}
use Rattle.std.proofs.Math.Nat.{mod-mod, zero-mod}
use Rattle.kh_types.specs.Acceptance.{accepted}
use Rattle.kh_types.specs.Code.{Code, IsCrossing, place_of}
use Rattle.kh_types.specs.Circles.{circle_count}
use Rattle.kh_types.specs.Differential.{edge_sign}
use Rattle.kh_types.specs.Edges.{state_behind}
use Rattle.kh_types.specs.Generators.{Generator, generator_of, generators}
use Rattle.kh_types.specs.Residues.{Same}
use Rattle.kh_types.proofs.EdgeBits.{bit-set_other, set-within}
use Rattle.kh_types.proofs.ListSums.{sum_by-times}
use Rattle.kh_types.proofs.Residues.{same-add, same-equal, same-mul, same-scaled}
use Rattle.square_laws.proofs.SquareKinds.{edges-square}
use Rattle.square_laws.proofs.Pairs.{AreCorners, IsStep, corners-turned, corners_or_not, zeros-mod}
use Rattle.square_laws.proofs.Products.{pairs_to-mod}
use Rattle.square_laws.proofs.Signs.{signs-opposite}
use Rattle.square_laws.specs.Deformed.{deformed_at, deformed_coefficient, label_number, opposite}
use Rattle.square_laws.proofs.DeformedPaths.{path-turned, path_number, sum_by-same}
use Rattle.square_laws.proofs.EdgeSums.{IsAlong, pair_sum, pair_sum-apart, pair_sum-behind, pair_sum-outside, pair_sum-same, product_sum-pairs}
use Rattle.square_laws.proofs.Numbers.{opposite-sum}

-- along an edge the coefficient is the sign times the number of the labels, and else it is 0
pub deformed_at-edge : (p h : ℕ) (code : Code) (tail head : Generator) (crossing : ℕ) → IsStep tail.state head.state crossing
    → deformed_at p h code tail head crossing
    ≡ edge_sign p tail.state crossing * label_number h (opposite p h) code tail head crossing % p
deformed_at-edge p h code tail head crossing step = grind (arith, nat_tests)

pub deformed_at-along : (p h : ℕ) (code : Code) → IsAlong (deformed_at p h code)
deformed_at-along p h code tail head crossing = grind (arith, nat_tests)

-- along two edges: the signs times the numbers of the labels between
pair_sum-corners : (p h : ℕ) (code : Code) (tail head : Generator) (a b : ℕ) → place_of a ≢ place_of b
    → state_behind tail.state a < 2 ^ length code.crossings → AreCorners tail.state head.state a b
    → Same p (pair_sum code (deformed_at p h code) tail head a b)
    (edge_sign p (state_behind tail.state a) b * edge_sign p tail.state a
    * path_number h (opposite p h) code tail head (state_behind tail.state a) a b)
pair_sum-corners p h code tail head a b differ within corners =
    let state = state_behind tail.state a in
    let k = opposite p h in
    let at = deformed_at p h code in
    let middle = generator_of state in
    let sign_b = edge_sign p state b in
    let sign_a = edge_sign p tail.state a in
    let behind = λ (number : ℕ). label_number h k code (middle number) head b in
    let before = λ (number : ℕ). label_number h k code tail (middle number) a in
    let numbers = range_with_len 0 (2 ^ circle_count code state) in
    let step : IsStep tail.state state a = record { zero_there = corners.zero_a; behind = refl } in
    let later : IsStep state head.state b = record {
      zero_there = bit-set_other tail.state (place_of a) corners.zero_a (place_of b) (λ same. differ (sym same)) ∙ corners.zero_b;
      behind = corners.behind;
    } in
    same-equal p (pair_sum code at tail head a b) (sum_by (λ number. at (middle number) head b * at tail (middle number) a) numbers)
    (pair_sum-behind code at (deformed_at-along p h code) tail head a b within)
    ∙ sum_by-same p (λ number. at (middle number) head b * at tail (middle number) a)
    (λ number. sign_b * sign_a * (behind number * before number))
    (λ number.
    same-mul p (at (middle number) head b) (sign_b * behind number) (at tail (middle number) a) (sign_a * before number)
    (reduced p (at (middle number) head b) (sign_b * behind number) (deformed_at-edge p h code (middle number) head b later))
    (reduced p (at tail (middle number) a) (sign_a * before number) (deformed_at-edge p h code tail (middle number) a step))
    ∙ same-equal p (sign_b * behind number * (sign_a * before number)) (sign_b * sign_a * (behind number * before number))
    (regrouped sign_b (behind number) sign_a (before number)))
    numbers
    ∙ same-equal p (sum_by (λ number. sign_b * sign_a * (behind number * before number)) numbers)
    (sign_b * sign_a * path_number h k code tail head state a b)
    (sum_by-times (λ number. behind number * before number) (sign_b * sign_a) numbers)
  where
    regrouped : (c d e f : ℕ) → c * d * (e * f) ≡ c * e * (d * f)
    regrouped c d e f = omega arith

    reduced : (p x y : ℕ) → x ≡ y % p → Same p x y
    reduced p x y is = ap (λ z. z % p) is ∙ mod-mod y p

-- the two ways have opposite signs and the same numbers
corners-cancel : (p h : ℕ) (code : Code) (tail head : Generator) (a b : ℕ) → 0 < p → IsTrue (accepted code)
    → IsCrossing code.crossings a → IsCrossing code.crossings b → a < b → tail.state < 2 ^ length code.crossings
    → AreCorners tail.state head.state a b
    → (pair_sum code (deformed_at p h code) tail head a b + pair_sum code (deformed_at p h code) tail head b a) % p ≡ 0
corners-cancel p h code tail head a b positive is is_a is_b order within corners =
    let s = tail.state in
    let k = opposite p h in
    let at = deformed_at p h code in
    let by_a = state_behind s a in
    let by_b = state_behind s b in
    let differ : place_of a ≢ place_of b = omega (arith, is_a.positive, order) in
    let a_within = set-within s (place_of a) (length code.crossings) (omega (arith, is_a.positive, is_a.within)) within corners.zero_a in
    let b_within = set-within s (place_of b) (length code.crossings) (omega (arith, is_b.positive, is_b.within)) within corners.zero_b in
    let along_ab = path_number h k code tail head by_a a b in
    let along_ba = path_number h k code tail head by_b b a in
    let turned = path-turned p h k code tail head a b (opposite-sum p h positive) is
    (edges-square code s a b is is_a is_b (omega arith) corners.zero_a corners.zero_b) corners.behind in
    let sign_ab = edge_sign p by_a b * edge_sign p s a in
    let sign_ba = edge_sign p by_b a * edge_sign p s b in
    same-add p (pair_sum code at tail head a b) (sign_ab * along_ab) (pair_sum code at tail head b a) (sign_ba * along_ab)
    (pair_sum-corners p h code tail head a b differ a_within corners)
    (pair_sum-corners p h code tail head b a (λ same. differ (sym same)) b_within (corners-turned s head.state a b corners)
    ∙ sym (same-scaled p sign_ba along_ab along_ba turned))
    ∙ same-equal p (sign_ab * along_ab + sign_ba * along_ab) (along_ab * (sign_ab + sign_ba)) (factored sign_ab sign_ba along_ab)
    ∙ same-scaled p along_ab (sign_ab + sign_ba) 0
    (signs-opposite p s a b positive is_a.positive order corners.zero_a corners.zero_b ∙ sym (zero-mod p))
    ∙ same-equal p (along_ab * 0) 0 (omega arith) ∙ zero-mod p
  where
    factored : (x y n : ℕ) → x * n + y * n ≡ n * (x + y)
    factored x y n = omega arith

-- so the sums along two crossings in the one order and in the other cancel
pairs-cancel : (p h : ℕ) (code : Code) (tail head : Generator) (a b : ℕ) → 0 < p → IsTrue (accepted code)
    → IsCrossing code.crossings a → IsCrossing code.crossings b → a < b
    → (pair_sum code (deformed_at p h code) tail head a b + pair_sum code (deformed_at p h code) tail head b a) % p ≡ 0
pairs-cancel p h code tail head a b positive is is_a is_b order =
    let at = deformed_at p h code in
    let along = deformed_at-along p h code in
    let differ : place_of a ≢ place_of b = omega (arith, is_a.positive, order) in
    elim (cases_lt tail.state (2 ^ length code.crossings)) [
      | inr outside ↦
          zeros-mod p (pair_sum code at tail head a b) (pair_sum code at tail head b a)
          (pair_sum-outside code at along tail head a b outside) (pair_sum-outside code at along tail head b a outside)
      | inl within ↦ elim (corners_or_not tail.state head.state a b) [
        | inl corners ↦ corners-cancel p h code tail head a b positive is is_a is_b order within corners
        | inr apart ↦
            zeros-mod p (pair_sum code at tail head a b) (pair_sum code at tail head b a)
            (pair_sum-apart code at along tail head a b differ apart)
            (pair_sum-apart code at along tail head b a (λ same. differ (sym same))
            (λ corners. apart (corners-turned tail.state head.state b a corners)))
      ]
    ]

pub deformed-square : (p h : ℕ) (code : Code) (tail head : Generator) → 0 < p → IsTrue (accepted code)
    → sum_by (λ middle. deformed_coefficient p h code middle head * deformed_coefficient p h code tail middle) (generators code) % p ≡ 0
deformed-square p h code tail head positive is =
    let at = deformed_at p h code in
    ap (λ s. s % p) (product_sum-pairs code at tail head)
    ∙ pairs_to-mod p (pair_sum code at tail head) (length code.crossings)
    (λ a b from order most.
    pairs-cancel p h code tail head a b positive is (record { positive = from; within = omega arith })
    (record { positive = omega arith; within = most }) order)
    (pair_sum-same code at (deformed_at-along p h code) tail head)
