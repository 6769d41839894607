-- Sums over middle generators of products of what stands along edges, whatever this is: of the pairs of crossings only two count,
-- those that lead from corner to corner of a square, in either order.
use Rattle.std.proofs.Common.{◌≡◌, ◌≢◌, ℕ, ◌*◌, ◌^◌, ◌<◌, ◌≤◌, ◌∙◌, ◌⊎◌, inl, inr, length, ap, arith}
use Rattle.std.specs.List.{sum_by, range_with_len}
use Rattle.kh_types.specs.Bits.{bit}
use Rattle.kh_types.specs.Code.{Code, crossing_numbers, place_of}
use Rattle.kh_types.specs.Circles.{circle_count}
use Rattle.kh_types.specs.Edges.{state_behind}
use Rattle.kh_types.specs.Generators.{Generator, generator_of, generators, generators_of, states}
use Rattle.kh_types.proofs.EdgeBits.{bit-set_there}
use Rattle.kh_types.proofs.ListSums.{sum_by-alike, sum_by-flat_map, sum_by-map, sum_by-none, sum_by-single, sum_by-turned, sum_by-zeros}
use Rattle.square_laws.proofs.Pairs.{AreCorners, IsStep, corners-steps}
use Rattle.square_laws.proofs.Products.{pairs_to, product-sums}

-- what stands along the edge at a crossing, from one generator to another
abbrev pub Along : Type 0
Along = Generator → Generator → ℕ → ℕ

-- it is 0 where there is no such edge
abbrev pub IsAlong : Along → Type 0
IsAlong at = (tail head : Generator) (crossing : ℕ) → IsStep tail.state head.state crossing ⊎ (at tail head crossing ≡ 0)

-- the product along a, to a middle generator, and along b, from there
abbrev pub product_at : Along → Generator → Generator → ℕ → ℕ → Generator → ℕ
product_at at tail head a b middle = at middle head b * at tail middle a

-- summed over all generators
abbrev pub pair_sum : Code → Along → Generator → Generator → ℕ → ℕ → ℕ
pair_sum code at tail head a b = sum_by (product_at at tail head a b) (generators code)

steps_or_zero : (at : Along) → IsAlong at → (tail head middle : Generator) (a b : ℕ)
    → (IsStep tail.state middle.state a × IsStep middle.state head.state b) ⊎ (product_at at tail head a b middle ≡ 0)
steps_or_zero at along tail head middle a b = elim (along tail middle a) [
  | inr none ↦ inr (ap (λ x. at middle head b * x) none ∙ right_zero (at middle head b))
  | inl step ↦ elim (along middle head b) [
    | inr none ↦ inr (ap (λ x. x * at tail middle a) none ∙ left_zero (at tail middle a))
    | inl later ↦ inl (step, later)
  ]
]
  where
    right_zero : (x : ℕ) → x * 0 ≡ 0
    right_zero x = omega arith

    left_zero : (x : ℕ) → 0 * x ≡ 0
    left_zero x = omega arith

-- by states and labels
abbrev pub state_sum : Code → Along → Generator → Generator → ℕ → ℕ → ℕ → ℕ
state_sum code at tail head a b state =
    sum_by (λ number. product_at at tail head a b (generator_of state number)) (range_with_len 0 (2 ^ circle_count code state))

pair_sum-states : (code : Code) (at : Along) (tail head : Generator) (a b : ℕ)
    → pair_sum code at tail head a b ≡ sum_by (state_sum code at tail head a b) (states code)
pair_sum-states code at tail head a b =
    let term = product_at at tail head a b in
    sum_by-flat_map term (generators_of code) (states code)
    ∙ sum_by-alike (λ state. sum_by term (generators_of code state)) (state_sum code at tail head a b)
    (λ state. sum_by-map term (generator_of state) (range_with_len 0 (2 ^ circle_count code state))) (states code)

-- only the state behind a counts
state_sum-other : (code : Code) (at : Along) → IsAlong at → (tail head : Generator) (a b state : ℕ) → state ≢ state_behind tail.state a
    → state_sum code at tail head a b state ≡ 0
state_sum-other code at along tail head a b state other =
    sum_by-zeros (λ number. product_at at tail head a b (generator_of state number)) (range_with_len 0 (2 ^ circle_count code state))
    (λ number. elim (steps_or_zero at along tail head (generator_of state number) a b) [
      | inl steps ↦ absurd (other steps.0.behind)
      | inr none ↦ none
    ])

-- inside of the cube that is its sum, outside there is none
pub pair_sum-behind : (code : Code) (at : Along) → IsAlong at → (tail head : Generator) (a b : ℕ)
    → state_behind tail.state a < 2 ^ length code.crossings
    → pair_sum code at tail head a b ≡ state_sum code at tail head a b (state_behind tail.state a)
pair_sum-behind code at along tail head a b within =
    pair_sum-states code at tail head a b
    ∙ sum_by-single (state_sum code at tail head a b) 0 (2 ^ length code.crossings) (state_behind tail.state a) (omega arith) (omega arith)
    (λ other from below differs. state_sum-other code at along tail head a b other differs)

pub pair_sum-outside : (code : Code) (at : Along) → IsAlong at → (tail head : Generator) (a b : ℕ)
    → 2 ^ length code.crossings ≤ tail.state → pair_sum code at tail head a b ≡ 0
pair_sum-outside code at along tail head a b outside =
    pair_sum-states code at tail head a b
    ∙ sum_by-none (state_sum code at tail head a b) 0 (2 ^ length code.crossings)
    (λ state from below. state_sum-other code at along tail head a b state (λ same. absurd (omega (arith, same, below, outside))))

-- all is 0 where two generators are no corners of a square
pub pair_sum-apart : (code : Code) (at : Along) → IsAlong at → (tail head : Generator) (a b : ℕ) → place_of a ≢ place_of b
    → (AreCorners tail.state head.state a b → ⊥) → pair_sum code at tail head a b ≡ 0
pair_sum-apart code at along tail head a b differ apart =
    sum_by-zeros (product_at at tail head a b) (generators code)
    (λ middle. elim (steps_or_zero at along tail head middle a b) [
      | inl steps ↦ absurd (apart (corners-steps tail.state middle.state head.state a b differ steps.0 steps.1))
      | inr none ↦ none
    ])

-- one crossing is not switched twice
pub pair_sum-same : (code : Code) (at : Along) → IsAlong at → (tail head : Generator) (a : ℕ) → pair_sum code at tail head a a ≡ 0
pair_sum-same code at along tail head a =
    sum_by-zeros (product_at at tail head a a) (generators code)
    (λ middle. elim (steps_or_zero at along tail head middle a a) [
      | inl steps ↦
          absurd (omega (
            arith,
            steps.1.zero_there,
            ap (λ s. bit s (place_of a)) steps.0.behind,
            bit-set_there tail.state (place_of a) steps.0.zero_there,
          ))
      | inr none ↦ none
    ])

-- the coefficient of two generators: the sum over all crossings
abbrev pub total : Code → Along → Generator → Generator → ℕ
total code at tail head = sum_by (at tail head) (crossing_numbers code.crossings)

-- the sum of products over all middle generators is the sum over all pairs of crossings
pub product_sum-pairs : (code : Code) (at : Along) (tail head : Generator)
    → sum_by (λ middle. total code at middle head * total code at tail middle) (generators code)
    ≡ pairs_to (pair_sum code at tail head) (length code.crossings)
product_sum-pairs code at tail head =
    let ns = crossing_numbers code.crossings in
    let term = λ (middle : Generator) (a b : ℕ). product_at at tail head a b middle in
    sum_by-alike (λ middle. total code at middle head * total code at tail middle)
    (λ middle. sum_by (λ a. sum_by (term middle a) ns) ns)
    (λ middle. product-sums (at middle head) (at tail middle) ns ns)
    (generators code)
    ∙ sum_by-turned (λ middle a. sum_by (term middle a) ns) (generators code) ns
    ∙ sum_by-alike (λ a. sum_by (λ middle. sum_by (term middle a) ns) (generators code))
    (λ a. sum_by (λ b. pair_sum code at tail head a b) ns)
    (λ a. sum_by-turned (λ middle b. term middle a b) (generators code) ns) ns
