-- Steps along a crossing, of which one alone adds to a coefficient, and the corners of squares.
--
-- The product of the differential with itself is a sum over middle generators and over pairs of crossings (EdgeSums). Two states differ by
-- one crossing only at an edge, so at most two crossings add to an entry, a before b and b before a.
use Rattle.std.proofs.lemmas.Bool.Decides.{nat_tests}
use Rattle.std.proofs.Common.{◌≡◌, ◌≢◌, ℕ, ◌+◌, ◌*◌, ◌%◌, ◌≤◌, ◌∙◌, ◌⊎◌, inl, inr, length, sym, ap, ap₂, arith, cond, ◌&&◌}
use Rattle.std.specs.Bool.{Decides}
use Rattle.std.proofs.lemmas.Bool.{cases_lt}
use Rattle.std.proofs.Math.Nat.{zero-mod}
use Rattle.kh_types.specs.Bits.{bit, one_if}
use Rattle.kh_types.specs.Code.{Code, IsCrossing, place_of}
use Rattle.kh_types.specs.Differential.{coefficient, coefficient_at, edge_sign, is_edge}
use Rattle.kh_types.specs.Generators.{Generator}
use Rattle.kh_types.specs.Edges.{state_behind}
use Rattle.kh_types.proofs.EdgeBits.{bit-set_other}
use Rattle.kh_types.proofs.ListSums.{sum_by-single}
use Rattle.square_laws.proofs.TouchedCircles.{fits}
use Rattle.std.proofs.Math.Pow.{pow-lt}

-- a state is behind another at a crossing
pub record IsStep (tail head crossing : ℕ) : Type 0 where
  pub zero_there : bit tail (place_of crossing) ≡ 0
  pub behind : head ≡ state_behind tail crossing

pub is_edge-decides : (tail head : Generator) (crossing : ℕ) → Decides (is_edge tail head crossing) (IsStep tail.state head.state crossing)
is_edge-decides tail head crossing = grind (arith, nat_tests)

-- a coefficient along a crossing is the sign where there is an edge and the labels fit, and else 0
pub coefficient_at-edge : (p : ℕ) (code : Code) (tail head : Generator) (crossing : ℕ) → IsStep tail.state head.state crossing
    → coefficient_at p code tail head crossing ≡ edge_sign p tail.state crossing * one_if (fits code tail head crossing)
coefficient_at-edge p code tail head crossing step = grind (arith, nat_tests)

pub edge_or_zero : (p : ℕ) (code : Code) (tail head : Generator) (crossing : ℕ)
    → IsStep tail.state head.state crossing ⊎ (coefficient_at p code tail head crossing ≡ 0)
edge_or_zero p code tail head crossing = grind (arith, nat_tests)

-- two crossings lead to two states, so that one alone adds to a coefficient

one-crossing : (state first second : ℕ) → 1 ≤ first → 1 ≤ second → first ≢ second
    → state_behind state first ≢ state_behind state second
one-crossing state first second from second_from other = grind (arith, nat_tests, cases_lt, pow-lt)

pub coefficient-one : (p : ℕ) (code : Code) (tail head : Generator) (crossing : ℕ) → IsCrossing code.crossings crossing
    → IsStep tail.state head.state crossing
    → coefficient p code tail head ≡ cond (fits code tail head crossing) (edge_sign p tail.state crossing) 0
coefficient-one p code tail head crossing is_crossing step =
    sum_by-single (coefficient_at p code tail head) 1 (length code.crossings) crossing is_crossing.positive
    (omega (arith, is_crossing.within))
    (λ other from below differs. elim (edge_or_zero p code tail head other) [
      | inl too ↦ absurd (one-crossing tail.state other crossing from is_crossing.positive differs (sym too.behind ∙ step.behind))
      | inr none ↦ none
    ])
    ∙ ap (λ b. cond (b && fits code tail head crossing) (edge_sign p tail.state crossing) 0) ((is_edge-decides tail head crossing).1 step)

-- two states at opposite corners of a square
pub record AreCorners (tail head a b : ℕ) : Type 0 where
  pub zero_a : bit tail (place_of a) ≡ 0
  pub zero_b : bit tail (place_of b) ≡ 0
  pub behind : head ≡ state_behind (state_behind tail a) b

pub corners_or_not : (tail head a b : ℕ) → AreCorners tail head a b ⊎ (AreCorners tail head a b → ⊥)
corners_or_not tail head a b = grind (arith, nat_tests)

pub corners-turned : (tail head a b : ℕ) → AreCorners tail head a b → AreCorners tail head b a
corners-turned tail head a b corners = omega arith

-- two steps lead from corner to corner, along two crossings
pub corners-steps : (tail middle head a b : ℕ) → place_of a ≢ place_of b → IsStep tail middle a → IsStep middle head b
    → AreCorners tail head a b
corners-steps tail middle head a b differ step later = grind (arith, nat_tests, bit-set_other)

pub zeros-mod : (p x y : ℕ) → x ≡ 0 → y ≡ 0 → (x + y) % p ≡ 0
zeros-mod p x y is_x is_y = ap₂ (λ u v. (u + v) % p) is_x is_y ∙ zero-mod p
