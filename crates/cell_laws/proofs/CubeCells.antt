-- The cube of a code as cells: which they are, that a coefficient goes along a step, and that they are a complex.
use Rattle.std.proofs.lemmas.Bool.Decides.{nat_tests}
use Rattle.std.proofs.Common.{◌≡◌, ◌≢◌, ℕ, ◌+◌, ◌-◌, ◌*◌, ◌%◌, ◌^◌, ◌<◌, ◌∙◌, length, sym, subst, ap, arith, cond, IsTrue}
use Rattle.std.specs.List.{Contains, range_with_len}
use Rattle.std.proofs.Math.Nat.{zero-mod}
use Rattle.std.proofs.lemmas.Int.{ints}
use Rattle.kh_types.specs.Acceptance.{accepted}
use Rattle.kh_types.specs.Bits.{bit, ones}
use Rattle.kh_types.specs.Circles.{circle_count}
use Rattle.kh_types.specs.Code.{Code}
use Rattle.kh_types.specs.Differential.{coefficient}
use Rattle.kh_types.specs.Generators.{Generator, generator_of, generators, generators_of, states}
use Rattle.kh_types.proofs.Lists.{Contains-flat_map, Contains-map, Contains-range, range-contains}
use Rattle.kh_types.proofs.ListSums.{sum_by-alike, sum_by-some}
use Rattle.square_laws.proofs.Degrees.{coefficient-below, coefficient-next}
use Rattle.square_laws.proofs.Pairs.{coefficient-one, edge_or_zero}
use Rattle.square_laws.proofs.PlainSquares.{product_sum-zero}
use Rattle.square_laws.proofs.Signs.{power_sign}
use Rattle.square_laws.proofs.TouchedCircles.{fits}
use Rattle.cell_laws.specs.Cells.{AreComplex}
use Rattle.cell_laws.specs.Cubes.{cube_of}
use Rattle.cell_laws.proofs.Members.{Contains-flattened, Contains-made}

-- a generator is of a state, with a label
pub record IsMember (code : Code) (x : Generator) : Type 0 where
  pub state : x.state < 2 ^ length code.crossings
  pub label : x.label < 2 ^ circle_count code x.state

pub member-from : (code : Code) (x : Generator) → Contains (generators code) x → IsMember code x
member-from code x has =
    let by_state = Contains-flattened (generators_of code) (states code) x has in
    let by_label = Contains-made (generator_of by_state.0) (range_with_len 0 (2 ^ circle_count code by_state.0)) x by_state.2 in
    subst (λ (y : Generator). IsMember code y) by_label.2
    (record {
      state = range-contains (2 ^ length code.crossings) by_state.0 by_state.1;
      label = range-contains (2 ^ circle_count code by_state.0) by_label.0 by_label.1;
    })

pub member-of : (code : Code) (x : Generator) → IsMember code x → Contains (generators code) x
member-of code x is =
    Contains-flat_map (generators_of code) (states code) x.state x (Contains-range (2 ^ length code.crossings) x.state is.state)
    (Contains-map (generator_of x.state) (range_with_len 0 (2 ^ circle_count code x.state)) x.label
    (Contains-range (2 ^ circle_count code x.state) x.label is.label))

-- steps, by their places
pub record IsStepAt (code : Code) (s t place : ℕ) : Type 0 where
  pub within : place < length code.crossings
  pub zero_there : bit s place ≡ 0
  pub behind : t ≡ s + 2 ^ place

-- a coefficient other than 0 goes along a step
pub step-of : (p : ℕ) (code : Code) (tail head : Generator) → coefficient p code tail head ≢ 0
    → (place : ℕ) × IsStepAt code tail.state head.state place
step-of p code tail head some = grind (arith, nat_tests, sum_by-some, edge_or_zero)

pub coefficient-along : (p : ℕ) (code : Code) (tail head : Generator) (place : ℕ) → IsStepAt code tail.state head.state place
    → coefficient p code tail head ≡ cond (fits code tail head (place + 1)) (power_sign p (ones place tail.state)) 0
coefficient-along p code tail head place step =
    let e : place ≡ place + 1 - 1 = omega arith in
    coefficient-one p code tail head (place + 1) (record { positive = omega arith; within = omega (arith, step.within) })
    (record {
      zero_there = ap (bit tail.state) (sym e) ∙ step.zero_there;
      behind = step.behind ∙ ap (λ m. tail.state + 2 ^ m) e;
    })
    ∙ ap (λ m. cond (fits code tail head (place + 1)) (power_sign p (ones m tail.state)) 0) (sym e)

-- the cube of an accepted code is a complex
pub AreComplex-cube : (p : ℕ) (code : Code) (plus minus : ℕ) → 1 < p → IsTrue (accepted code) → AreComplex p (cube_of p code plus minus)
AreComplex-cube p code plus minus above is =
    record {
      below = λ x y. coefficient-below p code x y above;
      homological = λ x y has_x has_y some. omega (arith, ints, (coefficient-next p code x y is some).homological);
      quantum = λ x y has_x has_y some. omega (arith, ints, (coefficient-next p code x y is some).quantum);
      squares = λ x z has_x has_z.
          ap (λ n. n % p)
          (sum_by-alike (λ y. coefficient p code x y * coefficient p code y z) (λ y. coefficient p code y z * coefficient p code x y)
          (λ y. commuted (coefficient p code x y) (coefficient p code y z)) (generators code))
          ∙ product_sum-zero p code x z (omega (arith, above)) is ∙ sym (zero-mod p);
    }
  where
    commuted : (a b : ℕ) → a * b ≡ b * a
    commuted a b = omega arith
