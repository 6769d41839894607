-- The generators of two degrees: which they are, and how many.
use Rattle.std.proofs.lemmas.Bool.Decides.{nat_tests}
use Rattle.std.proofs.Common.{◌≡◌, ◌≢◌, ℕ, zero, suc, ◌+◌, ◌^◌, ◌<◌, ℤ, List, length, get_or, arith, true, cond}
use Rattle.std.specs.List.{AllByRecursion, Contains, flat_map, range_with_len, sum_by}
use Rattle.std.proofs.lemmas.List.Elements.{All-filter, All-from_recursion, All-get_or, filter_passes}
use Rattle.std.proofs.lemmas.List.Sums.{length-filter}
use Rattle.kh_types.specs.Circles.{circle_count}
use Rattle.kh_types.specs.Code.{Code, IsCrossing}
use Rattle.kh_types.specs.Differential.{coefficient}
use Rattle.kh_types.specs.Generators.{Generator, generator_of, generators, generators_at, generators_of, has_degrees, states}
use Rattle.kh_types.proofs.Lists.{AllByRecursion-append, Contains-filter, Contains-flat_map, Contains-map, Contains-range}
use Rattle.kh_types.proofs.ListSums.{sum_by-alike, sum_by-flat_map, sum_by-map, sum_by-some}
use Rattle.kh_types.proofs.RangeImages.{all-map_range}
use Rattle.square_laws.proofs.Pairs.{IsStep, edge_or_zero}

-- a generator of the cube: its state and its label are below their limits
pub record IsGenerator (code : Code) (generator : Generator) : Type 0 where
  pub state : generator.state < 2 ^ length code.crossings
  pub label : generator.label < 2 ^ circle_count code generator.state

all-flat_map : {X : Type 0} (P : X → Type 0) (f : ℕ → List X) (a n : ℕ)
    → ((k : ℕ) → k < a + n → AllByRecursion P (f k)) → AllByRecursion P (flat_map f (range_with_len a n))
all-flat_map P f a zero each = tt
all-flat_map P f a (suc n) each =
    grind (arith, nat_tests, AllByRecursion-append, all-flat_map P f (a + 1) n (λ k below. each k (omega (arith, below))))

generators-all : (code : Code) → AllByRecursion (IsGenerator code) (generators code)
generators-all code =
    all-flat_map (IsGenerator code) (generators_of code) 0 (2 ^ length code.crossings)
    (λ state state_below.
    all-map_range (IsGenerator code) (generator_of state) 0 (2 ^ circle_count code state)
    (λ label below. record { state = omega (arith, state_below); label = omega (arith, below) }))

-- the generator at a place of those of two degrees
pub generators_at-is : (code : Code) (i j : ℤ) (at : ℕ) (d : Generator) → at < length (generators_at code i j)
    → IsGenerator code (get_or (generators_at code i j) at d) × (has_degrees code i j (get_or (generators_at code i j) at d) ≡ true)
generators_at-is code i j at d within = (
  All-get_or (IsGenerator code) (generators_at code i j) at d within
      (All-filter (has_degrees code i j) (IsGenerator code) (generators code) (All-from_recursion (IsGenerator code) (generators code) (generators-all code))),
  All-get_or (λ x. has_degrees code i j x ≡ true) (generators_at code i j) at d within (filter_passes (has_degrees code i j) (generators code)),
)

-- and each has a place
pub generators_at-contain : (code : Code) (i j : ℤ) (x : Generator) → IsGenerator code x → has_degrees code i j x ≡ true
    → Contains (generators_at code i j) x
generators_at-contain code i j x is passes =
    Contains-filter (has_degrees code i j) (generators code) x passes
    (Contains-flat_map (generators_of code) (states code) x.state x (Contains-range (2 ^ length code.crossings) x.state is.state)
    (Contains-map (generator_of x.state) (range_with_len 0 (2 ^ circle_count code x.state)) x.label
    (Contains-range (2 ^ circle_count code x.state) x.label is.label)))

-- how many labels give a state's generators two degrees
abbrev pub label_count : Code → ℤ → ℤ → ℕ → ℕ
label_count code i j s = sum_by (λ label. cond (has_degrees code i j (generator_of s label)) 1 0) (range_with_len 0 (2 ^ circle_count code s))

pub length-generators_at : (code : Code) (i j : ℤ) → length (generators_at code i j) ≡ sum_by (label_count code i j) (states code)
length-generators_at code i j = grind (arith, nat_tests, length-filter, sum_by-flat_map, sum_by-alike, sum_by-map)

-- the coefficients along an edge, which is one crossing's

-- a coefficient other than 0 goes along one

pub coefficient-elsewhere : (p : ℕ) (code : Code) (tail head : Generator) → coefficient p code tail head ≢ 0
    → (crossing : ℕ) × IsCrossing code.crossings crossing × IsStep tail.state head.state crossing
coefficient-elsewhere p code tail head some = grind (arith, nat_tests, sum_by-some, edge_or_zero)
