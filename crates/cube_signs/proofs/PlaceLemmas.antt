-- Where the generators of a quantum degree begin, state by state.
use Rattle.std.proofs.lemmas.Bool.Decides.{nat_tests}
use Rattle.std.proofs.Common.{◌≡◌, ◌≢◌, ℕ, zero, suc, ◌+◌, ◌^◌, ◌<◌, ◌≤◌, ◌∙◌, ℤ, pos, ◌-ℤ◌, List, length, get_or, map, sym, ap, subst, arith}
use Rattle.std.specs.Prelude.{All}
use Rattle.std.proofs.Math.ListN.{set}
use Rattle.std.proofs.lemmas.Bool.{cases_eq}
use Rattle.std.proofs.lemmas.Int.{ints}
use Rattle.std.proofs.lemmas.List.{get_or-set_other, get_or-set_same, length-set}
use Rattle.std.proofs.lemmas.List.Elements.{All-map}
use Rattle.std.proofs.lemmas.List.FromFn.{get_or-range_with_len, length-range_with_len}
use Rattle.kh_types.specs.Code.{Code}
use Rattle.kh_types.specs.Directions.{minus_count}
use Rattle.kh_types.specs.Generators.{generators_at, one_count, states}
use Rattle.kh_types.specs.declared.limits.TheConstants.{CROSSINGS}
use Rattle.kh_types.proofs.QuantumDegrees.{one_count-le}
use Rattle.kh_types.proofs.Integers.{int_eq-other}
use Rattle.circle_smoothing.specs.GeneratorCounts.{generator_count}
use Rattle.circle_smoothing.specs.declared.limits.TheConstants.{GENERATORS}
use Rattle.cube_signs.specs.Tables.{base_of, own_base, own_degree, state_generators, HaveSizes}
use Rattle.cube_signs.proofs.GeneratorPlaces.{base-more, base-small, generators_at-below}
use Rattle.cube_signs.proofs.LabelPlaces.{is_label-none, state_generators-none}

-- a state has no generators of other homological degrees
none-of_other : (code : Code) (i j : ℤ) (state : ℕ) → own_degree code state ≢ i → length (state_generators code i j state) ≡ 0
none-of_other code i j state other = grind (arith, nat_tests, state_generators-none, is_label-none, int_eq-other)

-- one state more
pub HaveSizes-more : (code : Code) (j : ℤ) (state level more : ℕ) (sizes : List ℕ) → HaveSizes code j state sizes
    → level ≡ one_count code state → level ≤ CROSSINGS → more ≡ length (state_generators code (own_degree code state) j state)
    → HaveSizes code j (state + 1) (set sizes level (get_or sizes level 0 + more))
HaveSizes-more code j state level more sizes have is_level few is_more =
    grind (arith, nat_tests, length-set, cases_eq, set, get_or-set_same, base-more, get_or-set_other, none-of_other, ints)

-- the base of a state among those of its degree
pub base-kept : (code : Code) (j : ℤ) (state level : ℕ) (sizes : List ℕ) → HaveSizes code j state sizes
    → level ≡ one_count code state → level ≤ CROSSINGS → get_or sizes level 0 ≡ own_base code j state
base-kept code j state level sizes have is_level few = grind (arith, nat_tests)

pub own_base-small : (code : Code) (j : ℤ) (state : ℕ) → state ≤ 2 ^ length code.crossings → generator_count code ≤ GENERATORS
    → own_base code j state ≤ GENERATORS
own_base-small code j state within size = base-small code (own_degree code state) j state within size

-- with those of the state itself
pub own_base-room : (code : Code) (j : ℤ) (state : ℕ) → state < 2 ^ length code.crossings → generator_count code ≤ GENERATORS
    → own_base code j state + length (state_generators code (own_degree code state) j state) ≤ GENERATORS
own_base-room code j state within size =
    omega (
      arith,
      base-more code (own_degree code state) j state,
      base-small code (own_degree code state) j (state + 1) (omega (arith, within)) size,
    )

pub own_bases-small : (code : Code) (j : ℤ) (bases : List ℕ) → generator_count code ≤ GENERATORS
    → bases ≡ map (own_base code j) (states code) → All (λ base. base < 2 ^ 28) bases
own_bases-small code j bases size is =
    subst (λ (bases : List ℕ). All (λ base. base < 2 ^ 28) bases) (sym is)
    (All-map (λ base. base < 2 ^ 28) (own_base code j) (states code)
    (λ k d within.
    let below : k < 2 ^ length code.crossings = omega (arith, within, length-range_with_len 0 (2 ^ length code.crossings)) in
    let at : get_or (states code) k d ≡ k = get_or-range_with_len 0 (2 ^ length code.crossings) k d below ∙ omega arith in
    omega (arith, ap (own_base code j) at, own_base-small code j k (omega arith) size)))

-- a degree that no state has
base-none : (code : Code) (i j : ℤ) (count : ℕ) → ((state : ℕ) → own_degree code state ≢ i) → base_of code i j count ≡ 0
base-none code i j zero none = omega arith
base-none code i j (suc count) none =
    let next : suc count ≡ count + 1 = omega arith in
    omega (
      arith,
      ap (base_of code i j) next,
      base-more code i j count,
      none-of_other code i j count (none count),
      base-none code i j count none,
    )

-- the sizes of degrees
pub size-kept : (code : Code) (i j : ℤ) (level : ℕ) (sizes : List ℕ) → HaveSizes code j (2 ^ length code.crossings) sizes
    → level ≤ CROSSINGS → pos level -ℤ pos (minus_count code.crossings) ≡ i
    → get_or sizes level 0 ≡ length (generators_at code i j)
size-kept code i j level sizes have few is = grind (arith, nat_tests, generators_at-below)

pub size-none : (code : Code) (i j : ℤ) → length code.crossings ≤ CROSSINGS
    → ((level : ℕ) → level ≤ CROSSINGS → pos level -ℤ pos (minus_count code.crossings) ≢ i) → 0 ≡ length (generators_at code i j)
size-none code i j few none =
    sym
    (ap length (generators_at-below code i j)
    ∙ base-none code i j (2 ^ length code.crossings)
    (λ state. none (one_count code state) (omega (arith, few, one_count-le code state))))
