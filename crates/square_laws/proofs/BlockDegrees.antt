-- The degrees of a block are neighbouring integers, and all degrees that have generators are among them.
--
-- The homological degrees of a block are the part of all degrees from the first to the last that has generators, so they are neighbours,
-- and a degree outside has none. At a degree inside the block is the cube's by definition; at one outside both are empty. So facts of the
-- cube's degrees are facts of the block's.
use Rattle.std.proofs.lemmas.Bool.Decides.{nat_tests}
use Rattle.std.proofs.Common.{◌≡◌, ℕ, ◌+◌, ◌-◌, ◌*◌, ◌<◌, ◌≤◌, ◌∙◌, ◌⊎◌, inl, inr, ℤ, pos, negsuc, ◌+ℤ◌, ◌-ℤ◌, List, [], length, get_or, map, take, refl, sym, ap, arith, Bool, true, false, not}
use Rattle.std.specs.Prelude.{reverse}
use Rattle.std.specs.List.{position_or_len, suffix_len}
use Rattle.std.proofs.lemmas.Bool.{cases_lt}
use Rattle.std.proofs.lemmas.Int.{ints}
use Rattle.std.proofs.lemmas.List.{get_or_past, get_or-map, get_or-drop, get_or-reverse, get_or-take, length-drop, length-map, length-take, nil_from_length}
use Rattle.std.proofs.lemmas.List.FromFn.{length-map-range_with_len, get_or-map-range_with_len}
use Rattle.std.proofs.lemmas.List.Sums.{prefix_len_passes, suffix_len-le-length}
use Rattle.kh_types.specs.Code.{Code}
use Rattle.kh_types.specs.Complex.{Degree, degree_from, degree_number, degree_of, empty_degree}
use Rattle.kh_types.specs.Differential.{differential}
use Rattle.kh_types.specs.Generators.{generators_at, homological_degree, quantum_degree}
use Rattle.kh_types.specs.History.{block, first_or_zero, first_to_last, homological_degrees, is_empty}
use Rattle.kh_types.specs.Table.{from_minus}
use Rattle.kh_types.proofs.Lists.{All-some}
use Rattle.kh_types.proofs.QuantumDegrees.{generators_at-degrees, homological_degree-within, place-IsWithin}

-- the part of a list from the first element that passes a test to the last: where it begins, and that all that pass are in it

abbrev start_of : {X : Type 0} → (X → Bool) → List X → ℕ
start_of test xs = position_or_len test xs

abbrev end_of : {X : Type 0} → (X → Bool) → List X → ℕ
end_of test xs = length xs - suffix_len (λ x. not (test x)) xs

get_or-first_to_last : {X : Type 0} (test : X → Bool) (xs : List X) (k : ℕ) (d : X) → k < length (first_to_last test xs)
    → (get_or (first_to_last test xs) k d ≡ get_or xs (start_of test xs + k) d) × (start_of test xs + k < length xs)
get_or-first_to_last test xs k d within = grind (arith, nat_tests, length-drop, length-take, get_or-drop, get_or-take)

place-first_to_last : {X : Type 0} (test : X → Bool) (xs : List X) (m : ℕ) (d : X) → m < length xs → test (get_or xs m d) ≡ true
    → (k : ℕ) × (k < length (first_to_last test xs)) × (start_of test xs + k ≡ m)
place-first_to_last {X} test xs m d within passes =
    let fails : X → Bool = λ x. not (test x) in
    let a = start_of test xs in
    let b = end_of test xs in
    let not_fails : fails (get_or xs m d) ≡ false = ap not passes in
    let from : a ≤ m = elim (cases_lt m a) [
      | inl before ↦ let so : true ≡ false = sym (prefix_len_passes fails xs m d before) ∙ not_fails in absurd (cc)
      | inr behind ↦ behind
    ] in
    let few = suffix_len-le-length fails xs in
    let below : m < b = elim (cases_lt m b) [
      | inl before ↦ before
      | inr behind ↦
          let back = length xs - 1 - m in
          let same : get_or (reverse xs) back d ≡ get_or xs m d =
          get_or-reverse xs back d (omega arith) ∙ ap (λ k. get_or xs k d) (omega arith) in
          let so : true ≡ false =
          sym (prefix_len_passes fails (reverse xs) back d (omega (arith, within, behind, few))) ∙ ap fails same ∙ not_fails in
          absurd (cc)
    ] in
    let size = length-drop a (take b xs) in
    let taken = length-take b xs in
    (m - a, omega (arith, size, taken, from, below, within), omega arith)

-- whether there are generators, by the test of the block's degrees
abbrev has_generators : Code → ℤ → ℤ → Bool
has_generators code j i = not (is_empty (generators_at code i j))

some-test : {X : Type 0} (xs : List X) → 0 < length xs → not (is_empty xs) ≡ true
some-test xs some = grind (arith, nat_tests)

abbrev pub first_degree : Code → ℤ → ℤ
first_degree code j = first_or_zero (homological_degrees code j)

pub first-is : (is : List ℤ) (d : ℤ) → 0 < length is → first_or_zero is ≡ get_or is 0 d
first-is is d some = grind (arith, nat_tests)

pub get_or-from_minus : (n k : ℕ) (d : ℤ) → k < 2 * n + 1 → get_or (from_minus n) k d ≡ pos k -ℤ pos n
get_or-from_minus n k d below = get_or-map-range_with_len (λ m. pos m -ℤ pos n) 0 (2 * n + 1) k k d below (omega arith)

pub length-from_minus : (n : ℕ) → length (from_minus n) ≡ 2 * n + 1
length-from_minus n = length-map-range_with_len (λ m. pos m -ℤ pos n) 0 (2 * n + 1)

-- the degree at a place of the block, by where the block's degrees begin
pub degree-placed : (code : Code) (j : ℤ) (k : ℕ) (d : ℤ) → k < length (homological_degrees code j)
    → get_or (homological_degrees code j) k d
    ≡ pos (start_of (has_generators code j) (from_minus (length code.crossings)) + k) -ℤ pos (length code.crossings)
degree-placed code j k d within = grind (arith, nat_tests, get_or-first_to_last, get_or-from_minus, length-from_minus)

-- degrees are neighbouring integers
pub degree-at : (code : Code) (j : ℤ) (k : ℕ) (d : ℤ) → k < length (homological_degrees code j)
    → get_or (homological_degrees code j) k d ≡ first_degree code j +ℤ pos k
degree-at code j k d within =
    let some : 0 < length (homological_degrees code j) = omega arith in
    let first : first_degree code j
    ≡ pos (start_of (has_generators code j) (from_minus (length code.crossings)) + 0) -ℤ pos (length code.crossings) =
    first-is (homological_degrees code j) d some ∙ degree-placed code j 0 d some in
    degree-placed code j k d within ∙ omega (arith, ints)

-- a degree with a generator is one of them
pub degree-found : (code : Code) (i j : ℤ) → 0 < length (generators_at code i j)
    → (k : ℕ) × (k < length (homological_degrees code j)) × (first_degree code j +ℤ pos k ≡ i)
degree-found code i j some =
    let n = length code.crossings in
    let generator = All-some (λ g. (homological_degree code g ≡ i) × (quantum_degree code g ≡ j)) (generators_at code i j)
    (generators_at-degrees code i j) some in
    let place = place-IsWithin n (homological_degree code generator.0) (homological_degree-within code generator.0) in
    let is : get_or (from_minus n) place.0 (pos 0) ≡ i =
    get_or-from_minus n place.0 (pos 0) place.1 ∙ sym place.2 ∙ generator.1.0 in
    let found = place-first_to_last (has_generators code j) (from_minus n) place.0 (pos 0)
    (omega (arith, place.1, length-from_minus n))
    (ap (has_generators code j) is ∙ some-test (generators_at code i j) some) in (
      found.0,
      found.1,
      sym (degree-at code j found.0 (pos 0) found.1)
          ∙ (get_or-first_to_last (has_generators code j) (from_minus n) found.0 (pos 0) found.1).0
          ∙ ap (λ m. get_or (from_minus n) m (pos 0)) found.2 ∙ is,
    )

-- a degree of the cube: its generators, and the differential out of them
abbrev pub cube_degree : ℕ → Code → ℤ → ℤ → Degree
cube_degree p code j i = record { alive = map (λ generator. true) (generators_at code i j); matrix = differential p code i j }

pub degree-numbered : (p : ℕ) (code : Code) (j : ℤ) (k : ℕ) → k < length (homological_degrees code j)
    → degree_number (block p code j) k ≡ cube_degree p code j (first_degree code j +ℤ pos k)
degree-numbered p code j k within =
    get_or-map (cube_degree p code j) (homological_degrees code j) k (pos 0) empty_degree within
    ∙ ap (cube_degree p code j) (degree-at code j k (pos 0) within)

-- at each degree the block has that of the cube, or it has none, and there is no generator
pub degree-block : (p : ℕ) (code : Code) (j i : ℤ)
    → (degree_of (block p code j) i ≡ cube_degree p code j i)
    ⊎ ((degree_of (block p code j) i ≡ empty_degree) × (generators_at code i j ≡ []))
degree-block p code j i = elim (cases_lt 0 (length (generators_at code i j))) [
  | inl some ↦ let found = degree-found code i j some in inl (inside i found.0 found.1 found.2)
  | inr none ↦ elim (placed i (i -ℤ first_degree code j) refl) [
    | inl is ↦ inl is
    | inr empty ↦ inr (empty, nil_from_length (generators_at code i j) (omega arith))
  ]
]
  where
    inside : (i : ℤ) (k : ℕ) → k < length (homological_degrees code j) → first_degree code j +ℤ pos k ≡ i
        → degree_of (block p code j) i ≡ cube_degree p code j i
    inside i k within is = grind (arith, nat_tests, ints, degree-numbered)

    placed : (i distance : ℤ) → i -ℤ first_degree code j ≡ distance
        → (degree_of (block p code j) i ≡ cube_degree p code j i) ⊎ (degree_of (block p code j) i ≡ empty_degree)
    placed i (negsuc k) is = inr (ap (degree_from (block p code j)) is)
    placed i (pos k) is = elim (cases_lt k (length (homological_degrees code j))) [
      | inl within ↦ inl (inside i k within (omega (arith, ints)))
      | inr past ↦
          inr (ap (degree_from (block p code j)) is
          ∙ get_or_past (map (cube_degree p code j) (homological_degrees code j)) k empty_degree
          (omega (arith, past, length-map (homological_degrees code j) (cube_degree p code j))))
    ]
