-- The histories of the blocks of a diagram together have at most half as many pivots as it has generators.
-- Each pivot of a legal history takes two places of its block for good (`pivots-places`). The block at a quantum degree has no more
-- places than there are generators of this degree (`places-le`). A generator has one pair of degrees, and the integers of a range
-- are distinct (`within-once`), so a sum over all degrees counts each generator once at most (`across-le`).
use Rattle.std.proofs.Common.{◌≡◌, ◌≢◌, ℕ, zero, suc, ◌+◌, ◌-◌, ◌*◌, ◌≤◌, ◌∙◌, List, [], ◌∷◌, length, map, take, get_or, refl, subst, ap, arith, ℤ, pos, ◌-ℤ◌, Bool, true, false, cond, not, ◌&&◌, IsTrue}
use Rattle.std.specs.Prelude.{All}
use Rattle.std.specs.List.{AllByRecursion, count_by, filter, position_or_len, range_with_len, suffix_len, sum_by}
use Rattle.std.specs.Ordering.{int_eq}
use Rattle.std.proofs.lemmas.Bool.Decides.{Decides-int_eq}
use Rattle.std.proofs.lemmas.Int.{ints}
use Rattle.std.proofs.lemmas.List.Elements.{recursion_from_All}
use Rattle.std.proofs.lemmas.List.Sums.{length-filter, sum_by-cons, sum_by-le, sum_by-le-sum_by, sum_by-take-drop, sum_by-take-le}
use Rattle.kh_types.specs.Acceptance.{accepted}
use Rattle.kh_types.specs.Code.{Code}
use Rattle.kh_types.specs.Complex.{Degree}
use Rattle.kh_types.specs.Differential.{differential}
use Rattle.kh_types.specs.Generators.{Generator, generators, generators_at, has_degrees, homological_degree, quantum_degree}
use Rattle.kh_types.specs.History.{IsLegal, block, first_to_last, homological_degrees, is_empty}
use Rattle.kh_types.specs.Table.{from_minus}
use Rattle.kh_types.specs.declared.limits.TheConstants.{EXPONENT}
use Rattle.kh_types.proofs.Integers.{int_eq-other}
use Rattle.kh_types.proofs.ListSums.{sum_by-alike, sum_by-filter, sum_by-map, sum_by-none, sum_by-turned, sum_by-zeros}
use Rattle.prime_field.specs.Residues.{IsField}
use Rattle.circle_smoothing.specs.GeneratorCounts.{generator_count}
use Rattle.circle_smoothing.proofs.GeneratorLemmas.{length-generators}
use Rattle.square_laws.proofs.BlockComplexes.{IsComplex-block}
use Rattle.cube_signs.specs.Blocks.{block_degrees, has_block}
use Rattle.sparse_block.specs.Complexes.{live_places}
use Rattle.history_laws.proofs.HistoryEnds.{length-half}
use Rattle.shared_block.specs.AllBlocks.{AreBlocksOf, degrees_of_blocks}
use Rattle.shared_block.specs.BlockHistories.{BlockHistory, HasLegalHistory}
use Rattle.kh_types.proofs.MappedLists.{count-all}

-- of the integers from -n to n at most one is a given one

-- 1 where a test passes, else 0
abbrev one_if : Bool → ℕ
one_if b = cond b 1 0

-- 1 where the integer at a place is d, else 0
abbrev found_at : ℤ → ℕ → ℕ → ℕ
found_at d n k = one_if (int_eq d (pos k -ℤ pos n))

-- an integer that is at one place is at no other
found_at-other : (d : ℤ) (n a k : ℕ) → int_eq d (pos a -ℤ pos n) ≡ true → k ≢ a → found_at d n k ≡ 0
found_at-other d n a k is other =
    let here : d ≡ pos a -ℤ pos n = (Decides-int_eq d (pos a -ℤ pos n)).0 is in
    ap one_if (int_eq-other d (pos k -ℤ pos n) (λ same. other (omega (arith, ints, here, same))))

-- an integer that is found once at most behind a place is found once at most from it on
found-step : (d : ℤ) (n a count : ℕ) (b : Bool) → int_eq d (pos a -ℤ pos n) ≡ b
    → sum_by (found_at d n) (range_with_len (a + 1) count) ≤ 1
    → sum_by (found_at d n) (a ∷ range_with_len (a + 1) count) ≤ 1
found-step d n a count true is rest =
    let here : found_at d n a ≡ 1 = ap one_if is in
    let none : sum_by (found_at d n) (range_with_len (a + 1) count) ≡ 0 =
    sum_by-none (found_at d n) (a + 1) count (λ x above below. found_at-other d n a x is (λ same. omega (arith, above, same))) in
    omega (arith, sum_by-cons (found_at d n) a (range_with_len (a + 1) count), here, none)
found-step d n a count false is rest =
    let here : found_at d n a ≡ 0 = ap one_if is in
    omega (arith, sum_by-cons (found_at d n) a (range_with_len (a + 1) count), here, rest)

-- so from each place on an integer is found once at most
found-once : (d : ℤ) (n a count : ℕ) → sum_by (found_at d n) (range_with_len a count) ≤ 1
found-once d n a zero = omega arith
found-once d n a (suc count) = found-step d n a count (int_eq d (pos a -ℤ pos n)) refl (found-once d n (a + 1) count)

-- and among those from -n to n
within-once : (d : ℤ) (n : ℕ) → sum_by (λ i. one_if (int_eq d i)) (from_minus n) ≤ 1
within-once d n =
    omega (
      arith,
      sum_by-map (λ i. one_if (int_eq d i)) (λ k. pos k -ℤ pos n) (range_with_len 0 (2 * n + 1)),
      found-once d n 0 (2 * n + 1),
    )

-- two tests pass together where the first does, if the second passes
and-le : (b : Bool) → one_if (b && true) ≤ one_if b
and-le true = omega arith
and-le false = omega arith

-- and nowhere, if the second fails
and-false : (b : Bool) → one_if (b && false) ≡ 0
and-false true = refl
and-false false = refl

-- an integer is found once at most where a second test passes, and else not
both-once : (d : ℤ) (n : ℕ) (b : Bool) → sum_by (λ i. one_if (int_eq d i && b)) (from_minus n) ≤ one_if b
both-once d n true =
    omega (
      arith,
      sum_by-le-sum_by (λ i. one_if (int_eq d i && true)) (λ i. one_if (int_eq d i)) (from_minus n) (λ i. and-le (int_eq d i)),
      within-once d n,
    )
both-once d n false =
    omega (arith, sum_by-zeros (λ i. one_if (int_eq d i && false)) (from_minus n) (λ i. and-false (int_eq d i)))

-- each generator has one pair of degrees

-- the generators at a quantum degree j and at each homological degree
abbrev generators_along : Code → ℤ → ℤ → ℕ
generators_along code j i = length (generators_at code i j)

-- of one quantum degree, those of all homological degrees together are no more than the generators that have it
along-le : (code : Code) (j : ℤ)
    → sum_by (generators_along code j) (from_minus (length code.crossings))
    ≤ sum_by (λ generator. one_if (int_eq (quantum_degree code generator) j)) (generators code)
along-le code j =
    let is = from_minus (length code.crossings) in
    let has : ℤ → Generator → ℕ = λ i generator. one_if (has_degrees code i j generator) in
    omega (
      arith,
      sum_by-alike (generators_along code j) (λ i. sum_by (has i) (generators code))
          (λ i. length-filter (has_degrees code i j) (generators code)) is,
      sum_by-turned has is (generators code),
      sum_by-le-sum_by (λ generator. sum_by (λ i. has i generator) is)
          (λ generator. one_if (int_eq (quantum_degree code generator) j)) (generators code)
          (λ generator.
          both-once (homological_degree code generator) (length code.crossings) (int_eq (quantum_degree code generator) j)),
    )

-- those of all degrees together are no more than all generators
across-le : (code : Code) (most : ℕ)
    → sum_by (λ j. sum_by (generators_along code j) (from_minus (length code.crossings))) (from_minus most) ≤ length (generators code)
across-le code most =
    let js = from_minus most in
    let has : ℤ → Generator → ℕ = λ j generator. one_if (int_eq (quantum_degree code generator) j) in
    omega (
      arith,
      sum_by-le-sum_by (λ j. sum_by (generators_along code j) (from_minus (length code.crossings))) (λ j. sum_by (has j) (generators code))
          js (along-le code),
      sum_by-turned has js (generators code),
      sum_by-le (λ generator. sum_by (λ j. has j generator) js) 1 (generators code)
          (λ k d below. within-once (quantum_degree code (get_or (generators code) k d)) most),
    )

-- the places of blocks

-- what a test passes adds up to no more than all
sum_by-filter-le : {X : Type 0} (f : X → ℕ) (test : X → Bool) (xs : List X) → sum_by f (filter test xs) ≤ sum_by f xs
sum_by-filter-le f test xs =
    omega (arith, sum_by-filter f test xs, sum_by-le-sum_by (λ x. cond (test x) (f x) 0) f xs (λ x. cond-le (test x) (f x)))
  where
    cond-le : (b : Bool) (n : ℕ) → cond b n 0 ≤ n
    cond-le true n = omega arith
    cond-le false n = omega arith

-- and so does a part of a list
sum_by-part-le : {X : Type 0} (f : X → ℕ) (test : X → Bool) (xs : List X) → sum_by f (first_to_last test xs) ≤ sum_by f xs
sum_by-part-le f test xs =
    let last = length xs - suffix_len (λ x. not (test x)) xs in
    omega (arith, sum_by-take-drop f (take last xs) (position_or_len test xs), sum_by-take-le f xs last)

-- the block at j has a place for each generator there
live_places-block : (p : ℕ) (code : Code) (j : ℤ)
    → live_places (block p code j) ≡ sum_by (generators_along code j) (homological_degrees code j)
live_places-block p code j =
    let live : Degree → ℕ = λ degree. count_by (λ is_alive. is_alive) degree.alive in
    let made : ℤ → Degree = λ i. record { alive = map (λ generator. true) (generators_at code i j); matrix = differential p code i j } in
    sum_by-map live made (homological_degrees code j)
    ∙ sum_by-alike (λ i. live (made i)) (generators_along code j) (λ i. count-all (generators_at code i j)) (homological_degrees code j)

-- so it has no more than there are generators along j
places-le : (p : ℕ) (code : Code) (j : ℤ)
    → live_places (block p code j) ≤ sum_by (generators_along code j) (from_minus (length code.crossings))
places-le p code j =
    omega (
      arith,
      live_places-block p code j,
      sum_by-part-le (generators_along code j) (λ i. not (is_empty (generators_at code i j))) (from_minus (length code.crossings)),
    )

-- three steps upwards
le-steps : (a b c d : ℕ) → a ≤ b → b ≤ c → c ≤ d → a ≤ d
le-steps a b c d first second third = omega (arith, first, second, third)

-- what is along the quantum degrees of blocks is along all of them
along_blocks-le : (code : Code) (along : ℤ → ℕ) → sum_by along (block_degrees code) ≤ sum_by along (from_minus EXPONENT)
unfolding block_degrees
along_blocks-le code along = sum_by-filter-le along (has_block code) (from_minus EXPONENT)

-- and all blocks together have no more than there are generators
all_places-le : (p : ℕ) (code : Code) → sum_by (λ j. live_places (block p code j)) (block_degrees code) ≤ length (generators code)
all_places-le p code =
    let along : ℤ → ℕ = λ j. sum_by (generators_along code j) (from_minus (length code.crossings)) in
    le-steps (sum_by (λ j. live_places (block p code j)) (block_degrees code)) (sum_by along (block_degrees code))
    (sum_by along (from_minus EXPONENT)) (length (generators code))
    (sum_by-le-sum_by (λ j. live_places (block p code j)) along (block_degrees code) (places-le p code))
    (along_blocks-le code along) (across-le code EXPONENT)

-- the histories

-- the pivots of all blocks together
abbrev pub pivot_count : List BlockHistory → ℕ
pivot_count blocks = sum_by (λ held. length held.history) blocks

-- each pivot of a legal history takes two places of its block
pivots-places : (p : ℕ) (code : Code) (blocks : List BlockHistory) → IsField p → IsTrue (accepted code)
    → AllByRecursion (λ held. held.diagram ≡ code) blocks → AllByRecursion (HasLegalHistory p) blocks
    → 2 * pivot_count blocks ≤ sum_by (λ j. live_places (block p code j)) (degrees_of_blocks blocks)
pivots-places p code [] field is same legal = omega arith
pivots-places p code (held ∷ blocks) field is (same, others) (legal, more) =
    let own : IsLegal p (block p code held.degree) held.history =
    subst (λ (c : Code). IsLegal p (block p c held.degree) held.history) same legal in
    omega (
      arith,
      sum_by-cons (λ (b : BlockHistory). length b.history) held blocks,
      sum_by-cons (λ j. live_places (block p code j)) held.degree (degrees_of_blocks blocks),
      length-half p (block p code held.degree) held.history field (IsComplex-block p code held.degree field.above_one is) own,
      pivots-places p code blocks field is others more,
    )

-- so the pivots of all blocks are half as many as the generators, or fewer
pub pivots-generators : (p : ℕ) (code : Code) (blocks : List BlockHistory) → IsField p → IsTrue (accepted code)
    → AreBlocksOf code blocks → All (HasLegalHistory p) blocks → 2 * pivot_count blocks ≤ generator_count code
pivots-generators p code blocks field is are legal =
    omega (
      arith,
      pivots-places p code blocks field is (recursion_from_All (λ held. held.diagram ≡ code) blocks are.diagram)
          (recursion_from_All (HasLegalHistory p) blocks legal),
      ap (λ (js : List ℤ). sum_by (λ j. live_places (block p code j)) js) are.degrees,
      all_places-le p code,
      length-generators code,
    )
