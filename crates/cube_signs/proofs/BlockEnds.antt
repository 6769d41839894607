-- The least and the greatest degree of a block have generators.
use Rattle.std.proofs.lemmas.Bool.Decides.{nat_tests}
use Rattle.std.proofs.Common.{◌≡◌, ◌≢◌, ℕ, ◌+◌, ◌-◌, subst, ◌<◌, ◌∙◌, ℤ, pos, ◌+ℤ◌, ◌-ℤ◌, List, [], ◌∷◌, length, get_or, take, refl, sym, ap, arith, Bool, true, not}
use Rattle.std.specs.Prelude.{reverse, ◌≤ℤ◌}
use Rattle.std.specs.List.{Contains, position_or_len, suffix_len}
use Rattle.std.proofs.lemmas.Int.{ints}
use Rattle.std.proofs.lemmas.List.{get_or-reverse, length-drop, length-map, length-reverse, length-take}
use Rattle.std.proofs.lemmas.List.Sums.{prefix_len_stops, suffix_len-le-length}
use Rattle.std.proofs.lemmas.Bool.{not-false}
use Rattle.kh_types.specs.Code.{Code}
use Rattle.kh_types.specs.Generators.{generators_at}
use Rattle.kh_types.specs.History.{block, homological_degrees, is_empty}
use Rattle.kh_types.specs.Table.{from_minus}
use Rattle.sparse_block.specs.Complexes.{high_of}
use Rattle.square_laws.proofs.BlockDegrees.{cube_degree, degree-at, degree-found, degree-placed, first_degree, get_or-from_minus, length-from_minus}
use Rattle.cube_signs.specs.Blocks.{block_degrees}
use Rattle.cube_signs.proofs.NamedBlocks.{block-some}

-- whether there are generators, by the test of the block's degrees
abbrev has_generators : Code → ℤ → ℤ → Bool
has_generators code j i = not (is_empty (generators_at code i j))

not-empty : {X : Type 0} (xs : List X) → not (is_empty xs) ≡ true → xs ≢ []
not-empty xs not-false = grind (arith, nat_tests)

some-element : {X : Type 0} (xs : List X) → xs ≢ [] → 0 < length xs
some-element [] some = absurd (some refl)
some-element (x ∷ xs) some = omega arith

-- the first element that passes a test, where there is one, and the last
first-passes : {X : Type 0} (test : X → Bool) (xs : List X) (d : X) → position_or_len test xs < length xs
    → test (get_or xs (position_or_len test xs) d) ≡ true
first-passes test xs d within = grind (arith, nat_tests, not-false, prefix_len_stops)

last-passes : {X : Type 0} (test : X → Bool) (xs : List X) (m : ℕ) (d : X) → m + 1 ≡ length xs - suffix_len (λ x. not (test x)) xs
    → test (get_or xs m d) ≡ true
last-passes test xs m d is =
    let behind = suffix_len (λ x. not (test x)) xs in
    let stops = prefix_len_stops (λ x. not (test x)) (reverse xs) d (omega (arith, is, length-reverse xs)) in
    let same : get_or (reverse xs) behind d ≡ get_or xs m d =
    get_or-reverse xs behind d (omega (arith, is)) ∙ ap (λ k. get_or xs k d) (omega (arith, is)) in
    not-false (test (get_or xs m d)) (sym (ap (λ x. not (test x)) same) ∙ stops)

-- the degree of the block at a place, where it is the first or the last
ends : (code : Code) (j : ℤ) → 0 < length (homological_degrees code j)
    → (generators_at code (first_degree code j) j ≢ [])
    × (generators_at code (first_degree code j +ℤ pos (length (homological_degrees code j)) -ℤ pos 1) j ≢ [])
ends code j some =
    let n = length code.crossings in
    let degrees = from_minus n in
    let test = has_generators code j in
    let start = position_or_len test degrees in
    let behind = suffix_len (λ i. not (test i)) degrees in
    let count = length (homological_degrees code j) in
    let size = length-drop start (take (length degrees - behind) degrees) in
    let taken = length-take (length degrees - behind) degrees in
    let few = suffix_len-le-length (λ i. not (test i)) degrees in
    let all = length-from_minus n in
    let first : first_degree code j ≡ pos start -ℤ pos n =
    omega (arith, ints, degree-at code j 0 (pos 0) some, degree-placed code j 0 (pos 0) some) in
    let is_first : get_or degrees start (pos 0) ≡ first_degree code j =
    get_or-from_minus n start (pos 0) (omega (arith, size, taken, few, all, some)) ∙ sym first in
    let last = start + count - 1 in
    let is_last : get_or degrees last (pos 0) ≡ first_degree code j +ℤ pos count -ℤ pos 1 =
    get_or-from_minus n last (pos 0) (omega (arith, size, taken, few, all, some)) ∙ omega (arith, ints, first, some) in (
      not-empty (generators_at code (first_degree code j) j)
          (sym (ap test is_first) ∙ first-passes test degrees (pos 0) (omega (arith, size, taken, few, all, some))),
      not-empty (generators_at code (first_degree code j +ℤ pos count -ℤ pos 1) j)
          (sym (ap test is_last) ∙ last-passes test degrees last (pos 0) (omega (arith, size, taken, few, all, some))),
    )

-- so has the block
pub low-some : (p : ℕ) (code : Code) (j : ℤ) → Contains (block_degrees code) j → generators_at code (block p code j).low j ≢ []
low-some p code j has = (ends code j (block-some code j has)).0

high-is : (p : ℕ) (code : Code) (j : ℤ)
    → high_of (block p code j) ≡ first_degree code j +ℤ pos (length (homological_degrees code j)) -ℤ pos 1
high-is p code j = ap (λ n. first_degree code j +ℤ pos n -ℤ pos 1) (length-map (homological_degrees code j) (cube_degree p code j))

pub high-some : (p : ℕ) (code : Code) (j : ℤ) → Contains (block_degrees code) j
    → generators_at code (high_of (block p code j)) j ≢ []
high-some p code j has =
    subst (λ (i : ℤ). generators_at code i j ≢ []) (sym (high-is p code j)) (ends code j (block-some code j has)).1

pub generators-between : (p : ℕ) (code : Code) (i j : ℤ) → generators_at code i j ≢ []
    → ((block p code j).low ≤ℤ i) × (i ≤ℤ high_of (block p code j))
generators-between p code i j some =
    let found = degree-found code i j (some-element (generators_at code i j) some) in (
      omega (arith, ints, found.2),
      subst (λ (high : ℤ). i ≤ℤ high) (sym (high-is p code j)) (omega (arith, ints, found.1, found.2)),
    )
