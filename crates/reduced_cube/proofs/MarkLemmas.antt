-- Marks, their circles in all states, and the labels there.
use Rattle.std.proofs.Common.{◌≡◌, ℕ, ◌+◌, ◌^◌, ◌<◌, ◌≤◌, ◌∙◌, ℤ, List, [], ◌∷◌, length, get_or, map, refl, sym, ap, arith, Bool, true, cond, IsTrue}
use Rattle.std.specs.Prelude.{nat_eq, nat_le, ◌&&◌, slice_index}
use Rattle.std.specs.List.{All, filter, range_with_len}
use Rattle.std.proofs.Math.Path.{fun_ext}
use Rattle.std.proofs.lemmas.Bool.Decides.{nat_tests}
use Rattle.std.proofs.lemmas.List.Elements.{All-head, All-tail}
use Rattle.std.proofs.lemmas.List.FromFn.{get_or-map-range_with_len}
use Rattle.kh_types.specs.Acceptance.{accepted}
use Rattle.kh_types.specs.Bits.{bit}
use Rattle.kh_types.specs.CircleNumbers.{circle_number, IsName}
use Rattle.kh_types.specs.Code.{Code, arc_count}
use Rattle.kh_types.specs.Generators.{Generator, generators_at}
use Rattle.kh_types.specs.Table.{from_minus}
use Rattle.sparse_block.specs.Complexes.{NamedComplex}
use Rattle.cube_signs.specs.Chosen.{chosen_at, chosen_block, has_minus, list_complex, IsClosed}
use Rattle.cube_signs.proofs.BlockLemmas.{are-tails}
use Rattle.reduced_cube.specs.Marks.{marked_circles}
use Rattle.reduced_cube.specs.Reduced.{is_mark, is_reduced}
use Rattle.reduced_cube.proofs.ReducedBlocks.{IsClosed-reduced}

both-tests : (m last : ℕ) → (nat_le 1 m && nat_le m last) ≡ true → (1 ≤ m) × (m ≤ last)
both-tests m last passes = grind (arith, nat_tests)

tests-both : (m last : ℕ) → 1 ≤ m → m ≤ last → (nat_le 1 m && nat_le m last) ≡ true
tests-both m last positive within = grind (arith, nat_tests)

pub IsName-mark : (code : Code) (mark : ℕ) → is_mark code mark ≡ true → IsName code mark
IsName-mark code mark passes =
    let both = both-tests mark (arc_count code.crossings + code.loops) passes in
    record { positive = both.0; within = both.1 }

pub mark-IsName : (code : Code) (mark : ℕ) → IsName code mark → is_mark code mark ≡ true
mark-IsName code mark name = tests-both mark (arc_count code.crossings + code.loops) name.positive name.within

-- one state more, and all of them
pub circles-all : (code : Code) (mark : ℕ) (made : List ℕ) (count : ℕ)
    → made ≡ map (λ s. circle_number code s mark) (range_with_len 0 count) → count ≡ 2 ^ length code.crossings
    → made ≡ marked_circles code mark
unfolding marked_circles
circles-all code mark made count is all = is ∙ ap (λ n. map (λ s. circle_number code s mark) (range_with_len 0 n)) all

-- the label on the marked circle is the one on the circle that is given for the state
pub has_minus-marked : (code : Code) (mark : ℕ) (circles : List ℕ) (generator : Generator) → circles ≡ marked_circles code mark
    → generator.state < 2 ^ length code.crossings → has_minus circles generator ≡ is_reduced code mark generator
unfolding marked_circles
has_minus-marked code mark circles generator are below =
    ap (λ (c : ℕ). nat_eq (bit generator.label c) 1)
    (ap (λ (cs : List ℕ). slice_index cs generator.state) are
    ∙ get_or-map-range_with_len (λ s. circle_number code s mark) 0 (2 ^ length code.crossings) generator.state generator.state 0 below (omega arith))

pub IsClosed-marked : (p : ℕ) (code : Code) (mark : ℕ) (circles : List ℕ) → IsTrue (accepted code) → IsName code mark
    → circles ≡ marked_circles code mark → IsClosed (has_minus circles) p code
IsClosed-marked p code mark circles is name are =
    let closed = IsClosed-reduced p code mark is name in
    record {
      each = λ tail head tail_below head_below minus lost.
          closed.each tail head tail_below head_below (sym (has_minus-marked code mark circles tail are tail_below) ∙ minus)
          (sym (has_minus-marked code mark circles head are head_below) ∙ lost);
    }

-- two tests that agree on a list pass the same of it
filter-same : {X : Type 0} (p q : X → Bool) (xs : List X) → All (λ x. p x ≡ q x) xs → filter p xs ≡ filter q xs
filter-same p q [] same = refl
filter-same {X} p q (x ∷ xs) same =
    ap (λ b. cond b (x ∷ filter p xs) (filter p xs)) (All-head (λ y. p y ≡ q y) x xs same)
    ∙ ap (λ (ys : List X). cond (q x) (x ∷ ys) ys) (filter-same p q xs (All-tail (λ y. p y ≡ q y) x xs same))

chosen-marked : (code : Code) (mark : ℕ) (circles : List ℕ) (i j : ℤ) → circles ≡ marked_circles code mark
    → chosen_at (has_minus circles) code i j ≡ chosen_at (is_reduced code mark) code i j
chosen-marked code mark circles i j are =
    let all = generators_at code i j in
    let same : All (λ g. has_minus circles g ≡ is_reduced code mark g) all =
    λ k d below. has_minus-marked code mark circles (get_or all k d) are ((are-tails code i j all refl) k d below).state_below in
    filter-same (has_minus circles) (is_reduced code mark) all same

-- the block of a list of generators for each degree
abbrev block_over : ℕ → Code → (ℤ → List Generator) → NamedComplex
block_over p code lists =
    record {
      complex = list_complex p code (length code.crossings) lists;
      names = map lists (from_minus (length code.crossings));
    }

-- so the block over these generators is the reduced one
pub block-marked : (p : ℕ) (code : Code) (mark : ℕ) (circles : List ℕ) (j : ℤ) → circles ≡ marked_circles code mark
    → chosen_block (has_minus circles) p code j ≡ chosen_block (is_reduced code mark) p code j
block-marked p code mark circles j are =
    ap (block_over p code) (fun_ext (λ i. chosen-marked code mark circles i j are))
