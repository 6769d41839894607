-- The homological degrees of a block, found from those that have a generator.
use Rattle.std.proofs.lemmas.Bool.Decides.{nat_tests}
use Rattle.std.proofs.Common.{◌≡◌, ℕ, ◌+◌, ◌-◌, ◌*◌, ◌<◌, ◌∙◌, ℤ, pos, neg_ℤ, ◌+ℤ◌, ◌-ℤ◌, List, [], ◌∷◌, ◌++◌, length, map, take, refl, sym, ap, arith, Bool, not}
use mathlib.Core.List.{reverse_aux}
use Rattle.std.specs.Prelude.{reverse, nat_eq}
use Rattle.std.specs.List.{position_or_len, range_with_len, suffix_len}
use Rattle.std.proofs.lemmas.Int.{ints}
use Rattle.std.proofs.lemmas.List.{length-drop, length-map, length-reverse, length-take}
use Rattle.std.proofs.lemmas.List.FromFn.{length-map-range_with_len}
use Rattle.kh_types.specs.Code.{Code}
use Rattle.kh_types.specs.Generators.{generators_at}
use Rattle.kh_types.specs.History.{first_or_zero, homological_degrees, is_empty}
use Rattle.kh_types.specs.Table.{from_minus}
use Rattle.kh_types.proofs.Lists.{position_or_len-map}
use Rattle.cube_signs.specs.Columns.{flags_of}
use Rattle.square_laws.proofs.BlockDegrees.{degree-placed, first-is}
use Rattle.cube_signs.proofs.StateLists.{images-more}
use Rattle.std.proofs.lemmas.Simd.{map-map}

-- whether the first degrees have a generator
abbrev pub flag_at : Code → ℤ → ℕ → Bool
flag_at code j k = not (is_empty (generators_at code (pos k -ℤ pos (length code.crossings)) j))

abbrev pub flags_to : Code → ℤ → ℕ → List Bool
flags_to code j count = map (flag_at code j) (range_with_len 0 count)

pub some-test : {X : Type 0} (xs : List X) → not (nat_eq (length xs) 0) ≡ not (is_empty xs)
some-test xs = grind (arith, nat_tests)

pub flags-more : (code : Code) (i j : ℤ) (made next : List Bool) (flag : Bool) (size k : ℕ) → made ≡ flags_to code j k
    → i ≡ neg_ℤ (pos (length code.crossings)) +ℤ pos k → size ≡ length (generators_at code i j) → flag ≡ not (nat_eq size 0)
    → next ≡ made ++ flag ∷ [] → next ≡ flags_to code j (k + 1)
flags-more code i j made next flag size k is_made is_i is_size is_flag is_next =
    let turned : neg_ℤ (pos (length code.crossings)) +ℤ pos k ≡ pos k -ℤ pos (length code.crossings) = omega (arith, ints) in
    let is : flag ≡ flag_at code j k =
    is_flag ∙ ap (λ n. not (nat_eq n 0)) is_size ∙ some-test (generators_at code i j)
    ∙ ap (λ (d : ℤ). not (is_empty (generators_at code d j))) (is_i ∙ turned) in
    images-more (flag_at code j) made next flag k is_made is is_next

pub flags-all : (code : Code) (j : ℤ) (flags : List Bool) (count : ℕ) → flags ≡ flags_to code j count
    → count ≡ 2 * length code.crossings + 1
    → flags ≡ flags_of code j
unfolding flags_of
flags-all code j flags count is all =
    is ∙ ap (flags_to code j) all
    ∙ sym (map-map (λ i. not (is_empty (generators_at code i j))) (λ k. pos k -ℤ pos (length code.crossings))
    (range_with_len 0 (2 * length code.crossings + 1)))

-- the place of the first that passes a test, and how many behind the last pass none
first-passing : (test : ℤ → Bool) (xs : List ℤ) (flags : List Bool) (first : ℕ) → flags ≡ map test xs
    → first ≡ position_or_len (λ flag. flag) flags → first ≡ position_or_len test xs
first-passing test xs flags first is is_first = grind (arith, nat_tests, position_or_len-map)

reverse-map : {X Y : Type 0} (f : X → Y) (xs : List X) → reverse (map f xs) ≡ map f (reverse xs)
reverse-map f xs = turned f xs []
  where
    turned : {X Y : Type 0} (f : X → Y) (xs ys : List X) → reverse_aux (map f xs) (map f ys) ≡ map f (reverse_aux xs ys)
    turned f [] ys = refl
    turned f (x ∷ xs) ys = turned f xs (x ∷ ys)

-- the least degree and the number of degrees
pub span-count : (code : Code) (j : ℤ) (flags back : List Bool) (first behind : ℕ)
    → flags ≡ flags_of code j → back ≡ reverse flags
    → first ≡ position_or_len (λ flag. flag) flags → behind ≡ position_or_len (λ flag. flag) back
    → length back - first - behind ≡ length (homological_degrees code j)
unfolding flags_of
span-count code j flags back first behind is is_back is_first is_behind =
    let test : ℤ → Bool = λ i. not (is_empty (generators_at code i j)) in
    let xs = from_minus (length code.crossings) in
    let front : first ≡ position_or_len test xs = first-passing test xs flags first is is_first in
    let last : behind ≡ suffix_len (λ x. not (test x)) xs =
    first-passing test (reverse xs) back behind (is_back ∙ ap reverse is ∙ reverse-map test xs) is_behind in
    let kept = length xs - suffix_len (λ x. not (test x)) xs in
    omega (
      arith,
      ap length is_back,
      length-reverse flags,
      ap length is,
      length-map xs test,
      front,
      last,
      length-drop (position_or_len test xs) (take kept xs),
      length-take kept xs,
    )

pub span-low : (code : Code) (j low : ℤ) (flags : List Bool) (first : ℕ) → 0 < length (homological_degrees code j)
    → flags ≡ flags_of code j → first ≡ position_or_len (λ flag. flag) flags
    → low ≡ neg_ℤ (pos (length code.crossings)) +ℤ pos first → low ≡ first_or_zero (homological_degrees code j)
unfolding flags_of
span-low code j low flags first some is is_first is_low =
    let test : ℤ → Bool = λ i. not (is_empty (generators_at code i j)) in
    let xs = from_minus (length code.crossings) in
    let front : first ≡ position_or_len test xs = first-passing test xs flags first is is_first in
    let start : position_or_len test xs ≡ position_or_len test xs + 0 = omega arith in
    let turned : neg_ℤ (pos (length code.crossings)) +ℤ pos first ≡ pos first -ℤ pos (length code.crossings) = omega (arith, ints) in
    is_low ∙ turned ∙ ap (λ n. pos n -ℤ pos (length code.crossings)) (front ∙ start)
    ∙ sym (first-is (homological_degrees code j) (pos 0) some ∙ degree-placed code j 0 (pos 0) some)

pub length-flags : (code : Code) (j : ℤ) (flags : List Bool)
    → flags ≡ flags_of code j → length flags ≡ 2 * length code.crossings + 1
unfolding flags_of
length-flags code j flags is =
    ap length is ∙ length-map (from_minus (length code.crossings)) (λ i. not (is_empty (generators_at code i j)))
    ∙ length-map-range_with_len (λ k. pos k -ℤ pos (length code.crossings)) 0 (2 * length code.crossings + 1)
