-- The numbers of classes, by counting.
use Rattle.std.proofs.Common.{◌≡◌, ℕ, ◌+◌, ◌-◌, ◌<◌, ◌∙◌, List, ◌∷◌, ◌++◌, length, ap, arith, true, cond}
use Rattle.std.specs.Prelude.{nat_eq, slice_index}
use Rattle.std.specs.List.{filter, position_or_len, range_with_len}
use Rattle.std.proofs.lemmas.Bool.{eq-eqb}
use Rattle.std.proofs.Math.Seq.{get_or-append_seam}
use Rattle.std.proofs.lemmas.List.{length-append}
use Rattle.std.proofs.lemmas.List.Elements.{filter-append}
use Rattle.kh_types.specs.Classes.{class_count, is_least, IsNamed}
use Rattle.kh_types.proofs.Ranges.{range_around}
use Rattle.face_walk.specs.ClassNumbers.{least_numbers, class_number}
use Rattle.kh_types.proofs.FilteredRanges.{position-behind}

-- the least numbers of the classes, about one of them
least_numbers-around : (classes : List ℕ) (least : ℕ) → least < length classes → is_least classes least ≡ true
    → least_numbers classes
    ≡ filter (is_least classes) (range_with_len 0 least)
    ++ least ∷ filter (is_least classes) (range_with_len (least + 1) (length classes - (least + 1)))
least_numbers-around classes least below is =
    let p = is_least classes in
    let back = range_with_len (least + 1) (length classes - (least + 1)) in
    ap (λ xs. filter p xs) (range_around 0 (length classes) least least below (omega arith))
    ∙ filter-append p (range_with_len 0 least) (least ∷ back)
    ∙ ap (λ b. filter p (range_with_len 0 least) ++ cond b (least ∷ filter p back) (filter p back)) is

-- the number of a class is how many classes have a lesser least number
pub class_number-counted : (classes : List ℕ) (x : ℕ) → IsNamed (length classes) classes → x < length classes
    → class_number classes x ≡ length (filter (is_least classes) (range_with_len 0 (slice_index classes x)))
class_number-counted classes x named below =
    let least = slice_index classes x in
    let back = filter (is_least classes) (range_with_len (least + 1) (length classes - (least + 1))) in
    ap (λ xs. position_or_len (nat_eq least) xs)
    (least_numbers-around classes least (omega (arith, named.least x below)) (eq-eqb (slice_index classes least) least (named.own x below)))
    ∙ position-behind (is_least classes) 0 least least back (omega arith)

-- and is below their count
pub class_number-below : (classes : List ℕ) (x : ℕ) → IsNamed (length classes) classes → x < length classes
    → class_number classes x < class_count classes
class_number-below classes x named below =
    let least = slice_index classes x in
    let front = filter (is_least classes) (range_with_len 0 least) in
    let back = filter (is_least classes) (range_with_len (least + 1) (length classes - (least + 1))) in
    let count = ap length
    (least_numbers-around classes least (omega (arith, named.least x below)) (eq-eqb (slice_index classes least) least (named.own x below)))
    ∙ length-append front (least ∷ back) in
    omega (arith, count, class_number-counted classes x named below)

-- the least numbers have that of a class at the number of the class
pub least_numbers-class_number : (classes : List ℕ) (x : ℕ) → IsNamed (length classes) classes → x < length classes
    → slice_index (least_numbers classes) (class_number classes x) ≡ slice_index classes x
least_numbers-class_number classes x named below =
    let least = slice_index classes x in
    let front = filter (is_least classes) (range_with_len 0 least) in
    let back = filter (is_least classes) (range_with_len (least + 1) (length classes - (least + 1))) in
    ap (λ n. slice_index (least_numbers classes) n) (class_number-counted classes x named below)
    ∙ ap (λ xs. slice_index xs (length front))
    (least_numbers-around classes least (omega (arith, named.least x below)) (eq-eqb (slice_index classes least) least (named.own x below)))
    ∙ get_or-append_seam front least back 0

pub ruleset counted = (class_number-counted, class_number-below)
