-- The numbers of circles in a list, one after the other.
use Rattle.std.proofs.lemmas.Bool.Decides.{nat_tests}
use Rattle.std.proofs.Common.{◌≡◌, ℕ, zero, suc, ◌+◌, ◌<◌, ◌≤◌, ◌∙◌, List, [], ◌∷◌, ◌++◌, refl, ap, length, arith, Bool, true, false, cond}
use Rattle.std.specs.Prelude.{slice_index}
use Rattle.std.specs.List.{range_with_len}
use Rattle.std.proofs.lemmas.Bool.{eqb-true}
use Rattle.std.proofs.lemmas.List.{get_or-map, length-append}
use Rattle.std.proofs.lemmas.List.Sums.{count_by-le-length, length-filter}
use Rattle.std.proofs.lemmas.List.FromFn.{get_or-range_with_len, length-map-range_with_len, length-range_with_len}
use Rattle.kh_types.specs.Classes.{is_least}
use Rattle.kh_types.proofs.Ranges.{filter-range_more, map_from_one}
use Rattle.circle_smoothing.specs.CircleLists.{AreCircles, circle_number_at, numbers_to}
use Rattle.kh_types.specs.CircleNumbers.{names_to}
use Rattle.kh_types.proofs.CircleNumbers.{position-counted}

-- the least name of a circle has the next number
pub number-least : (circles : List ℕ) (place : ℕ) → AreCircles circles → place + 1 < length circles
    → is_least circles (place + 1) ≡ true → circle_number_at circles (place + 1) ≡ length (names_to circles place)
number-least circles place are within least = grind (arith, nat_tests, eqb-true, position-counted)

-- the circle of any other name is a lesser name
pub circle-lesser : (circles : List ℕ) (place : ℕ) → AreCircles circles → place + 1 < length circles
    → is_least circles (place + 1) ≡ false → slice_index circles (place + 1) < place + 1
circle-lesser circles place are within other = grind (arith, nat_tests)

-- and has the number of that
slice_index-numbers : (circles : List ℕ) (place name : ℕ) → 1 ≤ name → name ≤ place
    → slice_index (numbers_to circles place) name ≡ circle_number_at circles name
slice_index-numbers circles place zero positive within = absurd (omega (arith, positive))
slice_index-numbers circles place (suc k) positive within =
    let next : 1 + k ≡ suc k = omega arith in
    get_or-map (circle_number_at circles) (range_with_len 1 place) k 0 0 (omega (arith, length-range_with_len 1 place, within))
    ∙ ap (circle_number_at circles) (get_or-range_with_len 1 place k 0 (omega (arith, within)) ∙ next)

pub number-other : (circles : List ℕ) (place : ℕ) → AreCircles circles → place + 1 < length circles
    → is_least circles (place + 1) ≡ false
    → circle_number_at circles (place + 1) ≡ slice_index (numbers_to circles place) (slice_index circles (place + 1))
number-other circles place are within other = grind (arith, nat_tests, circle-lesser, slice_index-numbers)

-- one name more
pub count-more : (circles : List ℕ) (place : ℕ)
    → length (names_to circles (place + 1)) ≡ length (names_to circles place) + cond (is_least circles (place + 1)) 1 0
count-more circles place =
    ap length (filter-range_more (is_least circles) 1 place (place + 1) (omega arith))
    ∙ length-append (names_to circles place) (cond (is_least circles (place + 1)) ((place + 1) ∷ []) [])
    ∙ ap (λ n. length (names_to circles place) + n) (one (is_least circles (place + 1)) (place + 1))
  where
    one : (b : Bool) (x : ℕ) → length (cond b (x ∷ []) []) ≡ cond b 1 0
    one true x = refl
    one false x = refl

pub count-within : (circles : List ℕ) (place : ℕ) → length (names_to circles place) ≤ place
count-within circles place = grind (arith, nat_tests, length-filter, count_by-le-length, length-range_with_len)

pub numbers-more : (circles : List ℕ) (place : ℕ)
    → numbers_to circles (place + 1) ≡ numbers_to circles place ++ circle_number_at circles (place + 1) ∷ []
numbers-more circles place = ap (λ xs. 0 ∷ xs) (map_from_one (circle_number_at circles) place)

pub length-numbers_to : (circles : List ℕ) (place : ℕ) → length (numbers_to circles place) ≡ place + 1
length-numbers_to circles place = grind (arith, nat_tests, length-map-range_with_len)

pub ruleset next_number = (number-least, circle-lesser, number-other, count-within, length-numbers_to)

pub ruleset next_count = (count-more, count-within)

pub ruleset all_numbers = (numbers-more, length-numbers_to)
