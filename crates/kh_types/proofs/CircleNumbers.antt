-- The numbers of circles, by counting.
--
-- A circle's number is its place among the least numbers of all circles, in ascending order: so it is how many circles have a lesser name
-- (`position-counted`). From this count follow all the facts below: numbers are below the number of circles, the list of names has the
-- circle's at that place, the order of numbers is that of names, and two circles with one number are one.
use Rattle.std.proofs.lemmas.Bool.Decides.{nat_tests}
use Rattle.std.proofs.Common.{◌≡◌, ℕ, ◌⊎◌, inl, inr, ◌+◌, ◌-◌, ◌<◌, ◌≤◌, ◌∙◌, List, ◌∷◌, ◌++◌, sym, ap, length, arith, cond, IsTrue}
use Rattle.std.specs.Prelude.{nat_eq, slice_index, min, max}
use Rattle.std.specs.List.{filter, position_or_len, range_with_len}
use Rattle.std.proofs.lemmas.Bool.{eq-eqb}
use Rattle.std.proofs.Math.Seq.{get_or-append_seam}
use Rattle.std.proofs.lemmas.List.{length-append}
use Rattle.std.proofs.lemmas.List.Elements.{filter-append}
use Rattle.kh_types.specs.Acceptance.{accepted}
use Rattle.kh_types.specs.Classes.{is_least}
use Rattle.kh_types.specs.Code.{IsArc, Code, arc_count}
use Rattle.kh_types.specs.Circles.{circles_of, circle_count, circle_names}
use Rattle.kh_types.proofs.Ranges.{range_around}
use Rattle.kh_types.specs.CircleNumbers.{names_to, IsName, number_of}
use Rattle.kh_types.proofs.CircleCycles.{IsNamed-circles}
use Rattle.kh_types.proofs.EdgeNames.{circle-positive}
use Rattle.kh_types.proofs.FilteredRanges.{position-behind}

-- a circle, which is named by its least number, among the numbers 1 to `most`
pub record IsNameOf (circles : List ℕ) (most circle : ℕ) : Type 0 where
  pub positive : 1 ≤ circle
  pub within : circle ≤ most
  pub own : slice_index circles circle ≡ circle

-- how many circles have a lesser name
abbrev pub lesser_in : List ℕ → ℕ → ℕ
lesser_in circles circle = length (names_to circles (circle - 1))

-- the names up to a number, about one of them
names-around : (circles : List ℕ) (circle last : ℕ) → IsNameOf circles last circle
    → names_to circles last
    ≡ names_to circles (circle - 1) ++ circle ∷ filter (is_least circles) (range_with_len (circle + 1) (last - (circle - 1 + 1)))
names-around circles circle last is =
    let p = is_least circles in
    let front = range_with_len 1 (circle - 1) in
    let back = range_with_len (circle + 1) (last - (circle - 1 + 1)) in
    ap (λ xs. filter p xs)
    (range_around 1 last (circle - 1) circle (omega (arith, is.positive, is.within)) (omega (arith, is.positive)))
    ∙ filter-append p front (circle ∷ back)
    ∙ ap (λ b. filter p front ++ cond b (circle ∷ filter p back) (filter p back)) (eq-eqb (slice_index circles circle) circle is.own)

-- so they are as many as the lesser, and at least one more
lesser-names : (circles : List ℕ) (circle last : ℕ) → IsNameOf circles last circle
    → lesser_in circles circle < length (names_to circles last)
lesser-names circles circle last is =
    let back = filter (is_least circles) (range_with_len (circle + 1) (last - (circle - 1 + 1))) in
    omega (
      arith,
      ap length (names-around circles circle last is),
      length-append (names_to circles (circle - 1)) (circle ∷ back),
    )

-- the place of a circle among the names is how many have a lesser name
pub position-counted : (circles : List ℕ) (most circle : ℕ) → IsNameOf circles most circle
    → position_or_len (nat_eq circle) (names_to circles most) ≡ lesser_in circles circle
position-counted circles most circle is =
    ap (λ xs. position_or_len (nat_eq circle) xs) (names-around circles circle most is)
    ∙ position-behind (is_least circles) 1 (circle - 1) circle
    (filter (is_least circles) (range_with_len (circle + 1) (most - (circle - 1 + 1)))) (omega (arith, is.positive))

-- the same of the circles of a state

abbrev pub IsCircle : Code → ℕ → ℕ → Type 0
IsCircle code state circle = IsNameOf (circles_of code state) (arc_count code.crossings + code.loops) circle

abbrev pub lesser : Code → ℕ → ℕ → ℕ
lesser code state circle = lesser_in (circles_of code state) circle

pub IsCircle-of : (code : Code) (state name : ℕ) → IsTrue (accepted code) → IsName code name
    → IsCircle code state (slice_index (circles_of code state) name)
IsCircle-of code state name is is_name =
    let named = IsNamed-circles code state is in
    let below : name < arc_count code.crossings + code.loops + 1 = omega (arith, is_name.within) in
    record {
      positive = circle-positive code state name is is_name.positive below;
      within = omega (arith, named.least name below, is_name.within);
      own = named.own name below;
    }

pub number_of-counted : (code : Code) (state circle : ℕ) → IsCircle code state circle
    → number_of code state circle ≡ lesser code state circle
number_of-counted code state circle = position-counted (circles_of code state) (arc_count code.crossings + code.loops) circle

pub number_of-below : (code : Code) (state circle : ℕ) → IsCircle code state circle
    → number_of code state circle < circle_count code state
number_of-below code state circle is =
    omega (
      arith,
      number_of-counted code state circle is,
      lesser-names (circles_of code state) circle (arc_count code.crossings + code.loops) is,
    )

-- the names have that of a circle at its number
pub circle_names-number_of : (code : Code) (state circle : ℕ) → IsCircle code state circle
    → slice_index (circle_names code state) (number_of code state circle) ≡ circle
circle_names-number_of code state circle is =
    let most = arc_count code.crossings + code.loops in
    let circles = circles_of code state in
    let front = names_to circles (circle - 1) in
    ap (λ n. slice_index (circle_names code state) n) (number_of-counted code state circle is)
    ∙ ap (λ xs. slice_index xs (length front)) (names-around circles circle most is)
    ∙ get_or-append_seam front circle (filter (is_least circles) (range_with_len (circle + 1) (most - (circle - 1 + 1)))) 0

-- numbers are in the order of names
pub number_of-order : (code : Code) (state circle other : ℕ) → IsCircle code state circle → IsCircle code state other
    → circle < other → number_of code state circle < number_of code state other
number_of-order code state circle other is other_is order =
    omega (
      arith,
      number_of-counted code state circle is,
      number_of-counted code state other other_is,
      lesser-names (circles_of code state) circle (other - 1)
          (record { positive = is.positive; within = omega (arith, order); own = is.own }),
    )

pub number_of-one : (code : Code) (state circle other : ℕ) → IsCircle code state circle → IsCircle code state other
    → number_of code state circle ≡ number_of code state other → circle ≡ other
number_of-one code state circle other is other_is same =
    sym (circle_names-number_of code state circle is) ∙ ap (λ n. slice_index (circle_names code state) n) same
    ∙ circle_names-number_of code state other other_is

-- the lesser and the greater of two circles, and of their numbers

in_some_order : (x y : ℕ) → ((x ≤ y) × (min x y ≡ x) × (max x y ≡ y)) ⊎ ((y < x) × (min x y ≡ y) × (max x y ≡ x))
in_some_order x y = grind arith

pub IsCircle-min : (code : Code) (state x y : ℕ) → IsCircle code state x → IsCircle code state y → IsCircle code state (min x y)
IsCircle-min code state x y x_is y_is = grind (arith, nat_tests)

pub IsCircle-max : (code : Code) (state x y : ℕ) → IsCircle code state x → IsCircle code state y → IsCircle code state (max x y)
IsCircle-max code state x y x_is y_is = grind (arith, nat_tests)

number_of-le : (code : Code) (state circle other : ℕ) → IsCircle code state circle → IsCircle code state other
    → circle ≤ other → number_of code state circle ≤ number_of code state other
number_of-le code state circle other is other_is order = elim (same_or_less circle other order) [
  | inl same ↦ omega (arith, ap (number_of code state) same)
  | inr less ↦ omega (arith, number_of-order code state circle other is other_is less)
]
  where
    same_or_less : (x y : ℕ) → x ≤ y → (x ≡ y) ⊎ (x < y)
    same_or_less x y order = grind arith

pub number_of-min : (code : Code) (state x y : ℕ) → IsCircle code state x → IsCircle code state y
    → number_of code state (min x y) ≡ min (number_of code state x) (number_of code state y)
number_of-min code state x y x_is y_is = elim (in_some_order x y) [
  | inl up ↦ ap (number_of code state) up.1 ∙ omega (arith, number_of-le code state x y x_is y_is up.0)
  | inr down ↦ ap (number_of code state) down.1 ∙ omega (arith, number_of-order code state y x y_is x_is down.0)
]

pub number_of-max : (code : Code) (state x y : ℕ) → IsCircle code state x → IsCircle code state y
    → number_of code state (max x y) ≡ max (number_of code state x) (number_of code state y)
number_of-max code state x y x_is y_is = elim (in_some_order x y) [
  | inl up ↦ ap (number_of code state) up.2 ∙ omega (arith, number_of-le code state x y x_is y_is up.0)
  | inr down ↦ ap (number_of code state) down.2 ∙ omega (arith, number_of-order code state y x y_is x_is down.0)
]

pub IsName-arc : (code : Code) (arc : ℕ) → IsArc code.crossings arc → IsName code arc
IsName-arc code arc is = record { positive = is.positive; within = omega (arith, is.within) }
