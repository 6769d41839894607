-- The numbers below 2 to the number of circles are the labels of circles, each once.
--
-- A label is a number whose bits are the labels of the circles, in the order of their names. Each circle has a place there, so two numbers
-- with the same bits on all circles are one, and any choice of 0 or 1 for each circle is a number. So a sum over labels that picks one
-- choice has one term.
use Rattle.std.proofs.lemmas.Bool.Decides.{nat_tests}
use Rattle.std.proofs.Common.{◌≡◌, ◌≢◌, ℕ, zero, suc, ◌+◌, ◌*◌, ◌/◌, ◌^◌, ◌<◌, ◌≤◌, ◌∙◌, List, [], ◌∷◌, length, get_or, map, sym, ap, subst, arith, Bool, cond, IsTrue}
use Rattle.std.specs.Prelude.{nat_eq}
use Rattle.std.specs.List.{All, filter, range_with_len, position_or_len, sum_by}
use Rattle.std.proofs.lemmas.Bool.{eqb-true}
use Rattle.std.proofs.lemmas.List.{get_or-map, length-map}
use Rattle.std.proofs.lemmas.List.Elements.{All-filter, filter_passes}
use Rattle.std.proofs.lemmas.List.FromFn.{length-range_with_len, get_or-range_with_len}
use Rattle.std.proofs.lemmas.Nat.Bits.{same_from_bits_below, bit_at_lowest, bit_at-suc}
use Rattle.kh_types.specs.Acceptance.{accepted}
use Rattle.kh_types.specs.Bits.{bit, ones}
use Rattle.kh_types.specs.Code.{Code}
use Rattle.kh_types.specs.Circles.{circle_count, circle_names}
use Rattle.kh_types.specs.Differential.{label_of}
use Rattle.kh_types.specs.Generators.{Generator, generator_of}
use Rattle.kh_types.specs.CircleNumbers.{IsName, number_of}
use Rattle.kh_types.proofs.CircleNumbers.{IsCircle, IsCircle-of, circle_names-number_of, number_of-below}
use Rattle.square_laws.proofs.Merges.{circle_in}
use Rattle.kh_types.proofs.ListSums.{sum_by-places, sum_by-range_alike, sum_by-single}

-- the numbers of a range that pass a test stand there once: each is found at its own place
from-filter : (p : ℕ → Bool) (a n i d : ℕ) → i < length (filter p (range_with_len a n))
    → (a ≤ get_or (filter p (range_with_len a n)) i d) × (get_or (filter p (range_with_len a n)) i d < a + n)
from-filter p a n i d within =
    All-filter p (λ x. (a ≤ x) × (x < a + n)) (range_with_len a n)
    (λ k e below.
    let k_below : k < n = omega (arith, below, length-range_with_len a n) in
    let is = get_or-range_with_len a n k e k_below in (omega arith, omega arith)) i d within

abbrev place_in : List ℕ → ℕ → ℕ
place_in xs x = position_or_len (nat_eq x) xs

place-filter : (p : ℕ → Bool) (a n i : ℕ) → i < length (filter p (range_with_len a n))
    → place_in (filter p (range_with_len a n)) (get_or (filter p (range_with_len a n)) i 0) ≡ i
place-filter p a zero i within = absurd (omega arith)
place-filter p a (suc n) i within =
    step (p a) (filter p (range_with_len (a + 1) n)) (λ k k_within. (from-filter p (a + 1) n k 0 k_within).0)
    (place-filter p (a + 1) n) i within
  where
    step : (b : Bool) (rest : List ℕ) → ((k : ℕ) → k < length rest → a + 1 ≤ get_or rest k 0)
        → ((k : ℕ) → k < length rest → place_in rest (get_or rest k 0) ≡ k) → (i : ℕ) → i < length (cond b (a ∷ rest) rest)
        → place_in (cond b (a ∷ rest) rest) (get_or (cond b (a ∷ rest) rest) i 0) ≡ i
    step b rest from place i within = grind (arith, nat_tests)

-- the circle with a number
abbrev pub name_at : Code → ℕ → ℕ → ℕ
name_at code state i = get_or (circle_names code state) i 0

pub IsName-names : (code : Code) (state : ℕ) → All (IsName code) (circle_names code state)
IsName-names code state = grind (arith, nat_tests, from-filter)

pub IsName-name_at : (code : Code) (state i : ℕ) → i < circle_count code state → IsName code (name_at code state i)
IsName-name_at code state i within = IsName-names code state i 0 within

pub circle-name_at : (code : Code) (state i : ℕ) → i < circle_count code state
    → circle_in code state (name_at code state i) ≡ name_at code state i
circle-name_at code state i within = grind (arith, nat_tests, eqb-true, circle_in, filter_passes)

pub number_of-name_at : (code : Code) (state i : ℕ) → i < circle_count code state → number_of code state (name_at code state i) ≡ i
number_of-name_at code state i within = grind (arith, nat_tests, place-filter)

pub label_of-name_at : (code : Code) (generator : Generator) (i : ℕ) → i < circle_count code generator.state
    → label_of code generator (name_at code generator.state i) ≡ bit generator.label i
label_of-name_at code generator i within =
    grind (arith, nat_tests, circle-name_at code generator.state i within, number_of-name_at code generator.state i within)

-- labels that are the same on all circles have one number
pub label-once : (code : Code) (state first second : ℕ) → first < 2 ^ circle_count code state → second < 2 ^ circle_count code state
    → ((arc : ℕ) → IsName code arc → label_of code (generator_of state first) arc ≡ label_of code (generator_of state second) arc)
    → first ≡ second
label-once code state first second first_below second_below same =
    same_from_bits_below (circle_count code state) first second first_below second_below
    (λ i within.
    sym (label_of-name_at code (generator_of state first) i within)
    ∙ same (name_at code state i) (IsName-name_at code state i within)
    ∙ label_of-name_at code (generator_of state second) i within)

-- the number with some bits
abbrev pub number_from : List ℕ → ℕ
number_from [] = 0
number_from (b ∷ bs) = b + 2 * number_from bs

pub number_from-below : (bs : List ℕ) → ((i : ℕ) → i < length bs → get_or bs i 0 ≤ 1) → number_from bs < 2 ^ length bs
number_from-below [] small = omega arith
number_from-below (b ∷ bs) small =
    let first : b ≤ 1 = small 0 (omega arith) in
    let rest = number_from-below bs (λ i within. small (suc i) (omega arith)) in
    let e : 2 ^ suc (length bs) ≡ 2 * 2 ^ length bs = omega arith in
    omega arith

pub bit-number_from : (bs : List ℕ) (i : ℕ) → ((i : ℕ) → i < length bs → get_or bs i 0 ≤ 1) → i < length bs
    → bit (number_from bs) i ≡ get_or bs i 0
bit-number_from [] i small within = absurd (omega arith)
bit-number_from (b ∷ bs) zero small within = bit_at_lowest (b + 2 * number_from bs) ∙ omega (arith, small 0 within)
bit-number_from (b ∷ bs) (suc i) small within =
    let first : b ≤ 1 = small 0 (omega arith) in
    let half : (b + 2 * number_from bs) / 2 ≡ number_from bs = omega arith in
    bit_at-suc (b + 2 * number_from bs) i ∙ ap (λ m. bit m i) half
    ∙ bit-number_from bs i (λ k inside. small (suc k) (omega arith)) (omega arith)

-- labels 0 and 1, one for each circle, have a number
pub label-exists : (code : Code) (state : ℕ) (label : ℕ → ℕ) → IsTrue (accepted code)
    → ((arc : ℕ) → IsName code arc → label arc ≤ 1)
    → ((x y : ℕ) → circle_in code state x ≡ circle_in code state y → label x ≡ label y)
    → (number : ℕ) × (number < 2 ^ circle_count code state)
    × ((arc : ℕ) → IsName code arc → label_of code (generator_of state number) arc ≡ label arc)
label-exists code state label is small one =
    let names = circle_names code state in
    let bits = map label names in
    let size : length bits ≡ length names = length-map names label in
    let at : (i : ℕ) → i < length names → get_or bits i 0 ≡ label (get_or names i 0) =
    λ i within. get_or-map label names i 0 0 within in
    let bits_small : (i : ℕ) → i < length bits → get_or bits i 0 ≤ 1 =
    λ i inside.
    let within : i < length names = omega arith in
    omega (arith, at i within, small (get_or names i 0) (IsName-name_at code state i within)) in (
      number_from bits,
      subst (λ (k : ℕ). number_from bits < 2 ^ k) size (number_from-below bits bits_small),
      λ arc name.
          let circle = IsCircle-of code state arc is name in
          let c = circle_in code state arc in
          let k = number_of code state c in
          let within = number_of-below code state c circle in
          bit-number_from bits k bits_small (omega arith) ∙ at k within ∙ ap label (circle_names-number_of code state c circle)
          ∙ one c arc circle.own,
    )

-- a sum over the circles of which one counts
pub sum_by-names : (code : Code) (state : ℕ) (f : ℕ → ℕ) (circle : ℕ) → IsCircle code state circle
    → ((name : ℕ) → circle_in code state name ≡ name → name ≢ circle → f name ≡ 0) → sum_by f (circle_names code state) ≡ f circle
sum_by-names code state f circle is none =
    sum_by-places f (circle_names code state) 0
    ∙ sum_by-single (λ i. f (name_at code state i)) 0 (circle_count code state) (number_of code state circle) (omega arith)
    (omega (arith, number_of-below code state circle is))
    (λ i from below other.
    let within : i < circle_count code state = omega arith in
    none (name_at code state i) (circle-name_at code state i within)
    (λ same. other (sym (number_of-name_at code state i within) ∙ ap (number_of code state) same)))
    ∙ ap f (circle_names-number_of code state circle is)

-- how many labels are 1
pub ones-labels : (code : Code) (generator : Generator)
    → ones (circle_count code generator.state) generator.label
    ≡ sum_by (label_of code generator) (circle_names code generator.state)
ones-labels code generator =
    sum_by-range_alike (bit generator.label) (λ i. label_of code generator (name_at code generator.state i)) 0
    (circle_count code generator.state) (λ i from below. sym (label_of-name_at code generator i (omega arith)))
    ∙ sym (sum_by-places (label_of code generator) (circle_names code generator.state) 0)
