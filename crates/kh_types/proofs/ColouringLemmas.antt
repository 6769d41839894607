-- Colours that follow the checkerboard equations: they are a solution, and each colour of a class follows from any other.
--
-- Each arc gives one equation modulo 2 between the bits of its two crossings. The walk over the arcs keeps classes of crossings and one
-- solution: where an arc ties two classes it joins them, and turns the colours of one if need be; where it lies within one class, it must
-- hold already, else no choice solves all. For any choice that solves the equations agrees with the colours on all of a class or on none of
-- it (`forced`), so that a contradiction within a class is one for every choice.
use Rattle.std.proofs.Common.{◌≡◌, ℕ, zero, suc, inl, inr, ◌+◌, ◌*◌, ◌/◌, ◌%◌, ◌^◌, ◌<◌, ◌≤◌, ◌∙◌, List, [], ◌∷◌, length, sym, ap, subst, arith, Bool, true, false, true≢false, not, ◌&&◌}
use Rattle.std.specs.Prelude.{Some, None, nat_eq, slice_index}
use Rattle.std.specs.List.{list_all, range_with_len}
use Rattle.std.proofs.Math.Nat.{div-div-eq-div-mul, pow-succ'}
use Rattle.std.proofs.lemmas.Bool.{cases_lt, eqb-true, eq-eqb, false_from_ne_true}
use Rattle.std.proofs.lemmas.Bool.Decides.{nat_tests}
use Rattle.std.proofs.lemmas.List.FromFn.{get_or-map-range_with_len, get_or-range_with_len, length-range_with_len, length-map-range_with_len}
use Rattle.kh_types.specs.declared.acceptance.checkerboard.Equation.{Equation}
use Rattle.kh_types.specs.declared.fault.CodeFault.TheVariants.{Checkerboard}
use Rattle.kh_types.specs.Code.{place_of, IsCrossing}
use Rattle.kh_types.specs.Bits.{bit}
use Rattle.kh_types.specs.Classes.{joined}
use Rattle.kh_types.specs.Checkerboard.{equation_of, is_solved, solves_at, solves_up_to, has_choice}
use Rattle.kh_types.specs.Colouring.{tie_of, is_coloured, is_tied, contradicts, changed_colour, colour_after, colours_after}
use Rattle.kh_types.specs.Acceptance.{checkerboard_at, fault_if}
use Rattle.kh_types.proofs.BitLemmas.{bit-past}
use Rattle.kh_types.proofs.ClassLemmas.{IsOneOnClasses, one_on_joined, slice_index-joined, length-joined, merged-both}
use Rattle.kh_types.proofs.Ranges.{list_any-below, list_any-below_none, list_all-range_prefix, list_all-range_last}
use Rattle.kh_types.proofs.RangeCounts.{list_all-each}

-- whether the bit of a choice and the colour at a place differ
abbrev pub against : ℕ → List ℕ → ℕ → ℕ
against choice colours place = (bit choice place + slice_index colours place) % 2

-- classes and colours follow the equations of the arcs 1 to a: the equations speak of one class each, the colours solve them, and
-- a choice that solves them agrees with the colours on all of a class or on nothing of it
pub record FollowsTo (crossings : List (List ℕ)) (arcs : ℕ) (classes colours : List ℕ) : Type 0 where
  pub class_size : length classes ≡ length crossings
  pub colour_size : length colours ≡ length crossings
  pub tied : (arc : ℕ) → 1 ≤ arc → arc ≤ arcs → is_tied classes (equation_of crossings arc) ≡ true
  pub coloured : (arc : ℕ) → 1 ≤ arc → arc ≤ arcs → is_coloured colours (equation_of crossings arc) ≡ true
  pub forced : (choice : ℕ) → solves_up_to crossings arcs choice ≡ true
      → IsOneOnClasses (against choice colours) (length crossings) classes

-- the equations speak of crossings
abbrev pub AreOfCrossings : List (List ℕ) → ℕ → Type 0
AreOfCrossings crossings arcs = (arc : ℕ) → 1 ≤ arc → arc ≤ arcs
    → (place_of (equation_of crossings arc).crossing < length crossings) × (place_of (equation_of crossings arc).other < length crossings)

pub AreOfCrossings-more : (crossings : List (List ℕ)) (arcs arc : ℕ) (equation : Equation) → AreOfCrossings crossings arcs
    → arcs + 1 ≡ arc → equation ≡ equation_of crossings arc → IsCrossing crossings equation.crossing
    → IsCrossing crossings equation.other → AreOfCrossings crossings arc
AreOfCrossings-more crossings arcs arc equation are is_arc is_equation first second = grind (arith, nat_tests)

pub FollowsTo-none : (crossings : List (List ℕ)) (colours : List ℕ) → length colours ≡ length crossings
    → FollowsTo crossings 0 (range_with_len 0 (length crossings)) colours
FollowsTo-none crossings colours size = record {
  class_size = length-range_with_len 0 (length crossings);
  colour_size = size;
  tied = λ arc from below. absurd (omega (arith, from, below));
  coloured = λ arc from below. absurd (omega (arith, from, below));
  forced = λ choice solved x y x_below y_below same. ap (against choice colours)
      (sym (get_or-range_with_len 0 (length crossings) x 0 x_below ∙ omega arith) ∙ same
      ∙ get_or-range_with_len 0 (length crossings) y 0 y_below ∙ omega arith);
}

-- what an equation does to two colours

odd_kept : (turns : Bool) (x y s : ℕ) → nat_eq ((x + (y + s)) % 2) 1 ≡ true
    → nat_eq ((changed_colour turns x + (changed_colour turns y + s)) % 2) 1 ≡ true
odd_kept turns x y s odd = grind (arith, nat_tests)

odd_made : (is : Bool) (u v x y s : ℕ) → nat_eq ((x + (y + s)) % 2) 1 ≡ is → (not is && nat_eq u v) ≡ false
    → nat_eq ((changed_colour (not is && nat_eq u v) x + (changed_colour (not is && nat_eq v v) y + s)) % 2) 1 ≡ true
odd_made is u v x y s odd apart = grind (arith, nat_tests)

against_kept : (turns : Bool) (a b x y : ℕ) → (a + x) % 2 ≡ (b + y) % 2
    → (a + changed_colour turns x) % 2 ≡ (b + changed_colour turns y) % 2
against_kept turns a b x y same = grind (arith, nat_tests)

against_both : (a b x y s : ℕ) → nat_eq ((a + (b + s)) % 2) 1 ≡ true → nat_eq ((x + (y + s)) % 2) 1 ≡ true
    → (a + x) % 2 ≡ (b + y) % 2
against_both a b x y s solved odd = grind (arith, nat_tests)

-- the colours after an equation, place by place
slice_index-after : (classes colours : List ℕ) (equation : Equation) (n place : ℕ) → length colours ≡ n → place < n
    → slice_index (colours_after classes colours equation) place ≡ colour_after classes colours equation place
slice_index-after classes colours equation n place size below = grind (arith, nat_tests, get_or-map-range_with_len)

-- an equation that was solved before stays solved
coloured-kept : (classes colours : List ℕ) (equation other : Equation) (n : ℕ) → length colours ≡ n
    → place_of other.crossing < n → place_of other.other < n → is_tied classes other ≡ true → is_coloured colours other ≡ true
    → is_coloured (colours_after classes colours equation) other ≡ true
coloured-kept classes colours equation other n size first_below other_below tied coloured =
    grind (arith, nat_tests, tied, coloured, eqb-true, slice_index-after, odd_kept)

-- an equation that contradicts none before it is solved after it
coloured-made : (classes colours : List ℕ) (equation : Equation) (n : ℕ) → length colours ≡ n
    → place_of equation.crossing < n → place_of equation.other < n → contradicts classes colours equation ≡ false
    → is_coloured (colours_after classes colours equation) equation ≡ true
coloured-made classes colours equation n size first_below other_below free = grind (arith, nat_tests, slice_index-after, odd_made)

-- numbers of one class stay in one class
tied-kept : (classes : List ℕ) (pair : ℕ × ℕ) (x y n : ℕ) → length classes ≡ n → x < n → y < n
    → nat_eq (slice_index classes x) (slice_index classes y) ≡ true
    → nat_eq (slice_index (joined classes pair) x) (slice_index (joined classes pair) y) ≡ true
tied-kept classes pair x y n size x_below y_below tied = grind (arith, nat_tests, tied, eqb-true, eq-eqb, slice_index-joined)

-- the two crossings of the new equation come into one class
tied-made : (classes : List ℕ) (pair : ℕ × ℕ) (n : ℕ) → length classes ≡ n → pair.0 < n → pair.1 < n
    → nat_eq (slice_index (joined classes pair) pair.0) (slice_index (joined classes pair) pair.1) ≡ true
tied-made classes pair n size first_below second_below = grind (arith, nat_tests, eq-eqb, slice_index-joined, merged-both)

-- a choice that agrees with the colours on a class agrees with the changed colours there
forced-kept : (classes colours : List ℕ) (equation : Equation) (choice n : ℕ) → length colours ≡ n
    → IsOneOnClasses (against choice colours) n classes
    → IsOneOnClasses (against choice (colours_after classes colours equation)) n classes
forced-kept classes colours equation choice n size one x y x_below y_below same = grind (arith, nat_tests, slice_index-after, against_kept)

-- one arc more
pub FollowsTo-more : (crossings : List (List ℕ)) (arcs arc : ℕ) (equation : Equation) (classes colours : List ℕ)
    → FollowsTo crossings arcs classes colours → AreOfCrossings crossings arc → arcs + 1 ≡ arc
    → equation ≡ equation_of crossings arc → contradicts classes colours equation ≡ false
    → FollowsTo crossings arc (joined classes (tie_of equation)) (colours_after classes colours equation)
FollowsTo-more crossings arcs arc equation classes colours follows are is_arc is_equation free =
    let n = length crossings in
    let here : (place_of equation.crossing < n) × (place_of equation.other < n) =
    subst (λ (e : Equation). (place_of e.crossing < n) × (place_of e.other < n)) (sym is_equation)
    (are arc (omega (arith, is_arc)) (omega (arith, is_arc))) in
    let made = coloured-made classes colours equation n follows.colour_size here.0 here.1 free in
    record {
      class_size = length-joined classes (tie_of equation) ∙ follows.class_size;
      colour_size = length-map-range_with_len (colour_after classes colours equation) 0 (length colours) ∙ follows.colour_size;
      tied = λ other from within. elim (cases_lt other arc) [
        | inl earlier ↦
            let place = are other from (omega (arith, is_arc, within)) in
            tied-kept classes (tie_of equation) (place_of (equation_of crossings other).crossing)
            (place_of (equation_of crossings other).other) n follows.class_size place.0 place.1
            (follows.tied other from (omega (arith, is_arc, earlier)))
        | inr last ↦
            let same : equation ≡ equation_of crossings other = is_equation ∙ ap (equation_of crossings) (omega (arith, within, last)) in
            subst (λ (e : Equation). is_tied (joined classes (tie_of equation)) e ≡ true) same
            (tied-made classes (tie_of equation) n follows.class_size here.0 here.1)
      ];
      coloured = λ other from within. elim (cases_lt other arc) [
        | inl earlier ↦
            let place = are other from (omega (arith, is_arc, within)) in
            let before : other ≤ arcs = omega (arith, is_arc, earlier) in
            coloured-kept classes colours equation (equation_of crossings other) n follows.colour_size place.0 place.1
            (follows.tied other from before) (follows.coloured other from before)
        | inr last ↦
            let same : equation ≡ equation_of crossings other = is_equation ∙ ap (equation_of crossings) (omega (arith, within, last)) in
            subst (λ (e : Equation). is_coloured (colours_after classes colours equation) e ≡ true) same made
      ];
      forced = λ choice solved.
          let before : solves_up_to crossings arcs choice ≡ true =
          list_all-range_prefix (solves_at crossings choice) 1 arcs arc (omega (arith, is_arc)) solved in
          let now : is_solved choice equation ≡ true =
          ap (is_solved choice) is_equation
          ∙ list_all-range_last (solves_at crossings choice) 1 arcs arc (omega (arith, is_arc)) (ap (λ m. list_all (solves_at crossings choice) (range_with_len 1 m)) is_arc ∙ solved) in
          let both : against choice (colours_after classes colours equation) (place_of equation.crossing)
          ≡ against choice (colours_after classes colours equation) (place_of equation.other) =
          against_both (bit choice (place_of equation.crossing)) (bit choice (place_of equation.other))
          (slice_index (colours_after classes colours equation) (place_of equation.crossing))
          (slice_index (colours_after classes colours equation) (place_of equation.other)) equation.slots now made in
          one_on_joined (against choice (colours_after classes colours equation)) n classes (tie_of equation) follows.class_size
          here.0 here.1 both (forced-kept classes colours equation choice n follows.colour_size (follows.forced choice before));
    }

-- no choice

never_odd : (a b x y s : ℕ) → nat_eq ((a + (b + s)) % 2) 1 ≡ true → (a + x) % 2 ≡ (b + y) % 2
    → nat_eq ((x + (y + s)) % 2) 1 ≡ true
never_odd a b x y s solved agree = eq-eqb ((x + (y + s)) % 2) 1 (omega (arith, eqb-true ((a + (b + s)) % 2) 1 solved, agree))

both_true : (coloured tied : Bool) → (not coloured && tied) ≡ true → (coloured ≡ false) × (tied ≡ true)
both_true coloured tied holds = grind (arith, nat_tests)

pub FollowsTo-fault : (crossings : List (List ℕ)) (arcs arc : ℕ) (equation : Equation) (classes colours : List ℕ)
    → FollowsTo crossings arcs classes colours → AreOfCrossings crossings arc → arcs + 1 ≡ arc
    → equation ≡ equation_of crossings arc → contradicts classes colours equation ≡ true
    → checkerboard_at crossings arc ≡ Some (Checkerboard arc)
FollowsTo-fault crossings arcs arc equation classes colours follows are is_arc is_equation against_all =
    let n = length crossings in
    let here : (place_of equation.crossing < n) × (place_of equation.other < n) =
    subst (λ (e : Equation). (place_of e.crossing < n) × (place_of e.other < n)) (sym is_equation)
    (are arc (omega (arith, is_arc)) (omega (arith, is_arc))) in
    let known = both_true (is_coloured colours equation) (is_tied classes equation) against_all in
    let never : (choice : ℕ) → solves_up_to crossings arc choice ≡ true → ⊥ = λ choice solved.
    let before : solves_up_to crossings arcs choice ≡ true =
    list_all-range_prefix (solves_at crossings choice) 1 arcs arc (omega (arith, is_arc)) solved in
    let now : is_solved choice equation ≡ true =
    ap (is_solved choice) is_equation
    ∙ list_all-range_last (solves_at crossings choice) 1 arcs arc (omega (arith, is_arc)) (ap (λ m. list_all (solves_at crossings choice) (range_with_len 1 m)) is_arc ∙ solved) in
    let agree = follows.forced choice before (place_of equation.crossing) (place_of equation.other) here.0 here.1
    (eqb-true (slice_index classes (place_of equation.crossing)) (slice_index classes (place_of equation.other)) known.1) in
    true≢false
    (sym (never_odd (bit choice (place_of equation.crossing)) (bit choice (place_of equation.other))
    (slice_index colours (place_of equation.crossing)) (slice_index colours (place_of equation.other)) equation.slots now agree)
    ∙ known.0) in
    let none : has_choice crossings arc ≡ false =
    list_any-below_none (solves_up_to crossings arc) (2 ^ length crossings)
    (λ choice below. false_from_ne_true (solves_up_to crossings arc choice) (never choice)) in
    ap (λ b. fault_if (not b) (Checkerboard arc)) none

-- the colours as a choice

number_of : List ℕ → ℕ
number_of [] = 0
number_of (colour ∷ colours) = colour % 2 + 2 * number_of colours

number_of-below : (colours : List ℕ) → number_of colours < 2 ^ length colours
unfolding number_of
number_of-below [] = omega arith
number_of-below (colour ∷ colours) =
    let twice : 2 ^ length (colour ∷ colours) ≡ 2 * 2 ^ length colours = pow-succ' 2 (length colours) in
    omega (arith, number_of-below colours, twice)

bit-number_of : (colours : List ℕ) (place : ℕ) → bit (number_of colours) place ≡ slice_index colours place % 2
unfolding number_of
bit-number_of [] place = bit-past 0 place 0 (omega arith) (omega arith)
bit-number_of (colour ∷ colours) zero = omega arith
bit-number_of (colour ∷ colours) (suc place) =
    let double = colour % 2 + 2 * number_of colours in
    let half : double / 2 ≡ number_of colours = omega arith in
    ap (λ power. double / power % 2) (pow-succ' 2 place) ∙ ap (λ z. z % 2) (sym (div-div-eq-div-mul double 2 (2 ^ place)))
    ∙ ap (λ z. z / 2 ^ place % 2) half ∙ bit-number_of colours place

odd_of_bits : (a b x y s : ℕ) → a ≡ x % 2 → b ≡ y % 2 → nat_eq ((x + (y + s)) % 2) 1 ≡ true → nat_eq ((a + (b + s)) % 2) 1 ≡ true
odd_of_bits a b x y s is_a is_b odd = grind (arith, nat_tests)

pub FollowsTo-fine : (crossings : List (List ℕ)) (arcs : ℕ) (classes colours : List ℕ) → FollowsTo crossings arcs classes colours
    → checkerboard_at crossings arcs ≡ None
FollowsTo-fine crossings arcs classes colours follows =
    let choice = number_of colours in
    let below : choice < 2 ^ length crossings =
    subst (λ n. choice < 2 ^ n) follows.colour_size (number_of-below colours) in
    let solves : solves_up_to crossings arcs choice ≡ true =
    list_all-each (solves_at crossings choice) 1 arcs (λ arc from within.
    let equation = equation_of crossings arc in
    odd_of_bits (bit choice (place_of equation.crossing)) (bit choice (place_of equation.other))
    (slice_index colours (place_of equation.crossing)) (slice_index colours (place_of equation.other)) equation.slots
    (bit-number_of colours (place_of equation.crossing)) (bit-number_of colours (place_of equation.other))
    (follows.coloured arc from (omega (arith, within)))) in
    let some : has_choice crossings arcs ≡ true =
    list_any-below (solves_up_to crossings arcs) (2 ^ length crossings) choice below solves in
    ap (λ b. fault_if (not b) (Checkerboard arcs)) some
