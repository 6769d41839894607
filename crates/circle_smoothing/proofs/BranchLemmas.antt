-- States on a branch: how many are counted at a place, and what is counted where the branch parts in two. On a branch the
-- smoothings of some crossings are chosen; a state of the other crossings is counted by its ones and by how many classes the
-- joins take away. Twice a state and a bit more is a state with that smoothing at the first crossing and the old ones behind it.
-- So it is counted where the rest is on the branch with this smoothing, and as the states are the even numbers and the odd ones,
-- the count of a branch is the sum of those of its two parts. Where no crossing is left, there is one state, and the entry at its
-- place goes up by one. Other parts are of the two joins of a smoothing, and of what is left behind the first crossing.
use Rattle.std.proofs.lemmas.Bool.Decides.{nat_tests}
use Rattle.std.proofs.Common.{◌≡◌, ℕ, zero, suc, ◌+◌, ◌-◌, ◌*◌, ◌^◌, ◌<◌, ◌≤◌, ◌∙◌, List, [], ◌∷◌, ◌++◌, map, length, get_or, ap, ap₂, sym, subst, refl, arith, Bool, cond, inl, inr, eq-eqb}
use Rattle.std.proofs.lemmas.Bool.{ne_eqb}
use Rattle.std.specs.Prelude.{nat_eq, slice_index}
use Rattle.std.specs.List.{count_by, enumerate_from, flat_map, fold, range_with_len, sum_by}
use Rattle.std.proofs.Math.ListN.{set}
use Rattle.std.proofs.Math.Nat.{div-div-eq-div-mul, two-pow-succ}
use Rattle.std.proofs.Math.Path.{fun_ext}
use Rattle.std.proofs.lemmas.Bool.{cases_eq}
use Rattle.std.proofs.lemmas.List.{get_or-set_same, get_or-set_other}
use Rattle.std.proofs.lemmas.List.FromFn.{fill_by_all, length-range_with_len}
use Rattle.std.proofs.lemmas.List.Sums.{count_by-le-length, fold-append, sum_by-cons}
use Rattle.std.proofs.lemmas.Nat.{pow-add}
use Rattle.kh_types.specs.Bits.{bit, ones}
use Rattle.kh_types.specs.Circles.{smoothing_of, smoothings_of}
use Rattle.kh_types.specs.Classes.{class_count, joined}
use Rattle.kh_types.proofs.Ranges.{count_by-range_more}
use Rattle.kh_types.specs.Code.{arc_in}
use Rattle.circle_smoothing.specs.Branches.{HasArcsBelow, HaveArcsBelow, LeavesCrossings, branch_count, count_place, place_on_branch}
use Rattle.circle_smoothing.specs.declared.branches.Branch.{Branch}
use Rattle.circle_smoothing.specs.declared.branches.TheConstants.{MEMBERS}

-- the bits of twice a number and one bit more
bit-doubled_first : (state b : ℕ) → b ≤ 1 → bit (2 * state + b) 0 ≡ b
bit-doubled_first state b few = omega (arith, few)

bit-doubled_later : (state b place : ℕ) → b ≤ 1 → bit (2 * state + b) (place + 1) ≡ bit state place
bit-doubled_later state b place few = grind (arith, nat_tests, pow-add 2 place 1, div-div-eq-div-mul (2 * state + b) 2 (2 ^ place))

ones-doubled_later : (state b from count : ℕ) → b ≤ 1
    → sum_by (bit (2 * state + b)) (range_with_len (from + 1) count) ≡ sum_by (bit state) (range_with_len from count)
ones-doubled_later state b from zero few = refl
ones-doubled_later state b from (suc count) few =
    sum_by-cons (bit (2 * state + b)) (from + 1) (range_with_len (from + 1 + 1) count)
    ∙ ap₂ (λ x y. x + y) (bit-doubled_later state b from few) (ones-doubled_later state b (from + 1) count few)
    ∙ sym (sum_by-cons (bit state) from (range_with_len (from + 1) count))

ones-doubled : (state b count : ℕ) → b ≤ 1 → ones (suc count) (2 * state + b) ≡ b + ones count state
ones-doubled state b count few =
    sum_by-cons (bit (2 * state + b)) 0 (range_with_len 1 count)
    ∙ ap₂ (λ x y. x + y) (bit-doubled_first state b few) (ones-doubled_later state b 0 count few)

smoothings-doubled_later : (state b place : ℕ) (crossings : List (List ℕ)) → b ≤ 1
    → flat_map (λ at. smoothing_of (bit (2 * state + b) at.0) at.1) (enumerate_from (place + 1) crossings)
    ≡ flat_map (λ at. smoothing_of (bit state at.0) at.1) (enumerate_from place crossings)
smoothings-doubled_later state b place [] few = refl
smoothings-doubled_later state b place (slots ∷ crossings) few =
    grind (arith, nat_tests, bit-doubled_later, smoothings-doubled_later state b (place + 1) crossings few)

-- the smoothings of the first crossing and of the others
smoothings_of-doubled : (state b : ℕ) (first : List ℕ) (rest : List (List ℕ)) → b ≤ 1
    → smoothings_of (first ∷ rest) (2 * state + b) ≡ smoothing_of b first ++ smoothings_of rest state
smoothings_of-doubled state b first rest few =
    grind (arith, nat_tests, bit-doubled_first state b few, smoothings-doubled_later state b 0 rest few)

-- so the states that have the smoothing b at the first crossing go on the branch on which it has this smoothing
place_on_branch-doubled : (first : List ℕ) (rest : List (List ℕ)) (taken : ℕ) (classes : List ℕ) (state b : ℕ) → b ≤ 1
    → place_on_branch (first ∷ rest) taken classes (2 * state + b)
    ≡ place_on_branch rest (taken + b) (fold joined classes (smoothing_of b first)) state
place_on_branch-doubled first rest taken classes state b few = grind (arith, nat_tests, ones-doubled, smoothings_of-doubled, fold-append)

one_if : Bool → ℕ
one_if holds = cond holds 1 0

-- the even numbers and the odd
count_by-doubled : (p : ℕ → Bool) (n : ℕ)
    → count_by p (range_with_len 0 (n + n))
    ≡ count_by (λ k. p (2 * k + 0)) (range_with_len 0 n) + count_by (λ k. p (2 * k + 1)) (range_with_len 0 n)
unfolding one_if
count_by-doubled p zero = refl
count_by-doubled p (suc n) =
    let e : suc n + suc n ≡ n + n + 1 + 1 = omega arith in
    let f : suc n ≡ n + 1 = omega arith in
    let even : n + n ≡ 2 * n + 0 = omega arith in
    let odd : n + n + 1 ≡ 2 * n + 1 = omega arith in
    omega (
      arith,
      ap (λ m. count_by p (range_with_len 0 m)) e,
      count_by-range_more p 0 (n + n + 1) (n + n + 1) (omega arith),
      count_by-range_more p 0 (n + n) (n + n) (omega arith),
      count_by-doubled p n,
      ap (λ m. one_if (p m)) even,
      ap (λ m. one_if (p m)) odd,
      ap (λ m. count_by (λ k. p (2 * k + 0)) (range_with_len 0 m)) f,
      ap (λ m. count_by (λ k. p (2 * k + 1)) (range_with_len 0 m)) f,
      count_by-range_more (λ k. p (2 * k + 0)) 0 n n (omega arith),
      count_by-range_more (λ k. p (2 * k + 1)) 0 n n (omega arith),
    )

-- where a branch parts in two
pub branch_count-parted : (first : List ℕ) (rest : List (List ℕ)) (taken : ℕ) (classes : List ℕ) (place : ℕ)
    → branch_count (first ∷ rest) taken classes place
    ≡ branch_count rest (taken + 0) (fold joined classes (smoothing_of 0 first)) place
    + branch_count rest (taken + 1) (fold joined classes (smoothing_of 1 first)) place
branch_count-parted first rest taken classes place =
    let n = length rest in
    let p : ℕ → Bool = λ state. nat_eq (place_on_branch (first ∷ rest) taken classes state) place in
    let with_b : (b : ℕ) → b ≤ 1 → count_by (λ state. p (2 * state + b)) (range_with_len 0 (2 ^ n))
    ≡ branch_count rest (taken + b) (fold joined classes (smoothing_of b first)) place =
    λ b few. ap (λ (q : ℕ → Bool). count_by q (range_with_len 0 (2 ^ n)))
    (fun_ext (λ state. ap (λ k. nat_eq k place) (place_on_branch-doubled first rest taken classes state b few))) in
    ap (λ m. count_by p (range_with_len 0 m)) (two-pow-succ n) ∙ count_by-doubled p (2 ^ n)
    ∙ ap₂ (λ x y. x + y) (with_b 0 (omega arith)) (with_b 1 (omega arith))

pub branch_count-le : (crossings : List (List ℕ)) (taken : ℕ) (classes : List ℕ) (place : ℕ)
    → branch_count crossings taken classes place ≤ 2 ^ length crossings
branch_count-le crossings taken classes place = grind (arith, nat_tests, count_by-le-length, length-range_with_len)

-- where it ends
branch_count-end : (taken joins : ℕ) (classes : List ℕ) (place : ℕ) → class_count classes + joins ≡ MEMBERS
    → branch_count [] taken classes place ≡ one_if (nat_eq (count_place taken joins) place)
unfolding one_if
branch_count-end taken joins classes place is =
    let same : count_place (taken + 0) (MEMBERS - class_count classes) ≡ count_place taken joins = omega (arith, is) in
    let one : branch_count [] taken classes place ≡ 0 + one_if (nat_eq (count_place (taken + 0) (MEMBERS - class_count classes)) place) =
    refl in
    omega (arith, one, ap (λ k. one_if (nat_eq k place)) same)

pub counted-end : (counts : List ℕ) (taken joins here : ℕ) (classes : List ℕ) (place : ℕ) → class_count classes + joins ≡ MEMBERS
    → here ≡ count_place taken joins → here < length counts
    → slice_index (set counts here (get_or counts here 0 + 1)) place ≡ slice_index counts place + branch_count [] taken classes place
unfolding one_if
counted-end counts taken joins here classes place is is_here below =
    let ends : branch_count [] taken classes place ≡ one_if (nat_eq here place) =
    branch_count-end taken joins classes place is ∙ ap (λ k. one_if (nat_eq k place)) (sym is_here) in
    elim (cases_eq place here) [
      | inl same ↦
          let yes : one_if (nat_eq here place) ≡ 1 = ap one_if (eq-eqb here place (sym same)) in
          let there : slice_index (set counts here (get_or counts here 0 + 1)) place ≡ get_or counts here 0 + 1 =
          ap (λ k. slice_index (set counts here (get_or counts here 0 + 1)) k) same
          ∙ get_or-set_same counts here (get_or counts here 0 + 1) 0 below in
          omega (arith, ends, yes, there, ap (λ k. slice_index counts k) same)
      | inr other ↦
          let no : one_if (nat_eq here place) ≡ 0 = ap one_if (ne_eqb here place (λ e. other (sym e))) in
          omega (arith, ends, no, get_or-set_other counts here place (get_or counts here 0 + 1) 0 other)
    ]

-- what a smoothing joins, by whether it is the 0-smoothing
abbrev pairs_by : List ℕ → Bool → List (ℕ × ℕ)
pairs_by slots is_zero =
    cond is_zero ((arc_in slots 0, arc_in slots 1) ∷ (arc_in slots 2, arc_in slots 3) ∷ [])
    ((arc_in slots 0, arc_in slots 3) ∷ (arc_in slots 1, arc_in slots 2) ∷ [])

-- what a smoothing joins are arcs at the crossing
pub pair-below : (n smoothing : ℕ) (slots : List ℕ) (pairs : List (ℕ × ℕ)) (k : ℕ) → pairs ≡ smoothing_of smoothing slots
    → HasArcsBelow n slots → k < 2 → ((get_or pairs k (0, 0)).0 < n) × ((get_or pairs k (0, 0)).1 < n)
pair-below n smoothing slots pairs k is below few = grind (arith, nat_tests)

-- two joins, one after the other
pub fold-smoothing : (classes between after : List ℕ) (smoothing : ℕ) (slots : List ℕ) (pairs : List (ℕ × ℕ))
    → pairs ≡ smoothing_of smoothing slots → between ≡ joined classes (get_or pairs 0 (0, 0))
    → after ≡ joined between (get_or pairs 1 (0, 0)) → after ≡ fold joined classes (smoothing_of smoothing slots)
fold-smoothing classes between after smoothing slots pairs is first second = grind (arith, nat_tests)

-- what is left behind the first crossing
pub HaveArcsBelow-rest : (n : ℕ) (crossings : List (List ℕ)) (first : List ℕ) (rest : List (List ℕ)) → crossings ≡ first ∷ rest
    → HaveArcsBelow n crossings → HasArcsBelow n first × HaveArcsBelow n rest
HaveArcsBelow-rest n crossings first rest is below = subst (λ (all : List (List ℕ)). HaveArcsBelow n all) is below

pub LeavesCrossings-less : (branch after : Branch) (more rest : ℕ) → LeavesCrossings branch more → rest + 1 ≡ more → after.ones ≤ branch.ones + 1
    → after.joins ≤ branch.joins + 2 → LeavesCrossings after rest
LeavesCrossings-less branch after more rest leaves less ones_few joins_few = omega arith

pub pow-parted : (more rest : ℕ) → rest + 1 ≡ more → 2 ^ more ≡ 2 ^ rest + 2 ^ rest
pow-parted more rest less = let e : more ≡ suc rest = omega (arith, less) in ap (λ m. 2 ^ m) e ∙ two-pow-succ rest

-- the states of both branches
pub counted-parted : (crossings : List (List ℕ)) (first : List ℕ) (rest : List (List ℕ)) (taken zero_taken one_taken : ℕ)
    (classes zero_classes one_classes : List ℕ) (place : ℕ) → crossings ≡ first ∷ rest → zero_taken ≡ taken + 0
    → one_taken ≡ taken + 1 → zero_classes ≡ fold joined classes (smoothing_of 0 first)
    → one_classes ≡ fold joined classes (smoothing_of 1 first)
    → branch_count crossings taken classes place
    ≡ branch_count rest zero_taken zero_classes place + branch_count rest one_taken one_classes place
counted-parted crossings first rest taken zero_taken one_taken classes zero_classes one_classes place is zero_is one_is zero_joined one_joined =
    ap (λ (all : List (List ℕ)). branch_count all taken classes place) is ∙ branch_count-parted first rest taken classes place
    ∙ sym
    (ap₂ (λ x y. x + y)
    (ap₂ (λ (t : ℕ) (after : List ℕ). branch_count rest t after place) zero_is zero_joined)
    (ap₂ (λ (t : ℕ) (after : List ℕ). branch_count rest t after place) one_is one_joined))

-- a list of the numbers below its length
pub numbers-all : (numbers : List ℕ) (n : ℕ) → length numbers ≡ n → ((place : ℕ) → place < n → get_or numbers place 0 ≡ place)
    → numbers ≡ range_with_len 0 n
numbers-all numbers n size each = fill_by_all (λ k. k) numbers n 0 size each ∙ map-self (range_with_len 0 n)
  where
    map-self : (xs : List ℕ) → map (λ k. k) xs ≡ xs
    map-self [] = refl
    map-self (x ∷ xs) = ap (λ (ys : List ℕ). x ∷ ys) (map-self xs)
