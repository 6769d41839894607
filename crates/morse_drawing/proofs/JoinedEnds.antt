-- The row of open ends answers what the classes of segments join, or the same fault. Before the first slice it fits what is read:
-- no segment has begun, and all darts are bare. As long as it fits, the next slice has a fault in the row exactly where it has
-- one by segments, and the same: both rows have one length, the same crossings are drawn, and after a cup there are as many
-- loops. A slice without a fault keeps the row fitting, by the lemmas on caps, cups and crosses and the step from the row to
-- numbers. Behind the last slice the row is empty in both or in neither, the pairs that are found are those of the classes, and
-- the loops are as many. So both ways give one answer for each list of slices, by induction over it.
use Rattle.std.proofs.lemmas.Bool.Decides.{nat_tests}
use Rattle.std.proofs.Common.{◌≡◌, ℕ, zero, suc, inl, inr, ◌+◌, ◌-◌, ◌*◌, ◌<◌, ◌≤◌, ◌∙◌, List, [], ◌∷◌, length, map, get_or, sym, ap, ap₂, refl, arith, false}
use Rattle.std.specs.Prelude.{◌||◌, nat_lt, replicate, Option, None, Result}
use Rattle.std.specs.List.{AllByRecursion, filter, fold, range_with_len}
use Rattle.std.specs.Option.{option_or}
use Rattle.std.proofs.lemmas.Bool.{both_ways, cases_Bool, or_parts, ltb-false}
use Rattle.std.proofs.lemmas.List.{get_or-map, get_or-replicate, length-map, length-replicate}
use Rattle.morse_drawing.specs.Joins.{JoinedDarts, answer_by, ends_fault, ends_of, fault_where, first_slice_fault, is_outside, joined_in, joined_within, loop_count, slice_fault}
use Rattle.morse_drawing.specs.OpenEnds.{OpenEnds, after_slice, found_joins, is_drawn, no_strands, strands_ends, strands_fault}
use Rattle.morse_drawing.proofs.JoinedBySteps.{joined_by_ends, joins_from, joins_go}
use Rattle.morse_drawing.specs.Sketches.{Sketch, is_met, no_sketch, sketched}
use Rattle.morse_drawing.specs.declared.fault.SliceFault.{SliceFault}
use Rattle.morse_drawing.specs.declared.fault.SliceFault.TheVariants.{Ends as EndsLeft, Loops, Place}
use Rattle.morse_drawing.specs.declared.limits.TheConstants.{JOINED_LOOPS}
use Rattle.morse_drawing.specs.declared.slice.Slice.{Slice}
use Rattle.morse_drawing.specs.declared.slice.Slice.TheVariants.{Cap, Cup, Cross}
use Rattle.morse_drawing.proofs.EndAnswers.{loops-counted_ends, pairs-found}
use Rattle.morse_drawing.proofs.EndNumbers.{AreEnds, IsNumbered, IsNumbered-cap, IsNumbered-cross, IsNumbered-cup, IsOther, label, numbered, other_number, pairs-same}
use Rattle.morse_drawing.proofs.Ends.DartEnd.{bare}
use Rattle.morse_drawing.proofs.NumberedEnds.{NumberedEnds, after_slice as after_number, found_pair as pair_number, has_later as later_number}
use Rattle.morse_drawing.proofs.HeldCross.{Held-cross}
use Rattle.morse_drawing.proofs.HeldEnds.{Held-cap, Held-cup, IsHeld}
use Rattle.morse_drawing.proofs.TextLemmas.{no_fault, or_none, placed, within}

-- the row of open ends is one of what is read of the slices so far
pub record IsHeldBy (limit : ℕ) (r : Sketch) (s : OpenEnds) : Type 0 where
  pub held : IsHeld limit r (numbered limit s)
  pub are : AreEnds limit s

all_replicate : {X : Type 0} (P : X → Type 0) (n : ℕ) (x : X) → P x → AllByRecursion P (replicate n x)
all_replicate P zero x one = tt
all_replicate P (suc n) x one = (one, all_replicate P n x one)

none-known : (limit x : ℕ) → x < 4 * limit → get_or (numbered limit (no_strands limit)).others x 0 ≡ 4 * limit
none-known limit x below =
    let none : Option ℕ = None in
    get_or-map (other_number limit) (replicate (4 * limit) none) x None 0 (omega (arith, below, length-replicate (4 * limit) none))
    ∙ ap (other_number limit) (get_or-replicate (4 * limit) x None None below)

Numbered-none : (limit : ℕ) → IsHeld limit no_sketch (numbered limit (no_strands limit))
Numbered-none limit = record {
  name = λ z. z;
  ends = record {
    joins_below = tt;
    segments_below = tt;
    met_below = λ x met_x. absurd (both_ways false refl met_x);
    respects = tt;
    apart = λ f holds p q p_below q_below same. absurd (omega (arith, p_below));
    size = length-map (replicate (4 * limit) None) (other_number limit) ∙ length-replicate (4 * limit) None;
    darts = λ x below. bare refl refl (none-known limit x below);
    named = λ p below. absurd (omega (arith, below));
    twice = λ l from below. inl refl;
    no_loops = λ l from. refl;
    looped = λ loop below. absurd (omega (arith, below));
  };
  labels = refl;
  crossings = length-replicate limit false;
  drawn = λ c below. get_or-replicate limit c false false below;
  whole = λ x. refl;
}

pub Held-none : (limit : ℕ) → IsHeldBy limit no_sketch (no_strands limit)
Held-none limit = grind (arith, nat_tests, Numbered-none limit, all_replicate (IsOther limit) (4 * limit) None tt, IsOther limit)

same-length : (limit : ℕ) (r : Sketch) (s : OpenEnds) → IsHeldBy limit r s → length s.row ≡ length r.row
same-length limit r s is = grind (arith, nat_tests, length-map r.row is.held.name, length-map s.row (label limit), label limit)

after_cup : (limit : ℕ) (r : Sketch) (s : OpenEnds) (at : ℕ) → 1 ≤ at → at ≤ length r.row - 1 → IsHeldBy limit r s
    → IsNumbered limit s (after_slice s (Cup at)) (after_number limit (numbered limit s) (Cup at))
after_cup limit r s at from last is = IsNumbered-cup limit s at (omega (arith, from, last, same-length limit r s is)) is.are

-- the faults are the same
cup-loops : (limit : ℕ) (r : Sketch) (s : OpenEnds) (at : ℕ) → is_outside (length r.row - 1) at ≡ false → IsHeldBy limit r s
    → (after_slice s (Cup at)).loops ≡ loop_count limit (sketched r (Cup at))
cup-loops limit r s at inside is =
    let it = within (length r.row - 1) at inside in
    let held = Held-cup limit r (numbered limit s) at it.0 it.1 is.held in
    let next = after_number limit (numbered limit s) (Cup at) in
    sym (ap (λ (u : NumberedEnds). u.loops) (after_cup limit r s at it.0 it.1 is).same)
    ∙ sym (loops-counted_ends limit held.name (sketched r (Cup at)) next.others next.loops held.ends)

outside-same : (limit : ℕ) (r : Sketch) (s : OpenEnds) (crossing slot : ℕ) → IsHeldBy limit r s
    → (is_outside limit crossing || (is_drawn s crossing || nat_lt 3 slot))
    ≡ (is_outside limit crossing || (is_met r.met (4 * (crossing - 1)) || nat_lt 3 slot))
outside-same limit r s crossing slot is = grind (arith, nat_tests)

pub fault-same : (limit : ℕ) (r : Sketch) (s : OpenEnds) (number : ℕ) (slice : Slice) → IsHeldBy limit r s
    → strands_fault limit s number slice ≡ slice_fault limit r number slice
fault-same limit r s number (Cap at) is = grind (arith, nat_tests, same-length limit r s is)
fault-same limit r s number (Cup at) is =
    ap (λ m. option_or (fault_where (is_outside (m - 1) at) (Place number))
    (fault_where (nat_lt JOINED_LOOPS (after_slice s (Cup at)).loops) (Loops number))) (same-length limit r s is)
    ∙ elim (cases_Bool (is_outside (length r.row - 1) at)) [
      | inl out ↦
          ap (λ b. option_or (fault_where b (Place number)) (fault_where (nat_lt JOINED_LOOPS (after_slice s (Cup at)).loops) (Loops number)))
          out
          ∙ sym (ap (λ b. option_or (fault_where b (Place number))
          (fault_where (nat_lt JOINED_LOOPS (loop_count limit (sketched r (Cup at)))) (Loops number))) out)
      | inr inside ↦
          ap (λ k. option_or (fault_where (is_outside (length r.row - 1) at) (Place number)) (fault_where (nat_lt JOINED_LOOPS k) (Loops number)))
          (cup-loops limit r s at inside is)
    ]
fault-same limit r s number (Cross at crossing slot) is =
    grind (arith, nat_tests, same-length limit r s is, outside-same limit r s crossing slot is)

held_by : (limit : ℕ) (r : Sketch) (s : OpenEnds) (slice : Slice)
    → IsNumbered limit s (after_slice s slice) (after_number limit (numbered limit s) slice)
    → IsHeld limit (sketched r slice) (after_number limit (numbered limit s) slice) → IsHeldBy limit (sketched r slice) (after_slice s slice)
held_by limit r s slice next held = grind (arith, nat_tests)

-- after a slice without a fault
pub held-next : (limit : ℕ) (r : Sketch) (s : OpenEnds) (number : ℕ) (slice : Slice) → IsHeldBy limit r s
    → slice_fault limit r number slice ≡ None → IsHeldBy limit (sketched r slice) (after_slice s slice)
held-next limit r s number (Cap at) is none =
    let it = placed limit number r (Cap at) none in
    held_by limit r s (Cap at) (IsNumbered-cap limit s at is.are)
    (Held-cap limit r (numbered limit s) at (omega (arith, it)) (omega (arith, it)) (omega (arith, it)) is.held)
held-next limit r s number (Cup at) is none =
    let it = placed limit number r (Cup at) none in
    let last : at ≤ length r.row - 1 = omega (arith, it) in
    held_by limit r s (Cup at) (after_cup limit r s at (omega (arith, it)) last is)
    (Held-cup limit r (numbered limit s) at (omega (arith, it)) last is.held)
held-next limit r s number (Cross at crossing slot) is none =
    let it = placed limit number r (Cross at crossing slot) none in
    let parts = or_parts (is_outside limit crossing) (is_met r.met (4 * (crossing - 1)) || nat_lt 3 slot) (no_fault _ _ (or_none _ _ none).1) in
    let inside = within limit crossing parts.0 in
    let rest = or_parts (is_met r.met (4 * (crossing - 1))) (nat_lt 3 slot) parts.1 in
    let small : slot < 4 = omega (arith, ltb-false 3 slot rest.1) in
    held_by limit r s (Cross at crossing slot)
    (IsNumbered-cross limit s at crossing slot (omega (arith, it, same-length limit r s is)) inside.0 inside.1 small is.are)
    (Held-cross limit r (numbered limit s) at crossing slot (omega (arith, it)) (omega (arith, it)) inside.0 inside.1 small
    (is.held.drawn (crossing - 1) (omega (arith, inside.0, inside.1)) ∙ rest.0) is.held)

map-two : {X Y : Type 0} (f : X → Y) (g : ℕ → X) (xs : List ℕ) → map (λ x. f (g x)) xs ≡ map f (map g xs)
map-two {X} {Y} f g [] = refl
map-two {X} {Y} f g (x ∷ xs) = ap (λ (ys : List Y). f (g x) ∷ ys) (map-two f g xs)

abbrev with_joins : List (ℕ × ℕ) → ℕ → JoinedDarts
with_joins pairs loops = record { pairs = map ends_of pairs; loops = loops }

answer-same : (limit : ℕ) (r : Sketch) (s : OpenEnds) → IsHeldBy limit r s
    → strands_ends limit s ≡ answer_by (ends_fault r) (joined_in limit r)
answer-same limit r s is =
    let others = (numbered limit s).others in
    let darts = filter (later_number limit others) (range_with_len 0 (4 * limit)) in
    let size : length s.others ≡ 4 * limit = sym (length-map s.others (other_number limit)) ∙ is.held.ends.size in
    let joins : found_joins limit s ≡ joined_in limit r =
    ap (λ (pairs : List (List _)). record { pairs = pairs; loops = s.loops })
    (pairs-same limit s.others is.are.others size ∙ map-two ends_of (pair_number others) darts)
    ∙ ap₂ with_joins (sym (pairs-found limit is.held.name r others s.loops is.held.ends))
    (sym (loops-counted_ends limit is.held.name r others s.loops is.held.ends)) in
    ap₂ (λ m j. answer_by (fault_where (nat_lt 0 m) (EndsLeft m)) j) (same-length limit r s is) joins

joined-from : (limit : ℕ) (r : Sketch) (s : OpenEnds) (number : ℕ) (slices : List Slice) → IsHeldBy limit r s
    → joins_from limit s number slices
    ≡ answer_by (option_or (first_slice_fault limit r number slices) (ends_fault (fold sketched r slices)))
    (joined_in limit (fold sketched r slices))
joined-from limit r s number [] is = answer-same limit r s is
joined-from limit r s number (slice ∷ slices) is =
    ap (λ o. joins_go o (joins_from limit (after_slice s slice) (number + 1) slices)) (fault-same limit r s number slice is)
    ∙ by_fault (slice_fault limit r number slice) refl
    (λ none. joined-from limit (sketched r slice) (after_slice s slice) (number + 1) slices (held-next limit r s number slice is none))
  where
    end : Sketch
    end = fold sketched (sketched r slice) slices

    later : Result JoinedDarts SliceFault
    later = joins_from limit (after_slice s slice) (number + 1) slices

    rest : Option SliceFault
    rest = first_slice_fault limit (sketched r slice) (number + 1) slices

    by_fault : (o : Option SliceFault) → slice_fault limit r number slice ≡ o
        → (slice_fault limit r number slice ≡ None → later ≡ answer_by (option_or rest (ends_fault end)) (joined_in limit end))
        → joins_go o later ≡ answer_by (option_or (option_or o rest) (ends_fault end)) (joined_in limit end)
    by_fault o none ih = grind (arith, nat_tests)

pub joined-ends : (limit : ℕ) (slices : List Slice) → joined_by_ends limit slices ≡ joined_within limit slices
joined-ends limit slices = joined-from limit no_sketch (no_strands limit) 1 slices (Held-none limit)
