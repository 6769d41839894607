-- Near a crossing and outside it: which arcs are open, near or alive, and between which of them joins lie.
use Rattle.std.proofs.Common.{◌≡◌, ℕ, ◌+◌, ◌<◌, ◌≤◌, ◌∙◌, List, ◌++◌, sym, ap₂, arith, Bool, true, ◌&&◌, ◌||◌}
use Rattle.std.specs.List.{Contains}
use Rattle.std.proofs.lemmas.Bool.{and_parts, or_left, or_right}
use Rattle.kh_types.specs.Classes.{AreBelow}
use Rattle.surface_laws.specs.Points.{AreAmong}
use Rattle.added_crossing_laws.specs.Steps.{Step, those, before, after, is_near, near, IsNewPairing}
use Rattle.added_crossing_laws.proofs.Members.{IsOneOf, those-are, are-those}
use Rattle.added_crossing_laws.proofs.Classes.{class_in, AreAmong-wider, AreAmong-append, AreAmong-below}

-- what is alive before is alive after or near the crossing, and what is both is open after
pub record IsStep (step : Step) : Type 0 where
  pub alive : (x : ℕ) → 0 < x → x ≤ step.count → step.alive x ≡ (step.alive_next x || is_near step x)
  pub opened : (x : ℕ) → 0 < x → x ≤ step.count → step.opened_next x ≡ (step.alive_next x && is_near step x)

-- near the crossing some joins, which make pairs of open arcs, and other joins outside
pub record IsCut (step : Step) (joins pairs outer : List (ℕ × ℕ)) : Type 0 where
  pub step_is : IsStep step
  pub inside : AreAmong (near step) joins
  pub made : IsNewPairing step joins pairs
  pub outside : AreAmong (after step).alive outer

-- the classes near the crossing, those outside, and those of all
abbrev pub near_class : Step → List (ℕ × ℕ) → ℕ → ℕ
near_class step joins = class_in (step.count + 1) joins

abbrev pub outer_class : Step → List (ℕ × ℕ) → List (ℕ × ℕ) → ℕ → ℕ
outer_class step pairs outer = class_in (step.count + 1) (pairs ++ outer)

abbrev pub whole_class : Step → List (ℕ × ℕ) → List (ℕ × ℕ) → ℕ → ℕ
whole_class step joins outer = class_in (step.count + 1) (joins ++ outer)

-- which points are which

pub near-alive : (step : Step) (x : ℕ) → IsStep step → IsOneOf step.count (is_near step) x → IsOneOf step.count step.alive x
near-alive step x step_is is = record {
  above = is.above;
  below = is.below;
  passes = step_is.alive x is.above (omega (arith, is.below)) ∙ or_right (step.alive_next x) (is_near step x) is.passes;
}

pub next-alive : (step : Step) (x : ℕ) → IsStep step → IsOneOf step.count step.alive_next x → IsOneOf step.count step.alive x
next-alive step x step_is is = record {
  above = is.above;
  below = is.below;
  passes = step_is.alive x is.above (omega (arith, is.below)) ∙ or_left (step.alive_next x) (is_near step x) is.passes;
}

open-both : (step : Step) (x : ℕ) → IsStep step → IsOneOf step.count step.opened_next x
    → (step.alive_next x ≡ true) × (is_near step x ≡ true)
open-both step x step_is is =
    and_parts (step.alive_next x) (is_near step x)
    (sym (step_is.opened x is.above (omega (arith, is.below))) ∙ is.passes)

pub both-open : (step : Step) (x : ℕ) → IsStep step → 1 ≤ x → x < 1 + step.count → step.alive_next x ≡ true
    → is_near step x ≡ true → step.opened_next x ≡ true
both-open step x step_is above below alive near =
    step_is.opened x above (omega (arith, below)) ∙ ap₂ (λ a b. a && b) alive near

pub in-those : (count : ℕ) (test : ℕ → Bool) (x : ℕ) → IsOneOf count test x → Contains (those count test) x
in-those count test x is = are-those count test x is.above is.below is.passes

pub open-alive : (step : Step) (x : ℕ) → IsStep step → Contains (after step).opened x → Contains (after step).alive x
open-alive step x step_is has =
    let is = those-are step.count step.opened_next x has in
    are-those step.count step.alive_next x is.above is.below (open-both step x step_is is).0

pub open-near : (step : Step) (x : ℕ) → IsStep step → Contains (after step).opened x → Contains (near step) x
open-near step x step_is has =
    let is = those-are step.count step.opened_next x has in
    are-those step.count (is_near step) x is.above is.below (open-both step x step_is is).1

pub near-has : (step : Step) (x : ℕ) → IsStep step → Contains (near step) x → Contains (before step).alive x
near-has step x step_is has =
    in-those step.count step.alive x (near-alive step x step_is (those-are step.count (is_near step) x has))

pub next-has : (step : Step) (x : ℕ) → IsStep step → Contains (after step).alive x → Contains (before step).alive x
next-has step x step_is has =
    in-those step.count step.alive x (next-alive step x step_is (those-are step.count step.alive_next x has))

-- where the joins are

pub outside-among : (step : Step) (joins pairs outer : List (ℕ × ℕ)) → IsCut step joins pairs outer
    → AreAmong (after step).alive (pairs ++ outer)
outside-among step joins pairs outer cut =
    AreAmong-append (after step).alive pairs outer
    (AreAmong-wider (after step).opened (after step).alive pairs (λ x has. open-alive step x cut.step_is has) cut.made.among) cut.outside

pub whole-among : (step : Step) (joins pairs outer : List (ℕ × ℕ)) → IsCut step joins pairs outer
    → AreAmong (before step).alive (joins ++ outer)
whole-among step joins pairs outer cut =
    AreAmong-append (before step).alive joins outer
    (AreAmong-wider (near step) (before step).alive joins (λ x has. near-has step x cut.step_is has) cut.inside)
    (AreAmong-wider (after step).alive (before step).alive outer (λ x has. next-has step x cut.step_is has) cut.outside)

pub near-joins : (step : Step) (joins pairs outer : List (ℕ × ℕ)) → IsCut step joins pairs outer → AreBelow (step.count + 1) joins
near-joins step joins pairs outer cut = AreAmong-below step.count (is_near step) joins cut.inside

pub outside-joins : (step : Step) (joins pairs outer : List (ℕ × ℕ)) → IsCut step joins pairs outer
    → AreBelow (step.count + 1) (pairs ++ outer)
outside-joins step joins pairs outer cut =
    AreAmong-below step.count step.alive_next (pairs ++ outer) (outside-among step joins pairs outer cut)

pub whole-joins : (step : Step) (joins pairs outer : List (ℕ × ℕ)) → IsCut step joins pairs outer
    → AreBelow (step.count + 1) (joins ++ outer)
whole-joins step joins pairs outer cut =
    AreAmong-below step.count step.alive (joins ++ outer) (whole-among step joins pairs outer cut)
