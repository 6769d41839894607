-- The circles of the old pairing are those of the new one and the closed circles.
--
-- The new circles and the old ones are matched one to one by the class of all joins, and back by `led`. So sums of what has one value on
-- each circle are the same over both (`sum-circles`), and with ones there are as many (`count-circles`).
use Rattle.std.proofs.Common.{◌≡◌, ◌↔◌, ℕ, ◌+◌, ◌<◌, ◌≤◌, ◌∙◌, List, [], ◌∷◌, ◌++◌, length, refl, sym, ap, ap₂, arith, Bool, true, false, not, cond, ◌&&◌, ◌||◌}
use Rattle.std.specs.Prelude.{nat_eq}
use Rattle.std.specs.List.{filter, sum_by, range_with_len, Contains}
use Rattle.std.proofs.lemmas.Bool.{and_parts, both_ways, eq-eqb, eqb-true}
use Rattle.std.proofs.lemmas.List.Sums.{sum_by-cons}
use Rattle.kh_types.specs.Classes.{classes_of, is_least, Respects}
use Rattle.kh_types.proofs.ClassLemmas.{classes-finest}
use Rattle.kh_types.proofs.ListSums.{sum_by-filter, sum_by-plus, sum_by-range_alike}
use Rattle.surface_laws.proofs.Components.{list_any-contained}
use Rattle.surface_laws.specs.Points.{circles}
use Rattle.added_crossing_laws.specs.Steps.{Step, before, after, is_near, near, closed_circles}
use Rattle.added_crossing_laws.proofs.Matched.{IsMatched, sum-matched}
use Rattle.added_crossing_laws.proofs.Members.{IsOneOf, those-are, are-those}
use Rattle.added_crossing_laws.proofs.Classes.{class-below, class-own, class-is}
pub use Rattle.added_crossing_laws.proofs.CutJoins.{IsCut, near-has, next-has, outside-among, whole-among, whole-joins}
use Rattle.added_crossing_laws.proofs.CutJoins.{IsCut, near_class, outer_class, whole_class, both-open, near-has, next-has, outside-among, whole-among, whole-joins, IsStep}
use Rattle.added_crossing_laws.proofs.CarriedClasses.{retracted-outside, retracted-same, outside-same, whole-respects}
use Rattle.added_crossing_laws.proofs.LedCircles.{none_in, is_new, is_old, new-cases, new-apart, led, led-leads, new-alive}

record IsOld (step : Step) (joins outer : List (ℕ × ℕ)) (z : ℕ) : Type 0 where
  alive : step.alive z ≡ true
  own : whole_class step joins outer z ≡ z

old-is : (step : Step) (joins outer : List (ℕ × ℕ)) (z : ℕ) → is_old step joins outer z ≡ true → IsOld step joins outer z
old-is step joins outer z is =
    let parts = and_parts (step.alive z) (nat_eq (whole_class step joins outer z) z) is in
    record { alive = parts.0; own = eqb-true (whole_class step joins outer z) z parts.1 }

new-matched : (step : Step) (joins pairs outer : List (ℕ × ℕ)) → IsCut step joins pairs outer
    → IsMatched 1 step.count (is_old step joins outer) (is_new step joins pairs outer) (whole_class step joins outer)
    (led step joins pairs outer)
new-matched step joins pairs outer cut =
    let n = step.count + 1 in
    let class : (x : ℕ) → 1 ≤ x → x < 1 + step.count → is_new step joins pairs outer x ≡ true
    → IsOneOf step.count step.alive (whole_class step joins outer x) =
    λ x above below new.
    class-is step.count step.alive (joins ++ outer) x (whole-among step joins pairs outer cut)
    (new-alive step joins pairs outer x cut.step_is (new-cases step joins pairs outer x above below new)) in
    record {
      above = λ x above below new. (class x above below new).above;
      below = λ x above below new. (class x above below new).below;
      passes = λ x above below new.
          ap₂ (λ a b. a && b) (class x above below new).passes
          (eq-eqb (whole_class step joins outer (whole_class step joins outer x)) (whole_class step joins outer x)
          (class-own n (joins ++ outer) x (whole-joins step joins pairs outer cut) (omega (arith, below))));
      back_above = λ z above below old.
          (led-leads step joins pairs outer z cut above below (old-is step joins outer z old).alive).above;
      back_below = λ z above below old.
          (led-leads step joins pairs outer z cut above below (old-is step joins outer z old).alive).below;
      back_passes = λ z above below old.
          (led-leads step joins pairs outer z cut above below (old-is step joins outer z old).alive).new;
      back = λ z above below old.
          let is = old-is step joins outer z old in
          (led-leads step joins pairs outer z cut above below is.alive).back ∙ is.own;
      apart = λ x y x_above x_below y_above y_below x_new y_new same.
          new-apart step joins pairs outer x y cut (new-cases step joins pairs outer x x_above x_below x_new)
          (new-cases step joins pairs outer y y_above y_below y_new)
          (retracted-same step joins pairs outer x y cut (omega (arith, x_below)) (omega (arith, y_below)) same);
    }

-- no circle outside is a closed one

one_way : (a b c d e : Bool) (s t : ℕ) → (a ≡ true → c ≡ true → d ≡ true → e ≡ true → ⊥) → s ≡ t
    → cond a (cond b s 0) 0 + cond c (cond d (cond e s 0) 0) 0 ≡ cond ((a && b) || ((c && d) && e)) t 0
one_way true true true true true s t never same = absurd (never refl refl refl refl)
one_way true true true true false s t never same = omega (arith, same)
one_way true true true false e s t never same = omega (arith, same)
one_way true true false d e s t never same = omega (arith, same)
one_way true false true true true s t never same = omega (arith, same)
one_way true false true true false s t never same = omega arith
one_way true false true false e s t never same = omega arith
one_way true false false d e s t never same = omega arith
one_way false b true true true s t never same = omega (arith, same)
one_way false b true true false s t never same = omega arith
one_way false b true false e s t never same = omega arith
one_way false b false d e s t never same = omega arith

never-both : (step : Step) (joins : List (ℕ × ℕ)) (x : ℕ) → IsStep step → 1 ≤ x → x < 1 + step.count → step.alive_next x ≡ true
    → is_near step x ≡ true → is_least (classes_of (step.count + 1) joins) x ≡ true → none_in step joins x ≡ true → ⊥
never-both step joins x step_is above below next near least none =
    let has = are-those step.count step.opened_next x above below (both-open step x step_is above below next near) in
    let any = list_any-contained (λ b. nat_eq (near_class step joins b) x) (after step).opened x has least in
    both_ways (none_in step joins x) (ap (λ b. not b) any) none

-- sums over the circles

sum-two : (f : ℕ → ℕ) (p q : ℕ → Bool) (xs : List ℕ)
    → sum_by f (filter q (filter p xs)) ≡ sum_by (λ x. cond (p x) (cond (q x) (f x) 0) 0) xs
sum-two f p q xs = sum_by-filter f q (filter p xs) ∙ sum_by-filter (λ x. cond (q x) (f x) 0) p xs

sum-three : (f : ℕ → ℕ) (p q r : ℕ → Bool) (xs : List ℕ)
    → sum_by f (filter r (filter q (filter p xs))) ≡ sum_by (λ x. cond (p x) (cond (q x) (cond (r x) (f x) 0) 0) 0) xs
sum-three f p q r xs = sum_by-filter f r (filter q (filter p xs)) ∙ sum-two (λ x. cond (r x) (f x) 0) p q xs

nested : (a b : Bool) (s : ℕ) → cond (a && b) s 0 ≡ cond a (cond b s 0) 0
nested true b s = refl
nested false b s = refl

pub sum-circles : (step : Step) (joins pairs outer : List (ℕ × ℕ)) (f : ℕ → ℕ) → IsCut step joins pairs outer
    → Respects f (joins ++ outer)
    → sum_by f (circles (after step) pairs outer) + sum_by f (closed_circles step joins)
    ≡ sum_by f (circles (before step) joins outer)
sum-circles step joins pairs outer f cut respects =
    let n = step.count + 1 in
    let range = range_with_len 1 step.count in
    let stay : ℕ → ℕ = λ x. cond (step.alive_next x) (cond (is_least (classes_of n (pairs ++ outer)) x) (f x) 0) 0 in
    let close : ℕ → ℕ = λ x.
    cond (is_near step x) (cond (is_least (classes_of n joins) x) (cond (none_in step joins x) (f x) 0) 0) 0 in
    let new : ℕ → ℕ = λ x. cond (is_new step joins pairs outer x) (f (whole_class step joins outer x)) 0 in
    let old : ℕ → ℕ = λ z. cond (is_old step joins outer z) (f z) 0 in
    let at_class : (x : ℕ) → x < n → f x ≡ f (whole_class step joins outer x) = λ x below.
    let joins_below = whole-joins step joins pairs outer cut in
    classes-finest f n (joins ++ outer) respects joins_below x (whole_class step joins outer x) below
    (class-below n (joins ++ outer) x joins_below below) (sym (class-own n (joins ++ outer) x joins_below below)) in
    ap₂ (λ s t. s + t) (sum-two f step.alive_next (is_least (classes_of n (pairs ++ outer))) range)
    (sum-three f (is_near step) (is_least (classes_of n joins)) (none_in step joins) range)
    ∙ sym (sum_by-plus stay close range)
    ∙ sum_by-range_alike (λ x. stay x + close x) new 1 step.count
    (λ x above below.
    one_way (step.alive_next x) (is_least (classes_of n (pairs ++ outer)) x) (is_near step x) (is_least (classes_of n joins) x)
    (none_in step joins x) (f x) (f (whole_class step joins outer x)) (never-both step joins x cut.step_is above below)
    (at_class x (omega (arith, below))))
    ∙ sum-matched 1 step.count (is_old step joins outer) (is_new step joins pairs outer) (whole_class step joins outer)
    (led step joins pairs outer) f (new-matched step joins pairs outer cut)
    ∙ sum_by-range_alike old (λ z. cond (step.alive z) (cond (is_least (classes_of n (joins ++ outer)) z) (f z) 0) 0) 1 step.count
    (λ z above below. nested (step.alive z) (is_least (classes_of n (joins ++ outer)) z) (f z))
    ∙ sym (sum-two f step.alive (is_least (classes_of n (joins ++ outer))) range)

-- how many, and which

pub count-circles : (step : Step) (joins pairs outer : List (ℕ × ℕ)) → IsCut step joins pairs outer
    → length (circles (after step) pairs outer) + length (closed_circles step joins) ≡ length (circles (before step) joins outer)
count-circles step joins pairs outer cut =
    ap₂ (λ s t. s + t) (sym (sum_by-ones (circles (after step) pairs outer))) (sym (sum_by-ones (closed_circles step joins)))
    ∙ sum-circles step joins pairs outer (λ x. 1) cut (all-one (joins ++ outer)) ∙ sum_by-ones (circles (before step) joins outer)
  where
    sum_by-ones : (xs : List ℕ) → sum_by (λ x. 1) xs ≡ length xs
    sum_by-ones [] = refl
    sum_by-ones (x ∷ xs) = omega (arith, sum_by-cons (λ y. 1) x xs, sum_by-ones xs)

    all-one : (pairs : List (ℕ × ℕ)) → Respects (λ x. 1) pairs
    all-one [] = tt
    all-one (pair ∷ pairs) = (refl, all-one pairs)

pub together-outside : (step : Step) (joins pairs outer : List (ℕ × ℕ)) (x y : ℕ) → IsCut step joins pairs outer
    → Contains (after step).alive x → Contains (after step).alive y
    → (outer_class step pairs outer x ≡ outer_class step pairs outer y) ↔ (whole_class step joins outer x ≡ whole_class step joins outer y)
together-outside step joins pairs outer x y cut has y_has =
    let x_below : x < step.count + 1 = omega (arith, (those-are step.count step.alive_next x has).below) in
    let y_below : y < step.count + 1 = omega (arith, (those-are step.count step.alive_next y y_has).below) in (
      λ same.
          outside-same step joins pairs outer (whole_class step joins outer) x y cut (whole-respects step joins pairs outer cut)
          x_below y_below same,
      λ same.
          sym (retracted-outside step joins pairs outer x cut has) ∙ retracted-same step joins pairs outer x y cut x_below y_below same
          ∙ retracted-outside step joins pairs outer y cut y_has,
    )
