-- The new circles, those outside and those that the crossing closes, and the circles of all joins.
--
-- A new circle is named by its least point: outside among what is alive after the crossing (`Stays`), or near the crossing in a class
-- without an open arc (`Closes`). By `retracted` the first kind has its own name and the second a number above the count, so two of them on
-- one circle of all are one (`new-apart`). Back from a point of a circle of all leads `led`: to its class outside where it is there; where
-- it is not, it is near the crossing, and leads to its class there, if that is closed, or to the class outside of an open arc in it
-- (`led-leads`).
use Rattle.std.proofs.Common.{◌≡◌, ℕ, inl, inr, ◌⊎◌, ◌+◌, ◌<◌, ◌≤◌, ◌∙◌, List, ◌++◌, sym, ap, ap₂, subst, arith, Bool, true, false, cond, ◌&&◌, ◌||◌}
use Rattle.std.specs.Prelude.{nat_eq}
use Rattle.std.specs.List.{list_any, Contains}
use Rattle.std.proofs.lemmas.Bool.{cases_Bool, and_parts, eq-eqb, eqb-true, or_left, or_right, or_cases, not-false}
use Rattle.kh_types.specs.Classes.{classes_of, is_least}
use Rattle.surface_laws.proofs.Components.{list_any-some}
use Rattle.added_crossing_laws.specs.Steps.{Step, after, is_near, is_none_in}
use Rattle.added_crossing_laws.proofs.Members.{IsOneOf, those-are}
use Rattle.added_crossing_laws.proofs.Classes.{class-own, class-is}
use Rattle.added_crossing_laws.proofs.CutJoins.{IsCut, near_class, outer_class, whole_class, near-alive, next-alive, in-those, open-alive, outside-among, near-joins, outside-joins, IsStep}
use Rattle.added_crossing_laws.proofs.CarriedClasses.{carried, retracted, carried-open, carried-none, retracted-near, retracted-outside, outside-same, near-same, whole-respects}

-- the circles outside, the closed ones, and those of all
abbrev pub none_in : Step → List (ℕ × ℕ) → ℕ → Bool
none_in step joins = is_none_in (after step).opened (classes_of (step.count + 1) joins)

abbrev pub stays : Step → List (ℕ × ℕ) → List (ℕ × ℕ) → ℕ → Bool
stays step pairs outer x = step.alive_next x && is_least (classes_of (step.count + 1) (pairs ++ outer)) x

abbrev pub closes : Step → List (ℕ × ℕ) → ℕ → Bool
closes step joins x = (is_near step x && is_least (classes_of (step.count + 1) joins) x) && none_in step joins x

abbrev pub is_new : Step → List (ℕ × ℕ) → List (ℕ × ℕ) → List (ℕ × ℕ) → ℕ → Bool
is_new step joins pairs outer x = stays step pairs outer x || closes step joins x

abbrev pub is_old : Step → List (ℕ × ℕ) → List (ℕ × ℕ) → ℕ → Bool
is_old step joins outer x = step.alive x && is_least (classes_of (step.count + 1) (joins ++ outer)) x

pub record Stays (step : Step) (pairs outer : List (ℕ × ℕ)) (x : ℕ) : Type 0 where
  pub is : IsOneOf step.count step.alive_next x
  pub own : outer_class step pairs outer x ≡ x

pub record Closes (step : Step) (joins : List (ℕ × ℕ)) (x : ℕ) : Type 0 where
  pub is : IsOneOf step.count (is_near step) x
  pub own : near_class step joins x ≡ x
  pub none : none_in step joins x ≡ true

pub new-cases : (step : Step) (joins pairs outer : List (ℕ × ℕ)) (x : ℕ) → 1 ≤ x → x < 1 + step.count
    → is_new step joins pairs outer x ≡ true → Stays step pairs outer x ⊎ Closes step joins x
new-cases step joins pairs outer x above below is = elim (or_cases (stays step pairs outer x) (closes step joins x) is) [
  | inl stay ↦
      let parts = and_parts (step.alive_next x) (nat_eq (outer_class step pairs outer x) x) stay in
      inl record {
        is = record { above = above; below = below; passes = parts.0 };
        own = eqb-true (outer_class step pairs outer x) x parts.1;
      }
  | inr close ↦
      let parts = and_parts (is_near step x && nat_eq (near_class step joins x) x) (none_in step joins x) close in
      let first = and_parts (is_near step x) (nat_eq (near_class step joins x) x) parts.0 in
      inr record {
        is = record { above = above; below = below; passes = first.0 };
        own = eqb-true (near_class step joins x) x first.1;
        none = parts.1;
      }
]

stay-new : (step : Step) (joins pairs outer : List (ℕ × ℕ)) (x : ℕ) → Stays step pairs outer x
    → is_new step joins pairs outer x ≡ true
stay-new step joins pairs outer x stay =
    or_left (stays step pairs outer x) (closes step joins x)
    (ap₂ (λ a b. a && b) stay.is.passes (eq-eqb (outer_class step pairs outer x) x stay.own))

close-new : (step : Step) (joins pairs outer : List (ℕ × ℕ)) (x : ℕ) → Closes step joins x
    → is_new step joins pairs outer x ≡ true
close-new step joins pairs outer x close =
    or_right (stays step pairs outer x) (closes step joins x)
    (ap₂ (λ a b. a && b) (ap₂ (λ a b. a && b) close.is.passes (eq-eqb (near_class step joins x) x close.own)) close.none)

-- their values are apart
stay-value : (step : Step) (joins pairs outer : List (ℕ × ℕ)) (x : ℕ) → IsCut step joins pairs outer → Stays step pairs outer x
    → retracted step joins pairs outer x ≡ x
stay-value step joins pairs outer x cut stay =
    retracted-outside step joins pairs outer x cut (in-those step.count step.alive_next x stay.is) ∙ stay.own

close-value : (step : Step) (joins pairs outer : List (ℕ × ℕ)) (x : ℕ) → Closes step joins x
    → retracted step joins pairs outer x ≡ step.count + 1 + x
close-value step joins pairs outer x close =
    retracted-near step joins pairs outer x close.is.passes ∙ ap (λ k. carried step joins pairs outer k) close.own
    ∙ carried-none step joins pairs outer x close.none

pub new-apart : (step : Step) (joins pairs outer : List (ℕ × ℕ)) (x y : ℕ) → IsCut step joins pairs outer
    → Stays step pairs outer x ⊎ Closes step joins x → Stays step pairs outer y ⊎ Closes step joins y
    → retracted step joins pairs outer x ≡ retracted step joins pairs outer y → x ≡ y
new-apart step joins pairs outer x y cut (inl first) (inl second) same =
    sym (stay-value step joins pairs outer x cut first) ∙ same ∙ stay-value step joins pairs outer y cut second
new-apart step joins pairs outer x y cut (inl first) (inr second) same =
    omega (arith, stay-value step joins pairs outer x cut first, close-value step joins pairs outer y second, same, first.is.below)
new-apart step joins pairs outer x y cut (inr first) (inl second) same =
    omega (arith, close-value step joins pairs outer x first, stay-value step joins pairs outer y cut second, same, second.is.below)
new-apart step joins pairs outer x y cut (inr first) (inr second) same =
    omega (arith, close-value step joins pairs outer x first, close-value step joins pairs outer y second, same)

-- from each circle of all to its own outside or among the closed ones
abbrev pub led : Step → List (ℕ × ℕ) → List (ℕ × ℕ) → List (ℕ × ℕ) → ℕ → ℕ
led step joins pairs outer z =
    cond (step.alive_next z) (outer_class step pairs outer z)
    (cond (none_in step joins (near_class step joins z)) (near_class step joins z)
    (carried step joins pairs outer (near_class step joins z)))

pub record LeadsTo (step : Step) (joins pairs outer : List (ℕ × ℕ)) (z x : ℕ) : Type 0 where
  pub above : 1 ≤ x
  pub below : x < 1 + step.count
  pub new : is_new step joins pairs outer x ≡ true
  pub back : whole_class step joins outer x ≡ whole_class step joins outer z

-- the class outside of a point there stays
outer-stays : (step : Step) (joins pairs outer : List (ℕ × ℕ)) (x : ℕ) → IsCut step joins pairs outer
    → IsOneOf step.count step.alive_next x → Stays step pairs outer (outer_class step pairs outer x)
outer-stays step joins pairs outer x cut is = record {
  is = class-is step.count step.alive_next (pairs ++ outer) x (outside-among step joins pairs outer cut) is;
  own = class-own (step.count + 1) (pairs ++ outer) x (outside-joins step joins pairs outer cut) (omega (arith, is.below));
}

outer-leads : (step : Step) (joins pairs outer : List (ℕ × ℕ)) (x : ℕ) → IsCut step joins pairs outer
    → IsOneOf step.count step.alive_next x → LeadsTo step joins pairs outer x (outer_class step pairs outer x)
outer-leads step joins pairs outer x cut is =
    let stay = outer-stays step joins pairs outer x cut is in
    record {
      above = stay.is.above;
      below = stay.is.below;
      new = stay-new step joins pairs outer (outer_class step pairs outer x) stay;
      back = outside-same step joins pairs outer (whole_class step joins outer) (outer_class step pairs outer x) x cut
          (whole-respects step joins pairs outer cut) (omega (arith, stay.is.below)) (omega (arith, is.below)) stay.own;
    }

near-leads : (step : Step) (joins pairs outer : List (ℕ × ℕ)) (x : ℕ) → IsCut step joins pairs outer
    → IsOneOf step.count (is_near step) x → none_in step joins (near_class step joins x) ≡ true
    → LeadsTo step joins pairs outer x (near_class step joins x)
near-leads step joins pairs outer x cut is none =
    let close : Closes step joins (near_class step joins x) = record {
      is = class-is step.count (is_near step) joins x cut.inside is;
      own = class-own (step.count + 1) joins x (near-joins step joins pairs outer cut) (omega (arith, is.below));
      none = none;
    } in
    record {
      above = close.is.above;
      below = close.is.below;
      new = close-new step joins pairs outer (near_class step joins x) close;
      back = near-same step joins pairs outer (whole_class step joins outer) (near_class step joins x) x cut
          (whole-respects step joins pairs outer cut) (omega (arith, close.is.below)) (omega (arith, is.below)) close.own;
    }

some-open : (step : Step) (joins : List (ℕ × ℕ)) (k : ℕ) → none_in step joins k ≡ false
    → (b : ℕ) × Contains (after step).opened b × (near_class step joins b ≡ k)
some-open step joins k some =
    let found = list_any-some (λ b. nat_eq (near_class step joins b) k) (after step).opened
    (not-false (list_any (λ b. nat_eq (near_class step joins b) k) (after step).opened) some) in
    (found.0, found.1, eqb-true (near_class step joins found.0) k found.2)

open-leads : (step : Step) (joins pairs outer : List (ℕ × ℕ)) (x : ℕ) → IsCut step joins pairs outer
    → IsOneOf step.count (is_near step) x → none_in step joins (near_class step joins x) ≡ false
    → LeadsTo step joins pairs outer x (carried step joins pairs outer (near_class step joins x))
open-leads step joins pairs outer x cut is some =
    let found = some-open step joins (near_class step joins x) some in
    let b = found.0 in
    let has = open-alive step b cut.step_is found.1 in
    let b_is = those-are step.count step.alive_next b has in
    let leads = outer-leads step joins pairs outer b cut b_is in
    let same = carried-open step joins pairs outer b (near_class step joins x) cut found.1 found.2 in
    subst (λ y. LeadsTo step joins pairs outer x y) (sym same)
    record {
      above = leads.above;
      below = leads.below;
      new = leads.new;
      back = leads.back
          ∙ near-same step joins pairs outer (whole_class step joins outer) b x cut (whole-respects step joins pairs outer cut)
          (omega (arith, b_is.below)) (omega (arith, is.below)) found.2;
    }

led-true : (step : Step) (joins pairs outer : List (ℕ × ℕ)) (z : ℕ) → step.alive_next z ≡ true
    → led step joins pairs outer z ≡ outer_class step pairs outer z
led-true step joins pairs outer z is =
    ap (λ b. cond b (outer_class step pairs outer z)
    (cond (none_in step joins (near_class step joins z)) (near_class step joins z)
    (carried step joins pairs outer (near_class step joins z)))) is

led-false : (step : Step) (joins pairs outer : List (ℕ × ℕ)) (z : ℕ) (none : Bool) → step.alive_next z ≡ false
    → none_in step joins (near_class step joins z) ≡ none
    → led step joins pairs outer z ≡ cond none (near_class step joins z) (carried step joins pairs outer (near_class step joins z))
led-false step joins pairs outer z none is none_is =
    ap (λ b. cond b (outer_class step pairs outer z)
    (cond (none_in step joins (near_class step joins z)) (near_class step joins z)
    (carried step joins pairs outer (near_class step joins z)))) is
    ∙ ap (λ b. cond b (near_class step joins z) (carried step joins pairs outer (near_class step joins z))) none_is

pub led-leads : (step : Step) (joins pairs outer : List (ℕ × ℕ)) (z : ℕ) → IsCut step joins pairs outer
    → 1 ≤ z → z < 1 + step.count → step.alive z ≡ true → LeadsTo step joins pairs outer z (led step joins pairs outer z)
led-leads step joins pairs outer z cut above below alive = elim (cases_Bool (step.alive_next z)) [
  | inl next ↦
      subst (λ y. LeadsTo step joins pairs outer z y) (sym (led-true step joins pairs outer z next))
      (outer-leads step joins pairs outer z cut record { above = above; below = below; passes = next })
  | inr not_next ↦
      let near : is_near step z ≡ true =
      ap (λ b. b || is_near step z) (sym not_next) ∙ sym (cut.step_is.alive z above (omega (arith, below))) ∙ alive in
      let is : IsOneOf step.count (is_near step) z = record { above = above; below = below; passes = near } in
      elim (cases_Bool (none_in step joins (near_class step joins z))) [
        | inl none ↦
            subst (λ y. LeadsTo step joins pairs outer z y) (sym (led-false step joins pairs outer z true not_next none))
            (near-leads step joins pairs outer z cut is none)
        | inr some ↦
            subst (λ y. LeadsTo step joins pairs outer z y) (sym (led-false step joins pairs outer z false not_next some))
            (open-leads step joins pairs outer z cut is some)
      ]
]

-- a new circle is alive
pub new-alive : (step : Step) (joins pairs outer : List (ℕ × ℕ)) (x : ℕ) → IsStep step
    → Stays step pairs outer x ⊎ Closes step joins x → IsOneOf step.count step.alive x
new-alive step joins pairs outer x step_is (inl stay) = next-alive step x step_is stay.is
new-alive step joins pairs outer x step_is (inr close) = near-alive step x step_is close.is
