-- What is one class of all joins, near the crossing and outside.
--
-- The classes outside are carried over to all points. A point near the crossing has, where an open arc is in its class there, the class
-- outside of that arc, and else a number of its own, above all others (`carried`); a point outside has its own class (`retracted`). Both
-- agree where a point is near and outside, since it is open then. Each join, near or outside, is between points of one such number, so
-- these numbers are one on each class of all joins (`retracted-same`). The other way round, what is one class near the crossing, or
-- outside, is one class of all, since the pairs join nothing that the joins near the crossing do not (`near-same`, `outside-same`).
use Rattle.std.proofs.Common.{◌≡◌, ℕ, inl, inr, ◌+◌, ◌<◌, ◌∙◌, List, ◌++◌, refl, sym, ap, true, cond}
use Rattle.std.specs.Prelude.{nat_eq}
use Rattle.std.specs.List.{list_any, Contains}
use Rattle.std.proofs.lemmas.Bool.{cases_Bool, not-true}
use Rattle.kh_types.specs.Classes.{classes_of, Respects}
use Rattle.kh_types.proofs.ClassLemmas.{classes-together, classes-finest, Respects-append, Respects-first, Respects-second}
use Rattle.kh_types.proofs.Lists.{AllByRecursion-both}
use Rattle.added_crossing_laws.specs.Steps.{Step, after, is_near, near, is_none_in}
use Rattle.added_crossing_laws.proofs.Members.{those-are, are-those}
use Rattle.added_crossing_laws.proofs.Classes.{Respects-alike}
use Rattle.added_crossing_laws.proofs.Picked.{pick, HaveOneValue, pick-has, pick-none}
use Rattle.added_crossing_laws.proofs.CutJoins.{IsCut, near_class, outer_class, whole_class, both-open, near-joins, outside-joins, whole-joins}

-- the classes outside, carried over to all points: a class near the crossing with an open arc has that arc's class, another one a
-- number of its own
abbrev pub carried : Step → List (ℕ × ℕ) → List (ℕ × ℕ) → List (ℕ × ℕ) → ℕ → ℕ
carried step joins pairs outer k =
    pick (near_class step joins) (outer_class step pairs outer) (step.count + 1) (after step).opened k

abbrev pub retracted : Step → List (ℕ × ℕ) → List (ℕ × ℕ) → List (ℕ × ℕ) → ℕ → ℕ
retracted step joins pairs outer x =
    cond (is_near step x) (carried step joins pairs outer (near_class step joins x)) (outer_class step pairs outer x)

open-alike : (step : Step) (joins pairs outer : List (ℕ × ℕ)) → IsCut step joins pairs outer
    → HaveOneValue (near_class step joins) (outer_class step pairs outer) (after step).opened
open-alike step joins pairs outer cut =
    cut.made.together (outer_class step pairs outer)
    (Respects-first (outer_class step pairs outer) pairs outer
    (classes-together (step.count + 1) (pairs ++ outer) (outside-joins step joins pairs outer cut)))

pub carried-open : (step : Step) (joins pairs outer : List (ℕ × ℕ)) (x k : ℕ) → IsCut step joins pairs outer
    → Contains (after step).opened x → near_class step joins x ≡ k
    → carried step joins pairs outer k ≡ outer_class step pairs outer x
carried-open step joins pairs outer x k cut has is =
    pick-has (near_class step joins) (outer_class step pairs outer) (step.count + 1) (after step).opened k x
    (open-alike step joins pairs outer cut) has is

pub carried-none : (step : Step) (joins pairs outer : List (ℕ × ℕ)) (k : ℕ)
    → is_none_in (after step).opened (classes_of (step.count + 1) joins) k ≡ true
    → carried step joins pairs outer k ≡ step.count + 1 + k
carried-none step joins pairs outer k none =
    pick-none (near_class step joins) (outer_class step pairs outer) (step.count + 1) (after step).opened k
    (not-true (list_any (λ x. nat_eq (near_class step joins x) k) (after step).opened) none)

pub retracted-near : (step : Step) (joins pairs outer : List (ℕ × ℕ)) (x : ℕ) → is_near step x ≡ true
    → retracted step joins pairs outer x ≡ carried step joins pairs outer (near_class step joins x)
retracted-near step joins pairs outer x near =
    ap (λ b. cond b (carried step joins pairs outer (near_class step joins x)) (outer_class step pairs outer x)) near

pub retracted-outside : (step : Step) (joins pairs outer : List (ℕ × ℕ)) (x : ℕ) → IsCut step joins pairs outer
    → Contains (after step).alive x → retracted step joins pairs outer x ≡ outer_class step pairs outer x
retracted-outside step joins pairs outer x cut has =
    let is = those-are step.count step.alive_next x has in
    elim (cases_Bool (is_near step x)) [
      | inl near ↦
          retracted-near step joins pairs outer x near
          ∙ carried-open step joins pairs outer x (near_class step joins x) cut
          (are-those step.count step.opened_next x is.above is.below
          (both-open step x cut.step_is is.above is.below is.passes near)) refl
      | inr far ↦
          ap (λ b. cond b (carried step joins pairs outer (near_class step joins x)) (outer_class step pairs outer x)) far
    ]

retracted-respects : (step : Step) (joins pairs outer : List (ℕ × ℕ)) → IsCut step joins pairs outer
    → Respects (retracted step joins pairs outer) (joins ++ outer)
retracted-respects step joins pairs outer cut =
    let n = step.count + 1 in
    Respects-append (retracted step joins pairs outer) joins outer
    (AllByRecursion-both (λ pair. Contains (near step) pair.0 × Contains (near step) pair.1)
    (λ pair. near_class step joins pair.0 ≡ near_class step joins pair.1)
    (λ pair. retracted step joins pairs outer pair.0 ≡ retracted step joins pairs outer pair.1) joins
    (λ pair has same.
    retracted-near step joins pairs outer pair.0 (those-are step.count (is_near step) pair.0 has.0).passes
    ∙ ap (λ k. carried step joins pairs outer k) same
    ∙ sym (retracted-near step joins pairs outer pair.1 (those-are step.count (is_near step) pair.1 has.1).passes))
    cut.inside (classes-together n joins (near-joins step joins pairs outer cut)))
    (Respects-alike (outer_class step pairs outer) (retracted step joins pairs outer) (after step).alive outer
    (λ x has. retracted-outside step joins pairs outer x cut has) cut.outside
    (Respects-second (outer_class step pairs outer) pairs outer
    (classes-together n (pairs ++ outer) (outside-joins step joins pairs outer cut))))

-- so what is one class of all is one there
pub retracted-same : (step : Step) (joins pairs outer : List (ℕ × ℕ)) (x y : ℕ) → IsCut step joins pairs outer
    → x < step.count + 1 → y < step.count + 1 → whole_class step joins outer x ≡ whole_class step joins outer y
    → retracted step joins pairs outer x ≡ retracted step joins pairs outer y
retracted-same step joins pairs outer x y cut =
    classes-finest (retracted step joins pairs outer) (step.count + 1) (joins ++ outer)
    (retracted-respects step joins pairs outer cut) (whole-joins step joins pairs outer cut) x y

-- what is one class near the crossing or outside is one class of all, and has one value wherever all joins have one

pub outside-same : (step : Step) (joins pairs outer : List (ℕ × ℕ)) (f : ℕ → ℕ) (x y : ℕ) → IsCut step joins pairs outer
    → Respects f (joins ++ outer) → x < step.count + 1 → y < step.count + 1
    → outer_class step pairs outer x ≡ outer_class step pairs outer y → f x ≡ f y
outside-same step joins pairs outer f x y cut respects =
    classes-finest f (step.count + 1) (pairs ++ outer)
    (Respects-append f pairs outer (cut.made.only f (Respects-first f joins outer respects)) (Respects-second f joins outer respects))
    (outside-joins step joins pairs outer cut) x y

pub near-same : (step : Step) (joins pairs outer : List (ℕ × ℕ)) (f : ℕ → ℕ) (x y : ℕ) → IsCut step joins pairs outer
    → Respects f (joins ++ outer) → x < step.count + 1 → y < step.count + 1
    → near_class step joins x ≡ near_class step joins y → f x ≡ f y
near-same step joins pairs outer f x y cut respects =
    classes-finest f (step.count + 1) joins (Respects-first f joins outer respects) (near-joins step joins pairs outer cut) x y

pub whole-respects : (step : Step) (joins pairs outer : List (ℕ × ℕ)) → IsCut step joins pairs outer
    → Respects (whole_class step joins outer) (joins ++ outer)
whole-respects step joins pairs outer cut =
    classes-together (step.count + 1) (joins ++ outer) (whole-joins step joins pairs outer cut)
