-- Where pairs lead from ends to starts, the classes are paths and circles: a class has at most one point whose end is free, and
-- then one whose start is free. One more pair of a free end and a free start keeps that: if two paths become one, it has the free
-- end of one and the free start of the other. Pairs that lead from some points to others lead back as well; and alone they make
-- paths of two points, with all other points for themselves. A point that has one kind alone meets one that has the other alone,
-- and a search through its class finds it. So pairs that join the open points of paths lead from those with a free start alone to
-- those with a free end alone, one to one.
use Rattle.std.proofs.Common.{◌≡◌, ◌≢◌, ℕ, ◌⊎◌, inl, inr, ◌<◌, ◌∙◌, List, refl, sym, ap, subst, length, arith, Bool, true, false, not, ◌&&◌, cond, eq-eqb, ◌||◌}
use Rattle.std.specs.Prelude.{nat_eq, slice_index, unwrap_or}
use Rattle.std.proofs.lemmas.Bool.{cases_Bool, cases_eq, eqb-true, false_from_ne_true, or_left, or_right, not-true, and_parts, and_from}
use Rattle.kh_types.specs.Classes.{merged, joined, classes_of, Respects}
use Rattle.kh_types.proofs.ClassLemmas.{slice_index-joined, merged-both, classes-together, classes-finest}
use Rattle.kh_types.proofs.Exchanges.{merged-same}
use Rattle.kh_types.proofs.RangeCounts.{but, count_by-but, found-counted}
use Rattle.genus_laws.specs.Surfaces.{Lead, other_than, ends_or_starts}
use Rattle.genus_laws.specs.Pairings.{JoinOpen, seek}

-- a class has at most one point of a free kind, and then it has one of the other free kind
pub record ArePaths (n : ℕ) (classes : List ℕ) (free other : ℕ → Bool) : Type 0 where
  pub one : (x y : ℕ) → x < n → y < n → free x ≡ true → free y ≡ true → slice_index classes x ≡ slice_index classes y → x ≡ y
  pub meets : (x : ℕ) → x < n → free x ≡ true
      → (y : ℕ) × (y < n) × (other y ≡ true) × (slice_index classes y ≡ slice_index classes x)

pub false_true : false ≡ true → ⊥
false_true same = cc same

pub but-holds : (b : Bool) (x m : ℕ) → (b && not (nat_eq x m)) ≡ true → (b ≡ true) × (x ≢ m)
but-holds true x m holds = (refl, λ same. false_true (sym (ap (λ t. not t) (eq-eqb x m same)) ∙ holds))
but-holds false x m holds = absurd (false_true holds)

pub but-passes : (b : Bool) (x m : ℕ) → b ≡ true → x ≢ m → (b && not (nat_eq x m)) ≡ true
but-passes true x m is other =
    ap (λ t. not t) (false_from_ne_true (nat_eq x m) (λ same. other (eqb-true x m same)))
but-passes false x m is other = is

-- a free end and a free start are joined, and are free no more
pub ArePaths-joined : (n : ℕ) (classes : List ℕ) (free other : ℕ → Bool) (a b : ℕ) → length classes ≡ n → a < n → b < n
    → free a ≡ true → ArePaths n classes free other → ArePaths n (joined classes (a, b)) (but free a) (but other b)
ArePaths-joined n classes free other a b size a_below b_below a_free paths =
    let class : ℕ → ℕ = λ x. slice_index classes x in
    let at : (x : ℕ) → x < n → slice_index (joined classes (a, b)) x ≡ merged (class a) (class b) (class x) =
    λ x below. slice_index-joined classes (a, b) x (omega (arith, size, below)) in
    record {
      one = λ x y x_below y_below x_free y_free same.
          let x_is = but-holds (free x) x a x_free in
          let y_is = but-holds (free y) y a y_free in
          elim (merged-same (class a) (class b) (class x) (class y) (sym (at x x_below) ∙ same ∙ at y y_below)) [
            | inl alike ↦ paths.one x y x_below y_below x_is.0 y_is.0 alike
            | inr crossed ↦ elim crossed [
              | inl xy ↦ absurd (x_is.1 (paths.one x a x_below a_below x_is.0 a_free xy.0))
              | inr yx ↦ absurd (y_is.1 (paths.one y a y_below a_below y_is.0 a_free yx.1))
            ]
          ];
      meets = λ x below x_free.
          let x_is = but-holds (free x) x a x_free in
          let found = paths.meets x below x_is.0 in
          elim (cases_eq found.0 b) [
            | inr elsewhere ↦ (
              found.0,
              found.1,
              but-passes (other found.0) found.0 b found.2 elsewhere,
              at found.0 found.1 ∙ ap (λ c. merged (class a) (class b) c) found.3 ∙ sym (at x below),
            )
            | inl is_b ↦
                let b_x : class b ≡ class x = ap class (sym is_b) ∙ found.3 in
                let further = paths.meets a a_below a_free in (
                  further.0,
                  further.1,
                  but-passes (other further.0) further.0 b further.2
                      (λ same. x_is.1
                      (paths.one x a below a_below x_is.0 a_free (sym b_x ∙ ap class (sym same) ∙ further.3))),
                  at further.0 further.1 ∙ ap (λ c. merged (class a) (class b) c) further.3 ∙ merged-both (class a) (class b)
                      ∙ ap (λ c. merged (class a) (class b) c) b_x ∙ sym (at x below),
                )
          ];
    }

-- the same pairs lead back
pub Lead-turned : (n : ℕ) (from to : ℕ → Bool) (pairs : List (ℕ × ℕ)) → Lead n from to pairs → Lead n to from pairs
Lead-turned n from to pairs lead = record {
  next = lead.back;
  back = lead.next;
  below = lead.below;
  next_below = lead.back_below;
  next_to = lead.back_from;
  back_below = lead.next_below;
  back_from = lead.next_to;
  back_next = lead.next_back;
  next_back = lead.back_next;
  joins = λ g respects y below is.
      sym (lead.joins g respects (lead.back y) (lead.back_below y below is) (lead.back_from y below is)
      ∙ ap g (lead.next_back y below is));
  only = λ g keeps.
      lead.only g (λ x below is.
      ap g (sym (lead.back_next x below is)) ∙ sym (keeps (lead.next x) (lead.next_below x below is) (lead.next_to x below is)));
}

-- a pairing has paths of two points, and all others are alone
pub ArePaths-lead : (n : ℕ) (from to : ℕ → Bool) (pairs : List (ℕ × ℕ)) → Lead n from to pairs
    → ((x : ℕ) → x < n → from x ≡ true → to x ≡ false) → ((x : ℕ) → x < n → to x ≡ true → from x ≡ false)
    → ArePaths n (classes_of n pairs) (other_than from) (other_than to)
ArePaths-lead n from to pairs lead from_to to_from =
    let class : ℕ → ℕ = λ x. slice_index (classes_of n pairs) x in
    let last : ℕ → ℕ = λ x. cond (from x) (lead.next x) x in
    let last-other : (x : ℕ) → from x ≡ false → last x ≡ x = λ x other. ap (λ b. cond b (lead.next x) x) other in
    let last-from : (x : ℕ) → from x ≡ true → last x ≡ lead.next x = λ x is. ap (λ b. cond b (lead.next x) x) is in
    let kept : Respects last pairs =
    lead.only last (λ x below is.
    last-from x is ∙ sym (last-other (lead.next x) (to_from (lead.next x) (lead.next_below x below is) (lead.next_to x below is)))) in
    record {
      one = λ x y x_below y_below x_free y_free same.
          sym (last-other x (not-true (from x) x_free)) ∙ classes-finest last n pairs kept lead.below x y x_below y_below same
          ∙ last-other y (not-true (from y) y_free);
      meets = λ x below x_free. elim (cases_Bool (to x)) [
        | inr free_too ↦ (x, below, ap not free_too, refl)
        | inl is ↦
            let back_below = lead.back_below x below is in
            let back_from = lead.back_from x below is in (
              lead.back x,
              back_below,
              ap not (from_to (lead.back x) back_below back_from),
              lead.joins class (classes-together n pairs lead.below) (lead.back x) back_below back_from
                  ∙ ap class (lead.next_back x below is),
            )
      ];
    }

pub or_else : (b c : Bool) → (b || c) ≡ true → b ≡ false → c ≡ true
or_else b c is none = sym (ap (λ d. d || c) none) ∙ is

pub record IsSought (n : ℕ) (classes : List ℕ) (kind : ℕ → Bool) (x y : ℕ) : Type 0 where
  pub below : y < n
  pub is : kind y ≡ true
  pub together : slice_index classes y ≡ slice_index classes x

pub IsSought-seek : (n : ℕ) (classes : List ℕ) (kind : ℕ → Bool) (x y : ℕ) → IsSought n classes kind x y
    → IsSought n classes kind x (seek n classes kind x)
IsSought-seek n classes kind x y there =
    let test : ℕ → Bool = λ z. kind z && nat_eq (slice_index classes z) (slice_index classes x) in
    let passes : test y ≡ true =
    and_from (kind y) (nat_eq (slice_index classes y) (slice_index classes x)) there.is
    (eq-eqb (slice_index classes y) (slice_index classes x) there.together) in
    let found = found-counted test 0 n (omega (arith, count_by-but test 0 n y (omega arith) (omega (arith, there.below)) passes)) in
    let is = and_parts (kind found.0) (nat_eq (slice_index classes found.0) (slice_index classes x)) found.1.passes in
    subst (λ (z : ℕ). IsSought n classes kind x z) (sym (ap (λ o. unwrap_or o 0) found.1.first))
    (record {
      below = omega (arith, found.1.below);
      is = is.0;
      together = eqb-true (slice_index classes found.0) (slice_index classes x) is.1;
    })

-- the open points of paths: those with one of the two kinds alone
abbrev pub only_one : (ℕ → Bool) → (ℕ → Bool) → ℕ → Bool
only_one kind other x = kind x && not (other x)

-- a point with one kind alone meets one with the other alone
pub met : (n : ℕ) (classes : List ℕ) (free other : ℕ → Bool) → ArePaths n classes free other → (x : ℕ) → x < n
    → only_one free other x ≡ true → (y : ℕ) × IsSought n classes (only_one other free) x y
met n classes free other paths x below is =
    let x_is = and_parts (free x) (not (other x)) is in
    let found = paths.meets x below x_is.0 in
    elim (cases_Bool (free found.0)) [
      | inr not_free ↦ (
        found.0,
        record {
          below = found.1;
          is = and_from (other found.0) (not (free found.0)) found.2 (ap not not_free);
          together = found.3;
        },
      )
      | inl too ↦
          let same = paths.one found.0 x found.1 below too x_is.0 found.3 in
          absurd (false_true (sym (not-true (other x) x_is.1) ∙ ap other (sym same) ∙ found.2))
    ]

only_one-free : (free other : ℕ → Bool) (x : ℕ) → only_one free other x ≡ true → free x ≡ true
only_one-free free other x is = (and_parts (free x) (not (other x)) is).0

-- pairs that join the open points of paths lead from those with a free start to those with a free end
pub Lead-paths : (n : ℕ) (classes : List ℕ) (free other : ℕ → Bool) (pairs : List (ℕ × ℕ))
    → ArePaths n classes free other → ArePaths n classes other free
    → JoinOpen n (ends_or_starts (only_one other free) (only_one free other)) classes pairs
    → Lead n (only_one other free) (only_one free other) pairs
Lead-paths n classes free other pairs paths back_paths join =
    let class : ℕ → ℕ = λ x. slice_index classes x in
    let ends = only_one other free in
    let starts = only_one free other in
    let onward : (x : ℕ) → x < n → ends x ≡ true → IsSought n classes starts x (seek n classes starts x) =
    λ x below is. let there = met n classes other free back_paths x below is in IsSought-seek n classes starts x there.0 there.1 in
    let backward : (x : ℕ) → x < n → starts x ≡ true → IsSought n classes ends x (seek n classes ends x) =
    λ x below is. let there = met n classes free other paths x below is in IsSought-seek n classes ends x there.0 there.1 in
    let one_end : (x y : ℕ) → x < n → y < n → ends x ≡ true → ends y ≡ true → class x ≡ class y → x ≡ y =
    λ x y x_below y_below x_is y_is.
    back_paths.one x y x_below y_below (only_one-free other free x x_is) (only_one-free other free y y_is) in
    let one_start : (x y : ℕ) → x < n → y < n → starts x ≡ true → starts y ≡ true → class x ≡ class y → x ≡ y =
    λ x y x_below y_below x_is y_is.
    paths.one x y x_below y_below (only_one-free free other x x_is) (only_one-free free other y y_is) in
    let kinds : (x : ℕ) → ends_or_starts ends starts x ≡ true → (ends x ≡ true) ⊎ (starts x ≡ true) =
    λ x is. elim (cases_Bool (ends x)) [ inl end ↦ inl end | inr no_end ↦ inr (or_else (ends x) (starts x) is no_end) ] in
    record {
      next = seek n classes starts;
      back = seek n classes ends;
      below = join.below;
      next_below = λ x below is. (onward x below is).below;
      next_to = λ x below is. (onward x below is).is;
      back_below = λ y below is. (backward y below is).below;
      back_from = λ y below is. (backward y below is).is;
      back_next = λ x below is.
          let there = onward x below is in
          let again = backward (seek n classes starts x) there.below there.is in
          one_end (seek n classes ends (seek n classes starts x)) x again.below below again.is is (again.together ∙ there.together);
      next_back = λ y below is.
          let there = backward y below is in
          let again = onward (seek n classes ends y) there.below there.is in
          one_start (seek n classes starts (seek n classes ends y)) y again.below below again.is is (again.together ∙ there.together);
      joins = λ g respects x below is.
          let there = onward x below is in
          let next = seek n classes starts x in
          join.joins g respects x next below there.below (or_left (ends x) (starts x) is)
          (or_right (ends next) (starts next) there.is) (sym there.together);
      only = λ g keeps.
          let across : (x y : ℕ) → x < n → y < n → ends x ≡ true → starts y ≡ true → class x ≡ class y → g x ≡ g y =
          λ x y x_below y_below x_is y_is same.
          let there = onward x x_below x_is in
          keeps x x_below x_is
          ∙ ap g (one_start (seek n classes starts x) y there.below y_below there.is y_is (there.together ∙ same)) in
          join.only g (λ x y x_below y_below x_open y_open same.
          elim (kinds x x_open) [
            | inl x_end ↦ elim (kinds y y_open) [
              | inl y_end ↦ ap g (one_end x y x_below y_below x_end y_end same)
              | inr y_start ↦ across x y x_below y_below x_end y_start same
            ]
            | inr x_start ↦ elim (kinds y y_open) [
              | inl y_end ↦ sym (across y x y_below x_below y_end x_start (sym same))
              | inr y_start ↦ ap g (one_start x y x_below y_below x_start y_start same)
            ]
          ]);
    }
