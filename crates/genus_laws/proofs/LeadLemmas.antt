-- Pairs that lead from points of a kind to points of another, put together.
--
-- `Lead n from to pairs`: the pairs join each point of one kind with one point of the other, one to one, and whatever respects the pairs
-- agrees on both. Two such lists for kinds that have no point in common make one for both kinds (`Lead-append`), and the other kinds close
-- what is led.
use Rattle.std.proofs.Common.{◌≡◌, ℕ, inl, inr, ◌<◌, ◌∙◌, List, [], ◌∷◌, ◌++◌, refl, sym, ap, subst, Bool, true, false, not, ◌||◌, eq-eqb}
use Rattle.std.specs.Prelude.{nat_eq}
use Rattle.std.proofs.lemmas.Bool.{cases_Bool, eqb-true, or_left, or_right, not-true}
use Rattle.kh_types.proofs.ClassLemmas.{Respects-append, Respects-first, Respects-second, AreBelow-append}
use Rattle.genus_laws.specs.Surfaces.{Lead, other_than, IsSurface}
use Rattle.genus_laws.proofs.Leading.{led, led-inside, led-outside}
use Rattle.genus_laws.proofs.Paths.{false_true, or_else}

-- no point is of both kinds
abbrev pub AreApart : ℕ → (ℕ → Bool) → (ℕ → Bool) → Type 0
AreApart n kind other = (x : ℕ) → x < n → kind x ≡ true → other x ≡ false

pub AreApart-turned : (n : ℕ) (kind other : ℕ → Bool) → AreApart n kind other → AreApart n other kind
AreApart-turned n kind other apart x below is = elim (cases_Bool (kind x)) [
  | inr none ↦ none
  | inl both ↦ absurd (false_true (sym (apart x below both) ∙ is))
]

-- of one kind or of another
abbrev pub either : (ℕ → Bool) → (ℕ → Bool) → ℕ → Bool
either kind other x = kind x || other x

-- pairs that lead from one kind to another close what they lead: at the other points they lead back, or nowhere
pub Lead-closing : (n : ℕ) (from to : ℕ → Bool) (pairs : List (ℕ × ℕ)) → AreApart n from to → Lead n from to pairs
    → Lead n (other_than from) (other_than to) pairs
Lead-closing n from to pairs apart lead =
    let apart_too = AreApart-turned n from to apart in
    let stay : ℕ → ℕ = λ x. x in
    let in_to = λ (x : ℕ) (is : to x ≡ true). led-inside to lead.back stay x is in
    let not_to = λ (x : ℕ) (is : to x ≡ false). led-outside to lead.back stay x is in
    let in_from = λ (x : ℕ) (is : from x ≡ true). led-inside from lead.next stay x is in
    let not_from = λ (x : ℕ) (is : from x ≡ false). led-outside from lead.next stay x is in
    record {
      next = led to lead.back stay;
      back = led from lead.next stay;
      below = lead.below;
      next_below = λ x below is. elim (cases_Bool (to x)) [
        | inl start ↦ subst (λ (z : ℕ). z < n) (sym (in_to x start)) (lead.back_below x below start)
        | inr none ↦ subst (λ (z : ℕ). z < n) (sym (not_to x none)) below
      ];
      next_to = λ x below is. elim (cases_Bool (to x)) [
        | inl start ↦
            ap (other_than to) (in_to x start)
            ∙ ap not (apart (lead.back x) (lead.back_below x below start) (lead.back_from x below start))
        | inr none ↦ ap (other_than to) (not_to x none) ∙ ap not none
      ];
      back_below = λ x below is. elim (cases_Bool (from x)) [
        | inl end ↦ subst (λ (z : ℕ). z < n) (sym (in_from x end)) (lead.next_below x below end)
        | inr none ↦ subst (λ (z : ℕ). z < n) (sym (not_from x none)) below
      ];
      back_from = λ x below is. elim (cases_Bool (from x)) [
        | inl end ↦
            ap (other_than from) (in_from x end)
            ∙ ap not (apart_too (lead.next x) (lead.next_below x below end) (lead.next_to x below end))
        | inr none ↦ ap (other_than from) (not_from x none) ∙ ap not none
      ];
      back_next = λ x below is. elim (cases_Bool (to x)) [
        | inl start ↦
            ap (led from lead.next stay) (in_to x start) ∙ in_from (lead.back x) (lead.back_from x below start)
            ∙ lead.next_back x below start
        | inr none ↦ ap (led from lead.next stay) (not_to x none) ∙ not_from x (not-true (from x) is)
      ];
      next_back = λ x below is. elim (cases_Bool (from x)) [
        | inl end ↦
            ap (led to lead.back stay) (in_from x end) ∙ in_to (lead.next x) (lead.next_to x below end)
            ∙ lead.back_next x below end
        | inr none ↦ ap (led to lead.back stay) (not_from x none) ∙ not_to x (not-true (to x) is)
      ];
      joins = λ g respects x below is. elim (cases_Bool (to x)) [
        | inl start ↦
            ap g (sym (lead.next_back x below start))
            ∙ sym (lead.joins g respects (lead.back x) (lead.back_below x below start) (lead.back_from x below start))
            ∙ ap g (sym (in_to x start))
        | inr none ↦ ap g (sym (not_to x none))
      ];
      only = λ g keeps.
          lead.only g (λ x below end.
          let next = lead.next x in
          let next_below = lead.next_below x below end in
          let start = lead.next_to x below end in
          sym (keeps next next_below (ap not (apart_too next next_below start))
          ∙ ap g (in_to next start ∙ lead.back_next x below end)));
    }

-- pairs and further pairs, of other points
abbrev pub Lead-append : (n : ℕ) (from to from_too to_too : ℕ → Bool) (xs ys : List (ℕ × ℕ)) → AreApart n from from_too → AreApart n to to_too
    → Lead n from to xs → Lead n from_too to_too ys → Lead n (either from from_too) (either to to_too) (xs ++ ys)
Lead-append n from to from_too to_too xs ys from_apart to_apart first second =
    let from_other = AreApart-turned n from from_too from_apart in
    let to_other = AreApart-turned n to to_too to_apart in
    let inside = λ (x : ℕ) (is : from x ≡ true). led-inside from first.next second.next x is in
    let outside = λ (x : ℕ) (is : from x ≡ false). led-outside from first.next second.next x is in
    let back_inside = λ (x : ℕ) (is : to x ≡ true). led-inside to first.back second.back x is in
    let back_outside = λ (x : ℕ) (is : to x ≡ false). led-outside to first.back second.back x is in
    record {
      next = led from first.next second.next;
      back = led to first.back second.back;
      below = AreBelow-append n xs ys first.below second.below;
      next_below = λ x below is. elim (cases_Bool (from x)) [
        | inl here ↦ subst (λ (z : ℕ). z < n) (sym (inside x here)) (first.next_below x below here)
        | inr there ↦
            subst (λ (z : ℕ). z < n) (sym (outside x there)) (second.next_below x below (or_else (from x) (from_too x) is there))
      ];
      next_to = λ x below is. elim (cases_Bool (from x)) [
        | inl here ↦
            ap (either to to_too) (inside x here)
            ∙ or_left (to (first.next x)) (to_too (first.next x)) (first.next_to x below here)
        | inr there ↦
            let is_too = or_else (from x) (from_too x) is there in
            ap (either to to_too) (outside x there)
            ∙ or_right (to (second.next x)) (to_too (second.next x)) (second.next_to x below is_too)
      ];
      back_below = λ x below is. elim (cases_Bool (to x)) [
        | inl here ↦ subst (λ (z : ℕ). z < n) (sym (back_inside x here)) (first.back_below x below here)
        | inr there ↦
            subst (λ (z : ℕ). z < n) (sym (back_outside x there)) (second.back_below x below (or_else (to x) (to_too x) is there))
      ];
      back_from = λ x below is. elim (cases_Bool (to x)) [
        | inl here ↦
            ap (either from from_too) (back_inside x here)
            ∙ or_left (from (first.back x)) (from_too (first.back x)) (first.back_from x below here)
        | inr there ↦
            let is_too = or_else (to x) (to_too x) is there in
            ap (either from from_too) (back_outside x there)
            ∙ or_right (from (second.back x)) (from_too (second.back x)) (second.back_from x below is_too)
      ];
      back_next = λ x below is. elim (cases_Bool (from x)) [
        | inl here ↦
            ap (led to first.back second.back) (inside x here) ∙ back_inside (first.next x) (first.next_to x below here)
            ∙ first.back_next x below here
        | inr there ↦
            let is_too = or_else (from x) (from_too x) is there in
            ap (led to first.back second.back) (outside x there)
            ∙ back_outside (second.next x) (to_other (second.next x) (second.next_below x below is_too) (second.next_to x below is_too))
            ∙ second.back_next x below is_too
      ];
      next_back = λ x below is. elim (cases_Bool (to x)) [
        | inl here ↦
            ap (led from first.next second.next) (back_inside x here) ∙ inside (first.back x) (first.back_from x below here)
            ∙ first.next_back x below here
        | inr there ↦
            let is_too = or_else (to x) (to_too x) is there in
            ap (led from first.next second.next) (back_outside x there)
            ∙ outside (second.back x) (from_other (second.back x) (second.back_below x below is_too) (second.back_from x below is_too))
            ∙ second.next_back x below is_too
      ];
      joins = λ g respects x below is. elim (cases_Bool (from x)) [
        | inl here ↦ first.joins g (Respects-first g xs ys respects) x below here ∙ ap g (sym (inside x here))
        | inr there ↦
            second.joins g (Respects-second g xs ys respects) x below (or_else (from x) (from_too x) is there)
            ∙ ap g (sym (outside x there))
      ];
      only = λ g keeps.
          Respects-append g xs ys
          (first.only g (λ x below here. keeps x below (or_left (from x) (from_too x) here) ∙ ap g (inside x here)))
          (second.only g (λ x below here.
          keeps x below (or_right (from x) (from_too x) here) ∙ ap g (outside x (from_other x below here))));
    }

-- no pairs lead each point to itself
pub Lead-none : (n : ℕ) (kind : ℕ → Bool) → Lead n kind kind []
Lead-none n kind = record {
  next = λ x. x;
  back = λ x. x;
  below = tt;
  next_below = λ x below is. below;
  next_to = λ x below is. is;
  back_below = λ x below is. below;
  back_from = λ x below is. is;
  back_next = λ x below is. refl;
  next_back = λ x below is. refl;
  joins = λ g respects x below is. refl;
  only = λ g keeps. tt;
}

-- one pair
abbrev pub is_one : ℕ → ℕ → Bool
is_one a x = nat_eq x a

abbrev pub Lead-one : (n a b : ℕ) → a < n → b < n → Lead n (is_one a) (is_one b) ((a, b) ∷ [])
Lead-one n a b a_below b_below = record {
  next = λ x. b;
  back = λ x. a;
  below = ((a_below, b_below), tt);
  next_below = λ x below is. b_below;
  next_to = λ x below is. eq-eqb b b refl;
  back_below = λ x below is. a_below;
  back_from = λ x below is. eq-eqb a a refl;
  back_next = λ x below is. sym (eqb-true x a is);
  next_back = λ x below is. sym (eqb-true x b is);
  joins = λ g respects x below is. ap g (eqb-true x a is) ∙ respects.0;
  only = λ g keeps. (keeps a a_below (eq-eqb a a refl), tt);
}

pub Lead-one_turned : (n a b : ℕ) → a < n → b < n → Lead n (is_one a) (is_one b) ((b, a) ∷ [])
Lead-one_turned n a b a_below b_below = record {
  next = λ x. b;
  back = λ x. a;
  below = ((b_below, a_below), tt);
  next_below = λ x below is. b_below;
  next_to = λ x below is. eq-eqb b b refl;
  back_below = λ x below is. a_below;
  back_from = λ x below is. eq-eqb a a refl;
  back_next = λ x below is. sym (eqb-true x a is);
  next_back = λ x below is. sym (eqb-true x b is);
  joins = λ g respects x below is. ap g (eqb-true x a is) ∙ sym respects.0;
  only = λ g keeps. (sym (keeps a a_below (eq-eqb a a refl)), tt);
}

-- three pairings make a surface
pub IsSurface-three : (n : ℕ) (ends starts : ℕ → Bool) (m k l : List (ℕ × ℕ)) → AreApart n ends starts → Lead n ends starts m
    → Lead n ends starts k → Lead n ends starts l → IsSurface n ends starts m k l
IsSurface-three n ends starts m k l apart first second third = record {
  apart = apart;
  first = first;
  second = second;
  outer = Lead-closing n ends starts l apart third;
}
