-- The way along a function that takes no two numbers to one, from the image of a number until it comes to one of two.
--
-- Follow f from the image of e. As f takes no two numbers to one, the way comes to no number twice but where it began, and each step leaves
-- one number fewer that is not on it; so it comes to d or e. The numbers that it passes are a test, which each step enlarges by one number.
-- In the end the test is 1 on the way to the last of d and e, and 0 at the other: what Exchanges splits by.
use Rattle.std.proofs.Common.{◌≡◌, ◌≢◌, ℕ, zero, suc, ◌⊎◌, inl, inr, ◌+◌, ◌<◌, ◌≤◌, ◌∙◌, refl, sym, ap, subst, arith, Bool, true, false, not, cond}
use Rattle.std.specs.Prelude.{nat_eq, ◌||◌}
use Rattle.std.specs.List.{count_by, range_with_len}
use Rattle.std.proofs.lemmas.Bool.{cases_eq}
use Rattle.std.proofs.lemmas.Bool.Decides.{nat_tests}
use Rattle.kh_types.proofs.RangeCounts.{count_by-one_more}

-- f takes the numbers below m to numbers below m, no two to one
pub record IsOneToOne (m : ℕ) (f : ℕ → ℕ) : Type 0 where
  pub below : (x : ℕ) → x < m → f x < m
  pub one : (x y : ℕ) → x < m → y < m → f x ≡ f y → x ≡ y

-- one number more passes a test
abbrev with : ℕ → (ℕ → Bool) → ℕ → Bool
with x passed y = nat_eq y x || passed y

with-this : (b : Bool) (x y : ℕ) → y ≡ x → (nat_eq y x || b) ≡ true
with-this b x y same = grind (arith, nat_tests)

with-passed : (b : Bool) (x y : ℕ) → b ≡ true → (nat_eq y x || b) ≡ true
with-passed b x y passes = grind (arith, nat_tests)

with-cases : (b : Bool) (x y : ℕ) → (nat_eq y x || b) ≡ true → (y ≡ x) ⊎ (b ≡ true)
with-cases b x y passes = grind (arith, nat_tests)

with-fails : (b : Bool) (x y : ℕ) → (y ≡ x → ⊥) → (b ≡ true → ⊥) → (nat_eq y x || b) ≡ false
with-fails b x y other fails = grind (arith, nat_tests)

-- the way along f from the image of e on, until it comes to d or e: it is at x, and the numbers before it pass a test. Neither d
-- nor e does; the image of each that passes passes too, or is x; and what has such an image passes, or is e. What each step
-- keeps, but for those from d and e, is one on all of the way
record IsOnWay (m : ℕ) (f : ℕ → ℕ) (d e : ℕ) (passed : ℕ → Bool) (x : ℕ) : Type 0 where
  below : x < m
  fresh : passed x ≡ true → ⊥
  start : (f e ≡ x) ⊎ (passed (f e) ≡ true)
  not_d : passed d ≡ true → ⊥
  not_e : passed e ≡ true → ⊥
  onward : (y : ℕ) → y < m → passed y ≡ true → (f y ≡ x) ⊎ (passed (f y) ≡ true)
  behind : (y : ℕ) → y < m → (f y ≡ x) ⊎ (passed (f y) ≡ true) → (y ≡ e) ⊎ (passed y ≡ true)
  together : (g : ℕ → ℕ) → ((y : ℕ) → y < m → y ≢ d → y ≢ e → g y ≡ g (f y)) → g x ≡ g (f e)

IsOnWay-first : (m : ℕ) (f : ℕ → ℕ) (d e : ℕ) → IsOneToOne m f → e < m → IsOnWay m f d e (λ y. false) (f e)
IsOnWay-first m f d e is below = grind (arith, nat_tests)

IsOnWay-more : (m : ℕ) (f : ℕ → ℕ) (d e : ℕ) (passed : ℕ → Bool) (x : ℕ) → IsOneToOne m f → x ≢ d → x ≢ e
    → IsOnWay m f d e passed x → IsOnWay m f d e (with x passed) (f x)
IsOnWay-more m f d e passed x is x_not_d x_not_e on = grind (arith, nat_tests)

-- the whole way, which ends at one of d and e, and leaves out the other: the numbers on it have the value 1, all others 0
pub record IsWay (m : ℕ) (f : ℕ → ℕ) (d e last other : ℕ) : Type 0 where
  pub on : ℕ → ℕ
  pub keeps : (y : ℕ) → y < m → y ≢ d → y ≢ e → on y ≡ on (f y)
  pub first : on (f e) ≡ 1
  pub not_first : on (f d) ≡ 0
  pub at_last : on last ≡ 1
  pub at_other : on other ≡ 0
  pub together : (g : ℕ → ℕ) → ((y : ℕ) → y < m → y ≢ d → y ≢ e → g y ≡ g (f y)) → g last ≡ g (f e)

-- 1 where a test passes, else 0
abbrev value : Bool → ℕ
value passes = cond passes 1 0

value-same : (b c : Bool) → (b ≡ true → c ≡ true) → (c ≡ true → b ≡ true) → value b ≡ value c
value-same b c onward back = grind (arith, nat_tests)

IsWay-ends : (m : ℕ) (f : ℕ → ℕ) (d e other : ℕ) (passed : ℕ → Bool) (x : ℕ) → IsOneToOne m f → d < m → d ≢ e
    → (x ≡ d) ⊎ (x ≡ e) → other ≢ x → (other ≡ d) ⊎ (other ≡ e) → IsOnWay m f d e passed x → IsWay m f d e x other
IsWay-ends m f d e other passed x is d_below apart ends differs other_is on =
    let all = with x passed in
    let comes : (y : ℕ) → all y ≡ true → (y ≡ x) ⊎ (passed y ≡ true) = λ y. with-cases (passed y) x y in
    let none : (y : ℕ) → (y ≡ d) ⊎ (y ≡ e) → passed y ≡ true → ⊥ =
    λ y either passes. elim either [
      | inl is_d ↦ on.not_d (ap passed (sym is_d) ∙ passes)
      | inr is_e ↦ on.not_e (ap passed (sym is_e) ∙ passes)
    ] in
    record {
      on = λ y. value (all y);
      keeps = λ y y_below not_d not_e. value-same (all y) (all (f y))
          (λ passes. elim (comes y passes) [
            | inl same ↦ absurd (elim ends [ inl is_d ↦ not_d (same ∙ is_d) | inr is_e ↦ not_e (same ∙ is_e) ])
            | inr before ↦ elim (on.onward y y_below before) [
              | inl here ↦ with-this (passed (f y)) x (f y) here
              | inr passes_too ↦ with-passed (passed (f y)) x (f y) passes_too
            ]
          ])
          (λ passes. elim (on.behind y y_below (comes (f y) passes)) [
            | inl is_e ↦ absurd (not_e is_e)
            | inr before ↦ with-passed (passed y) x y before
          ]);
      first = ap value (elim on.start [
        | inl here ↦ with-this (passed (f e)) x (f e) here
        | inr passes ↦ with-passed (passed (f e)) x (f e) passes
      ]);
      not_first =
          let fails : (f d ≡ x) ⊎ (passed (f d) ≡ true) → ⊥ =
          λ image. elim (on.behind d d_below image) [ inl is_e ↦ apart is_e | inr before ↦ on.not_d before ] in
          ap value (with-fails (passed (f d)) x (f d) (λ here. fails (inl here)) (λ passes. fails (inr passes)));
      at_last = ap value (with-this (passed x) x x refl);
      at_other = ap value (with-fails (passed other) x other differs (none other other_is));
      together = on.together;
    }

IsWay-at_d : (m : ℕ) (f : ℕ → ℕ) (d e : ℕ) (passed : ℕ → Bool) (x : ℕ) → IsOneToOne m f → d < m → d ≢ e → x ≡ d
    → IsOnWay m f d e passed x → IsWay m f d e d e
IsWay-at_d m f d e passed x is d_below apart is_d on =
    subst (λ (last : ℕ). IsWay m f d e last e) is_d
    (IsWay-ends m f d e e passed x is d_below apart (inl is_d) (λ same. apart (sym is_d ∙ sym same)) (inr refl) on)

IsWay-at_e : (m : ℕ) (f : ℕ → ℕ) (d e : ℕ) (passed : ℕ → Bool) (x : ℕ) → IsOneToOne m f → d < m → d ≢ e → x ≡ e
    → IsOnWay m f d e passed x → IsWay m f d e e d
IsWay-at_e m f d e passed x is d_below apart is_e on =
    subst (λ (last : ℕ). IsWay m f d e last d) is_e
    (IsWay-ends m f d e d passed x is d_below apart (inr is_e) (λ same. apart (same ∙ is_e)) (inl refl) on)

-- each step leaves one number fewer that does not pass
pub not_passed : (b : Bool) → (b ≡ true → ⊥) → not b ≡ true
not_passed b fails = grind (arith, nat_tests)

with-other : (b : Bool) (x y : ℕ) → y ≢ x → b ≡ (nat_eq y x || b)
with-other b x y differs = grind (arith, nat_tests)

fewer_left : (m : ℕ) (f : ℕ → ℕ) (d e : ℕ) (passed : ℕ → Bool) (x : ℕ) → IsOnWay m f d e passed x
    → count_by (λ y. not (passed y)) (range_with_len 0 m) ≡ count_by (λ y. not (with x passed y)) (range_with_len 0 m) + 1
fewer_left m f d e passed x on =
    count_by-one_more (λ y. not (passed y)) (λ y. not (with x passed y)) 0 m x (omega arith) (omega (arith, on.below))
    (not_passed (passed x) on.fresh) (ap not (with-this (passed x) x x refl)) (λ y differs. ap not (with-other (passed y) x y differs))

-- so a way ends
IsWay-from : (fuel m : ℕ) (f : ℕ → ℕ) (d e : ℕ) (passed : ℕ → Bool) (x : ℕ) → IsOneToOne m f → d < m → d ≢ e
    → IsOnWay m f d e passed x → count_by (λ y. not (passed y)) (range_with_len 0 m) ≤ fuel
    → IsWay m f d e d e ⊎ IsWay m f d e e d
IsWay-from zero m f d e passed x is d_below apart on few =
    absurd (omega (arith, few, fewer_left m f d e passed x on))
IsWay-from (suc fuel) m f d e passed x is d_below apart on few = elim (cases_eq x d) [
  | inl is_d ↦ inl (IsWay-at_d m f d e passed x is d_below apart is_d on)
  | inr not_d ↦ elim (cases_eq x e) [
    | inl is_e ↦ inr (IsWay-at_e m f d e passed x is d_below apart is_e on)
    | inr not_e ↦
        IsWay-from fuel m f d e (with x passed) (f x) is d_below apart (IsOnWay-more m f d e passed x is not_d not_e on)
        (omega (arith, few, fewer_left m f d e passed x on))
  ]
]

pub IsWay-whole : (m : ℕ) (f : ℕ → ℕ) (d e : ℕ) → IsOneToOne m f → d < m → e < m → d ≢ e
    → IsWay m f d e d e ⊎ IsWay m f d e e d
IsWay-whole m f d e is d_below e_below apart =
    IsWay-from (count_by (λ y. not false) (range_with_len 0 m)) m f d e (λ y. false) (f e) is d_below apart
    (IsOnWay-first m f d e is e_below) (omega arith)
