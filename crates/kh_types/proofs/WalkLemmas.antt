-- Walks round the cycles of a permutation, each from its least number: all numbers of the cycle get its class.
--
-- This is the invariant of each loop that labels cycles. From the least number p of a cycle the walk gives p to one number after the other,
-- until it is back at p. On the way the numbers with p are a stretch of the cycle (`IsOnWalk`), whose end is new or p, since f is one to
-- one. When the walk is back, the numbers with p are closed under f, so they are the whole cycle, by the finest property of cycles.
use Rattle.std.proofs.Common.{◌≡◌, ◌≢◌, ℕ, ◌⊎◌, inl, inr, ◌+◌, ◌<◌, ◌∙◌, List, length, sym, ap, arith, cond, not}
use Rattle.std.specs.Prelude.{nat_eq, slice_index}
use Rattle.std.specs.List.{count_by, range_with_len}
use Rattle.std.proofs.Math.ListN.{set}
use Rattle.std.proofs.lemmas.Bool.Decides.{nat_tests}
use Rattle.std.proofs.lemmas.Bool.{cases_eq, eq-eqb, eqb-true, false_from_ne_true}
use Rattle.std.proofs.lemmas.List.{ext_get_or, get_or-set_same, get_or-set_other, length-set}
use Rattle.std.proofs.lemmas.List.FromFn.{length-range_with_len}
use Rattle.std.proofs.lemmas.List.Sums.{sum_by-set}
use Rattle.kh_types.specs.Classes.{IsNamed}
use Rattle.kh_types.proofs.JoinedClasses.{slice_index-range}
use Rattle.kh_types.specs.Walks.{IsWalked}

-- f permutes the numbers below m, another function leads back, and these are the cycles of f, named by their least numbers: one
-- step stays in the cycle, and what each step keeps is one on each cycle
pub record AreCycles (m : ℕ) (f back : ℕ → ℕ) (cycles : List ℕ) : Type 0 where
  pub below : (x : ℕ) → x < m → f x < m
  pub back_below : (x : ℕ) → x < m → back x < m
  pub back_f : (x : ℕ) → x < m → back (f x) ≡ x
  pub f_back : (x : ℕ) → x < m → f (back x) ≡ x
  pub named : IsNamed m cycles
  pub step : (x : ℕ) → x < m → slice_index cycles (f x) ≡ slice_index cycles x
  pub finest : (g : ℕ → ℕ) → ((x : ℕ) → x < m → g x ≡ g (f x)) → (x y : ℕ) → x < m → y < m
      → slice_index cycles x ≡ slice_index cycles y → g x ≡ g y

-- the walk from the least number p of a cycle has come to x: the numbers that it left have the class p, the number before each of
-- them and before x too, and the number behind each of them too or it is x; x is p again, or new; nothing else has changed
pub record IsOnWalk (m : ℕ) (f back : ℕ → ℕ) (cycles initial classes : List ℕ) (p x : ℕ) : Type 0 where
  pub size : length classes ≡ m
  pub below : x < m
  pub cycle : slice_index cycles x ≡ p
  pub start : slice_index classes p ≡ p
  pub fresh : (x ≡ p) ⊎ (slice_index classes x ≢ p)
  pub entered : slice_index classes (back x) ≡ p
  pub preceded : (y : ℕ) → y < m → slice_index classes y ≡ p → y ≢ p → slice_index classes (back y) ≡ p
  pub followed : (y : ℕ) → y < m → slice_index classes y ≡ p → (f y ≡ x) ⊎ (slice_index classes (f y) ≡ p)
  pub others : (y : ℕ) → y < m → slice_index cycles y ≢ p → slice_index classes y ≡ slice_index initial y

-- one number more gets the class p

at_new : (classes : List ℕ) (x p : ℕ) → x < length classes → slice_index (set classes x p) x ≡ p
at_new classes x p below = get_or-set_same classes x p 0 below

at_other : (classes : List ℕ) (x p y : ℕ) → y ≢ x → slice_index (set classes x p) y ≡ slice_index classes y
at_other classes x p y apart = get_or-set_other classes x y p 0 apart

keeps : (classes : List ℕ) (x p y : ℕ) → x < length classes → slice_index classes y ≡ p → slice_index (set classes x p) y ≡ p
keeps classes x p y below has = grind (arith, nat_tests, below, cases_eq, set, at_new, at_other)

came_from : (classes : List ℕ) (x p y : ℕ) → slice_index (set classes x p) y ≡ p → (y ≡ x) ⊎ (slice_index classes y ≡ p)
came_from classes x p y has = grind (arith, nat_tests, cases_eq, at_other)

-- the walk makes one step more
pub IsOnWalk-more : (m : ℕ) (f back : ℕ → ℕ) (cycles initial classes : List ℕ) (p x : ℕ) → AreCycles m f back cycles → p < m → x ≢ p
    → IsOnWalk m f back cycles initial classes p x → IsOnWalk m f back cycles initial (set classes x p) p (f x)
IsOnWalk-more m f back cycles initial classes p x are p_below not_p on =
    let next = set classes x p in
    let inside : x < length classes = omega (arith, on.size, on.below) in
    let new : slice_index classes x ≢ p = elim on.fresh [ inl same ↦ absurd (not_p same) | inr other ↦ other ] in
    let entered : slice_index next (back (f x)) ≡ p =
    ap (λ z. slice_index next z) (are.back_f x on.below) ∙ at_new classes x p inside in
    let preceded : (y : ℕ) → y < m → slice_index next y ≡ p → y ≢ p → slice_index next (back y) ≡ p =
    λ y below has apart. keeps classes x p (back y) inside (elim (came_from classes x p y has) [
      | inl same ↦ ap (λ z. slice_index classes (back z)) same ∙ on.entered
      | inr had ↦ on.preceded y below had apart
    ]) in
    record {
      size = length-set classes x p ∙ on.size;
      below = are.below x on.below;
      cycle = are.step x on.below ∙ on.cycle;
      start = keeps classes x p p inside on.start;
      fresh = elim (cases_eq (f x) p) [
        | inl same ↦ inl same
        | inr apart ↦ inr (λ has. new (elim (came_from classes x p (f x) has) [
          | inl fixed ↦ ap (λ z. slice_index classes z) (sym (are.back_f x on.below) ∙ ap back fixed) ∙ on.entered
          | inr had ↦ sym (ap (λ z. slice_index classes z) (are.back_f x on.below)) ∙ on.preceded (f x) (are.below x on.below) had apart
        ]))
      ];
      entered = entered;
      preceded = preceded;
      followed = λ y below has. elim (came_from classes x p y has) [
        | inl same ↦ inl (ap f same)
        | inr had ↦ elim (on.followed y below had) [
          | inl is_x ↦ inr (ap (λ z. slice_index next z) is_x ∙ at_new classes x p inside)
          | inr has_too ↦ inr (keeps classes x p (f y) inside has_too)
        ]
      ];
      others = λ y below other.
          at_other classes x p y (λ same. other (ap (λ z. slice_index cycles z) same ∙ on.cycle)) ∙ on.others y below other;
    }

-- the walk begins behind the least number of a cycle
pub IsOnWalk-first : (m : ℕ) (f back : ℕ → ℕ) (cycles classes : List ℕ) (p : ℕ) → AreCycles m f back cycles → p < m
    → IsWalked cycles classes p → slice_index classes p ≡ p → IsOnWalk m f back cycles classes classes p (f p)
IsOnWalk-first m f back cycles classes p are below walked own = grind (arith, nat_tests)

-- and ends where it began: then all numbers of the cycle have its class
abbrev has_class : List ℕ → ℕ → ℕ → ℕ
has_class classes p x = cond (nat_eq (slice_index classes x) p) 1 0

has_class-same : (classes : List ℕ) (p x y : ℕ) → (slice_index classes x ≡ p → slice_index classes y ≡ p)
    → (slice_index classes y ≡ p → slice_index classes x ≡ p) → has_class classes p x ≡ has_class classes p y
has_class-same classes p x y onward back = grind (arith, nat_tests)

has_class-is : (classes : List ℕ) (p x y : ℕ) → has_class classes p x ≡ has_class classes p y → slice_index classes y ≡ p
    → slice_index classes x ≡ p
has_class-is classes p x y same has = grind (arith, nat_tests)

whole_cycle : (m : ℕ) (f back : ℕ → ℕ) (cycles initial classes : List ℕ) (p : ℕ) → AreCycles m f back cycles
    → IsOnWalk m f back cycles initial classes p p → (y : ℕ) → y < m → slice_index cycles y ≡ p → slice_index classes y ≡ p
whole_cycle m f back cycles initial classes p are on y below is =
    has_class-is classes p y p
    (are.finest (has_class classes p)
    (λ x x_below. has_class-same classes p x (f x)
    (λ has. elim (on.followed x x_below has) [ inl at_p ↦ ap (λ z. slice_index classes z) at_p ∙ on.start | inr too ↦ too ])
    (λ has.
    sym (ap (λ z. slice_index classes z) (are.back_f x x_below))
    ∙ elim (cases_eq (f x) p) [
      | inl at_p ↦ ap (λ z. slice_index classes (back z)) at_p ∙ on.entered
      | inr apart ↦ on.preceded (f x) (are.below x x_below) has apart
    ]))
    y p below on.below (is ∙ sym on.cycle))
    on.start

pub IsWalked-more : (m : ℕ) (f back : ℕ → ℕ) (cycles initial classes : List ℕ) (p : ℕ) → AreCycles m f back cycles
    → IsWalked cycles initial p → IsOnWalk m f back cycles initial classes p p → IsWalked cycles classes (p + 1)
IsWalked-more m f back cycles initial classes p are walked on = record {
  size = on.size ∙ sym are.named.size;
  before = λ y inside lesser.
      let below : y < m = omega (arith, are.named.size, inside) in
      elim (cases_eq (slice_index cycles y) p) [
        | inl is ↦ whole_cycle m f back cycles initial classes p are on y below is ∙ sym is
        | inr apart ↦ on.others y below apart ∙ walked.before y inside (omega (arith, lesser, apart))
      ];
  behind = λ y inside later.
      on.others y (omega (arith, are.named.size, inside)) (λ is. omega (arith, later, is))
      ∙ walked.behind y inside (omega (arith, later));
}

-- a number that is not its own class begins no cycle
pub IsWalked-skip : (m : ℕ) (cycles classes : List ℕ) (p : ℕ) → IsNamed m cycles → p < m → IsWalked cycles classes p
    → slice_index classes p ≢ p → IsWalked cycles classes (p + 1)
IsWalked-skip m cycles classes p named p_below walked other = grind (arith, nat_tests)

-- at first all numbers are alone, and in the end the classes are the cycles
pub IsWalked-none : (m : ℕ) (cycles : List ℕ) → IsNamed m cycles → IsWalked cycles (range_with_len 0 m) 0
IsWalked-none m cycles named = record {
  size = length-range_with_len 0 m ∙ sym named.size;
  before = λ x inside lesser. absurd (omega (arith, lesser));
  behind = λ x inside later. slice_index-range m x (omega (arith, named.size, inside));
}

pub walked-all : (m : ℕ) (cycles classes : List ℕ) → IsNamed m cycles → IsWalked cycles classes m → classes ≡ cycles
walked-all m cycles classes named walked =
    ext_get_or 0 classes cycles walked.size
    (λ x below.
    let inside : x < length cycles = omega (arith, walked.size, below) in
    let within : x < m = omega (arith, named.size, inside) in
    walked.before x inside (omega (arith, named.least x within, within)))

-- how many numbers have not got the class p: fewer with each step
pub unvisited-fewer : (classes : List ℕ) (p x : ℕ) → x < length classes → slice_index classes x ≢ p
    → count_by (λ class. not (nat_eq class p)) (set classes x p) < count_by (λ class. not (nat_eq class p)) classes
unvisited-fewer classes p x below other = grind (arith, nat_tests, below, false_from_ne_true, eqb-true, eq-eqb, sum_by-set)
