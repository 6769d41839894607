-- What leads from ends to starts, with what leads back outside, is a permutation, and its cycles are the classes of the pairs.
--
-- What leads from ends to starts inside, and back from starts to ends outside, is a function that takes each end to a start and each other
-- point on, one to one: a permutation. Respecting the pairs of both is being kept by each of its steps, so that the classes are its cycles.
use Rattle.std.proofs.Common.{◌≡◌, ℕ, inl, inr, ◌<◌, ◌∙◌, List, ◌++◌, sym, ap, subst, Bool, true, false, not, cond}
use Rattle.std.proofs.lemmas.Bool.{cases_Bool, not-true}
use Rattle.kh_types.specs.Classes.{classes_of, Respects, AreBelow}
use Rattle.kh_types.specs.Permutations.{IsPermutation, cycles_of}
use Rattle.kh_types.proofs.JoinedClasses.{classes_of-same}
use Rattle.kh_types.proofs.ClassLemmas.{Respects-append, Respects-first, Respects-second, AreBelow-append}
use Rattle.genus_laws.specs.Orbits.{steps_of, orbits_of}
use Rattle.genus_laws.specs.Surfaces.{Lead, other_than, IsSurface, surface_components}
use Rattle.genus_laws.proofs.OrbitLemmas.{Keeps, Respects-steps, Keeps-steps, steps-below, orbit_steps-below}

-- inside at points of a kind, and outside at the others
abbrev pub led : (ℕ → Bool) → (ℕ → ℕ) → (ℕ → ℕ) → ℕ → ℕ
led kind inside outside x = cond (kind x) (inside x) (outside x)

pub led-inside : (kind : ℕ → Bool) (inside outside : ℕ → ℕ) (x : ℕ) → kind x ≡ true → led kind inside outside x ≡ inside x
led-inside kind inside outside x is = ap (λ b. cond b (inside x) (outside x)) is

pub led-outside : (kind : ℕ → Bool) (inside outside : ℕ → ℕ) (x : ℕ) → kind x ≡ false → led kind inside outside x ≡ outside x
led-outside kind inside outside x is = ap (λ b. cond b (inside x) (outside x)) is

-- one of the two halves of a permutation: below, and back
led-below : (n : ℕ) (from to : ℕ → Bool) (m w : List (ℕ × ℕ)) (inner : Lead n from to m)
    (outer : Lead n (other_than from) (other_than to) w) (x : ℕ) → x < n → led from inner.next outer.next x < n
led-below n from to m w inner outer x below = elim (cases_Bool (from x)) [
  | inl is ↦ subst (λ (z : ℕ). z < n) (sym (led-inside from inner.next outer.next x is)) (inner.next_below x below is)
  | inr other ↦
      subst (λ (z : ℕ). z < n) (sym (led-outside from inner.next outer.next x other)) (outer.next_below x below (ap not other))
]

led_back-below : (n : ℕ) (from to : ℕ → Bool) (m w : List (ℕ × ℕ)) (inner : Lead n from to m)
    (outer : Lead n (other_than from) (other_than to) w) (y : ℕ) → y < n → led to inner.back outer.back y < n
led_back-below n from to m w inner outer y below = elim (cases_Bool (to y)) [
  | inl is ↦ subst (λ (z : ℕ). z < n) (sym (led-inside to inner.back outer.back y is)) (inner.back_below y below is)
  | inr other ↦
      subst (λ (z : ℕ). z < n) (sym (led-outside to inner.back outer.back y other)) (outer.back_below y below (ap not other))
]

led_back-led : (n : ℕ) (from to : ℕ → Bool) (m w : List (ℕ × ℕ)) (inner : Lead n from to m)
    (outer : Lead n (other_than from) (other_than to) w) (x : ℕ) → x < n
    → led to inner.back outer.back (led from inner.next outer.next x) ≡ x
led_back-led n from to m w inner outer x below = elim (cases_Bool (from x)) [
  | inl is ↦
      ap (λ z. led to inner.back outer.back z) (led-inside from inner.next outer.next x is)
      ∙ led-inside to inner.back outer.back (inner.next x) (inner.next_to x below is) ∙ inner.back_next x below is
  | inr other ↦
      let is = ap not other in
      ap (λ z. led to inner.back outer.back z) (led-outside from inner.next outer.next x other)
      ∙ led-outside to inner.back outer.back (outer.next x) (not-true (to (outer.next x)) (outer.next_to x below is))
      ∙ outer.back_next x below is
]

led-led_back : (n : ℕ) (from to : ℕ → Bool) (m w : List (ℕ × ℕ)) (inner : Lead n from to m)
    (outer : Lead n (other_than from) (other_than to) w) (y : ℕ) → y < n
    → led from inner.next outer.next (led to inner.back outer.back y) ≡ y
led-led_back n from to m w inner outer y below = elim (cases_Bool (to y)) [
  | inl is ↦
      ap (λ z. led from inner.next outer.next z) (led-inside to inner.back outer.back y is)
      ∙ led-inside from inner.next outer.next (inner.back y) (inner.back_from y below is) ∙ inner.next_back y below is
  | inr other ↦
      let is = ap not other in
      ap (λ z. led from inner.next outer.next z) (led-outside to inner.back outer.back y other)
      ∙ led-outside from inner.next outer.next (outer.back y) (not-true (from (outer.back y)) (outer.back_from y below is))
      ∙ outer.next_back y below is
]

pub IsPermutation-led : (n : ℕ) (from to : ℕ → Bool) (m w : List (ℕ × ℕ)) (inner : Lead n from to m)
    (outer : Lead n (other_than from) (other_than to) w)
    → IsPermutation n (led from inner.next outer.next) (led to inner.back outer.back)
IsPermutation-led n from to m w inner outer = record {
  below = led-below n from to m w inner outer;
  back_below = led_back-below n from to m w inner outer;
  back_f = led_back-led n from to m w inner outer;
  f_back = led-led_back n from to m w inner outer;
}

-- its steps join what the pairs join
pub Keeps-led : (n : ℕ) (from to : ℕ → Bool) (m w : List (ℕ × ℕ)) (inner : Lead n from to m)
    (outer : Lead n (other_than from) (other_than to) w) (g : ℕ → ℕ) → Respects g m → Respects g w
    → Keeps n (led from inner.next outer.next) g
Keeps-led n from to m w inner outer g inside outside x below = elim (cases_Bool (from x)) [
  | inl is ↦ inner.joins g inside x below is ∙ ap g (sym (led-inside from inner.next outer.next x is))
  | inr other ↦ outer.joins g outside x below (ap not other) ∙ ap g (sym (led-outside from inner.next outer.next x other))
]

pub Respects-inner : (n : ℕ) (from to : ℕ → Bool) (m w : List (ℕ × ℕ)) (inner : Lead n from to m)
    (outer : Lead n (other_than from) (other_than to) w) (g : ℕ → ℕ) → Keeps n (led from inner.next outer.next) g → Respects g m
Respects-inner n from to m w inner outer g keeps =
    inner.only g (λ x below is. keeps x below ∙ ap g (led-inside from inner.next outer.next x is))

pub Respects-outer : (n : ℕ) (from to : ℕ → Bool) (m w : List (ℕ × ℕ)) (inner : Lead n from to m)
    (outer : Lead n (other_than from) (other_than to) w) (g : ℕ → ℕ) → Keeps n (led from inner.next outer.next) g → Respects g w
Respects-outer n from to m w inner outer g keeps =
    outer.only g (λ x below is. keeps x below
    ∙ ap g (led-outside from inner.next outer.next x (not-true (from x) is)))

pub circles-led : (n : ℕ) (from to : ℕ → Bool) (m w : List (ℕ × ℕ)) (inner : Lead n from to m)
    (outer : Lead n (other_than from) (other_than to) w)
    → classes_of n (m ++ w) ≡ cycles_of n (led from inner.next outer.next)
circles-led n from to m w inner outer =
    let f = led from inner.next outer.next in
    classes_of-same n (m ++ w) (steps_of n f) (AreBelow-append n m w inner.below outer.below)
    (steps-below n f (led-below n from to m w inner outer))
    (λ g respects.
    Respects-steps n f g (Keeps-led n from to m w inner outer g (Respects-first g m w respects) (Respects-second g m w respects)))
    (λ g respects.
    let keeps = Keeps-steps n f g respects in
    Respects-append g m w (Respects-inner n from to m w inner outer g keeps) (Respects-outer n from to m w inner outer g keeps))

-- the two permutations of a surface

abbrev pub first_next : (n : ℕ) (ends starts : ℕ → Bool) (m k w : List (ℕ × ℕ)) → IsSurface n ends starts m k w → ℕ → ℕ
first_next n ends starts m k w is = led ends is.first.next is.outer.next

abbrev pub first_back : (n : ℕ) (ends starts : ℕ → Bool) (m k w : List (ℕ × ℕ)) → IsSurface n ends starts m k w → ℕ → ℕ
first_back n ends starts m k w is = led starts is.first.back is.outer.back

abbrev pub second_next : (n : ℕ) (ends starts : ℕ → Bool) (m k w : List (ℕ × ℕ)) → IsSurface n ends starts m k w → ℕ → ℕ
second_next n ends starts m k w is = led ends is.second.next is.outer.next

abbrev pub second_back : (n : ℕ) (ends starts : ℕ → Bool) (m k w : List (ℕ × ℕ)) → IsSurface n ends starts m k w → ℕ → ℕ
second_back n ends starts m k w is = led starts is.second.back is.outer.back

pub surface_components-below : (n : ℕ) (ends starts : ℕ → Bool) (m k w : List (ℕ × ℕ)) → IsSurface n ends starts m k w
    → AreBelow n (m ++ (k ++ w))
surface_components-below n ends starts m k w is =
    AreBelow-append n m (k ++ w) is.first.below (AreBelow-append n k w is.second.below is.outer.below)

pub surface_components-orbits : (n : ℕ) (ends starts : ℕ → Bool) (m k w : List (ℕ × ℕ)) (is : IsSurface n ends starts m k w)
    → surface_components n m k w ≡ orbits_of n (first_next n ends starts m k w is) (second_next n ends starts m k w is)
surface_components-orbits n ends starts m k w is =
    let f = first_next n ends starts m k w is in
    let g = second_next n ends starts m k w is in
    let f_steps = steps_of n f in
    let g_steps = steps_of n g in
    classes_of-same n (m ++ (k ++ w)) (f_steps ++ g_steps) (surface_components-below n ends starts m k w is)
    (orbit_steps-below n f g (led-below n ends starts m w is.first is.outer) (led-below n ends starts k w is.second is.outer))
    (λ c respects.
    let rest = Respects-second c m (k ++ w) respects in
    Respects-append c f_steps g_steps
    (Respects-steps n f c
    (Keeps-led n ends starts m w is.first is.outer c (Respects-first c m (k ++ w) respects) (Respects-second c k w rest)))
    (Respects-steps n g c
    (Keeps-led n ends starts k w is.second is.outer c (Respects-first c k w rest) (Respects-second c k w rest))))
    (λ c respects.
    let f_keeps = Keeps-steps n f c (Respects-first c f_steps g_steps respects) in
    let g_keeps = Keeps-steps n g c (Respects-second c f_steps g_steps respects) in
    Respects-append c m (k ++ w) (Respects-inner n ends starts m w is.first is.outer c f_keeps)
    (Respects-append c k w (Respects-inner n ends starts k w is.second is.outer c g_keeps)
    (Respects-outer n ends starts k w is.second is.outer c g_keeps)))
