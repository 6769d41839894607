-- Members of ranges and of the lists that tests keep of them.
use Rattle.std.proofs.Common.{◌≡◌, ℕ, inl, inr, ◌+◌, ◌<◌, ◌≤◌, ◌∙◌, List, [], ◌∷◌, refl, sym, ap, subst, arith, Bool, true, cond}
use Rattle.std.specs.List.{filter, range_with_len, AllByRecursion, Contains}
use Rattle.std.proofs.lemmas.Bool.{cases_Bool}
use Rattle.std.proofs.lemmas.List.FromFn.{length-range_with_len, get_or-range_with_len}
use Rattle.kh_types.proofs.Lists.{Contains-filter, Contains-later, Contains-cases, within-range}
use Rattle.added_crossing_laws.specs.Steps.{those}

-- an element that a test keeps is one, and passes
pub record IsKept {X : Type 0} (p : X → Bool) (xs : List X) (x : X) : Type 0 where
  pub has : Contains xs x
  pub passes : p x ≡ true

IsKept-next : {X : Type 0} (p : X → Bool) (x y : X) (xs : List X) → IsKept p xs y → IsKept p (x ∷ xs) y
IsKept-next p x y xs kept = record { has = Contains-later x y xs kept.has; passes = kept.passes }

pub filter-kept : {X : Type 0} (p : X → Bool) (xs : List X) (x : X) → Contains (filter p xs) x → IsKept p xs x
filter-kept p [] x (k, below, is) = absurd (omega (arith, below))
filter-kept {X} p (y ∷ ys) x has = elim (cases_Bool (p y)) [
  | inl passes ↦
      let has_now : Contains (y ∷ filter p ys) x = subst (λ b. Contains (cond b (y ∷ filter p ys) (filter p ys)) x) passes has in
      elim (Contains-cases y x (filter p ys) has_now) [
        | inl is ↦ record { has = (0, omega arith, is); passes = ap p (sym is) ∙ passes }
        | inr later ↦ IsKept-next p y x ys (filter-kept p ys x later)
      ]
  | inr fails ↦
      let has_now : Contains (filter p ys) x = subst (λ b. Contains (cond b (y ∷ filter p ys) (filter p ys)) x) fails has in
      IsKept-next p y x ys (filter-kept p ys x has_now)
]

-- the members of a range
pub record IsWithin (a n x : ℕ) : Type 0 where
  pub above : a ≤ x
  pub below : x < a + n

pub range-within : (a n x : ℕ) → Contains (range_with_len a n) x → IsWithin a n x
range-within a n x (k, below, is) =
    let size = length-range_with_len a n in
    let within : k < n = omega (arith, below, size) in
    let at : a + k ≡ x = sym (get_or-range_with_len a n k x within) ∙ is in
    record { above = omega (arith, at); below = omega (arith, at, within) }

-- the arcs and loops that pass a test
pub record IsOneOf (count : ℕ) (test : ℕ → Bool) (x : ℕ) : Type 0 where
  pub above : 1 ≤ x
  pub below : x < 1 + count
  pub passes : test x ≡ true

pub those-are : (count : ℕ) (test : ℕ → Bool) (x : ℕ) → Contains (those count test) x → IsOneOf count test x
those-are count test x has =
    let kept = filter-kept test (range_with_len 1 count) x has in
    let within = range-within 1 count x kept.has in
    record { above = within.above; below = within.below; passes = kept.passes }

pub are-those : (count : ℕ) (test : ℕ → Bool) (x : ℕ) → 1 ≤ x → x < 1 + count → test x ≡ true → Contains (those count test) x
are-those count test x above below passes =
    Contains-filter test (range_with_len 1 count) x passes (within-range 1 count x above below)

pub All-contained : {X : Type 0} (P : X → Type 0) (xs : List X) → ((x : X) → Contains xs x → P x) → AllByRecursion P xs
All-contained P [] each = tt
All-contained P (x ∷ xs) each =
    (each x (0, omega arith, refl), All-contained P xs (λ y has. each y (Contains-later x y xs has)))
