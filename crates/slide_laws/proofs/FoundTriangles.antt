-- The slot of a slide is that of a triangle.
--
-- The test of a slot holds exactly where there is a triangle. What a search finds passes, is in the range and is the first, so the least
-- slot is taken; and no slide can be made exactly where each triangle's slots have one parity.
use Rattle.std.proofs.lemmas.Bool.Decides.{nat_tests}
use Rattle.std.proofs.Common.{◌≡◌, ◌↔◌, ℕ, inl, inr, ◌+◌, ◌-◌, ◌<◌, ◌≤◌, ◌∙◌, List, sym, ap, arith, zero, suc, Bool, true, false, ◌&&◌, cond}
use Rattle.std.specs.Prelude.{Some, None}
use Rattle.std.specs.List.{find, range_with_len}
use Rattle.std.proofs.lemmas.Bool.{and_parts, cases_Bool, cases_eq}
use Rattle.kh_types.specs.Code.{IsCrossing}
use Rattle.kh_types.proofs.Lists.{find-none}
use Rattle.kh_types.proofs.Ranges.{list_any-found, list_any-below}
use Rattle.kh_types.proofs.AcceptedLemmas.{second_fails}
use Rattle.slide_laws.specs.Triangles.{step, dart_at_slot, is_triangle, has_heights, is_slidable_at, slide_slot, has_triangle, IsTriangle, IsTriangleAt, HasOneParity}

-- what a search finds passes, is in the range, and is the first
pub record IsFirst (p : ℕ → Bool) (a n found : ℕ) : Type 0 where
  pub from : a ≤ found
  pub below : found < a + n
  pub passes : p found ≡ true
  pub first : (k : ℕ) → a ≤ k → k < found → p k ≡ false

some-is : (x y : ℕ) → Some x ≡ Some y → x ≡ y
some-is x y same = cc

pub IsFirst-found : (p : ℕ → Bool) (a n found : ℕ) → find p (range_with_len a n) ≡ Some found → IsFirst p a n found
IsFirst-found p a zero found is = absurd (cc)
IsFirst-found p a (suc n) found is = elim (cases_Bool (p a)) [
  | inl passes ↦
      let same : a ≡ found = some-is a found (sym (ap (λ b. cond b (Some a) (find p (range_with_len (a + 1) n))) passes) ∙ is) in
      record {
        from = omega (arith, same);
        below = omega (arith, same);
        passes = ap p (sym same) ∙ passes;
        first = λ k from less. absurd (omega (arith, from, less, same));
      }
  | inr fails ↦
      let later = IsFirst-found p (a + 1) n found (sym (ap (λ b. cond b (Some a) (find p (range_with_len (a + 1) n))) fails) ∙ is) in
      record {
        from = omega (arith, later.from);
        below = omega (arith, later.below);
        passes = later.passes;
        first = λ k from less. elim (cases_eq k a) [
          | inl is_first ↦ ap p is_first ∙ fails
          | inr other ↦ later.first k (omega (arith, from, other)) less
        ];
      }
]

pub IsTriangle-is : (crossings : List (List ℕ)) (c d e slot : ℕ) → IsCrossing crossings c → IsCrossing crossings d → IsCrossing crossings e
    → slot < 4 → is_triangle crossings c d e slot ≡ true
    → IsTriangle crossings (dart_at_slot c slot) (step crossings (dart_at_slot c slot))
    (step crossings (step crossings (dart_at_slot c slot)))
IsTriangle-is crossings c d e slot is_c is_d is_e below holds = grind (arith, nat_tests)

pub IsTriangle-slot : (crossings : List (List ℕ)) (c d e slot : ℕ) → IsCrossing crossings c → IsCrossing crossings d
    → IsCrossing crossings e → slide_slot crossings c d e ≡ Some slot
    → IsTriangle crossings (dart_at_slot c slot) (step crossings (dart_at_slot c slot))
    (step crossings (step crossings (dart_at_slot c slot)))
IsTriangle-slot crossings c d e slot is_c is_d is_e found =
    let first = IsFirst-found (is_slidable_at crossings c d e) 0 4 slot found in
    let x = dart_at_slot c slot in
    let parts = and_parts (is_triangle crossings c d e slot) (has_heights x (step crossings x) (step crossings (step crossings x)))
    first.passes in
    IsTriangle-is crossings c d e slot is_c is_d is_e (omega (arith, first.below)) parts.0

pub has_heights-slot : (crossings : List (List ℕ)) (c d e slot : ℕ) → slide_slot crossings c d e ≡ Some slot
    → has_heights (dart_at_slot c slot) (step crossings (dart_at_slot c slot)) (step crossings (step crossings (dart_at_slot c slot)))
    ≡ true
has_heights-slot crossings c d e slot found =
    let first = IsFirst-found (is_slidable_at crossings c d e) 0 4 slot found in
    let x = dart_at_slot c slot in
    (and_parts (is_triangle crossings c d e slot) (has_heights x (step crossings x) (step crossings (step crossings x))) first.passes).1

-- the test holds exactly where there is a triangle

pub IsTriangleAt-is : (crossings : List (List ℕ)) (c d e slot : ℕ) → IsCrossing crossings c → IsCrossing crossings d
    → IsCrossing crossings e → slot < 4 → is_triangle crossings c d e slot ≡ true → IsTriangleAt crossings c d e slot
IsTriangleAt-is crossings c d e slot is_c is_d is_e below holds = grind (arith, nat_tests)

pub is_triangle-at : (crossings : List (List ℕ)) (c d e slot : ℕ) → slot < 4 → IsTriangleAt crossings c d e slot
    → is_triangle crossings c d e slot ≡ true
is_triangle-at crossings c d e slot below is = grind (arith, nat_tests)

pub is_triangle-exactly : (crossings : List (List ℕ)) (c d e slot : ℕ) → IsCrossing crossings c → IsCrossing crossings d
    → IsCrossing crossings e → slot < 4 → (is_triangle crossings c d e slot ≡ true) ↔ IsTriangleAt crossings c d e slot
is_triangle-exactly crossings c d e slot is_c is_d is_e below = grind (arith, nat_tests)

-- there is none exactly where no slot has one
pub has_triangle-none : (crossings : List (List ℕ)) (c d e : ℕ) → IsCrossing crossings c → IsCrossing crossings d → IsCrossing crossings e
    → (has_triangle crossings c d e ≡ false) ↔ ((slot : ℕ) → slot < 4 → ¬ IsTriangleAt crossings c d e slot)
has_triangle-none crossings c d e is_c is_d is_e = (
  λ none slot below is. both_ways (has_triangle crossings c d e)
      (list_any-below (is_triangle crossings c d e) 4 slot below (is_triangle-at crossings c d e slot below is)) none,
  λ none. elim (cases_Bool (has_triangle crossings c d e)) [
    | inl some ↦
        let found = list_any-found (is_triangle crossings c d e) 4 some in
        absurd (none found.0 found.1 (IsTriangleAt-is crossings c d e found.0 is_c is_d is_e found.1 found.2))
    | inr none_there ↦ none_there
  ],
)
  where
    both_ways : (b : Bool) → b ≡ true → b ≡ false → ⊥
    both_ways true holds fails = absurd (cc)
    both_ways false holds fails = absurd (cc)

-- a search without an answer
find-nothing : (p : ℕ → Bool) (a n : ℕ) → find p (range_with_len a n) ≡ None → (k : ℕ) → a ≤ k → k < a + n → p k ≡ false
find-nothing p a zero none k from below = absurd (omega (arith, from, below))
find-nothing p a (suc n) none k from below = elim (cases_Bool (p a)) [
  | inl passes ↦ absurd (some_none a (sym (ap (λ b. cond b (Some a) (find p (range_with_len (a + 1) n))) passes) ∙ none))
  | inr fails ↦ elim (cases_eq k a) [
    | inl is_first ↦ ap p is_first ∙ fails
    | inr other ↦
        find-nothing p (a + 1) n (sym (ap (λ b. cond b (Some a) (find p (range_with_len (a + 1) n))) fails) ∙ none) k
        (omega (arith, from, other)) (omega (arith, below))
  ]
]
  where
    some_none : (x : ℕ) → Some x ≡ None → ⊥
    some_none x same = absurd (cc)

fails_second : (a b : Bool) → (a ≡ true → b ≡ false) → (a && b) ≡ false
fails_second a b fails = grind (arith, nat_tests)

-- no slide can be made exactly where each triangle's slots have one parity
pub slide_slot-none : (crossings : List (List ℕ)) (c d e : ℕ) → IsCrossing crossings c → IsCrossing crossings d → IsCrossing crossings e
    → (slide_slot crossings c d e ≡ None)
    ↔ ((slot : ℕ) → slot < 4 → IsTriangleAt crossings c d e slot → HasOneParity crossings c slot)
slide_slot-none crossings c d e is_c is_d is_e = (
  λ none slot below is.
      let x = dart_at_slot c slot in
      second_fails (is_triangle crossings c d e slot) (has_heights x (step crossings x) (step crossings (step crossings x)))
      (find-nothing (is_slidable_at crossings c d e) 0 4 none slot (omega arith) (omega (arith, below)))
      (is_triangle-at crossings c d e slot below is),
  λ parity. find-none (is_slidable_at crossings c d e) 0 4
      (λ slot from below.
      let x = dart_at_slot c slot in
      let small : slot < 4 = omega (arith, below) in
      fails_second (is_triangle crossings c d e slot) (has_heights x (step crossings x) (step crossings (step crossings x)))
      (λ holds. parity slot small (IsTriangleAt-is crossings c d e slot is_c is_d is_e small holds))),
)

-- and the least slot is taken
pub slide_slot-least : (crossings : List (List ℕ)) (c d e slot k : ℕ) → slide_slot crossings c d e ≡ Some slot → k < slot
    → IsTriangleAt crossings c d e k → HasOneParity crossings c k
slide_slot-least crossings c d e slot k found less is =
    let first = IsFirst-found (is_slidable_at crossings c d e) 0 4 slot found in
    let x = dart_at_slot c k in
    second_fails (is_triangle crossings c d e k) (has_heights x (step crossings x) (step crossings (step crossings x)))
    (first.first k (omega arith) less) (is_triangle-at crossings c d e k (omega (arith, less, first.below)) is)
