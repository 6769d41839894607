-- Searches in ranges, and lists of numbers, in the drawing of a code.
use Rattle.std.proofs.Common.{◌≡◌, ℕ, zero, suc, inl, inr, ◌+◌, ◌<◌, ◌≤◌, ◌∙◌, List, [], ◌∷◌, ◌++◌, length, take, drop, refl, sym, ap, arith, Bool, true, false, cond}
use Rattle.std.specs.Prelude.{nat_eq, not, ◌||◌, Some, None}
use Rattle.std.specs.List.{count_by, find, range_with_len}
use Rattle.std.proofs.lemmas.Bool.{cases_Bool, cases_eq, both_ways, eq-eqb, eqb-true, not-true}
use Rattle.std.proofs.lemmas.Bool.Decides.{nat_tests}
use Rattle.std.proofs.Math.Bool.{or-true}
use Rattle.std.proofs.lemmas.List.{length-append, length-drop, length-take-le}
use Rattle.std.proofs.lemmas.List.Sums.{count_by-le-length, sum_by-append}
use Rattle.std.proofs.lemmas.List.FromFn.{length-range_with_len}
use Rattle.kh_types.proofs.RangeCounts.{count_by-one_more}
use Rattle.morse_drawing.specs.DartRows.{IsIn, other_three}
use Rattle.morse_drawing.specs.ReadBack.{is_cross}
use Rattle.morse_drawing.specs.declared.slice.Slice.{Slice}
use Rattle.morse_drawing.specs.Pages.{is_in}
use Rattle.morse_drawing.specs.declared.slice.Slice.TheVariants.{Cap, Cup, Cross}
use Rattle.morse_drawing.specs.Progress.{undrawn_count}

-- a number stands in a list where the test says so
pub in-true : (y : ℕ) (xs : List ℕ) → is_in xs y ≡ true → IsIn y xs
in-true y [] holds = absurd (both_ways false refl holds)
in-true y (x ∷ xs) holds = elim (cases_Bool (nat_eq y x)) [
  | inl same ↦ inl (eqb-true y x same)
  | inr apart ↦ inr (in-true y xs (sym (ap (λ b. b || is_in xs y) apart) ∙ holds))
]

pub true-in : (y : ℕ) (xs : List ℕ) → IsIn y xs → is_in xs y ≡ true
true-in y [] stands = absurd stands
true-in y (x ∷ xs) stands = elim stands [
  | inl same ↦ ap (λ b. b || is_in xs y) (eq-eqb y x same)
  | inr later ↦ ap (λ b. nat_eq y x || b) (true-in y xs later) ∙ or-true (nat_eq y x)
]

pub not-in : (y : ℕ) (xs : List ℕ) → not (is_in xs y) ≡ true → IsIn y xs → ⊥
not-in y xs holds stands = both_ways (is_in xs y) (not-true (is_in xs y) holds) (true-in y xs stands)

pub is-in : (y : ℕ) (xs : List ℕ) → not (is_in xs y) ≡ false → IsIn y xs
is-in y xs fails = elim (cases_Bool (is_in xs y)) [
  | inl holds ↦ in-true y xs holds
  | inr other ↦ absurd (both_ways (not (is_in xs y)) fails (ap not other))
]

pub in_middle : (x : ℕ) (front back : List ℕ) → IsIn x (front ++ x ∷ back)
in_middle x [] back = inl refl
in_middle x (z ∷ zs) back = inr (in_middle x zs back)

pub in_next : (x y : ℕ) (front back : List ℕ) → IsIn y (front ++ x ∷ y ∷ back)
in_next x y [] back = inr (inl refl)
in_next x y (z ∷ zs) back = inr (in_next x y zs back)

pub undrawn-fewer : (n c : ℕ) (drawn : List ℕ) → c < n → not (is_in drawn c) ≡ true
    → undrawn_count n drawn ≡ undrawn_count n (c ∷ drawn) + 1
undrawn-fewer n c drawn below passes =
    count_by-one_more (λ k. not (is_in drawn k)) (λ k. not (is_in (c ∷ drawn) k)) 0 n c (omega arith) (omega (arith, below)) passes
    (grind (arith, nat_tests)) (λ k apart. grind (arith, nat_tests))

length-three : (x : ℕ) → length (other_three x) ≡ 3
length-three x = refl

-- how long the row is after a crossing and after a cup
pub length-crossed : (k dart : ℕ) (row : List ℕ) → k < length row
    → length (take k row ++ other_three dart ++ drop (k + 1) row) ≡ length row + 2
length-crossed k dart row within =
    omega (
      arith,
      length-append (take k row ++ other_three dart) (drop (k + 1) row),
      length-append (take k row) (other_three dart),
      length-three dart,
      length-take-le k row (omega (arith, within)),
      length-drop (k + 1) row,
      within,
    )

pub length-closed : (k : ℕ) (row : List ℕ) → k + 1 < length row → length (take k row ++ drop (k + 2) row) + 2 ≡ length row
length-closed k row within =
    omega (
      arith,
      length-append (take k row) (drop (k + 2) row),
      length-take-le k row (omega (arith, within)),
      length-drop (k + 2) row,
      within,
    )

-- how many crossings the slices of the rules have
pub crosses-append : (xs ys : List Slice) → count_by is_cross (xs ++ ys) ≡ count_by is_cross xs + count_by is_cross ys
crosses-append xs ys = sum_by-append (λ s. cond (is_cross s) 1 0) xs ys

pub begun-crosses : (c : ℕ) → count_by is_cross (Cap 1 ∷ Cap 3 ∷ Cross 2 (c + 1) 0 ∷ []) ≡ 1
begun-crosses c = refl

pub crossed-crosses : (at place c slot : ℕ) → count_by is_cross (Cap at ∷ Cross place c slot ∷ []) ≡ 1
crossed-crosses at place c slot = refl

pub closed-crosses : (at : ℕ) → count_by is_cross (Cup at ∷ []) ≡ 0
closed-crosses at = refl

pub count-le : (p : ℕ → Bool) (n : ℕ) → count_by p (range_with_len 0 n) ≤ n
count-le p n = omega (arith, count_by-le-length p (range_with_len 0 n), length-range_with_len 0 n)
