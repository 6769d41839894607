-- The rules by which a crossing is positive, over plain numbers, and the first number that a search finds.
use Rattle.std.proofs.Common.{◌≡◌, ◌≢◌, ℕ, zero, suc, inl, inr, ◌⊎◌, ◌+◌, ◌<◌, ◌≤◌, ◌∙◌, sym, ap, arith, Bool, true, false, cond, ℤ, pos, unwrap_or}
use Rattle.std.specs.Prelude.{Option, Some, None, nat_eq, nat_lt, if◌then◌else◌}
use Rattle.std.specs.List.{find, range_with_len}
use Rattle.std.specs.Ordering.{int_eq}
use Rattle.std.proofs.lemmas.Bool.{both_ways, cases_Bool, cases_eq}
use Rattle.std.proofs.lemmas.Bool.Decides.{nat_tests}
use Rattle.kh_types.specs.Code.{arc_in}
use Rattle.code_passes.specs.Passes.{Pass, slots_between}
use Rattle.code_passes.proofs.LabelCounts.{under_at, over_at}

-- an over pass goes from one arc to another: from slot 3 to slot 1 where it is listed as positive, else from slot 1 to slot 3
abbrev pub Goes : Bool → ℕ → ℕ → ℕ → ℕ → Type 0
Goes listed one three from to =
    ((listed ≡ true) × (three ≡ from) × (one ≡ to)) ⊎ ((listed ≡ false) × (one ≡ from) × (three ≡ to))

pub Goes-between : (under over : Pass) (sign : ℤ)
    → Goes (int_eq sign (pos 1)) (arc_in (slots_between under over sign) 1) (arc_in (slots_between under over sign) 3) over.enters
    over.leaves
Goes-between under over sign = grind (arith, nat_tests)

-- the three rules by which a crossing is positive

pub by_next : (positive listed : Bool) (one three from to next_of_three next_of_to : ℕ) → positive ≡ nat_eq one next_of_three
    → (three ≡ from → next_of_three ≡ to) → (three ≡ to → next_of_three ≡ next_of_to) → next_of_to ≢ from
    → Goes listed one three from to → positive ≡ listed
by_next positive listed one three from to next_of_three next_of_to rule at_from at_to apart goes = grind (arith, nat_tests)

pub by_under : (positive listed : Bool) (one three from to end : ℕ) → positive ≡ nat_eq three end → end ≡ from → to ≢ from
    → Goes listed one three from to → positive ≡ listed
by_under positive listed one three from to end rule is apart goes = grind (arith, nat_tests)

pub by_order : (positive listed : Bool) (one three from to found crossing other : ℕ)
    → positive ≡ (if nat_eq found crossing then nat_lt three one else nat_lt one three) → found ≤ crossing → found ≤ other
    → (found ≡ crossing) ⊎ (found ≡ other) → ((from < to) × (crossing < other)) ⊎ ((to < from) × (other < crossing))
    → Goes listed one three from to → positive ≡ listed
by_order positive listed one three from to found crossing other rule before before_other one_of rises goes = grind (arith, nat_tests)

-- the two arcs of a component of two
pub other_arc : (first size from to x : ℕ) → size ≤ 2 → first ≤ from → from < first + size → (from + 1 < first + size → to ≡ from + 1)
    → (first + size ≤ from + 1 → to ≡ first) → to ≢ from → first ≤ x → x < first + size → (x ≡ from) ⊎ (x ≡ to)
other_arc first size from to x small after below inside last apart x_after x_below = grind arith

-- in a component of more than two arcs the next of the next is another arc
pub not_back : (first size from to back : ℕ) → 2 < size → first ≤ from → from < first + size → (from + 1 < first + size → to ≡ from + 1)
    → (first + size ≤ from + 1 → to ≡ first) → first ≤ to → to < first + size → (to + 1 < first + size → back ≡ to + 1)
    → (first + size ≤ to + 1 → back ≡ first) → back ≢ from
not_back first size from to back large after below inside last to_after to_below to_inside to_last = grind arith

-- a search in a range finds the first number that passes
pub record FindsFirst (p : ℕ → Bool) (a n found : ℕ) : Type 0 where
  pub from : a ≤ found
  pub below : found < a + n
  pub passes : p found ≡ true
  pub first : (k : ℕ) → a ≤ k → p k ≡ true → found ≤ k

pub find-first : (p : ℕ → Bool) (a n found : ℕ) → find p (range_with_len a n) ≡ Some found → FindsFirst p a n found
find-first p a zero found is = absurd (none_some found is)
  where
    none_some : (x : ℕ) → (let none : Option ℕ = None in none ≡ Some x) → ⊥
    none_some x same = cc
find-first p a (suc n) found is = elim (cases_Bool (p a)) [
  | inl passes ↦
      let same : a ≡ found =
      ap (λ o. unwrap_or o 0) (sym (ap (λ b. cond b (Some a) (find p (range_with_len (a + 1) n))) passes) ∙ is) in
      record {
        from = omega (arith, same);
        below = omega (arith, same);
        passes = ap p (sym same) ∙ passes;
        first = λ k after k_passes. omega (arith, same, after);
      }
  | inr fails ↦
      let later = find-first p (a + 1) n found
      (sym (ap (λ b. cond b (Some a) (find p (range_with_len (a + 1) n))) fails) ∙ is) in
      record {
        from = omega (arith, later.from);
        below = omega (arith, later.below);
        passes = later.passes;
        first = λ k after k_passes. elim (cases_eq a k) [
          | inl same ↦ absurd (both_ways (p k) (ap p (sym same) ∙ fails) k_passes)
          | inr other ↦ later.first k (omega (arith, after, other)) k_passes
        ];
      }
]

-- the labels of under passes and over passes differ
pub under-over : (place other : ℕ) → under_at place ≢ over_at other
under-over place other = grind (arith, nat_tests)

pub over-same : (place other : ℕ) → over_at place ≡ over_at other → place ≡ other
over-same place other same = grind (arith, nat_tests)
