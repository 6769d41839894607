-- The next arcs and the signs of a part of a code are those that it has alone.
--
-- The sign of a crossing is read off its component, and where that has two arcs, off the first crossing that it passes. A search over all
-- crossings of the union finds nothing before the part and behind it (`IsAlone`), and within it what the search in the part finds, moved
-- (`slot-part`).
use Rattle.std.proofs.Common.{Bool, IsTrue, List, None, Option, Some, ap, ap₂, arith, cond, false, inl, inr, length, refl, subst, suc, sym, zero, ℕ, ◌*◌, ◌+◌, ◌-◌, ◌<◌, ◌∙◌, ◌≡◌, ◌≢◌, ◌≤◌, ◌⊎◌}
use Rattle.std.proofs.lemmas.Bool.{ne_eqb}
use Rattle.std.proofs.lemmas.Bool.Decides.{nat_tests}
use Rattle.std.proofs.lemmas.List.Folds.{find-append}
use Rattle.std.specs.List.{find, range_with_len, sum_by}
use Rattle.std.specs.Option.{option_map, option_or}
use Rattle.std.specs.Prelude.{is_some, nat_eq, nat_le, unwrap_or}
use Rattle.kh_types.proofs.AcceptedLemmas.{HasArcsTwice-accepted}
use Rattle.kh_types.proofs.ListSums.{sum_by-range_alike}
use Rattle.kh_types.proofs.Ranges.{range-append}
use Rattle.kh_types.specs.Acceptance.{accepted}
use Rattle.kh_types.specs.Code.{Code, IsArc, IsCrossing, arc_count, arc_in, slots_of}
use Rattle.kh_types.specs.Components.{arcs_in, component_of, components_of, next}
use Rattle.kh_types.specs.Darts.{HasArcsTwice}
use Rattle.kh_types.specs.Directions.{first_over, first_under, is_positive_by_next, is_positive_by_order, is_positive_by_under, is_positive_in, is_positive_of_two, passes_under, plus_count}
use Rattle.kh_types.proofs.Lists.{find-none}
use Rattle.code_passes.proofs.SignRules.{find-first}
use Rattle.link_algebra.proofs.ClassParts.{sum_by-parts}
use Rattle.link_algebra.proofs.UnitedCircles.{length-both}
use Rattle.link_algebra.proofs.UnitedComponents.{IsPart, IsPart-first, IsPart-second, component-is, component-past}
use Rattle.link_algebra.specs.Unions.{union_of}

pub same_test : (x y by : ℕ) → nat_eq (x + by) (y + by) ≡ nat_eq x y
same_test x y by = grind (arith, nat_tests)

find-shifted : (p q : ℕ → Bool) (before a n : ℕ) → ((k : ℕ) → a ≤ k → k < a + n → p (before + k) ≡ q k)
    → find p (range_with_len (before + a) n) ≡ option_map (λ k. before + k) (find q (range_with_len a n))
find-shifted p q before a zero same = refl
find-shifted p q before a (suc n) same =
    let e : before + a + 1 ≡ before + (a + 1) = omega arith in
    ap₂ (λ b o. cond b (Some (before + a)) o) (same a (omega arith) (omega arith))
    (ap (λ c. find p (range_with_len c n)) e
    ∙ find-shifted p q before (a + 1) n (λ k from below. same k (omega arith) (omega arith)))
    ∙ by (q a) (find q (range_with_len (a + 1) n))
  where
    by : (b : Bool) (o : Option ℕ)
        → cond b (Some (before + a)) (option_map (λ k. before + k) o) ≡ option_map (λ k. before + k) (cond b (Some a) o)
    by b o = grind (arith, nat_tests)

find-part : (p q : ℕ → Bool) (before n all : ℕ) → before + n ≤ all
    → ((k : ℕ) → 1 ≤ k → k ≤ n → p (before + k) ≡ q k)
    → ((k : ℕ) → 1 ≤ k → k ≤ all → (k ≤ before) ⊎ (before + n < k) → p k ≡ false)
    → find p (range_with_len 1 all) ≡ option_map (λ k. before + k) (find q (range_with_len 1 n))
find-part p q before n all fits same outside =
    let later = all - before - n in
    let e : all ≡ before + (n + later) = omega (arith, fits) in
    let f : 1 + before ≡ before + 1 = omega arith in
    ap (λ c. find p (range_with_len 1 c)) e
    ∙ ap (find p) (range-append 1 before (n + later))
    ∙ find-append p (range_with_len 1 before) (range_with_len (1 + before) (n + later))
    ∙ ap (λ o. option_or o (find p (range_with_len (1 + before) (n + later))))
    (find-none p 1 before (λ k from below. outside k from (omega (arith, below, fits)) (inl (omega (arith, below)))))
    ∙ ap (find p) (range-append (1 + before) n later)
    ∙ find-append p (range_with_len (1 + before) n) (range_with_len (1 + before + n) later)
    ∙ ap₂ option_or (ap (λ c. find p (range_with_len c n)) f ∙ find-shifted p q before 1 n (λ k from below. same k from (omega arith)))
    (find-none p (1 + before + n) later
    (λ k from below. outside k (omega (arith, from)) (omega (arith, below, fits)) (inr (omega (arith, from)))))
    ∙ rest (option_map (λ k. before + k) (find q (range_with_len 1 n)))
  where
    rest : (o : Option ℕ) → option_or o None ≡ o
    rest None = refl
    rest (Some x) = refl

-- crossings outside of a part have no arcs of its components
pub record IsAlone (before : ℕ) (part whole : List (List ℕ)) : Type 0 where
  pub other : (crossing slot name : ℕ) → IsCrossing whole crossing → slot < 4 → IsArc part name
      → (crossing ≤ before) ⊎ (before + length part < crossing)
      → component_of (components_of whole) (arc_in (slots_of whole crossing) slot) ≢ name + 2 * before

-- the two rules for components of two arcs, by what the searches find
abbrev by_found : List (List ℕ) → ℕ → Option ℕ → Option ℕ → Bool
by_found crossings crossing under over =
    cond (is_some under) (is_positive_by_under crossings (slots_of crossings crossing) (unwrap_or under 0))
    (is_positive_by_order (slots_of crossings crossing) (nat_eq (unwrap_or over 0) crossing))

module _ (before : ℕ) (part whole : List (List ℕ)) (is : IsPart before part whole) where
  abbrev own : ℕ → ℕ
  own arc = component_of (components_of part) arc

  abbrev united : ℕ → ℕ
  united arc = component_of (components_of whole) arc

  pub part-arc : (crossing slot : ℕ) → IsCrossing part crossing → slot < 4 → IsArc part (arc_in (slots_of part crossing) slot)
  part-arc crossing slot is_crossing below = grind (arith, nat_tests)

  -- the next arc
  pub next-part : (arc : ℕ) → IsArc part arc → next whole (arc + 2 * before) ≡ next part arc + 2 * before
  next-part arc is_arc =
      let name = component-is part arc is.holds is_arc in
      choice (united (arc + 2 * before + 1)) (united (arc + 2 * before)) (own (arc + 1)) (own arc) (2 * before) (arc_count part)
      (elim (last_or_not (arc_count part) is_arc.within) [
        | inl inner ↦
            let e : arc + 2 * before + 1 ≡ arc + 1 + 2 * before = omega arith in
            inl (ap united e ∙ is.component (arc + 1) (record { positive = omega arith; within = inner }))
        | inr last ↦
            let e : arc_count part + 2 * before + 1 ≡ arc + 2 * before + 1 = omega (arith, last) in
            inr (
              ap (λ k. own (k + 1)) last ∙ component-past part is.holds,
              subst (λ (k : ℕ). (united k ≡ 0) ⊎ (arc_count part + 2 * before < united k)) e is.border,
            )
      ]) (is.component arc is_arc) name.positive name.within
    where
      last_or_not : (n : ℕ) → arc ≤ n → (arc + 1 ≤ n) ⊎ (arc ≡ n)
      last_or_not n within = grind arith

      choice : (u v x y by most : ℕ) → (u ≡ x + by) ⊎ ((x ≡ 0) × ((u ≡ 0) ⊎ (most + by < u))) → v ≡ y + by → 1 ≤ y → y ≤ most
          → cond (nat_eq u v) (arc + by + 1) v ≡ cond (nat_eq x y) (arc + 1) y + by
      choice u v x y by most after is_v positive within = grind (arith, nat_tests)

  -- a search for a crossing with the arc at a slot in a component finds the same in the part and in the whole
  slot-part : (slot name : ℕ) → slot < 4 → IsAlone before part whole → IsArc part name
      → find (λ k. nat_eq (united (arc_in (slots_of whole k) slot)) (name + 2 * before)) (range_with_len 1 (length whole))
      ≡ option_map (λ k. before + k)
      (find (λ k. nat_eq (own (arc_in (slots_of part k) slot)) name) (range_with_len 1 (length part)))
  slot-part slot name below alone is_name =
      find-part (λ k. nat_eq (united (arc_in (slots_of whole k) slot)) (name + 2 * before))
      (λ k. nat_eq (own (arc_in (slots_of part k) slot)) name) before (length part) (length whole) is.fits
      (λ k from within.
      let is_crossing : IsCrossing part k = record { positive = from; within = within } in
      ap (λ x. nat_eq x (name + 2 * before))
      (ap united (is.arcs k slot is_crossing below) ∙ is.component (arc_in (slots_of part k) slot) (part-arc k slot is_crossing below))
      ∙ same_test (own (arc_in (slots_of part k) slot)) name (2 * before))
      (λ k from within outside.
      ne_eqb (united (arc_in (slots_of whole k) slot)) (name + 2 * before)
      (alone.other k slot name (record { positive = from; within = within }) below is_name outside))

  found-part : (crossing : ℕ) (under over : Option ℕ) → IsCrossing part crossing → ((u : ℕ) → under ≡ Some u → IsCrossing part u)
      → by_found whole (before + crossing) (option_map (λ k. before + k) under) (option_map (λ k. before + k) over)
      ≡ by_found part crossing under over
  found-part crossing under over is_crossing found = grind (arith, nat_tests)

  -- the sign
  pub positive-part : (crossing : ℕ) → IsAlone before part whole → IsCrossing part crossing
      → is_positive_in whole (components_of whole) (before + crossing) ≡ is_positive_in part (components_of part) crossing
  positive-part crossing alone is_crossing =
      let a = arc_in (slots_of part crossing) 1 in
      let b = arc_in (slots_of part crossing) 3 in
      let arc = part-arc crossing 1 is_crossing (omega arith) in
      let at = is.arcs crossing 1 is_crossing (omega arith) in
      let name = own a in
      let is_name = component-is part a is.holds arc in
      let slots = slots_of whole (before + crossing) in
      let named : united (arc_in slots 1) ≡ name + 2 * before = ap united at ∙ is.component a arc in
      let size : arcs_in (components_of whole) (united (arc_in slots 1)) ≡ arcs_in (components_of part) name =
      ap (arcs_in (components_of whole)) named ∙ is.sizes name is_name in
      let follows : is_positive_by_next (components_of whole) slots ≡ is_positive_by_next (components_of part) (slots_of part crossing) =
      ap₂ nat_eq at
      (ap (next whole) (is.arcs crossing 3 is_crossing (omega arith)) ∙ next-part b (part-arc crossing 3 is_crossing (omega arith)))
      ∙ same_test a (next part b) (2 * before) in
      let under = first_under part (components_of part) name in
      let over = first_over part (components_of part) name in
      let two : is_positive_of_two whole (components_of whole) (before + crossing) ≡ is_positive_of_two part (components_of part) crossing =
      ap₂ (by_found whole (before + crossing))
      (ap (first_under whole (components_of whole)) named ∙ slot-part 0 name (omega arith) alone is_name)
      (ap (first_over whole (components_of whole)) named ∙ slot-part 1 name (omega arith) alone is_name)
      ∙ found-part crossing under over is_crossing
      (λ u found.
      let first = find-first (passes_under part (components_of part) name) 1 (length part) u found in
      record { positive = first.from; within = omega (arith, first.below) }) in
      ap₂ (λ n c. cond (nat_le 3 n) c (is_positive_of_two whole (components_of whole) (before + crossing))) size follows
      ∙ ap (cond (nat_le 3 (arcs_in (components_of part) name)) (is_positive_by_next (components_of part) (slots_of part crossing))) two

-- a part is alone where what stands outside of it is another part, which it does not meet
IsAlone-from : (before after : ℕ) (part other whole : List (List ℕ)) → IsPart after other whole
    → (before + length part ≤ after) ⊎ (after + length other ≤ before)
    → ((crossing : ℕ) → IsCrossing whole crossing → (crossing ≤ before) ⊎ (before + length part < crossing)
    → IsCrossing other (crossing - after) × (after + (crossing - after) ≡ crossing)) → IsAlone before part whole
IsAlone-from before after part other whole is apart inside =
    record {
      other = λ crossing slot name is_crossing below is_name outside same.
          let k = crossing - after in
          let there = inside crossing is_crossing outside in
          let arc = part-arc after other whole is k slot there.0 below in
          let own_name = component-is other (arc_in (slots_of other k) slot) is.holds arc in
          let at = ap (λ c. component_of (components_of whole) (arc_in (slots_of whole c) slot)) (sym there.1)
          ∙ ap (component_of (components_of whole)) (is.arcs k slot there.0 below)
          ∙ is.component (arc_in (slots_of other k) slot) arc in
          elim apart [
            | inl earlier ↦ omega (arith, at, same, earlier, is_name.within, own_name.positive)
            | inr later ↦ omega (arith, at, same, later, is_name.positive, own_name.within)
          ];
    }

pub IsAlone-first : (first second : Code) → HasArcsTwice first.crossings → HasArcsTwice second.crossings
    → IsAlone 0 first.crossings (union_of first second).crossings
IsAlone-first first second first_twice second_twice =
    IsAlone-from 0 (length first.crossings) first.crossings second.crossings (union_of first second).crossings
    (IsPart-second first second first_twice second_twice) (inl (omega arith))
    (λ crossing is outside. elim outside [
      | inl none ↦ absurd (omega (arith, is.positive, none))
      | inr later ↦ (
        record { positive = omega (arith, later); within = omega (arith, later, is.within, length-both first second) },
        omega (arith, later),
      )
    ])

pub IsAlone-second : (first second : Code) → HasArcsTwice first.crossings → HasArcsTwice second.crossings
    → IsAlone (length first.crossings) second.crossings (union_of first second).crossings
IsAlone-second first second first_twice second_twice =
    IsAlone-from (length first.crossings) 0 second.crossings first.crossings (union_of first second).crossings
    (IsPart-first first second first_twice second_twice) (inr (omega arith))
    (λ crossing is outside. elim outside [
      | inl earlier ↦ (record { positive = omega (arith, is.positive); within = omega (arith, earlier) }, omega arith)
      | inr later ↦ absurd (omega (arith, is.within, later, length-both first second))
    ])

-- so the positive crossings are those of both
pub plus-both : (first second : Code) → IsTrue (accepted first) → IsTrue (accepted second)
    → plus_count (union_of first second).crossings ≡ plus_count first.crossings + plus_count second.crossings
plus-both first second first_is second_is =
    let n = length first.crossings in
    let k = length second.crossings in
    let whole = (union_of first second).crossings in
    let first_twice = HasArcsTwice-accepted first first_is in
    let second_twice = HasArcsTwice-accepted second second_is in
    let test : List (List ℕ) → ℕ → ℕ = λ crossings c. cond (is_positive_in crossings (components_of crossings) c) 1 0 in
    ap (λ c. sum_by (test whole) (range_with_len 1 c)) (length-both first second) ∙ sum_by-parts (test whole) 1 n k
    ∙ ap₂ (λ x y. x + y)
    (sum_by-range_alike (test whole) (test first.crossings) 1 n
    (λ c from below.
    let e : c ≡ 0 + c = omega arith in
    ap (λ b. cond b 1 0)
    (ap (is_positive_in whole (components_of whole)) e
    ∙ positive-part 0 first.crossings whole (IsPart-first first second first_twice second_twice) c
    (IsAlone-first first second first_twice second_twice) (record { positive = from; within = omega (arith, below) }))))
    (sum_by-range_alike (λ c. test whole (n + c)) (test second.crossings) 1 k
    (λ c from below.
    ap (λ b. cond b 1 0)
    (positive-part n second.crossings whole (IsPart-second first second first_twice second_twice) c
    (IsAlone-second first second first_twice second_twice) (record { positive = from; within = omega (arith, below) }))))
