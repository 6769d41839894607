-- The arcs near a crossing and after it, from the arcs that are open before it.
-- Code filters all numbers below POINTS by two tests on the arcs open before and on the slots: so the tests have to be those of the
-- definitions at arcs, where a count of slots is a count of ends (`ends-same`), and to fail elsewhere. Zero and the numbers above the arcs are
-- neither open nor near (`none-first`, `none-past`): the code's lists leave loops out too, since a loop has no end.
use Rattle.std.proofs.Common.{◌≡◌, ℕ, inl, inr, ◌+◌, ◌*◌, ◌<◌, ◌≤◌, ◌∙◌, List, [], ◌∷◌, ◌++◌, refl, sym, subst, ap, ap₂, arith, Bool, false, cond, ◌||◌}
use Rattle.std.specs.Prelude.{nat_eq, nat_lt, slice_index_or}
use Rattle.std.specs.List.{count_by, filter, list_any, range_with_len, Contains}
use Rattle.std.proofs.lemmas.Bool.{cases_Bool, both_ways, eq-eqb, eqb-true, false_from_ne_true, ne_eqb}
use Rattle.std.proofs.lemmas.Bool.Decides.{nat_tests}
use Rattle.kh_types.specs.Code.{Code, arc_count, arc_in}
use Rattle.kh_types.specs.CircleSteps.{arc_at}
use Rattle.kh_types.proofs.JoinedSlots.{arc_at-slot}
use Rattle.kh_types.proofs.Ranges.{filter-range_more}
use Rattle.surface_laws.proofs.Components.{list_any-contained, list_any-some}
use Rattle.added_crossing_laws.specs.Steps.{is_near, near, those}
use Rattle.added_crossing_laws.specs.Codes.{ends_at, ends_before, is_open, points_at, step_at}
use Rattle.added_crossing_laws.proofs.Members.{are-those, those-are}
use Rattle.added_crossing_laws.proofs.CodeSteps.{ends_before-more, few-ends, slot-near}
use Rattle.tangle_maps.specs.declared.pairing.TheConstants.{POINTS}
use Rattle.crossing_maps.specs.Sites.{IsPlace, slot_count, is_near_by, is_next_by}
use Rattle.crossing_maps.proofs.Loopless.{near-are, near-few, open-are, open-few}
use Rattle.crossing_maps.proofs.SplitArcs.{filter-within}

pub passed_more : (p : ℕ → Bool) (k : ℕ) (b : Bool) (old new : List ℕ) → b ≡ p k → old ≡ filter p (range_with_len 0 k)
    → new ≡ old ++ cond b (k ∷ []) [] → new ≡ filter p (range_with_len 0 (k + 1))
passed_more p k b old new tells are made =
    made ∙ ap₂ (λ (xs : List ℕ) (c : Bool). xs ++ cond c (k ∷ []) []) are tells ∙ sym (filter-range_more p 0 k k (omega arith))

pub passed_all : (p : ℕ → Bool) (k : ℕ) (arcs : List ℕ) → arcs ≡ filter p (range_with_len 0 k) → k ≡ POINTS
    → arcs ≡ filter p (range_with_len 0 POINTS)
passed_all p k arcs are all = are ∙ ap (λ n. filter p (range_with_len 0 n)) all

-- membership as a test
among-test : (count : ℕ) (test : ℕ → Bool) (x : ℕ) → 1 ≤ x → x < 1 + count → list_any (nat_eq x) (those count test) ≡ test x
among-test count test x above below = elim (cases_Bool (test x)) [
  | inl passes ↦
      list_any-contained (nat_eq x) (those count test) x (are-those count test x above below passes) (eq-eqb x x refl) ∙ sym passes
  | inr fails ↦
      false_from_ne_true (list_any (nat_eq x) (those count test))
      (λ any.
      let found = list_any-some (nat_eq x) (those count test) any in
      both_ways (test x) fails (ap test (eqb-true x found.0 found.2) ∙ (those-are count test found.0 found.1).passes))
      ∙ sym fails
]

outside-test : (points : List ℕ) (x : ℕ) → (Contains points x → ⊥) → list_any (nat_eq x) points ≡ false
outside-test points x lacks =
    false_from_ne_true (list_any (nat_eq x) points)
    (λ any.
    let found = list_any-some (nat_eq x) points any in
    let same : x ≡ found.0 = eqb-true x found.0 found.2 in
    lacks (subst (λ y. Contains points y) (sym same) found.1))

-- ends at the crossing

abbrev four_of : (ℕ → Bool) → ℕ → ℕ
four_of p a = cond (p a) 1 0 + (cond (p (a + 1)) 1 0 + (cond (p (a + 1 + 1)) 1 0 + cond (p (a + 1 + 1 + 1)) 1 0))

count-four : (p : ℕ → Bool) (a : ℕ) → count_by p (range_with_len a 4) ≡ four_of p a
count-four p a = omega arith

slot-test : (crossings : List (List ℕ)) (k x slot place : ℕ) → slot < 4 → place ≡ 4 * k + slot
    → nat_eq (arc_at crossings place) x ≡ nat_eq (arc_in (slice_index_or crossings k []) slot) x
slot-test crossings k x slot place below is =
    ap (λ n. nat_eq (arc_at crossings n) x) is ∙ ap (λ n. nat_eq n x) (arc_at-slot crossings k slot below)

abbrev one_if : Bool → ℕ
one_if b = cond b 1 0

pub ends-same : (crossings : List (List ℕ)) (k x : ℕ) → ends_at crossings k x ≡ slot_count (slice_index_or crossings k []) x
ends-same crossings k x =
    count-four (λ place. nat_eq (arc_at crossings place) x) (4 * k)
    ∙ ap₂ (λ m n. m + n) (ap (λ b. one_if b) (slot-test crossings k x 0 (4 * k) (omega arith) (omega arith)))
    (ap₂ (λ m n. m + n) (ap (λ b. one_if b) (slot-test crossings k x 1 (4 * k + 1) (omega arith) (omega arith)))
    (ap₂ (λ m n. m + n) (ap (λ b. one_if b) (slot-test crossings k x 2 (4 * k + 1 + 1) (omega arith) (omega arith)))
    (ap (λ b. one_if b) (slot-test crossings k x 3 (4 * k + 1 + 1 + 1) (omega arith) (omega arith)))))

no-ends : (code : Code) (k x : ℕ) → IsPlace code k → (Contains (near (step_at code k)) x → ⊥)
    → slot_count (slice_index_or code.crossings k []) x ≡ 0
no-ends code k x place lacks =
    ap₂ (λ m n. m + n) (zero_at 0 (omega arith))
    (ap₂ (λ m n. m + n) (zero_at 1 (omega arith)) (ap₂ (λ m n. m + n) (zero_at 2 (omega arith)) (zero_at 3 (omega arith))))
  where
    zero_at : (slot : ℕ) → slot < 4 → one_if (nat_eq (arc_in (slice_index_or code.crossings k []) slot) x) ≡ 0
    zero_at slot below =
        ap (λ b. one_if b)
        (ne_eqb (arc_in (slice_index_or code.crossings k []) slot) x
        (λ same. lacks (subst (λ y. Contains (near (step_at code k)) y) same (slot-near code k slot place.twice place.crossing below))))

-- the tests

none-near : (b : Bool) (d : ℕ) → b ≡ false → d ≡ 0 → (b || nat_lt 0 d) ≡ false
none-near b d first second = ap₂ (λ c e. c || nat_lt 0 e) first second

none-next : (b : Bool) (d : ℕ) → b ≡ false → d ≡ 0 → nat_eq (cond b 1 0 + d) 1 ≡ false
none-next b d first second = ap₂ (λ c e. nat_eq (cond c 1 0 + e) 1) first second

next-test : (e d next : ℕ) → next ≡ e + d → next ≤ 2 → nat_eq (cond (nat_eq e 1) 1 0 + d) 1 ≡ nat_eq next 1
next-test e d next is few = grind (arith, nat_tests)

-- a number that is no arc
record IsNone (code : Code) (k x : ℕ) : Type 0 where
  not_open : Contains (points_at code k).opened x → ⊥
  not_near : Contains (near (step_at code k)) x → ⊥

none-first : (code : Code) (k : ℕ) → IsNone code k 0
none-first code k = record {
  not_open = λ has. absurd (omega (arith, (those-are (arc_count code.crossings + code.loops) (is_open code k) 0 has).above));
  not_near = λ has. absurd (omega (arith, (those-are (arc_count code.crossings + code.loops) (is_near (step_at code k)) 0 has).above));
}

none-past : (code : Code) (k x : ℕ) → IsPlace code k → arc_count code.crossings < x → IsNone code k x
none-past code k x place past = record {
  not_open = λ has. absurd (omega (arith, past, open-few code k x place.twice has));
  not_near = λ has. absurd (omega (arith, past, near-few code k x place.twice has));
}

near-all : (code : Code) (k : ℕ) → IsPlace code k
    → filter (is_near_by (points_at code k).opened (slice_index_or code.crossings k [])) (range_with_len 0 POINTS) ≡ near (step_at code k)
near-all code k place =
    let slots = slice_index_or code.crossings k [] in
    let opened = (points_at code k).opened in
    let never : (x : ℕ) → IsNone code k x → is_near_by opened slots x ≡ false =
    λ x none.
    none-near (list_any (nat_eq x) opened) (slot_count slots x) (outside-test opened x none.not_open) (no-ends code k x place none.not_near) in
    filter-within (is_near_by opened slots) (is_near (step_at code k)) (arc_count code.crossings) POINTS place.fits
    (never 0 (none-first code k))
    (λ x above below.
    ap₂ (λ b d. b || nat_lt 0 d)
    (among-test (arc_count code.crossings + code.loops) (is_open code k) x above (omega (arith, below)))
    (sym (ends-same code.crossings k x)))
    (λ x past below. never x (none-past code k x place past))
    ∙ sym (near-are code k place.twice)

next-all : (code : Code) (k : ℕ) → IsPlace code k
    → filter (is_next_by (points_at code k).opened (slice_index_or code.crossings k [])) (range_with_len 0 POINTS)
    ≡ (points_at code (k + 1)).opened
next-all code k place =
    let slots = slice_index_or code.crossings k [] in
    let opened = (points_at code k).opened in
    let never : (x : ℕ) → IsNone code k x → is_next_by opened slots x ≡ false =
    λ x none.
    none-next (list_any (nat_eq x) opened) (slot_count slots x) (outside-test opened x none.not_open) (no-ends code k x place none.not_near) in
    filter-within (is_next_by opened slots) (is_open code (k + 1)) (arc_count code.crossings) POINTS place.fits
    (never 0 (none-first code k))
    (λ x above below.
    ap₂ (λ b d. nat_eq (cond b 1 0 + d) 1)
    (among-test (arc_count code.crossings + code.loops) (is_open code k) x above (omega (arith, below)))
    (sym (ends-same code.crossings k x))
    ∙ next-test (ends_before code.crossings k x) (ends_at code.crossings k x) (ends_before code.crossings (k + 1) x)
    (ends_before-more code.crossings k x) (few-ends code.crossings (k + 1) x place.twice above (omega (arith, place.crossing))))
    (λ x past below. never x (none-past code k x place past))
    ∙ sym (open-are code (k + 1) place.twice)

pub near-made : (code : Code) (k : ℕ) (opened slots made : List ℕ) → IsPlace code k → opened ≡ (points_at code k).opened
    → slots ≡ slice_index_or code.crossings k [] → made ≡ filter (is_near_by opened slots) (range_with_len 0 POINTS)
    → made ≡ near (step_at code k)
near-made code k opened slots made place before crossing is =
    is ∙ ap₂ (λ xs ss. filter (is_near_by xs ss) (range_with_len 0 POINTS)) before crossing ∙ near-all code k place

pub next-made : (code : Code) (k : ℕ) (opened slots made : List ℕ) → IsPlace code k → opened ≡ (points_at code k).opened
    → slots ≡ slice_index_or code.crossings k [] → made ≡ filter (is_next_by opened slots) (range_with_len 0 POINTS)
    → made ≡ (points_at code (k + 1)).opened
next-made code k opened slots made place before crossing is =
    is ∙ ap₂ (λ xs ss. filter (is_next_by xs ss) (range_with_len 0 POINTS)) before crossing ∙ next-all code k place
