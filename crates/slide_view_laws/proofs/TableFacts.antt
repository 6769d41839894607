-- What the table of a triangle says of its states.
use Rattle.std.proofs.Common.{◌≡◌, ◌≢◌, ℕ, inl, inr, ◌+◌, ◌-◌, ◌<◌, ◌≤◌, ◌∙◌, List, sym, ap, arith, Bool, true, false, not, ◌&&◌, ◌||◌}
use Rattle.std.specs.Prelude.{slice_index, nat_eq, nat_lt}
use Rattle.std.specs.List.{range_with_len, list_all}
use Rattle.std.proofs.lemmas.Slice.Eq.{bytes_eq-Decides}
use Rattle.std.proofs.lemmas.List.FromFn.{get_or-map-range_with_len}
use Rattle.std.proofs.lemmas.Bool.{and_parts, ltb-true, eqb-true, cases_eq, or_cases}
use Rattle.kh_types.specs.Classes.{AreBelow}
use Rattle.kh_types.specs.Circles.{smoothings_of}
use Rattle.kh_types.proofs.JoinedClasses.{IsNamed-classes_of}
use Rattle.kh_types.proofs.RangeCounts.{list_all-at}
use Rattle.gluing_laws.specs.Slides.{triangle_before, triangle_after, ends_joined, inside_classes, is_slidable}
use Rattle.gluing_laws.proofs.TiedTable.{AreBelow-from}
use Rattle.layer_laws.specs.Slid.{kind_before, kind_after}
use Rattle.slide_view_laws.specs.Triangles.{closing, across, changed_at}
use Rattle.slide_view_laws.proofs.Relations.{inside_class}
use Rattle.slide_view_laws.proofs.Table.{slide_turns-all, has_kinds-all}
use Rattle.slide_view_laws.proofs.Tests.{is_inside_at, closes_at, shows_at, join_alike, is_closed_by, has_kinds_at}

-- a triangle with its closing state
pub record IsClosedBy (crossings : List (List ℕ)) (closed : ℕ) : Type 0 where
  pub below : (state : ℕ) → state < 8 → AreBelow 10 (smoothings_of crossings state)
  pub closes : (side : ℕ) → 7 ≤ side → side < 10 → inside_class (smoothings_of crossings closed) side ≡ 7
  pub shows : (state : ℕ) → state < 8 → state ≢ closed → (side : ℕ) → 7 ≤ side → side < 10
      → (1 ≤ inside_class (smoothings_of crossings state) side) × (inside_class (smoothings_of crossings state) side < 7)
  pub neighbours : (place : ℕ) → place < 3 → ends_joined crossings (changed_at place closed) ≡ ends_joined crossings closed

-- both triangles of a slide
pub record SlideTurns (p q r : ℕ) : Type 0 where
  pub before : IsClosedBy (triangle_before p q r) (closing p q r)
  pub after : IsClosedBy (triangle_after p q r) (closing p q r)
  pub before_across : ends_joined (triangle_before p q r) (across p q r) ≡ ends_joined (triangle_after p q r) (closing p q r)
  pub after_across : ends_joined (triangle_after p q r) (across p q r) ≡ ends_joined (triangle_before p q r) (closing p q r)
  pub middle : (place : ℕ) → place < 3
      → ends_joined (triangle_before p q r) (changed_at place (across p q r))
      ≡ ends_joined (triangle_after p q r) (changed_at place (across p q r))

joined-same : (crossings others : List (List ℕ)) (state other : ℕ) → join_alike crossings state others other ≡ true
    → ends_joined crossings state ≡ ends_joined others other
joined-same crossings others state other alike = (bytes_eq-Decides (ends_joined crossings state) (ends_joined others other)).0 alike

IsClosedBy-table : (crossings : List (List ℕ)) (closed : ℕ) → is_closed_by crossings closed ≡ true → IsClosedBy crossings closed
IsClosedBy-table crossings closed table =
    let at_state = λ (state : ℕ). is_inside_at crossings state && (nat_eq state closed || shows_at crossings state) in
    let at_place = λ (place : ℕ). join_alike crossings (changed_at place closed) crossings closed in
    let first = and_parts (closes_at crossings closed) (list_all at_state (range_with_len 0 8) && list_all at_place (range_with_len 0 3))
    table in
    let second = and_parts (list_all at_state (range_with_len 0 8)) (list_all at_place (range_with_len 0 3)) first.1 in
    let here = λ (state : ℕ) (below : state < 8).
    and_parts (is_inside_at crossings state) (nat_eq state closed || shows_at crossings state)
    (list_all-at at_state 0 8 state second.0 (omega arith) (omega (arith, below))) in
    record {
      below = λ state below. AreBelow-from 10 (smoothings_of crossings state) (here state below).0;
      closes = λ side from side_below.
          eqb-true (inside_class (smoothings_of crossings closed) side) 7
          (list_all-at (λ s. nat_eq (slice_index (inside_classes crossings closed) s) 7) 7 3 side first.0 from (omega (arith, side_below)));
      shows = λ state below differs side from side_below.
          let class = λ (s : ℕ). slice_index (inside_classes crossings state) s in
          let shown : shows_at crossings state ≡ true =
          elim (or_cases (nat_eq state closed) (shows_at crossings state) (here state below).1) [
            | inl is ↦ absurd (differs (eqb-true state closed is))
            | inr shows ↦ shows
          ] in
          let both = and_parts (nat_lt 0 (class side)) (nat_lt (class side) 7)
          (list_all-at (λ s. nat_lt 0 (class s) && nat_lt (class s) 7) 7 3 side shown from (omega (arith, side_below))) in
          (ltb-true 0 (class side) both.0, ltb-true (class side) 7 both.1);
      neighbours = λ place below.
          joined-same crossings crossings (changed_at place closed) closed
          (list_all-at at_place 0 3 place second.1 (omega arith) (omega (arith, below)));
    }

pub SlideTurns-table : (p q r : ℕ) → p < 4 → q < 4 → r < 4 → SlideTurns p q r
SlideTurns-table p q r p_below q_below r_below =
    let before = triangle_before p q r in
    let after = triangle_after p q r in
    let closed = closing p q r in
    let opposite = across p q r in
    let mixed = not (is_slidable p q r) || (nat_lt 0 closed && nat_lt closed 7) in
    let at_place = λ (place : ℕ). join_alike before (changed_at place opposite) after (changed_at place opposite) in
    let last = list_all at_place (range_with_len 0 3) in
    let fifth = join_alike after opposite before closed && last in
    let fourth = join_alike before opposite after closed && fifth in
    let third = is_closed_by after closed && fourth in
    let one = and_parts mixed (is_closed_by before closed && third) (slide_turns-all p q r p_below q_below r_below) in
    let two = and_parts (is_closed_by before closed) third one.1 in
    let three = and_parts (is_closed_by after closed) fourth two.1 in
    let four = and_parts (join_alike before opposite after closed) fifth three.1 in
    let five = and_parts (join_alike after opposite before closed) last four.1 in
    record {
      before = IsClosedBy-table before closed two.0;
      after = IsClosedBy-table after closed three.0;
      before_across = joined-same before after opposite closed four.0;
      after_across = joined-same after before opposite closed five.0;
      middle = λ place below.
          joined-same before after (changed_at place opposite) (changed_at place opposite)
          (list_all-at at_place 0 3 place five.1 (omega arith) (omega (arith, below)));
    }

-- where a slide can be made, the closing state has a bit 1 and a bit 0
pub closing-mixed : (p q r : ℕ) → p < 4 → q < 4 → r < 4 → is_slidable p q r ≡ true → (0 < closing p q r) × (closing p q r < 7)
closing-mixed p q r p_below q_below r_below slidable =
    let closed = closing p q r in
    let range = nat_lt 0 closed && nat_lt closed 7 in
    let one = and_parts (not (is_slidable p q r) || range) _ (slide_turns-all p q r p_below q_below r_below) in
    let both = and_parts (nat_lt 0 closed) (nat_lt closed 7) (other_true (is_slidable p q r) range one.0 slidable) in
    (ltb-true 0 closed both.0, ltb-true closed 7 both.1)
  where
    other_true : (a b : Bool) → (not a || b) ≡ true → a ≡ true → b ≡ true
    other_true true b either is = either
    other_true false b either is = absurd (grind (arith, is))

-- ends that are joined alike are in equal classes, and so is the number 0 (as in gluing_laws)
pub classes-joined : (crossings others : List (List ℕ)) (state other : ℕ) → AreBelow 10 (smoothings_of crossings state)
    → AreBelow 10 (smoothings_of others other) → ends_joined crossings state ≡ ends_joined others other
    → (i : ℕ) → i < 7 → inside_class (smoothings_of crossings state) i ≡ inside_class (smoothings_of others other) i
classes-joined crossings others state other below others_below same i i_below =
    elim (cases_eq i 0) [
      | inl is ↦
          let first = (IsNamed-classes_of 10 (smoothings_of crossings state) below).least 0 (omega arith) in
          let second = (IsNamed-classes_of 10 (smoothings_of others other) others_below).least 0 (omega arith) in
          ap (λ k. inside_class (smoothings_of crossings state) k) is
          ∙ both_zero (inside_class (smoothings_of crossings state) 0) (inside_class (smoothings_of others other) 0) first second
          ∙ ap (λ k. inside_class (smoothings_of others other) k) (sym is)
      | inr positive ↦
          let place : i - 1 < 6 = low i i_below in
          let whole : 1 + (i - 1) ≡ i = back i positive in
          sym (get_or-map-range_with_len (slice_index (inside_classes crossings state)) 1 6 (i - 1) i 0 place whole)
          ∙ ap (λ xs. slice_index xs (i - 1)) same
          ∙ get_or-map-range_with_len (slice_index (inside_classes others other)) 1 6 (i - 1) i 0 place whole
    ]
  where
    both_zero : (a b : ℕ) → a ≤ 0 → b ≤ 0 → a ≡ b
    both_zero a b a_zero b_zero = omega (arith, a_zero, b_zero)

    low : (i : ℕ) → i < 7 → i - 1 < 6
    low i below = omega (arith, below)

    back : (i : ℕ) → i ≢ 0 → 1 + (i - 1) ≡ i
    back i positive = grind (arith, positive)

-- kinds
pub record HasKinds (p q r state : ℕ) : Type 0 where
  pub before : ends_joined (triangle_before p q r) state ≡ ends_joined (triangle_before p q r) (kind_before (closing p q r) state)
  pub after : ends_joined (triangle_before p q r) (kind_after (closing p q r) state) ≡ ends_joined (triangle_after p q r) state
  pub before_below : kind_before (closing p q r) state < 8
  pub after_below : kind_after (closing p q r) state < 8

pub HasKinds-table : (p q r state : ℕ) → p < 4 → q < 4 → r < 4 → state < 8 → HasKinds p q r state
HasKinds-table p q r state p_below q_below r_below below =
    let before = triangle_before p q r in
    let after = triangle_after p q r in
    let kind = kind_before (closing p q r) state in
    let kind_too = kind_after (closing p q r) state in
    let here = list_all-at (has_kinds_at p q r) 0 8 state (has_kinds-all p q r p_below q_below r_below) (omega arith)
    (omega (arith, below)) in
    let ranges = nat_lt kind 8 && nat_lt kind_too 8 in
    let one = and_parts (join_alike before state before kind) (join_alike before kind_too after state && ranges) here in
    let two = and_parts (join_alike before kind_too after state) ranges one.1 in
    let three = and_parts (nat_lt kind 8) (nat_lt kind_too 8) two.1 in
    record {
      before = joined-same before before state kind one.0;
      after = joined-same before after kind_too state two.0;
      before_below = ltb-true kind 8 three.0;
      after_below = ltb-true kind_too 8 three.1;
    }
