-- The disjoint union of directed codes is directed.
--
-- Each crossing and each arc of the union is one of a code's, raised (`IsPart`). Every rule of a directed code is about one crossing, or
-- about one component and the crossings that it passes, which are of the same part. So each is read off the part, and holds there.
use Rattle.std.proofs.lemmas.Bool.Decides.{nat_tests}
use Rattle.std.proofs.Common.{List, ap, arith, cond, inl, inr, length, subst, sym, ℕ, ◌*◌, ◌+◌, ◌-◌, ◌<◌, ◌∙◌, ◌≡◌, ◌≢◌, ◌≤◌, ◌⊎◌}
use Rattle.std.proofs.lemmas.Bool.{cases_lt, ne_eqb}
use Rattle.std.specs.List.{range_with_len, sum_by}
use Rattle.std.specs.Prelude.{nat_eq}
use Rattle.kh_types.proofs.AcceptedLemmas.{HasArcsTwice-directed}
use Rattle.kh_types.proofs.ListSums.{sum_by-none, sum_by-range_alike}
use Rattle.kh_types.proofs.Lists.{count_by-map}
use Rattle.kh_types.specs.Accepted.{IsDirected, IsInterval}
use Rattle.kh_types.specs.Code.{Code, IsArc, IsCrossing, arc_count, arc_in, slots_of}
use Rattle.kh_types.specs.Components.{arcs_in, component_of, components_of, next}
use Rattle.kh_types.specs.Darts.{arc_of, dart_at, times}
use Rattle.link_algebra.proofs.UnitedComponents.{IsPart, IsPart-first, IsPart-second, component-is, index-past, length-components}
use Rattle.link_algebra.proofs.UnitedSigns.{next-part, part-arc, same_test}
use Rattle.link_algebra.proofs.ClassParts.{sum_by-parts}
use Rattle.link_algebra.proofs.UnitedCircles.{length-both}
use Rattle.link_algebra.specs.Unions.{union_of}

-- what is known of two directed codes and their union
pub record AreUnited (first second : Code) : Type 0 where
  pub first_is : IsDirected first.crossings
  pub second_is : IsDirected second.crossings
  pub one : IsPart 0 first.crossings (union_of first second).crossings
  pub two : IsPart (length first.crossings) second.crossings (union_of first second).crossings

pub AreUnited-from : (first second : Code) → IsDirected first.crossings → IsDirected second.crossings → AreUnited first second
AreUnited-from first second first_is second_is =
    let first_twice = HasArcsTwice-directed first.crossings first_is in
    let second_twice = HasArcsTwice-directed second.crossings second_is in
    record {
      first_is = first_is;
      second_is = second_is;
      one = IsPart-first first second first_twice second_twice;
      two = IsPart-second first second first_twice second_twice;
    }

-- whether a test of arcs passes at the dart at a place
abbrev on_arc : List (List ℕ) → ℕ → ℕ → ℕ
on_arc crossings arc place = cond (nat_eq (arc_of crossings (dart_at place)) arc) 1 0

times-places : (crossings : List (List ℕ)) (arc : ℕ) → times crossings arc ≡ sum_by (on_arc crossings arc) (range_with_len 0 (4 * length crossings))
times-places crossings arc = count_by-map (λ dart. nat_eq (arc_of crossings dart) arc) dart_at (range_with_len 0 (4 * length crossings))

times-blocks : (first second : Code) (arc : ℕ)
    → times (union_of first second).crossings arc
    ≡ sum_by (λ q. on_arc (union_of first second).crossings arc (4 * 0 + q)) (range_with_len 0 (4 * length first.crossings))
    + sum_by (λ q. on_arc (union_of first second).crossings arc (4 * length first.crossings + q)) (range_with_len 0 (4 * length second.crossings))
times-blocks first second arc =
    let n = length first.crossings in
    let k = length second.crossings in
    let whole = (union_of first second).crossings in
    let size : 4 * length whole ≡ 4 * n + 4 * k = omega (arith, length-both first second) in
    times-places whole arc ∙ ap (λ c. sum_by (on_arc whole arc) (range_with_len 0 c)) size
    ∙ sum_by-parts (on_arc whole arc) 0 (4 * n) (4 * k)
    ∙ ap (λ x. x + sum_by (λ q. on_arc whole arc (4 * n + q)) (range_with_len 0 (4 * k)))
    (sum_by-range_alike (on_arc whole arc) (λ q. on_arc whole arc (4 * 0 + q)) 0 (4 * n)
    (λ q from below. ap (on_arc whole arc) (let e : q ≡ 4 * 0 + q = omega arith in e)))

module _ (before : ℕ) (part whole : List (List ℕ)) (is : IsPart before part whole) where
  -- the arc of a dart of a part, by its place
  pub place-part : (q : ℕ) → q < 4 * length part → arc_of whole (dart_at (4 * before + q)) ≡ arc_of part (dart_at q) + 2 * before
  place-part q below = grind (arith, nat_tests)

  times-own : (arc : ℕ)
      → sum_by (λ q. on_arc whole (arc + 2 * before) (4 * before + q)) (range_with_len 0 (4 * length part)) ≡ times part arc
  times-own arc =
      sum_by-range_alike (λ q. on_arc whole (arc + 2 * before) (4 * before + q)) (on_arc part arc) 0 (4 * length part)
      (λ q from below.
      ap (λ x. cond (nat_eq x (arc + 2 * before)) 1 0) (place-part q (omega (arith, below)))
      ∙ ap (λ b. cond b 1 0) (same_test (arc_of part (dart_at q)) arc (2 * before)))
      ∙ sym (times-places part arc)

  times-none : (arc : ℕ) → (arc ≤ 2 * before) ⊎ (2 * before + arc_count part < arc)
      → sum_by (λ q. on_arc whole arc (4 * before + q)) (range_with_len 0 (4 * length part)) ≡ 0
  times-none arc outside = grind (arith, nat_tests, sum_by-none, part-arc, place-part, ne_eqb)

  -- the fields of a directed code
  next-at : (crossing slot : ℕ) → IsCrossing part crossing → slot < 4
      → next whole (arc_in (slots_of whole (before + crossing)) slot) ≡ next part (arc_in (slots_of part crossing) slot) + 2 * before
  next-at crossing slot is_crossing below = grind (arith, nat_tests, next-part, part-arc)

  follows-of : (crossing slot other : ℕ) → IsCrossing part crossing → slot < 4 → other < 4
      → arc_in (slots_of part crossing) slot ≡ next part (arc_in (slots_of part crossing) other)
      → arc_in (slots_of whole (before + crossing)) slot ≡ next whole (arc_in (slots_of whole (before + crossing)) other)
  follows-of crossing slot other is_crossing below other_below follows = grind (arith, nat_tests)

  over-of : IsDirected part → (crossing : ℕ) → IsCrossing part crossing
      → (arc_in (slots_of whole (before + crossing)) 3 ≡ next whole (arc_in (slots_of whole (before + crossing)) 1))
      ⊎ (arc_in (slots_of whole (before + crossing)) 1 ≡ next whole (arc_in (slots_of whole (before + crossing)) 3))
  over-of directed crossing is_crossing = grind (arith, nat_tests, follows-of)

  slots-of : (crossing slot : ℕ) → IsCrossing part crossing → slot < 4 → IsArc whole (arc_in (slots_of whole (before + crossing)) slot)
  slots-of crossing slot is_crossing below = grind (arith, nat_tests)

  interval-of : IsDirected part → (arc : ℕ) → IsArc part arc
      → component_of (components_of whole) (arc + 2 * before) ≡ arc + 2 * before → IsInterval (components_of whole) (arc + 2 * before)
  interval-of directed arc is_arc least x from below =
      let own : component_of (components_of part) arc ≡ arc = omega (arith, least, is.component arc is_arc) in
      let y = x - 2 * before in
      let there : component_of (components_of part) y ≡ arc =
      directed.intervals arc is_arc own y (omega (arith, from)) (omega (arith, from, below, is.sizes arc is_arc)) in
      let y_is : IsArc part y = record {
        positive = omega (arith, from, is_arc.positive);
        within = elim (cases_lt y (arc_count part + 1)) [
          | inl inside ↦ omega (arith, inside)
          | inr past ↦ absurd (omega (
            arith,
            there,
            is_arc.positive,
            index-past (components_of part) y (omega (arith, past, (length-components part is.holds).0)),
          ))
        ];
      } in
      let e : x ≡ y + 2 * before = omega (arith, from) in
      ap (component_of (components_of whole)) e ∙ is.component y y_is ∙ ap (λ c. c + 2 * before) there

  two_arcs-of : IsDirected part → (earlier later : ℕ) → IsCrossing part earlier → IsCrossing part later
      → before + earlier < before + later
      → arc_in (slots_of whole (before + earlier)) 0 ≡ arc_in (slots_of whole (before + later)) 0
      → arcs_in (components_of whole) (component_of (components_of whole) (arc_in (slots_of whole (before + later)) 0)) ≢ 2
  two_arcs-of directed earlier later earlier_is later_is order same two =
      let a = arc_in (slots_of part later) 0 in
      let arc = part-arc before part whole is later 0 later_is (omega arith) in
      let e = is.arcs later 0 later_is (omega arith) in
      let same_arc : arc_in (slots_of part earlier) 0 ≡ a = omega (arith, same, e, is.arcs earlier 0 earlier_is (omega arith)) in
      let size : arcs_in (components_of whole) (component_of (components_of whole) (arc_in (slots_of whole (before + later)) 0))
      ≡ arcs_in (components_of part) (component_of (components_of part) a) =
      ap (λ c. arcs_in (components_of whole) c) (ap (component_of (components_of whole)) e ∙ is.component a arc)
      ∙ is.sizes (component_of (components_of part) a) (component-is part a is.holds arc) in
      directed.two_arcs earlier later earlier_is later_is (omega (arith, order)) same_arc (sym size ∙ two)

-- a fact on each arc and on each crossing of the union, from the two parts
pub each-arc : (P : ℕ → Type 0) (first second : Code) → ((arc : ℕ) → IsArc first.crossings arc → P (arc + 2 * 0))
    → ((arc : ℕ) → IsArc second.crossings arc → P (arc + 2 * length first.crossings))
    → (arc : ℕ) → IsArc (union_of first second).crossings arc → P arc
each-arc P first second ones twos arc is =
    let n = length first.crossings in
    elim (cases_lt (2 * n) arc) [
      | inr low ↦
          let e : arc + 2 * 0 ≡ arc = omega arith in subst P e (ones arc (record { positive = is.positive; within = low }))
      | inl high ↦
          let e : arc - 2 * n + 2 * n ≡ arc = omega (arith, high) in
          subst P e (twos (arc - 2 * n)
          (record { positive = omega (arith, high); within = omega (arith, is.within, high, length-both first second) }))
    ]

pub each-crossing : (P : ℕ → Type 0) (first second : Code)
    → ((crossing : ℕ) → IsCrossing first.crossings crossing → P (0 + crossing))
    → ((crossing : ℕ) → IsCrossing second.crossings crossing → P (length first.crossings + crossing))
    → (crossing : ℕ) → IsCrossing (union_of first second).crossings crossing → P crossing
each-crossing P first second ones twos crossing is =
    let n = length first.crossings in
    elim (cases_lt n crossing) [
      | inr low ↦
          let e : 0 + crossing ≡ crossing = omega arith in subst P e (ones crossing (record { positive = is.positive; within = low }))
      | inl high ↦
          let e : n + (crossing - n) ≡ crossing = omega (arith, high) in
          subst P e (twos (crossing - n)
          (record { positive = omega (arith, high); within = omega (arith, is.within, high, length-both first second) }))
    ]

twice-both : (first second : Code) → AreUnited first second → (arc : ℕ) → IsArc (union_of first second).crossings arc
    → times (union_of first second).crossings arc ≡ 2
twice-both first second are =
    let n = length first.crossings in
    let whole = (union_of first second).crossings in
    each-arc (λ arc. times whole arc ≡ 2) first second
    (λ arc is. omega (
      arith,
      times-blocks first second (arc + 2 * 0),
      times-own 0 first.crossings whole are.one arc,
      times-none n second.crossings whole are.two (arc + 2 * 0) (inl (omega (arith, is.within))),
      are.first_is.twice arc is,
    ))
    (λ arc is. omega (
      arith,
      times-blocks first second (arc + 2 * n),
      times-own n second.crossings whole are.two arc,
      times-none 0 first.crossings whole are.one (arc + 2 * n) (inr (omega (arith, is.positive))),
      are.second_is.twice arc is,
    ))

pub IsDirected-both : (first second : Code) → AreUnited first second → IsDirected (union_of first second).crossings
IsDirected-both first second are =
    let n = length first.crossings in
    let whole = (union_of first second).crossings in
    let name = λ (c : ℕ). component_of (components_of whole) (arc_in (slots_of whole c) 0) in
    record {
      slots = λ dart is.
          each-crossing (λ c. IsArc whole (arc_in (slots_of whole c) dart.slot)) first second
          (λ c is_c. slots-of 0 first.crossings whole are.one c dart.slot is_c is.slot)
          (λ c is_c. slots-of n second.crossings whole are.two c dart.slot is_c is.slot) dart.crossing is.crossing;
      twice = twice-both first second are;
      intervals = each-arc (λ arc. component_of (components_of whole) arc ≡ arc → IsInterval (components_of whole) arc) first second
          (interval-of 0 first.crossings whole are.one are.first_is) (interval-of n second.crossings whole are.two are.second_is);
      under = each-crossing (λ c. arc_in (slots_of whole c) 2 ≡ next whole (arc_in (slots_of whole c) 0)) first second
          (λ c is. follows-of 0 first.crossings whole are.one c 2 0 is (omega arith) (omega arith) (are.first_is.under c is))
          (λ c is. follows-of n second.crossings whole are.two c 2 0 is (omega arith) (omega arith) (are.second_is.under c is));
      over = each-crossing
          (λ c. (arc_in (slots_of whole c) 3 ≡ next whole (arc_in (slots_of whole c) 1))
          ⊎ (arc_in (slots_of whole c) 1 ≡ next whole (arc_in (slots_of whole c) 3))) first second
          (over-of 0 first.crossings whole are.one are.first_is) (over-of n second.crossings whole are.two are.second_is);
      two_arcs = λ earlier later earlier_is later_is.
          each-crossing (λ e. e < later → arc_in (slots_of whole e) 0 ≡ arc_in (slots_of whole later) 0
          → arcs_in (components_of whole) (name later) ≢ 2) first second
          (λ e e_is.
          each-crossing (λ l. 0 + e < l → arc_in (slots_of whole (0 + e)) 0 ≡ arc_in (slots_of whole l) 0
          → arcs_in (components_of whole) (name l) ≢ 2) first second
          (λ l l_is. two_arcs-of 0 first.crossings whole are.one are.first_is e l e_is l_is)
          (λ l l_is order same two. omega (
            arith,
            same,
            are.one.arcs e 0 e_is (omega arith),
            are.two.arcs l 0 l_is (omega arith),
            (part-arc 0 first.crossings whole are.one e 0 e_is (omega arith)).within,
            (part-arc n second.crossings whole are.two l 0 l_is (omega arith)).positive,
          )) later later_is)
          (λ e e_is.
          each-crossing (λ l. n + e < l → arc_in (slots_of whole (n + e)) 0 ≡ arc_in (slots_of whole l) 0
          → arcs_in (components_of whole) (name l) ≢ 2) first second
          (λ l l_is order same two. omega (arith, order, l_is.within, e_is.positive))
          (λ l l_is. two_arcs-of n second.crossings whole are.two are.second_is e l e_is l_is) later later_is)
          earlier earlier_is;
    }
