-- Crossings brought to the front: a slide stays one.
use Rattle.std.proofs.Common.{◌≡◌, ◌≢◌, ℕ, inl, inr, ◌+◌, ◌*◌, ◌<◌, ◌≤◌, ◌∙◌, List, [], length, get_or, sym, ap, subst, arith, ℤ, IsTrue}
use Rattle.kh_types.specs.Acceptance.{accepted}
use Rattle.kh_types.specs.Code.{Code, arc_in}
use Rattle.kh_types.specs.Residues.{HasInverses}
use Rattle.cell_laws.specs.Cells.{dimension_at}
use Rattle.cell_laws.specs.Cubes.{cube_of}
use Rattle.order_laws.specs.Orders.{IsReordered}
use Rattle.order_laws.specs.Orders.{listed_by}
use Rattle.order_laws.proofs.Orders.{dimension-reordered}
use Rattle.order_laws.proofs.AnyOrder.{accepted-reordered}
use Rattle.order_laws.proofs.Reordered.{first-reordered}
use Rattle.gluing_laws.specs.Arcs.{arc_by_place}
use Rattle.gluing_laws.specs.Codes.{name_count}
use Rattle.gluing_laws.specs.Slides.{IsPlacedTriangle, IsNoSide, triangle_before, triangle_after}
use Rattle.gluing_laws.specs.SlidCodes.{Shows, HasTriangle, IsSlid}
use Rattle.slide_view_laws.specs.RenamedViews.{IsRenumberedOnto}
use Rattle.slide_view_laws.specs.SlideViews.{three_first}
use Rattle.view_laws.specs.Fronts.{first_to, place_behind}
use Rattle.view_laws.proofs.Fronts.{home, first-at, length-first, behind-low, behind-own, behind-high, order_of_two, behind-home, home-behind, home-below, behind-below, behind-apart}

-- a triangle, with one crossing brought to the front
module _ (code : Code) (k : ℕ) (below : k < length code.crossings) where
  abbrev front : Code
  front = listed_by code (first_to k code.crossings)

  sizes : length (first_to k code.crossings) ≡ length code.crossings
  sizes = length-first k code.crossings below

  names : name_count code ≡ name_count (listed_by code (first_to k code.crossings))
  names = ap (λ n. 2 * n + code.loops + 1) (sym sizes)

  at_home : (m slot : ℕ) → arc_by_place (first_to k code.crossings) m slot ≡ arc_by_place code.crossings (home k m) slot
  at_home m slot = ap (λ (slots : List ℕ). arc_in slots slot) (first-at k code.crossings m below)

  crossing-behind : (l : ℕ) → get_or code.crossings l [] ≡ get_or (first_to k code.crossings) (place_behind k l) []
  crossing-behind l = sym (first-at k code.crossings (place_behind k l) below ∙ ap (λ m. get_or code.crossings m []) (home-behind k l))

  not_home : (m l : ℕ) → m ≢ place_behind k l → home k m ≢ l
  not_home m l differs same = differs (sym (behind-home k m) ∙ ap (place_behind k) same)

  pub HasTriangle-first : (triangle : List (List ℕ)) (arcs : ℕ → ℕ) (c d e : ℕ) → HasTriangle code triangle arcs c d e
      → HasTriangle (listed_by code (first_to k code.crossings)) triangle arcs (place_behind k c) (place_behind k d) (place_behind k e)
  HasTriangle-first triangle arcs c d e has = record {
    holds = λ m slot m_below slot_below.
        let at = at_home m slot in
        let old = has.holds (home k m) slot (home-below k m (length code.crossings) below (omega (arith, m_below, sizes))) slot_below in
        omega (arith, at, old, names);
    placed = subst (λ (n : ℕ). IsPlacedTriangle n arcs) names has.placed;
    first = subst (λ (slots : List ℕ). Shows arcs slots (get_or triangle 0 [])) (crossing-behind c) has.first;
    second = subst (λ (slots : List ℕ). Shows arcs slots (get_or triangle 1 [])) (crossing-behind d) has.second;
    third = subst (λ (slots : List ℕ). Shows arcs slots (get_or triangle 2 [])) (crossing-behind e) has.third;
    sides = λ m slot m_below not_c not_d not_e slot_below.
        subst (λ (a : ℕ). IsNoSide arcs a) (sym (at_home m slot))
        (has.sides (home k m) slot (home-below k m (length code.crossings) below (omega (arith, m_below, sizes))) (not_home m c not_c)
        (not_home m d not_d) (not_home m e not_e) slot_below);
  }

-- a slide, with one crossing brought to the front
pub IsSlid-first : (old new : Code) (k c d e p q r : ℕ) (arcs : ℕ → ℕ) → k < length old.crossings → IsSlid old new c d e p q r arcs
    → IsSlid (listed_by old (first_to k old.crossings)) (listed_by new (first_to k new.crossings)) (place_behind k c) (place_behind k d)
    (place_behind k e) p q r arcs
IsSlid-first old new k c d e p q r arcs below slid =
    let size = slid.size in
    let new_below : k < length new.crossings = omega (arith, below, size) in
    let old_size = length-first k old.crossings below in
    let new_size = length-first k new.crossings new_below in
    let there = λ (l : ℕ) (l_below : l < length old.crossings).
    subst (λ (n : ℕ). place_behind k l < n) (sym old_size) (behind-below k l (length old.crossings) below l_below) in
    record {
      c_below = there c slid.c_below;
      d_below = there d slid.d_below;
      e_below = there e slid.e_below;
      c_d = behind-apart k c d slid.c_d;
      c_e = behind-apart k c e slid.c_e;
      d_e = behind-apart k d e slid.d_e;
      p_below = slid.p_below;
      q_below = slid.q_below;
      r_below = slid.r_below;
      slidable = slid.slidable;
      before = HasTriangle-first old k below (triangle_before p q r) arcs c d e slid.before;
      after = HasTriangle-first new k new_below (triangle_after p q r) arcs c d e slid.after;
      size = new_size ∙ size ∙ sym old_size;
      others = λ m slot m_below slot_below not_c not_d not_e.
          at_home new k new_below m slot
          ∙ slid.others (home k m) slot (home-below k m (length old.crossings) below (omega (arith, m_below, old_size))) slot_below
          (not_home old k below m c not_c) (not_home old k below m d not_d) (not_home old k below m e not_e)
          ∙ sym (at_home old k below m slot);
      loops = slid.loops;
    }

-- three crossings brought to the front

module _ (c d e : ℕ) (c_d : c ≢ d) (c_e : c ≢ e) (d_e : d ≢ e) where
  abbrev d_then : ℕ
  d_then = place_behind e d

  abbrev c_then : ℕ
  c_then = place_behind (place_behind e d) (place_behind e c)

  positive : (k l : ℕ) → l ≢ k → 1 ≤ place_behind k l
  positive k l differs = elim (order_of_two k l) [
    | inl low ↦ omega (arith, behind-low k l low)
    | inr other ↦ elim other [
      | inl own ↦ absurd (differs own)
      | inr high ↦ omega (arith, behind-high k l high, high)
    ]
  ]

  d_positive : 1 ≤ place_behind e d
  d_positive = positive e d d_e

  c_positive : 1 ≤ place_behind (place_behind e d) (place_behind e c)
  c_positive = positive (place_behind e d) (place_behind e c) (behind-apart e c d c_d)

  zero-behind : (k : ℕ) → 1 ≤ k → place_behind k 0 ≡ 1
  zero-behind k some = behind-low k 0 (omega (arith, some))

  c_above : 2 ≤ place_behind (place_behind e d) (place_behind e c)
  c_above =
      let first = positive e c c_e in
      let not_one : place_behind (place_behind e d) (place_behind e c) ≢ 1 =
      λ is. behind-apart d_then (place_behind e c) 0 (λ none. absurd (omega (arith, first, none)))
      (is ∙ sym (zero-behind d_then d_positive)) in
      above (place_behind (place_behind e d) (place_behind e c)) c_positive not_one
    where
      above : (n : ℕ) → 1 ≤ n → n ≢ 1 → 2 ≤ n
      above n some not_one = grind (arith, not_one)

  c-first : place_behind c_then c_then ≡ 0
  c-first = behind-own c_then

  d-second : place_behind c_then (place_behind d_then d_then) ≡ 1
  d-second = ap (place_behind c_then) (behind-own d_then) ∙ zero-behind c_then c_positive

  e-third : place_behind c_then (place_behind d_then (place_behind e e)) ≡ 2
  e-third =
      ap (λ k. place_behind c_then (place_behind d_then k)) (behind-own e)
      ∙ ap (place_behind c_then) (zero-behind d_then d_positive) ∙ behind-low c_then 1 (omega (arith, c_above))

pub IsSlid-three : (old new : Code) (c d e p q r : ℕ) (arcs : ℕ → ℕ) → IsSlid old new c d e p q r arcs
    → IsSlid (listed_by old (three_first c d e old.crossings)) (listed_by new (three_first c d e new.crossings)) 0 1 2 p q r arcs
IsSlid-three old new c d e p q r arcs slid =
    let d_then = place_behind e d in
    let c_then = place_behind (place_behind e d) (place_behind e c) in
    let once = IsSlid-first old new e c d e p q r arcs slid.e_below slid in
    let old_once = listed_by old (first_to e old.crossings) in
    let new_once = listed_by new (first_to e new.crossings) in
    let twice = IsSlid-first old_once new_once d_then (place_behind e c) (place_behind e d) (place_behind e e) p q r arcs once.d_below
    once in
    let old_twice = listed_by old (first_to d_then old_once.crossings) in
    let new_twice = listed_by new (first_to d_then new_once.crossings) in
    let thrice = IsSlid-first old_twice new_twice c_then (place_behind d_then (place_behind e c)) (place_behind d_then (place_behind e d))
    (place_behind d_then (place_behind e e)) p q r arcs twice.c_below twice in
    let first = listed_by old (three_first c d e old.crossings) in
    let second = listed_by new (three_first c d e new.crossings) in
    subst (λ (k : ℕ). IsSlid first second 0 1 k p q r arcs) (e-third c d e slid.c_d slid.c_e slid.d_e)
    (subst (λ (k : ℕ). IsSlid first second 0 k (place_behind c_then (place_behind d_then (place_behind e e))) p q r arcs)
    (d-second c d e slid.c_d slid.c_e slid.d_e)
    (subst
    (λ (k : ℕ).
    IsSlid first second k (place_behind c_then (place_behind d_then (place_behind e d)))
    (place_behind c_then (place_behind d_then (place_behind e e))) p q r arcs)
    (c-first c d e slid.c_d slid.c_e slid.d_e) thrice))

-- the cube has the same dimensions, and the code is accepted

module _ (xs : List (List ℕ)) (c d e : ℕ) (c_below : c < length xs) (d_below : d < length xs) (e_below : e < length xs) where
  abbrev d_at : ℕ
  d_at = place_behind e d

  abbrev c_at : ℕ
  c_at = place_behind (place_behind e d) (place_behind e c)

  size-once : length (first_to e xs) ≡ length xs
  size-once = length-first e xs e_below

  d_at-below : place_behind e d < length (first_to e xs)
  d_at-below = subst (λ (n : ℕ). place_behind e d < n) (sym size-once) (behind-below e d (length xs) e_below d_below)

  size-twice : length (first_to (place_behind e d) (first_to e xs)) ≡ length (first_to e xs)
  size-twice = length-first d_at (first_to e xs) d_at-below

  c_at-below : place_behind (place_behind e d) (place_behind e c) < length (first_to (place_behind e d) (first_to e xs))
  c_at-below =
      subst (λ (n : ℕ). place_behind (place_behind e d) (place_behind e c) < n) (sym size-twice)
      (behind-below d_at (place_behind e c) (length (first_to e xs)) d_at-below
      (subst (λ (n : ℕ). place_behind e c < n) (sym size-once) (behind-below e c (length xs) e_below c_below)))

  abbrev pub once_first : List (List ℕ)
  once_first = first_to e xs

  abbrev pub twice_first : List (List ℕ)
  twice_first = first_to (place_behind e d) (first_to e xs)

  pub orders-three : IsReordered xs (first_to e xs) × IsReordered (first_to e xs) (first_to (place_behind e d) (first_to e xs))
      × IsReordered (first_to (place_behind e d) (first_to e xs)) (three_first c d e xs)
  orders-three = (
    first-reordered e xs [] e_below,
    first-reordered d_at (first_to e xs) [] d_at-below,
    first-reordered c_at (first_to d_at (first_to e xs)) [] c_at-below,
  )

  pub dimension-three : (p loops plus minus : ℕ) → HasInverses p → (i j : ℤ)
      → dimension_at p (cube_of p (record { crossings = three_first c d e xs; loops = loops }) plus minus) i j
      ≡ dimension_at p (cube_of p (record { crossings = xs; loops = loops }) plus minus) i j
  dimension-three p loops plus minus field i j =
      dimension-reordered p loops plus minus field i j (first_to d_at (first_to e xs)) (three_first c d e xs)
      (first-reordered c_at (first_to d_at (first_to e xs)) [] c_at-below)
      ∙ dimension-reordered p loops plus minus field i j (first_to e xs) (first_to d_at (first_to e xs))
      (first-reordered d_at (first_to e xs) [] d_at-below)
      ∙ dimension-reordered p loops plus minus field i j xs (first_to e xs) (first-reordered e xs [] e_below)

  pub accepted-three : (loops : ℕ) → IsTrue (accepted (record { crossings = xs; loops = loops }))
      → IsTrue (accepted (record { crossings = three_first c d e xs; loops = loops }))
  accepted-three loops holds =
      accepted-reordered loops (first_to d_at (first_to e xs)) (three_first c d e xs)
      (first-reordered c_at (first_to d_at (first_to e xs)) [] c_at-below)
      (accepted-reordered loops (first_to e xs) (first_to d_at (first_to e xs)) (first-reordered d_at (first_to e xs) [] d_at-below)
      (accepted-reordered loops xs (first_to e xs) (first-reordered e xs [] e_below) holds))

-- a code under other numbers, with one crossing of both brought to the front
pub IsRenumberedOnto-first : (f : ℕ → ℕ) (old new : Code) (k : ℕ) → k < length old.crossings → IsRenumberedOnto f old new
    → IsRenumberedOnto f (listed_by old (first_to k old.crossings)) (listed_by new (first_to k new.crossings))
IsRenumberedOnto-first f old new k below is =
    let size = is.renumbered.size in
    let new_below : k < length new.crossings = omega (arith, below, size) in
    let old_size = length-first k old.crossings below in
    let new_size = length-first k new.crossings new_below in
    let old_names = names old k below in
    let inner = λ (m : ℕ) (m_below : m < length (first_to k old.crossings)).
    home-below k m (length old.crossings) below (omega (arith, m_below, old_size)) in
    record {
      renumbered = record {
        size = new_size ∙ size ∙ sym old_size;
        loops = is.renumbered.loops;
        below = λ x x_below. omega (arith, old_names, is.renumbered.below x (omega (arith, old_names, x_below)));
        apart = λ x y x_below y_below same.
            is.renumbered.apart x y (omega (arith, old_names, x_below)) (omega (arith, old_names, y_below)) same;
        arcs = λ m slot m_below slot_below.
            at_home new k new_below m slot ∙ is.renumbered.arcs (home k m) slot (inner m m_below) slot_below
            ∙ ap f (sym (at_home old k below m slot));
      };
      holds = λ m slot m_below slot_below.
          let at = at_home old k below m slot in
          omega (arith, at, old_names, is.holds (home k m) slot (inner m m_below) slot_below);
      zero_kept = is.zero_kept;
    }

pub IsRenumberedOnto-three : (f : ℕ → ℕ) (old new : Code) (c d e : ℕ) → c < length old.crossings → d < length old.crossings
    → e < length old.crossings → IsRenumberedOnto f old new
    → IsRenumberedOnto f (listed_by old (three_first c d e old.crossings)) (listed_by new (three_first c d e new.crossings))
IsRenumberedOnto-three f old new c d e c_below d_below e_below is =
    let xs = old.crossings in
    let once = IsRenumberedOnto-first f old new e e_below is in
    let twice = IsRenumberedOnto-first f (listed_by old (first_to e xs)) (listed_by new (first_to e new.crossings)) (place_behind e d)
    (d_at-below xs c d e c_below d_below e_below) once in
    IsRenumberedOnto-first f (listed_by old (first_to (place_behind e d) (first_to e xs)))
    (listed_by new (first_to (place_behind e d) (first_to e new.crossings))) (place_behind (place_behind e d) (place_behind e c))
    (c_at-below xs c d e c_below d_below e_below) twice

pub length-three : (xs : List (List ℕ)) (c d e : ℕ) → c < length xs → d < length xs → e < length xs
    → length (three_first c d e xs) ≡ length xs
length-three xs c d e c_below d_below e_below =
    length-first (c_at xs c d e c_below d_below e_below) (first_to (d_at xs c d e c_below d_below e_below) (first_to e xs))
    (c_at-below xs c d e c_below d_below e_below)
    ∙ size-twice xs c d e c_below d_below e_below ∙ size-once xs c d e c_below d_below e_below
