-- The components of a disjoint union are those of both codes.
--
-- Components are classes under passes, and the passes of the second code join arcs behind those of the first. So the list of components is
-- that of the first and then that of the second, raised; sizes, least arcs and next arcs of a part (`IsPart`) are its own.
use Rattle.std.proofs.Common.{List, [], ap, ap₂, arith, cond, inl, inr, length, map, refl, suc, sym, zero, ℕ, ◌*◌, ◌++◌, ◌+◌, ◌-◌, ◌<◌, ◌∙◌, ◌∷◌, ◌≡◌, ◌≢◌, ◌≤◌, ◌⊎◌}
use Rattle.std.proofs.lemmas.Bool.{ne_eqb}
use Rattle.std.proofs.lemmas.Bool.Decides.{nat_tests}
use Rattle.std.proofs.lemmas.List.{append_assoc, get_or-append-add, get_or-map, get_or_append_left, length-append, length-map, map-id}
use Rattle.std.proofs.lemmas.List.Sums.{sum_by-cons}
use Rattle.std.specs.List.{count_by, flat_map}
use Rattle.std.specs.Prelude.{nat_eq, slice_index, slice_index_or}
use Rattle.kh_types.proofs.ListSums.{sum_by-alike, sum_by-map}
use Rattle.kh_types.specs.Classes.{AreBelow, classes_of}
use Rattle.kh_types.specs.Code.{Code, IsArc, IsCrossing, arc_count, arc_in, place_of, slots_of}
use Rattle.kh_types.specs.Components.{arcs_in, component_of, components_of, passes_of}
use Rattle.kh_types.specs.Bits.{one_if}
use Rattle.kh_types.specs.Darts.{HasArcsTwice}
use Rattle.link_algebra.proofs.ClassParts.{classes-parts, index-back, index-lifted, length-classes, lifted, lifted_pairs}
use Rattle.link_algebra.proofs.UnitedCircles.{AreMoved, AreMoved-own, AreMoved-raised, HoldsNames, HoldsNames-first, HoldsNames-rest, HoldsNames-twice, SlotsHold, length-both, lowered, lowered-below, moved-append, pairs-moved, slot-raised}
use Rattle.link_algebra.specs.Unions.{raised_slots, union_of}
use Rattle.kh_types.proofs.Lists.{slice_index-left}
use Rattle.orient_arcs.proofs.OneOrder.{count-append}

all-moved : (g : List ℕ → List ℕ) (start below : ℕ) (crossings : List (List ℕ))
    → ((slots : List ℕ) → SlotsHold below slots → AreMoved start (g slots) slots) → HoldsNames below crossings
    → flat_map passes_of (map g crossings) ≡ lifted_pairs start (lowered (flat_map passes_of crossings))
all-moved g start below [] moved hold = refl
all-moved g start below (slots ∷ crossings) moved hold =
    ap₂ (λ ps qs. ps ++ qs)
    (pairs-moved start (g slots) slots 0 2 1 3 (moved slots (HoldsNames-first below slots crossings hold)) (omega arith) (omega arith)
    (omega arith) (omega arith))
    (all-moved g start below crossings moved (HoldsNames-rest below slots crossings hold))
    ∙ moved-append start (passes_of slots) (flat_map passes_of crossings)

all-own : (below : ℕ) (crossings : List (List ℕ)) → HoldsNames below crossings
    → flat_map passes_of crossings ≡ lifted_pairs 1 (lowered (flat_map passes_of crossings))
all-own below crossings hold =
    ap (flat_map passes_of) (sym (map-id crossings)) ∙ all-moved (λ slots. slots) 1 below crossings (AreMoved-own below) hold

passes-append : (crossings more : List (List ℕ)) → flat_map passes_of (crossings ++ more) ≡ flat_map passes_of crossings ++ flat_map passes_of more
passes-append [] more = refl
passes-append (slots ∷ crossings) more = grind (arith, nat_tests, append_assoc, passes-append crossings more)

pub passes-small : (below : ℕ) (crossings : List (List ℕ)) → HoldsNames below crossings → AreBelow below (flat_map passes_of crossings)
passes-small below [] hold = tt
passes-small below (slots ∷ crossings) hold =
    grind (arith, nat_tests, HoldsNames-first, HoldsNames-rest, passes-small below crossings (HoldsNames-rest below slots crossings hold))

-- the components of a code's arcs, each less 1 and without the number 0
abbrev pub inner_components : List (List ℕ) → List ℕ
inner_components crossings = classes_of (arc_count crossings) (lowered (flat_map passes_of crossings))

lowered_passes-below : (crossings : List (List ℕ)) → HoldsNames (arc_count crossings + 1) crossings
    → AreBelow (arc_count crossings) (lowered (flat_map passes_of crossings))
lowered_passes-below crossings hold = grind (arith, nat_tests, lowered-below, all-own, passes-small)

pub components-own : (crossings : List (List ℕ)) → HoldsNames (arc_count crossings + 1) crossings
    → components_of crossings ≡ (0 ∷ []) ++ lifted 1 (inner_components crossings)
components-own crossings hold =
    let e : arc_count crossings + 1 ≡ 1 + arc_count crossings = omega arith in
    ap₂ classes_of e (all-own (arc_count crossings + 1) crossings hold)
    ∙ classes-parts 1 (arc_count crossings) [] (lowered (flat_map passes_of crossings)) tt (lowered_passes-below crossings hold)

pub components-both : (first second : Code) → HasArcsTwice first.crossings → HasArcsTwice second.crossings
    → components_of (union_of first second).crossings
    ≡ components_of first.crossings ++ lifted (arc_count first.crossings + 1) (inner_components second.crossings)
components-both first second first_twice second_twice =
    let m = arc_count first.crossings + 1 in
    let both = (union_of first second).crossings in
    let more = map (raised_slots (arc_count first.crossings)) second.crossings in
    let hold = HoldsNames-twice second.crossings second_twice in
    let size : arc_count both + 1 ≡ m + arc_count second.crossings = omega (arith, length-both first second) in
    ap₂ classes_of size
    (passes-append first.crossings more
    ∙ ap (λ ps. flat_map passes_of first.crossings ++ ps)
    (all-moved (raised_slots (arc_count first.crossings)) m (arc_count second.crossings + 1) second.crossings
    (AreMoved-raised (arc_count first.crossings) (arc_count second.crossings + 1)) hold))
    ∙ classes-parts m (arc_count second.crossings) (flat_map passes_of first.crossings) (lowered (flat_map passes_of second.crossings))
    (passes-small m first.crossings (HoldsNames-twice first.crossings first_twice)) (lowered_passes-below second.crossings hold)

-- the sizes of these lists, and their entries
pub length-components : (crossings : List (List ℕ)) → HoldsNames (arc_count crossings + 1) crossings
    → (length (components_of crossings) ≡ arc_count crossings + 1)
    × ((k : ℕ) → k < length (components_of crossings) → slice_index (components_of crossings) k < arc_count crossings + 1)
length-components crossings hold = grind (arith, nat_tests, length-classes, passes-small)

pub length-inner : (crossings : List (List ℕ)) → HoldsNames (arc_count crossings + 1) crossings
    → (length (inner_components crossings) ≡ arc_count crossings)
    × ((k : ℕ) → k < length (inner_components crossings) → slice_index (inner_components crossings) k < arc_count crossings)
length-inner crossings hold = length-classes (arc_count crossings) (lowered (flat_map passes_of crossings)) (lowered_passes-below crossings hold)

-- the component of an arc
pub component-inner : (crossings : List (List ℕ)) (x : ℕ) → HoldsNames (arc_count crossings + 1) crossings → IsArc crossings x
    → component_of (components_of crossings) x ≡ 1 + slice_index (inner_components crossings) (x - 1)
component-inner crossings x hold is = grind (arith, nat_tests, components-own, index-back, lifted, index-lifted, length-inner)

-- a part of a code: some crossings that stand one after another, with all arc numbers raised by as many arcs as stand before
pub record IsPart (before : ℕ) (part whole : List (List ℕ)) : Type 0 where
  pub fits : before + length part ≤ length whole
  pub arcs : (crossing slot : ℕ) → IsCrossing part crossing → slot < 4
      → arc_in (slots_of whole (before + crossing)) slot ≡ arc_in (slots_of part crossing) slot + 2 * before
  pub holds : HoldsNames (arc_count part + 1) part
  pub component : (arc : ℕ) → IsArc part arc
      → component_of (components_of whole) (arc + 2 * before) ≡ component_of (components_of part) arc + 2 * before
  pub border : (component_of (components_of whole) (arc_count part + 2 * before + 1) ≡ 0)
      ⊎ (arc_count part + 2 * before < component_of (components_of whole) (arc_count part + 2 * before + 1))
  pub sizes : (name : ℕ) → IsArc part name
      → arcs_in (components_of whole) (name + 2 * before) ≡ arcs_in (components_of part) name

pub component-is : (crossings : List (List ℕ)) (x : ℕ) → HoldsNames (arc_count crossings + 1) crossings → IsArc crossings x
    → IsArc crossings (component_of (components_of crossings) x)
component-is crossings x hold is =
    let e = component-inner crossings x hold is in
    let sizes = length-inner crossings hold in
    record {
      positive = omega (arith, e);
      within = omega (
        arith,
        e,
        sizes.1 (x - 1) (omega (arith, is.positive, is.within, sizes.0)),
      );
    }

-- past the end
pub index-past : (xs : List ℕ) (k : ℕ) → length xs ≤ k → slice_index xs k ≡ 0
index-past [] zero past = refl
index-past [] (suc k) past = refl
index-past (x ∷ xs) zero past = absurd (omega (arith, past))
index-past (x ∷ xs) (suc k) past = index-past xs k (omega (arith, past))

pub component-past : (crossings : List (List ℕ)) → HoldsNames (arc_count crossings + 1) crossings
    → component_of (components_of crossings) (arc_count crossings + 1) ≡ 0
component-past crossings hold = grind (arith, nat_tests, index-past, length-components)

-- how often a number stands in lists
count-none : (name : ℕ) (xs : List ℕ) → ((k : ℕ) → k < length xs → slice_index xs k ≢ name) → count_by (nat_eq name) xs ≡ 0
count-none name [] none = refl
count-none name (x ∷ xs) none =
    sum_by-cons (λ y. cond (nat_eq name y) 1 0) x xs
    ∙ ap₂ (λ b s. one_if b + s) (ne_eqb name x (λ same. none 0 (omega arith) (sym same)))
    (count-none name xs (λ k below. none (suc k) (omega (arith, below))))

count-lifted : (m name : ℕ) (xs : List ℕ) → count_by (nat_eq (m + name)) (lifted m xs) ≡ count_by (nat_eq name) xs
count-lifted m name xs =
    sum_by-map (λ y. cond (nat_eq (m + name) y) 1 0) (λ x. m + x) xs
    ∙ sum_by-alike (λ x. cond (nat_eq (m + name) (m + x)) 1 0) (λ x. cond (nat_eq name x) 1 0) (λ x. same_test m name x) xs
  where
    same_test : (m a b : ℕ) → one_if (nat_eq (m + a) (m + b)) ≡ one_if (nat_eq a b)
    same_test m a b = grind (arith, nat_tests)

slots-first : (first second : Code) (crossing : ℕ) → IsCrossing first.crossings crossing
    → slots_of (union_of first second).crossings crossing ≡ slots_of first.crossings crossing
slots-first first second crossing is = grind (arith, nat_tests, get_or_append_left)

slots-second : (first second : Code) (crossing : ℕ) → IsCrossing second.crossings crossing
    → slots_of (union_of first second).crossings (length first.crossings + crossing)
    ≡ raised_slots (arc_count first.crossings) (slots_of second.crossings crossing)
slots-second first second crossing is =
    let more = map (raised_slots (arc_count first.crossings)) second.crossings in
    let e : length first.crossings + crossing - 1 ≡ length first.crossings + place_of crossing = omega (arith, is.positive) in
    ap (λ k. slice_index_or (first.crossings ++ more) k []) e
    ∙ get_or-append-add first.crossings more (place_of crossing) []
    ∙ get_or-map (raised_slots (arc_count first.crossings)) second.crossings (place_of crossing) [] []
    (omega (arith, is.positive, is.within))

pub IsPart-first : (first second : Code) → HasArcsTwice first.crossings → HasArcsTwice second.crossings
    → IsPart 0 first.crossings (union_of first second).crossings
IsPart-first first second first_twice second_twice =
    let hold = HoldsNames-twice first.crossings first_twice in
    let second_hold = HoldsNames-twice second.crossings second_twice in
    let m = arc_count first.crossings + 1 in
    let front = components_of first.crossings in
    let back = inner_components second.crossings in
    let all = components-both first second first_twice second_twice in
    let sizes = length-components first.crossings hold in
    record {
      fits = omega (arith, length-both first second);
      arcs = λ crossing slot is below.
          let e : 0 + crossing ≡ crossing = omega arith in
          ap (λ c. arc_in (slots_of (union_of first second).crossings c) slot) e
          ∙ ap (λ slots. arc_in slots slot) (slots-first first second crossing is)
          ∙ omega arith;
      holds = hold;
      component = λ arc is.
          let e : arc + 2 * 0 ≡ arc = omega arith in
          ap₂ (λ xs k. slice_index xs k) all e ∙ slice_index-left front (lifted m back) arc (omega (arith, is.within, sizes.0)) ∙ omega arith;
      border =
          let e : arc_count first.crossings + 2 * 0 + 1 ≡ length front + 0 = omega (arith, sizes.0) in
          let at = ap₂ (λ xs k. slice_index xs k) all e ∙ index-back front (lifted m back) 0 in
          start back m at refl;
      sizes = λ name is.
          let e : name + 2 * 0 ≡ name = omega arith in
          ap₂ (λ xs k. count_by (nat_eq k) xs) all e ∙ count-append name front (lifted m back)
          ∙ ap (λ c. count_by (nat_eq name) front + c)
          (count-none name (lifted m back)
          (λ k inside is_name.
          absurd (omega (
            arith,
            is_name,
            index-lifted m back k (omega (arith, inside, length-map back (λ x. m + x))),
            is.within,
          ))))
          ∙ omega arith;
    }
  where
    start : (back : List ℕ) (m : ℕ)
        → component_of (components_of (union_of first second).crossings) (arc_count first.crossings + 2 * 0 + 1)
        ≡ slice_index (lifted m back) 0
        → m ≡ arc_count first.crossings + 1
        → (component_of (components_of (union_of first second).crossings) (arc_count first.crossings + 2 * 0 + 1) ≡ 0)
        ⊎ (arc_count first.crossings + 2 * 0
        < component_of (components_of (union_of first second).crossings) (arc_count first.crossings + 2 * 0 + 1))
    start [] m at is = inl at
    start (x ∷ back) m at is = inr (omega (arith, at, is))

pub IsPart-second : (first second : Code) → HasArcsTwice first.crossings → HasArcsTwice second.crossings
    → IsPart (length first.crossings) second.crossings (union_of first second).crossings
IsPart-second first second first_twice second_twice =
    let n = length first.crossings in
    let hold = HoldsNames-twice first.crossings first_twice in
    let second_hold = HoldsNames-twice second.crossings second_twice in
    let m = arc_count first.crossings + 1 in
    let front = components_of first.crossings in
    let back = inner_components second.crossings in
    let all = components-both first second first_twice second_twice in
    let sizes = length-components first.crossings hold in
    let back_sizes = length-inner second.crossings second_hold in
    record {
      fits = omega (arith, length-both first second);
      arcs = λ crossing slot is below.
          ap (λ slots. arc_in slots slot) (slots-second first second crossing is)
          ∙ slot-raised (arc_count first.crossings) (slots_of second.crossings crossing) slot below;
      holds = second_hold;
      component = λ arc is.
          let e : arc + 2 * n ≡ length front + (arc - 1) = omega (arith, sizes.0, is.positive) in
          let inner = component-inner second.crossings arc second_hold is in
          let at = ap₂ (λ xs k. slice_index xs k) all e ∙ index-back front (lifted m back) (arc - 1)
          ∙ index-lifted m back (arc - 1) (omega (arith, is.positive, is.within, back_sizes.0)) in
          omega (arith, at, inner);
      border = inl (
          ap (λ xs. slice_index xs (arc_count second.crossings + 2 * n + 1)) all
          ∙ index-past (front ++ lifted m back) (arc_count second.crossings + 2 * n + 1)
          (omega (arith, length-append front (lifted m back), length-map back (λ x. m + x), sizes.0, back_sizes.0)));
      sizes = λ name is.
          let e : name + 2 * n ≡ m + (name - 1) = omega (arith, is.positive) in
          let own_name : name ≡ 1 + (name - 1) = omega (arith, is.positive) in
          let there : arcs_in (components_of (union_of first second).crossings) (name + 2 * n) ≡ count_by (nat_eq (name - 1)) back =
          ap₂ (λ xs k. count_by (nat_eq k) xs) all e ∙ count-append (m + (name - 1)) front (lifted m back)
          ∙ ap₂ (λ x y. x + y)
          (count-none (m + (name - 1)) front (λ k inside is_name. absurd (omega (arith, is_name, sizes.1 k inside))))
          (count-lifted m (name - 1) back)
          ∙ nothing (count_by (nat_eq (name - 1)) back) in
          let here : arcs_in (components_of second.crossings) name ≡ count_by (nat_eq (name - 1)) back =
          ap₂ (λ xs k. count_by (nat_eq k) xs) (components-own second.crossings second_hold) own_name
          ∙ count-append (1 + (name - 1)) (0 ∷ []) (lifted 1 back)
          ∙ ap₂ (λ x y. x + y)
          (count-none (1 + (name - 1)) (0 ∷ []) (λ k inside is_name. no_zero (name - 1) k inside is_name))
          (count-lifted 1 (name - 1) back)
          ∙ nothing (count_by (nat_eq (name - 1)) back) in
          there ∙ sym here;
    }
  where
    nothing : (x : ℕ) → 0 + x ≡ x
    nothing x = omega arith

    no_zero : (y k : ℕ) → k < length {A = ℕ} (0 ∷ []) → slice_index (0 ∷ []) k ≡ 1 + y → ⊥
    no_zero y zero inside is = omega (arith, is)
    no_zero y (suc k) inside is = omega (arith, inside)
