-- The crossings that stay where some are dropped. Where one is dropped, they are those before it and, moved by one place, those
-- after it. Where a function lists the places that stay, it tells how many there are, and the slots, the names and the sign of
-- each by those in the code before. Then come the straight pairs, the two arcs of each pass of a dropped crossing: what holds of
-- all passes of dropped crossings holds of the straight pairs, and back, by induction over the places. So straight pairs are
-- pairs of arcs, and the two arcs of a dropped pass have one name. Names are the finest classes: what has one value at both arcs
-- of each dropped pass has one value at any two arcs of one name.
use Rattle.std.proofs.Common.{◌≡◌, ℕ, zero, suc, inl, inr, ◌+◌, ◌-◌, ◌*◌, ◌/◌, ◌%◌, ◌<◌, ◌≤◌, ◌∙◌, List, [], ◌∷◌, ◌++◌, sym, ap, subst, arith, refl, Bool, true, false, cond, not, length, map, eq-eqb}
use Rattle.std.specs.Prelude.{slice_index, nat_eq}
use Rattle.std.specs.List.{filter, flat_map, range_with_len, AllByRecursion}
use Rattle.std.proofs.lemmas.Bool.{cases_eq, cases_Bool}
use Rattle.std.proofs.lemmas.Bool.Decides.{nat_tests}
use Rattle.std.proofs.lemmas.List.{get_or-map, length-map, map-id, map-append}
use Rattle.std.proofs.lemmas.List.Elements.{filter-append}
use Rattle.std.proofs.lemmas.List.FromFn.{get_or-map-range_with_len, length-map-range_with_len}
use Rattle.kh_types.specs.Directions.{positive_at}
use Rattle.kh_types.specs.Classes.{AreBelow}
use Rattle.kh_types.specs.Code.{arc_in, arc_count}
use Rattle.kh_types.specs.Components.{passes_of}
use Rattle.kh_types.specs.Darts.{HasArcsTwice}
use Rattle.kh_types.proofs.ClassLemmas.{classes-together, classes-finest}
use Rattle.kh_types.proofs.Lists.{AllByRecursion-append, filter-range_all}
use Rattle.kh_types.proofs.Ranges.{range-append}
use Rattle.kh_types.proofs.RangeImages.{map_range-agree}
use Rattle.code_passes.specs.Parts.{slots_in, is_positive_at}
use Rattle.gluing_laws.specs.Arcs.{arc_by_place}
use Rattle.gluing_laws.specs.Codes.{arc_of_dart}
use Rattle.kink_and_finger_laws.specs.Drops.{straight_pairs, straight_names, renamed_slots, kept_places, kept_crossings, kept_signs}
use Rattle.kink_and_finger_laws.specs.Pulls.{early}
use Rattle.kink_and_finger_laws.proofs.DroppedDarts.{dartwise, class_name}
use Rattle.kink_and_finger_laws.proofs.Smoothed.{block_place, block_slot}

-- all places but one

map_range-next : (f : ℕ → ℕ) (a n : ℕ) → ((x : ℕ) → a ≤ x → x < a + n → f x ≡ x + 1) → map f (range_with_len a n) ≡ range_with_len (a + 1) n
map_range-next f a zero next = refl
map_range-next f a (suc n) next =
    grind (arith, nat_tests, map_range-next f (a + 1) n (λ x from below. next x (omega (arith, from)) (omega (arith, below))))

filter-but : (c r : ℕ) → filter (λ x. not (nat_eq c x)) (range_with_len 0 (c + suc r)) ≡ map (early c (c + r)) (range_with_len 0 (c + r))
filter-but c r =
    let test : ℕ → Bool = λ x. not (nat_eq c x) in
    let e : 0 + c ≡ c = omega arith in
    let front : filter (λ x. not (nat_eq c x)) (range_with_len 0 c) ≡ map (early c (c + r)) (range_with_len 0 c) =
    filter-range_all (λ x. not (nat_eq c x)) 0 c (λ x from below. other c x (omega (arith, below)))
    ∙ sym (map-id (range_with_len 0 c))
    ∙ map_range-agree (λ x. x) (early c (c + r)) 0 c (λ x below. sym (early_low c r x (omega (arith, below)))) in
    let back : filter (λ x. not (nat_eq c x)) (range_with_len c (suc r)) ≡ map (early c (c + r)) (range_with_len c r) =
    ap (λ b. cond b (c ∷ filter (λ x. not (nat_eq c x)) (range_with_len (c + 1) r)) (filter (λ x. not (nat_eq c x)) (range_with_len (c + 1) r)))
    (own c)
    ∙ filter-range_all (λ x. not (nat_eq c x)) (c + 1) r (λ x from below. other_high c x (omega (arith, from)))
    ∙ sym (map_range-next (early c (c + r)) c r (λ x from below. early_high c r x from below)) in
    ap (filter (λ x. not (nat_eq c x))) (range-append 0 c (suc r) ∙ ap (λ m. range_with_len 0 c ++ range_with_len m (suc r)) e)
    ∙ filter-append (λ x. not (nat_eq c x)) (range_with_len 0 c) (range_with_len c (suc r))
    ∙ ap (λ xs. xs ++ filter (λ x. not (nat_eq c x)) (range_with_len c (suc r))) front
    ∙ ap (λ xs. map (early c (c + r)) (range_with_len 0 c) ++ xs) back
    ∙ sym (map-append (early c (c + r)) (range_with_len 0 c) (range_with_len c r))
    ∙ sym (ap (map (early c (c + r))) (range-append 0 c r ∙ ap (λ m. range_with_len 0 c ++ range_with_len m r) e))
  where
    other : (c x : ℕ) → x < c → not (nat_eq c x) ≡ true
    other c x below = grind (arith, nat_tests)

    other_high : (c x : ℕ) → c < x → not (nat_eq c x) ≡ true
    other_high c x from = grind (arith, nat_tests)

    own : (c : ℕ) → not (nat_eq c c) ≡ false
    own c = ap not (eq-eqb c c refl)

    early_low : (c r x : ℕ) → x < c → early c (c + r) x ≡ x
    early_low c r x below = grind (arith, nat_tests)

    early_high : (c r x : ℕ) → c ≤ x → x < c + r → early c (c + r) x ≡ x + 1
    early_high c r x from below = grind (arith, nat_tests)

pub places-but : (c k : ℕ) → c ≤ k → filter (λ x. not (nat_eq c x)) (range_with_len 0 (k + 1)) ≡ map (early c k) (range_with_len 0 k)
places-but c k within = grind (arith, nat_tests, filter-but c (k - c))

-- the crossings and the names of those that stay

pub renamed_slots-at : (names slots : List ℕ) (slot : ℕ) → slot < 4 → arc_in (renamed_slots names slots) slot ≡ slice_index names (arc_in slots slot)
renamed_slots-at names slots slot below = grind (arith, nat_tests)

pub arc_of_dart-dartwise : (crossings : List (List ℕ)) (f : ℕ → ℕ) (x : ℕ)
    → arc_of_dart crossings (dartwise f x) ≡ arc_by_place crossings (f (x / 4)) (x % 4)
arc_of_dart-dartwise crossings f x = grind (arith, nat_tests, dartwise f x, block_place (f (x / 4)) x, block_slot (f (x / 4)) x)

pub length-kept : (crossings : List (List ℕ)) (gone : ℕ → Bool) (kept : ℕ → ℕ) (k : ℕ)
    → kept_places crossings gone ≡ map kept (range_with_len 0 k) → length (kept_crossings crossings gone) ≡ k
length-kept crossings gone kept k are = grind (arith, nat_tests, length-map, length-map-range_with_len)

pub kept-slots : (crossings : List (List ℕ)) (gone : ℕ → Bool) (kept : ℕ → ℕ) (k i : ℕ)
    → kept_places crossings gone ≡ map kept (range_with_len 0 k) → i < k
    → slots_in (kept_crossings crossings gone) i ≡ renamed_slots (straight_names crossings gone) (slots_in crossings (kept i))
kept-slots crossings gone kept k i are below =
    let g : ℕ → List ℕ = λ place. renamed_slots (straight_names crossings gone) (slots_in crossings place) in
    ap (λ ps. slots_in (map g ps) i) are
    ∙ get_or-map g (map kept (range_with_len 0 k)) i 0 [] (omega (arith, below, length-map-range_with_len kept 0 k))
    ∙ ap g (get_or-map-range_with_len kept 0 k i i 0 below (omega arith))

pub kept-name : (crossings : List (List ℕ)) (gone : ℕ → Bool) (kept : ℕ → ℕ) (k x : ℕ)
    → kept_places crossings gone ≡ map kept (range_with_len 0 k) → x < 4 * k
    → arc_of_dart (kept_crossings crossings gone) x ≡ class_name crossings gone (dartwise kept x)
kept-name crossings gone kept k x are below = grind (arith, nat_tests, kept-slots, renamed_slots-at, arc_of_dart-dartwise)

pub kept-sign : (crossings : List (List ℕ)) (gone : ℕ → Bool) (kept : ℕ → ℕ) (k i : ℕ)
    → kept_places crossings gone ≡ map kept (range_with_len 0 k) → i < k
    → is_positive_at (kept_signs crossings gone) i ≡ positive_at crossings (kept i)
kept-sign crossings gone kept k i are below =
    ap (λ ps. is_positive_at (map (positive_at crossings) ps) i) are
    ∙ get_or-map (positive_at crossings) (map kept (range_with_len 0 k)) i 0 false
    (omega (arith, below, length-map-range_with_len kept 0 k))
    ∙ ap (positive_at crossings) (get_or-map-range_with_len kept 0 k i i 0 below (omega arith))

-- what holds of the passes of each crossing that is gone holds of all straight pairs, and back

pub all-gone : (P : ℕ × ℕ → Type 0) (f : ℕ → List (ℕ × ℕ)) (gone : ℕ → Bool) (a n : ℕ)
    → ((place : ℕ) → a ≤ place → place < a + n → gone place ≡ true → AllByRecursion P (f place))
    → AllByRecursion P (flat_map f (filter gone (range_with_len a n)))
all-gone P f gone a zero each = tt
all-gone P f gone a (suc n) each =
    let rest = filter gone (range_with_len (a + 1) n) in
    let later = all-gone P f gone (a + 1) n (λ place from below. each place (omega (arith, from)) (omega (arith, below))) in
    elim (cases_Bool (gone a)) [
      | inl is ↦
          subst (λ (b : Bool). AllByRecursion P (flat_map f (cond b (a ∷ rest) rest))) (sym is)
          (AllByRecursion-append P (f a) (flat_map f rest) (each a (omega arith) (omega arith) is) later)
      | inr is ↦ subst (λ (b : Bool). AllByRecursion P (flat_map f (cond b (a ∷ rest) rest))) (sym is) later
    ]

all_front : (P : ℕ × ℕ → Type 0) (xs ys : List (ℕ × ℕ)) → AllByRecursion P (xs ++ ys) → AllByRecursion P xs
all_front P [] ys holds = tt
all_front P (x ∷ xs) ys holds = (holds.0, all_front P xs ys holds.1)

all_back : (P : ℕ × ℕ → Type 0) (xs ys : List (ℕ × ℕ)) → AllByRecursion P (xs ++ ys) → AllByRecursion P ys
all_back P [] ys holds = holds
all_back P (x ∷ xs) ys holds = all_back P xs ys holds.1

pub gone-all : (P : ℕ × ℕ → Type 0) (f : ℕ → List (ℕ × ℕ)) (gone : ℕ → Bool) (a n place : ℕ)
    → AllByRecursion P (flat_map f (filter gone (range_with_len a n))) → a ≤ place → place < a + n → gone place ≡ true
    → AllByRecursion P (f place)
gone-all P f gone a zero place holds from below is = absurd (omega (arith, from, below))
gone-all P f gone a (suc n) place holds from below is =
    let rest = filter gone (range_with_len (a + 1) n) in
    elim (cases_eq a place) [
      | inl same ↦
          let whole = subst (λ (b : Bool). AllByRecursion P (flat_map f (cond b (a ∷ rest) rest))) (ap gone same ∙ is) holds in
          subst (λ (q : ℕ). AllByRecursion P (f q)) same (all_front P (f a) (flat_map f rest) whole)
      | inr apart ↦
          let later : AllByRecursion P (flat_map f (filter gone (range_with_len (a + 1) n))) =
          elim (cases_Bool (gone a)) [
            | inl taken ↦
                all_back P (f a) (flat_map f rest)
                (subst (λ (b : Bool). AllByRecursion P (flat_map f (cond b (a ∷ rest) rest))) taken holds)
            | inr left ↦ subst (λ (b : Bool). AllByRecursion P (flat_map f (cond b (a ∷ rest) rest))) left holds
          ] in
          gone-all P f gone (a + 1) n place later (omega (arith, from, apart)) (omega (arith, below)) is
    ]

-- the straight pairs are of arcs, and join what they should

pub arc_by_place-below : (crossings : List (List ℕ)) (place slot : ℕ) → HasArcsTwice crossings → place < length crossings → slot < 4
    → arc_by_place crossings place slot < arc_count crossings + 1
arc_by_place-below crossings place slot twice below slot_below =
    let is = twice.slots (record { crossing = place + 1; slot = slot })
    (record { crossing = record { positive = omega arith; within = omega (arith, below) }; slot = slot_below }) in
    let e : place + 1 - 1 ≡ place = omega arith in
    let same : arc_by_place crossings (place + 1 - 1) slot ≡ arc_by_place crossings place slot = ap (λ q. arc_by_place crossings q slot) e in
    omega (arith, same, is.within)

pub straight-below : (crossings : List (List ℕ)) (gone : ℕ → Bool) → HasArcsTwice crossings
    → AreBelow (arc_count crossings + 1) (straight_pairs crossings gone)
straight-below crossings gone twice =
    all-gone (λ pair. (pair.0 < arc_count crossings + 1) × (pair.1 < arc_count crossings + 1))
    (λ place. passes_of (slots_in crossings place)) gone 0 (length crossings)
    (λ place from below is.
    let at = λ (slot : ℕ) (slot_below : slot < 4). arc_by_place-below crossings place slot twice (omega (arith, below)) slot_below in
    ((at 0 (omega arith), at 2 (omega arith)), ((at 1 (omega arith), at 3 (omega arith)), tt)))

pub straight-joined : (crossings : List (List ℕ)) (gone : ℕ → Bool) (place : ℕ) → HasArcsTwice crossings → place < length crossings
    → gone place ≡ true
    → (slice_index (straight_names crossings gone) (arc_by_place crossings place 0)
    ≡ slice_index (straight_names crossings gone) (arc_by_place crossings place 2))
    × (slice_index (straight_names crossings gone) (arc_by_place crossings place 1)
    ≡ slice_index (straight_names crossings gone) (arc_by_place crossings place 3))
straight-joined crossings gone place twice below is =
    let names = straight_names crossings gone in
    let found = gone-all (λ pair. slice_index names pair.0 ≡ slice_index names pair.1)
    (λ place. passes_of (slots_in crossings place)) gone 0 (length crossings) place
    (classes-together (arc_count crossings + 1) (straight_pairs crossings gone) (straight-below crossings gone twice))
    (omega arith) (omega (arith, below)) is in
    (found.0, found.1.0)

-- what has one value at the two arcs of each pass that is gone has one value at arcs of one name
pub straight-finest : (crossings : List (List ℕ)) (gone : ℕ → Bool) (f : ℕ → ℕ) → HasArcsTwice crossings
    → ((place : ℕ) → place < length crossings → gone place ≡ true
    → (f (arc_by_place crossings place 0) ≡ f (arc_by_place crossings place 2)) × (f (arc_by_place crossings place 1) ≡ f (arc_by_place crossings place 3)))
    → (x y : ℕ) → x < arc_count crossings + 1 → y < arc_count crossings + 1
    → slice_index (straight_names crossings gone) x ≡ slice_index (straight_names crossings gone) y → f x ≡ f y
straight-finest crossings gone f twice each x y x_below y_below same =
    classes-finest f (arc_count crossings + 1) (straight_pairs crossings gone)
    (all-gone (λ pair. f pair.0 ≡ f pair.1) (λ place. passes_of (slots_in crossings place)) gone 0 (length crossings)
    (λ place from below is. let two = each place (omega (arith, below)) is in (two.0, (two.1, tt))))
    (straight-below crossings gone twice) x y x_below y_below same
