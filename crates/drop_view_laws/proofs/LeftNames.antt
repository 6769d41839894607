-- The numbers of arcs and loops where crossings are dropped. The names that stand at crossings that stay, the loops, and the names of
-- rings are all names that there are, each once; so each arc and each loop has one number, and each number is that of one name.
use Rattle.std.proofs.lemmas.Bool.Decides.{nat_tests}
use Rattle.std.proofs.Common.{◌≡◌, ℕ, ◌⊎◌, inl, inr, ◌+◌, ◌-◌, ◌*◌, ◌<◌, ◌≤◌, ◌∙◌, List, [], length, map, get_or, refl, sym, ap, subst, arith, Bool, true, false, cond, not, ◌&&◌, eq-eqb, eqb-true}
use Rattle.std.specs.Prelude.{min, nat_eq, nat_lt, slice_index}
use Rattle.std.specs.List.{filter, range_with_len}
use Rattle.std.proofs.lemmas.Bool.{both_ways, cases_Bool}
use Rattle.std.proofs.lemmas.List.{get_or-map, length-append, length-map}
use Rattle.std.proofs.lemmas.List.FromFn.{length-range_with_len}
use Rattle.std.proofs.lemmas.List.Sums.{length-filter}
use Rattle.kh_types.specs.CircleNumbers.{IsName}
use Rattle.kh_types.specs.Code.{Code, arc_in, arc_count, arcs}
use Rattle.kh_types.specs.Darts.{HasArcsTwice}
use Rattle.kh_types.proofs.JoinedClasses.{IsNamed-classes_of}
use Rattle.code_passes.specs.Parts.{Parts, ArePaired, passes_at, passes_through, slots_in}
use Rattle.code_passes.specs.Passes.{Pass}
use Rattle.gluing_laws.specs.Arcs.{arc_by_place}
use Rattle.orient_arcs.specs.Renumbered.{number_in, order_of, renamed_crossing, renumber}
use Rattle.orient_arcs.proofs.Bridge.{distinct-order, heads-order, length-order, order-heads, renamed-slot, slot-head}
use Rattle.orient_arcs.proofs.Members.{IsIn, AreDistinct, AreDistinct-append, IsIn-get, IsIn-left, IsIn-right, IsIn-parts}
use Rattle.orient_arcs.proofs.PairedPasses.{All-flat_map_range, entering-enters, entering-holds, heads_of}
use Rattle.orient_arcs.proofs.OwnNumbers.{in-range, range-in}
use Rattle.kink_and_finger_laws.specs.Drops.{dropped, is_ring, kept_crossings, kept_places, stands_in, straight_names, straight_pairs}
use Rattle.kink_and_finger_laws.proofs.KeptCodes.{arc_by_place-below, kept-slots, length-kept, renamed_slots-at, straight-below, straight-finest}
use Rattle.kink_and_finger_laws.proofs.StandingNames.{arc_by_place-positive, stands-none, stands-some}
use Rattle.drop_view_laws.specs.NamesLeft.{loops_left, names_left, number_left, straight_name}
use Rattle.drop_view_laws.proofs.NameLists.{distinct-filter, distinct-range, filter-in, in-filter, in-map_range, map_range-in, number-front, number-get, number-in}
use Rattle.diagram_moves.proofs.Standing.{stands-at}

-- the slot at which a pass enters
over_slot : Bool → ℕ
over_slot b = cond b 3 1

over_slot-below : (b : Bool) → over_slot b < 4
unfolding over_slot
over_slot-below true = omega arith
over_slot-below false = omega arith

-- each head stands
pub heads-stand : (parts : Parts) (paired : ArePaired parts) (x : ℕ) → IsIn x (heads_of parts paired) → stands_in parts.crossings x ≡ true
unfolding over_slot
heads-stand parts paired x is =
    subst (λ (y : ℕ). stands_in parts.crossings y ≡ true) (entering-enters parts paired x is)
    (entering-holds parts paired (λ (pass : Pass). stands_in parts.crossings pass.enters ≡ true) x
    (All-flat_map_range (λ (pass : Pass). stands_in parts.crossings pass.enters ≡ true) (passes_at parts) 0 (length parts.crossings)
    (λ place from below. (
      stands-at parts.crossings place 0 (omega (arith, below)) (omega arith),
      (stands-at parts.crossings place _ (omega (arith, below)) (over_slot-below _), tt),
    ))) is)

-- a number is that of an arc and names its class
pub record IsOwnName (code : Code) (gone : ℕ → Bool) (x : ℕ) : Type 0 where
  pub positive : 1 ≤ x
  pub below : x < arc_count code.crossings + 1
  pub own : slice_index (straight_names code.crossings gone) x ≡ x

-- a number is one of an arc or a loop, and goes by itself
pub record IsLeftName (code : Code) (gone : ℕ → Bool) (x : ℕ) : Type 0 where
  pub is_name : IsName code x
  pub straight : straight_name code gone x ≡ x

-- the name with a new number
abbrev pub name_of : Code → (ℕ → Bool) → ℕ → ℕ
name_of code gone number = get_or (names_left code gone) (number - 1) 0

module _ (code : Code) (gone : ℕ → Bool) (kept : ℕ → ℕ) (k : ℕ) (twice : HasArcsTwice code.crossings)
    (places : kept_places code.crossings gone ≡ map kept (range_with_len 0 k))
    (kept_below : (i : ℕ) → i < k → kept i < length code.crossings)
    (paired : ArePaired (dropped code gone)) where
  pub size-left : length (kept_crossings code.crossings gone) ≡ k
  size-left = length-kept code.crossings gone kept k places

  pub size-new : length (renumber (dropped code gone)).crossings ≡ k
  size-new = length-map (kept_crossings code.crossings gone)
      (renamed_crossing (number_in (order_of (passes_through (dropped code gone))))) ∙ size-left

  -- classes of arcs are arcs
  pub class-least : (x : ℕ) → x < arc_count code.crossings + 1 → slice_index (straight_names code.crossings gone) x ≤ x
  class-least = (IsNamed-classes_of (arc_count code.crossings + 1) (straight_pairs code.crossings gone)
      (straight-below code.crossings gone twice)).least

  pub class-own : (x : ℕ) → x < arc_count code.crossings + 1
      → slice_index (straight_names code.crossings gone) (slice_index (straight_names code.crossings gone) x)
      ≡ slice_index (straight_names code.crossings gone) x
  class-own = (IsNamed-classes_of (arc_count code.crossings + 1) (straight_pairs code.crossings gone)
      (straight-below code.crossings gone twice)).own

  pub class-positive : (x : ℕ) → 1 ≤ x → x < arc_count code.crossings + 1 → 1 ≤ slice_index (straight_names code.crossings gone) x
  class-positive x positive below =
      let low : slice_index (straight_names code.crossings gone) x < arc_count code.crossings + 1 = omega
      (arith, class-least x below, below) in
      let same = straight-finest code.crossings gone (λ z. min z 1) twice
      (λ place place_below is.
      let at = λ (slot : ℕ) (slot_below : slot < 4). arc_by_place-positive code.crossings place slot twice place_below slot_below in (
        min-one (arc_by_place code.crossings place 0) (arc_by_place code.crossings place 2) (at 0 (omega arith)) (at 2 (omega arith)),
        min-one (arc_by_place code.crossings place 1) (arc_by_place code.crossings place 3) (at 1 (omega arith)) (at 3 (omega arith)),
      )) (slice_index (straight_names code.crossings gone) x) x low below (class-own x below) in
      min-positive (slice_index (straight_names code.crossings gone) x) x same positive
    where
      min-one : (a b : ℕ) → 1 ≤ a → 1 ≤ b → min a 1 ≡ min b 1
      min-one a b first second = grind (arith, nat_tests)

      min-positive : (y z : ℕ) → min y 1 ≡ min z 1 → 1 ≤ z → 1 ≤ y
      min-positive y z same positive = grind (arith, nat_tests)

  -- the name at a slot of a crossing that stays
  pub name-at : (i slot : ℕ) → i < k → slot < 4
      → arc_by_place (kept_crossings code.crossings gone) i slot
      ≡ slice_index (straight_names code.crossings gone) (arc_by_place code.crossings (kept i) slot)
  name-at i slot below slot_below =
      ap (λ slots. arc_in slots slot) (kept-slots code.crossings gone kept k i places below)
      ∙ renamed_slots-at (straight_names code.crossings gone) (slots_in code.crossings (kept i)) slot slot_below

  -- a name that stands is a head, so it is in the order; it is an arc, and names its class
  pub standing-ordered : (x : ℕ) → stands_in (kept_crossings code.crossings gone) x ≡ true
      → IsIn x (order_of (passes_through (dropped code gone)))
  standing-ordered x holds =
      stands-some (λ y. IsIn y (order_of (passes_through (dropped code gone)))) (kept_crossings code.crossings gone) x
      (λ place slot below slot_below.
      heads-order (dropped code gone) paired (arc_by_place (kept_crossings code.crossings gone) place slot)
      (slot-head (dropped code gone) paired place slot below slot_below)) holds

  pub ordered-standing : (x : ℕ) → IsIn x (order_of (passes_through (dropped code gone)))
      → stands_in (kept_crossings code.crossings gone) x ≡ true
  ordered-standing x is = heads-stand (dropped code gone) paired x (order-heads (dropped code gone) paired x is)

  pub standing-own : (x : ℕ) → stands_in (kept_crossings code.crossings gone) x ≡ true → IsOwnName code gone x
  standing-own x holds =
      stands-some (λ y. IsOwnName code gone y) (kept_crossings code.crossings gone) x
      (λ place slot below slot_below.
      let small : place < k = omega (arith, below, size-left) in
      let old = arc_by_place code.crossings (kept place) slot in
      let old_below = arc_by_place-below code.crossings (kept place) slot twice (kept_below place small) slot_below in
      let old_positive = arc_by_place-positive code.crossings (kept place) slot twice (kept_below place small) slot_below in
      subst (λ (y : ℕ). IsOwnName code gone y) (sym (name-at place slot small slot_below))
      (record {
        positive = class-positive (arc_by_place code.crossings (kept place) slot) old_positive old_below;
        below = omega (arith, class-least (arc_by_place code.crossings (kept place) slot) old_below, old_below);
        own = class-own (arc_by_place code.crossings (kept place) slot) old_below;
      })) holds

  -- a name of a class stands or is that of a ring
  pub own-stands : (x : ℕ) → IsOwnName code gone x → IsIn x (names_left code gone)
  own-stands x is = elim (cases_Bool (stands_in (kept_crossings code.crossings gone) x)) [
    | inl holds ↦ IsIn-left x (order_of (passes_through (dropped code gone))) (loops_left code gone) (standing-ordered x holds)
    | inr fails ↦
        IsIn-right x (order_of (passes_through (dropped code gone))) (loops_left code gone)
        (IsIn-right x (range_with_len (arc_count code.crossings + 1) code.loops)
        (filter (is_ring code.crossings gone) (arcs code.crossings))
        (in-filter (is_ring code.crossings gone) (arcs code.crossings) x
        (in-range 1 (arc_count code.crossings) x is.positive (omega (arith, is.below)))
        (ring (nat_eq (slice_index (straight_names code.crossings gone) x) x) (stands_in (kept_crossings code.crossings gone) x)
        (eq-eqb (slice_index (straight_names code.crossings gone) x) x is.own) fails)))
  ]
    where
      ring : (a b : Bool) → a ≡ true → b ≡ false → (a && not b) ≡ true
      ring a b a_is b_is = grind (arith, nat_tests)

  pub loop-stands : (x : ℕ) → arc_count code.crossings + 1 ≤ x → x < arc_count code.crossings + 1 + code.loops
      → IsIn x (names_left code gone)
  loop-stands x from below =
      IsIn-right x (order_of (passes_through (dropped code gone))) (loops_left code gone)
      (IsIn-left x (range_with_len (arc_count code.crossings + 1) code.loops) (filter (is_ring code.crossings gone) (arcs code.crossings))
      (in-range (arc_count code.crossings + 1) code.loops x from below))

  -- and each of the names is one of an arc that names its class, or a loop
  pub names-are : (x : ℕ) → IsIn x (names_left code gone)
      → IsOwnName code gone x ⊎ ((arc_count code.crossings + 1 ≤ x) × (x < arc_count code.crossings + 1 + code.loops))
  names-are x is = elim (IsIn-parts x (order_of (passes_through (dropped code gone))) (loops_left code gone) is) [
    | inl front ↦ inl (standing-own x (ordered-standing x front))
    | inr back ↦
        elim (IsIn-parts x (range_with_len (arc_count code.crossings + 1) code.loops)
        (filter (is_ring code.crossings gone) (arcs code.crossings)) back) [
          | inl loop ↦ inr (range-in (arc_count code.crossings + 1) code.loops x loop)
          | inr ring ↦
              let found = filter-in (is_ring code.crossings gone) (arcs code.crossings) x ring in
              let within = range-in 1 (arc_count code.crossings) x found.0 in
              let least = first (nat_eq (slice_index (straight_names code.crossings gone) x) x)
              (stands_in (kept_crossings code.crossings gone) x) found.1 in
              inl (record {
                positive = within.0;
                below = omega (arith, within.1);
                own = eqb-true (slice_index (straight_names code.crossings gone) x) x least.0;
              })
        ]
  ]
    where
      first : (a b : Bool) → (a && not b) ≡ true → (a ≡ true) × (b ≡ false)
      first a b holds = grind (arith, nat_tests)

  pub rings-fall : (x : ℕ) → IsIn x (filter (is_ring code.crossings gone) (arcs code.crossings))
      → (x < arc_count code.crossings + 1) × (stands_in (kept_crossings code.crossings gone) x ≡ false)
  rings-fall x ring =
      let found = filter-in (is_ring code.crossings gone) (arcs code.crossings) x ring in
      let within = range-in 1 (arc_count code.crossings) x found.0 in (
        omega (arith, within.1),
        second (nat_eq (slice_index (straight_names code.crossings gone) x) x)
            (stands_in (kept_crossings code.crossings gone) x) found.1,
      )
    where
      second : (a b : Bool) → (a && not b) ≡ true → b ≡ false
      second a b holds = grind (arith, nat_tests)

  -- none stands twice
  pub distinct-names : AreDistinct (names_left code gone)
  distinct-names =
      AreDistinct-append (order_of (passes_through (dropped code gone))) (loops_left code gone) (distinct-order (dropped code gone) paired)
      (AreDistinct-append (range_with_len (arc_count code.crossings + 1) code.loops)
      (filter (is_ring code.crossings gone) (arcs code.crossings))
      (distinct-range (arc_count code.crossings + 1) code.loops)
      (distinct-filter (is_ring code.crossings gone) (arcs code.crossings) (distinct-range 1 (arc_count code.crossings)))
      (λ x loop ring.
      let from = (range-in (arc_count code.crossings + 1) code.loops x loop).0 in
      let below = (rings-fall x ring).0 in
      absurd (omega (arith, from, below))))
      (λ x front back.
      let stands = ordered-standing x front in
      elim (IsIn-parts x (range_with_len (arc_count code.crossings + 1) code.loops)
      (filter (is_ring code.crossings gone) (arcs code.crossings)) back) [
        | inl loop ↦
            let from = (range-in (arc_count code.crossings + 1) code.loops x loop).0 in
            let below = (standing-own x stands).below in
            absurd (omega (arith, from, below))
        | inr ring ↦ both_ways (stands_in (kept_crossings code.crossings gone) x) (rings-fall x ring).1 stands
      ])

  pub length-names : length (names_left code gone) ≡ arc_count
      (renumber (dropped code gone)).crossings + (renumber (dropped code gone)).loops
  length-names =
      let order = length-order (dropped code gone) paired in
      let all = length-append (order_of (passes_through (dropped code gone))) (loops_left code gone) in
      let loops = length-append (range_with_len (arc_count code.crossings + 1) code.loops)
      (filter (is_ring code.crossings gone) (arcs code.crossings)) in
      let range = length-range_with_len (arc_count code.crossings + 1) code.loops in
      let rings = length-filter (is_ring code.crossings gone) (arcs code.crossings) in
      let double : 2 * length (renumber (dropped code gone)).crossings ≡ 2 * length (kept_crossings code.crossings gone) =
      ap (λ n. 2 * n) (size-new ∙ sym size-left) in
      omega (arith, order, all, loops, range, rings, double)

  pub straight-arc : (x : ℕ) → x < arc_count code.crossings + 1 → straight_name code gone x
      ≡ slice_index (straight_names code.crossings gone) x
  straight-arc x below =
      ap (λ t. cond t (slice_index (straight_names code.crossings gone) x) x)
      (test x (arc_count code.crossings + 1) below)
    where
      test : (x y : ℕ) → x < y → nat_lt x y ≡ true
      test x y below = grind (arith, nat_tests)

  pub straight-loop : (x : ℕ) → arc_count code.crossings + 1 ≤ x → straight_name code gone x ≡ x
  straight-loop x from = ap (λ t. cond t (slice_index (straight_names code.crossings gone) x) x)
      (test x (arc_count code.crossings + 1) from)
    where
      test : (x y : ℕ) → y ≤ x → nat_lt x y ≡ false
      test x y from = grind (arith, nat_tests)

  -- an arc or a loop has a name in the list
  pub straight-in : (x : ℕ) → IsName code x → IsIn (straight_name code gone x) (names_left code gone)
  straight-in x is = elim (cases_Bool (nat_lt x (arc_count code.crossings + 1))) [
    | inl arc ↦
        let below : x < arc_count code.crossings + 1 = lt_true x (arc_count code.crossings + 1) arc in
        subst (λ (y : ℕ). IsIn y (names_left code gone)) (sym (straight-arc x below))
        (own-stands (slice_index (straight_names code.crossings gone) x) (record {
          positive = class-positive x is.positive below;
          below = omega (arith, class-least x below, below);
          own = class-own x below;
        }))
    | inr loop ↦
        let from : arc_count code.crossings + 1 ≤ x = lt_false x (arc_count code.crossings + 1) loop in
        subst (λ (y : ℕ). IsIn y (names_left code gone)) (sym (straight-loop x from)) (loop-stands x from (omega (arith, is.within)))
  ]
    where
      lt_true : (x y : ℕ) → nat_lt x y ≡ true → x < y
      lt_true x y holds = grind (arith, nat_tests)

      lt_false : (x y : ℕ) → nat_lt x y ≡ false → y ≤ x
      lt_false x y fails = grind (arith, nat_tests)

  -- a name in the list is a name of the code, and its own straight name
  pub names-straight : (x : ℕ) → IsIn x (names_left code gone) → IsLeftName code gone x
  names-straight x is = elim (names-are x is) [
    | inl own ↦ record {
      is_name = record { positive = own.positive; within = omega (arith, own.below) };
      straight = straight-arc x own.below ∙ own.own;
    }
    | inr loop ↦ record {
      is_name = record { positive = omega (arith, loop.0); within = omega (arith, loop.1) };
      straight = straight-loop x loop.0;
    }
  ]

  -- so each arc and loop has a number, and each number a name
  pub number-within : (x : ℕ) → IsName code x → IsName (renumber (dropped code gone)) (number_left code gone x)
  number-within x is =
      let has = number-in (names_left code gone) (straight_name code gone x) distinct-names (straight-in x is) in
      record { positive = omega (arith, has.number); within = omega (arith, has.number, has.at_below, length-names) }

  pub name_of-in : (number : ℕ) → IsName (renumber (dropped code gone)) number → IsIn (name_of code gone number) (names_left code gone)
  name_of-in number is = IsIn-get (names_left code gone) (number - 1) (omega (arith, is.positive, is.within, length-names))

  pub name_of-number : (number : ℕ) → IsName (renumber (dropped code gone)) number
      → number_in (names_left code gone) (name_of code gone number) ≡ number
  name_of-number number is =
      number-get (names_left code gone) (number - 1) distinct-names (omega (arith, is.positive, is.within, length-names))
      ∙ omega (arith, is.positive)

  pub number-name_of : (x : ℕ) → IsName code x → name_of code gone (number_left code gone x) ≡ straight_name code gone x
  number-name_of x is =
      let has = number-in (names_left code gone) (straight_name code gone x) distinct-names (straight-in x is) in
      let place : number_left code gone x - 1 ≡ has.at = omega (arith, has.number) in
      ap (λ i. get_or (names_left code gone) i 0) place ∙ has.there

  -- the arcs of the crossings that stay have their numbers
  pub slot-number : (i slot : ℕ) → i < k → slot < 4
      → arc_by_place (renumber (dropped code gone)).crossings i slot ≡ number_left code gone (arc_by_place code.crossings (kept i) slot)
  slot-number i slot below slot_below =
      let order = order_of (passes_through (dropped code gone)) in
      let old = arc_by_place code.crossings (kept i) slot in
      let old_below = arc_by_place-below code.crossings (kept i) slot twice (kept_below i below) slot_below in
      let name = name-at i slot below slot_below in
      let i_below : i < length (kept_crossings code.crossings gone) = omega (arith, below, size-left) in
      let ordered = standing-ordered (arc_by_place (kept_crossings code.crossings gone) i slot)
      (stands-at (kept_crossings code.crossings gone) i slot i_below slot_below) in
      ap (λ slots. arc_in slots slot) (get_or-map (renamed_crossing (number_in (order_of (passes_through (dropped code gone)))))
      (kept_crossings code.crossings gone) i [] [] i_below)
      ∙ renamed-slot (number_in (order_of (passes_through (dropped code gone)))) (slots_in (kept_crossings code.crossings gone) i) slot
      slot_below
      ∙ sym (number-front (order_of (passes_through (dropped code gone))) (loops_left code gone)
      (arc_by_place (kept_crossings code.crossings gone) i slot)
      (distinct-order (dropped code gone) paired) distinct-names ordered)
      ∙ ap (number_in (names_left code gone)) (name ∙ sym (straight-arc old old_below))

  -- a place that is not gone is one of those that stay
  pub kept-of : (place : ℕ) → place < length code.crossings → gone place ≡ false → (i : ℕ) × (i < k) × (kept i ≡ place)
  kept-of place below stays =
      let there = in-filter (λ z. not (gone z)) (range_with_len 0 (length code.crossings)) place
      (in-range 0 (length code.crossings) place (omega arith) (omega (arith, below))) (ap not stays) in
      let found = in-map_range kept 0 k place (subst (λ (xs : List ℕ). IsIn place xs) places there) in
      (found.0, omega (arith, found.2), found.3)

  -- and each of those is not gone
  pub kept-stays : (i : ℕ) → i < k → gone (kept i) ≡ false
  kept-stays i below =
      not_true (gone (kept i))
      (filter-in (λ z. not (gone z)) (range_with_len 0 (length code.crossings)) (kept i)
      (subst (λ (xs : List ℕ). IsIn (kept i) xs) (sym places) (map_range-in kept 0 k i (omega arith) (omega (arith, below))))).1
    where
      not_true : (b : Bool) → not b ≡ true → b ≡ false
      not_true b holds = grind (arith, nat_tests)
