-- The circles of states at a bigon. Its sides a and b meet no other crossing; x and y lead away from the first crossing, u and v from the
-- second. Straight through, a is joined with x and v, and b with y and u. A state that goes through both crossings joins b with x and v,
-- and a with y and u; one that closes at both joins a with b alone, x with y and u with v; and one that closes at one crossing and goes
-- through the other joins x with y and u with v, and the sides with one of these two.
use Rattle.std.proofs.lemmas.Bool.Decides.{nat_tests}
use Rattle.std.proofs.Common.{◌≡◌, ◌≢◌, ℕ, inl, inr, ◌+◌, ◌-◌, ◌%◌, ◌<◌, ◌≤◌, ◌∙◌, length, map, refl, sym, ap, subst, arith, Bool, true, not, ◌||◌, eq-eqb, eqb-true, IsTrue}
use Rattle.std.specs.Prelude.{nat_eq, slice_index}
use Rattle.std.specs.List.{filter, range_with_len}
use Rattle.std.proofs.lemmas.Bool.{both_ways, cases_Bool, cases_eq}
use Rattle.kh_types.specs.Acceptance.{accepted}
use Rattle.kh_types.specs.Bits.{bit}
use Rattle.kh_types.specs.CircleNumbers.{IsName}
use Rattle.kh_types.specs.Circles.{circle_of, circles_of}
use Rattle.kh_types.specs.Classes.{Respects}
use Rattle.kh_types.specs.Code.{Code}
use Rattle.kh_types.specs.Components.{passes_of}
use Rattle.kh_types.specs.Darts.{HasArcsTwice}
use Rattle.kh_types.proofs.AcceptedLemmas.{HasArcsTwice-accepted}
use Rattle.code_passes.specs.Parts.{ArePaired, slots_in}
use Rattle.gluing_laws.specs.Arcs.{arc_by_place}
use Rattle.orient_arcs.specs.Renumbered.{number_in, renumber}
use Rattle.kink_and_finger_laws.specs.DropCircles.{closing_at, joined_at, through_at}
use Rattle.kink_and_finger_laws.specs.Dropping.{HasBigonAt}
use Rattle.kink_and_finger_laws.specs.Drops.{dropped, is_of_two, kept_places, straight_names, without_finger}
use Rattle.kink_and_finger_laws.specs.Pulls.{early, late}
use Rattle.kink_and_finger_laws.proofs.BigonJoins.{closing-joined, joined-closing, joined-through, marked, or-false, pass-straight, straight-pass, through-joined}
use Rattle.kink_and_finger_laws.proofs.FingerCircles.{AreBigonNames, AreBigonNames-bigon}
use Rattle.kink_and_finger_laws.proofs.FingerDrops.{late-below, places-two}
use Rattle.kink_and_finger_laws.proofs.KeptCodes.{arc_by_place-below, straight-joined}
use Rattle.kink_and_finger_laws.proofs.Smoothed.{IsPermutation-late}
use Rattle.kink_and_finger_laws.proofs.Sound.{IsSound-finger, two_below}
use Rattle.kink_and_finger_laws.proofs.StandingNames.{arc_by_place-positive}
use Rattle.drop_view_laws.specs.DropViews.{AllShow, AreAlikeBut, DifferAt, IsBigonView, IsCircleOf, IsOfTwo, early_two}
use Rattle.drop_view_laws.specs.NamesLeft.{names_left, number_left, straight_name}
use Rattle.drop_view_laws.proofs.CircleMaps.{carried, joined-there}
use Rattle.drop_view_laws.proofs.DropMaps.{KeepsJoined, KeepsStraight, MovesOff, numbered-dropped, seen-dropped}
use Rattle.drop_view_laws.proofs.LeftNames as names
use Rattle.drop_view_laws.proofs.OffSides.{AllShow-two, MovesOff-two, alike-onward, mark_two, mark_two-first, mark_two-off, mark_two-second, moved_two, moved_two-first, moved_two-off, moved_two-second, neither, of_two}

-- whether one of two is a place
second-gone : (c d : ℕ) → is_of_two c d d ≡ true
second-gone c d = at (nat_eq c d) (nat_eq d d) (eq-eqb d d refl)
  where
    at : (s t : Bool) → t ≡ true → (s || t) ≡ true
    at s t is = grind (arith, nat_tests)

module _ (code : Code) (c d p q a b x y u v : ℕ) (is : IsTrue (accepted code)) (bigon : HasBigonAt code.crossings c d p q)
    (at : AreBigonNames code.crossings c d p q a b x y u v) where
  twice : HasArcsTwice code.crossings
  twice = HasArcsTwice-accepted code is

  size : length code.crossings ≡ length code.crossings - 2 + 1 + 1
  size = two_below (length code.crossings) c d bigon.first_below bigon.second_below bigon.apart

  c_within : c ≤ length code.crossings - 2 + 1
  c_within = omega (arith, bigon.first_below, size)

  d_within : d ≤ length code.crossings - 2 + 1
  d_within = omega (arith, bigon.second_below, size)

  places : kept_places code.crossings (is_of_two c d) ≡ map (λ i. early_two c d (length code.crossings - 2) i)
      (range_with_len 0 (length code.crossings - 2))
  places =
      ap (λ n. filter (λ z. not (nat_eq c z || nat_eq d z)) (range_with_len 0 n)) size
      ∙ places-two c d (length code.crossings - 2) c_within d_within bigon.apart

  kept_below : (i : ℕ) → i < length code.crossings - 2 → early_two c d (length code.crossings - 2) i < length code.crossings
  kept_below i below =
      let z_below = late-below c (length code.crossings - 2 + 1) d c_within (omega (arith, d_within)) bigon.apart in
      let z_within : late c (length code.crossings - 2 + 1) d ≤ length code.crossings - 2 = omega (arith, z_below) in
      let inner = (IsPermutation-late (late c (length code.crossings - 2 + 1) d) (length code.crossings - 2) z_within).back_below i
      (omega (arith, below)) in
      let outer = (IsPermutation-late c (length code.crossings - 2 + 1) c_within).back_below
      (early (late c (length code.crossings - 2 + 1) d) (length code.crossings - 2) i) (omega (arith, inner)) in
      omega (arith, outer, size)

  paired : ArePaired (dropped code (is_of_two c d))
  paired = (IsSound-finger code c d p q is bigon).paired

  -- names
  name-at : (place slot name : ℕ) → place < length code.crossings → slot < 4 → arc_by_place code.crossings place slot ≡ name
      → IsName code name
  name-at place slot name place_below below same =
      let low = arc_by_place-below code.crossings place slot twice place_below below in
      let positive = arc_by_place-positive code.crossings place slot twice place_below below in
      record { positive = omega (arith, same, positive); within = omega (arith, same, low) }

  a_name : IsName code a
  a_name = name-at c p a at.c_below at.p_slot at.a_first

  b_name : IsName code b
  b_name = name-at d q b at.d_below at.q_slot at.b_second

  x_name : IsName code x
  x_name = name-at c ((p + 2) % 4) x at.c_below (omega arith) at.x_is

  y_name : IsName code y
  y_name = name-at c ((p + 3) % 4) y at.c_below (omega arith) at.y_is

  u_name : IsName code u
  u_name = name-at d ((q + 2) % 4) u at.d_below (omega arith) at.u_is

  v_name : IsName code v
  v_name = name-at d ((q + 3) % 4) v at.d_below (omega arith) at.v_is

  x_off : IsOfTwo a b x → ⊥
  x_off = neither a b x at.x_a at.x_b

  y_off : IsOfTwo a b y → ⊥
  y_off = neither a b y at.y_a at.y_b

  u_off : IsOfTwo a b u → ⊥
  u_off = neither a b u at.u_a at.u_b

  v_off : IsOfTwo a b v → ⊥
  v_off = neither a b v at.v_a at.v_b

  apart : (place slot : ℕ) → place < length code.crossings → slot < 4 → place ≢ c → place ≢ d
      → IsOfTwo a b (arc_by_place code.crossings place slot) → ⊥
  apart place slot below slot_below not_c not_d =
      neither a b (arc_by_place code.crossings place slot) (at.others_a place slot below slot_below not_c not_d)
      (at.others_b place slot below slot_below not_c not_d)

  outer : (i slot : ℕ) → i < length code.crossings - 2 → slot < 4
      → IsOfTwo a b (arc_by_place code.crossings (early_two c d (length code.crossings - 2) i) slot) → ⊥
  outer i slot below slot_below =
      let place = early_two c d (length code.crossings - 2) i in
      let stays = names.kept-stays code (is_of_two c d) (λ i. early_two c d (length code.crossings - 2) i) (length code.crossings - 2)
      twice places kept_below paired i below in
      let away = or-false (nat_eq c (early_two c d (length code.crossings - 2) i))
      (nat_eq d (early_two c d (length code.crossings - 2) i)) stays in
      apart (early_two c d (length code.crossings - 2) i) slot (kept_below i below) slot_below
      (λ same. both_ways (nat_eq c (early_two c d (length code.crossings - 2) i)) away.0
      (eq-eqb c (early_two c d (length code.crossings - 2) i) (sym same)))
      (λ same. both_ways (nat_eq d (early_two c d (length code.crossings - 2) i)) away.1
      (eq-eqb d (early_two c d (length code.crossings - 2) i) (sym same)))

  -- a function at the slots of the two crossings: what its smoothings and passes join
  at_c-closing : (f : ℕ → ℕ) (state : ℕ) → bit state c ≡ closing_at p → f a ≡ f b → f x ≡ f y
      → Respects f (joined_at code.crossings state c)
  at_c-closing f state bit_is sides ends =
      joined-closing f (slots_in code.crossings c) p (bit state c) at.p_slot bit_is (ap f at.a_first ∙ sides ∙ sym (ap f at.b_first))
      (ap f at.x_is ∙ ends ∙ sym (ap f at.y_is))

  closing-at_c : (f : ℕ → ℕ) (state : ℕ) → bit state c ≡ closing_at p → Respects f (joined_at code.crossings state c) → (f a ≡ f b)
      × (f x ≡ f y)
  closing-at_c f state bit_is respects =
      let two = closing-joined f (slots_in code.crossings c) p (bit state c) at.p_slot bit_is respects in
      (sym (ap f at.a_first) ∙ two.0 ∙ ap f at.b_first, sym (ap f at.x_is) ∙ two.1 ∙ ap f at.y_is)

  at_c-through : (f : ℕ → ℕ) (state : ℕ) → bit state c ≡ through_at p → f b ≡ f x → f y ≡ f a
      → Respects f (joined_at code.crossings state c)
  at_c-through f state bit_is one two =
      joined-through f (slots_in code.crossings c) p (bit state c) at.p_slot bit_is (ap f at.b_first ∙ one ∙ sym (ap f at.x_is))
      (ap f at.y_is ∙ two ∙ sym (ap f at.a_first))

  through-at_c : (f : ℕ → ℕ) (state : ℕ) → bit state c ≡ through_at p → Respects f (joined_at code.crossings state c) → (f b ≡ f x)
      × (f y ≡ f a)
  through-at_c f state bit_is respects =
      let two = through-joined f (slots_in code.crossings c) p (bit state c) at.p_slot bit_is respects in
      (sym (ap f at.b_first) ∙ two.0 ∙ ap f at.x_is, sym (ap f at.y_is) ∙ two.1 ∙ ap f at.a_first)

  at_d-closing : (f : ℕ → ℕ) (state : ℕ) → bit state d ≡ closing_at q → f b ≡ f a → f u ≡ f v
      → Respects f (joined_at code.crossings state d)
  at_d-closing f state bit_is sides ends =
      joined-closing f (slots_in code.crossings d) q (bit state d) at.q_slot bit_is (ap f at.b_second ∙ sides ∙ sym (ap f at.a_second))
      (ap f at.u_is ∙ ends ∙ sym (ap f at.v_is))

  closing-at_d : (f : ℕ → ℕ) (state : ℕ) → bit state d ≡ closing_at q → Respects f (joined_at code.crossings state d) → (f b ≡ f a)
      × (f u ≡ f v)
  closing-at_d f state bit_is respects =
      let two = closing-joined f (slots_in code.crossings d) q (bit state d) at.q_slot bit_is respects in
      (sym (ap f at.b_second) ∙ two.0 ∙ ap f at.a_second, sym (ap f at.u_is) ∙ two.1 ∙ ap f at.v_is)

  at_d-through : (f : ℕ → ℕ) (state : ℕ) → bit state d ≡ through_at q → f a ≡ f u → f v ≡ f b
      → Respects f (joined_at code.crossings state d)
  at_d-through f state bit_is one two =
      joined-through f (slots_in code.crossings d) q (bit state d) at.q_slot bit_is (ap f at.a_second ∙ one ∙ sym (ap f at.u_is))
      (ap f at.v_is ∙ two ∙ sym (ap f at.b_second))

  through-at_d : (f : ℕ → ℕ) (state : ℕ) → bit state d ≡ through_at q → Respects f (joined_at code.crossings state d) → (f a ≡ f u)
      × (f v ≡ f b)
  through-at_d f state bit_is respects =
      let two = through-joined f (slots_in code.crossings d) q (bit state d) at.q_slot bit_is respects in
      (sym (ap f at.a_second) ∙ two.0 ∙ ap f at.u_is, sym (ap f at.v_is) ∙ two.1 ∙ ap f at.b_second)

  -- straight names
  class : ℕ → ℕ
  class z = slice_index (straight_names code.crossings (is_of_two c d)) z

  straight-slot : (place slot name : ℕ) → place < length code.crossings → slot < 4 → arc_by_place code.crossings place slot ≡ name
      → straight_name code (is_of_two c d) name ≡ class name
  unfolding class
  straight-slot place slot name place_below below same =
      let low = arc_by_place-below code.crossings place slot twice place_below below in
      names.straight-arc code (is_of_two c d) (λ i. early_two c d (length code.crossings - 2) i) (length code.crossings - 2) twice places
      kept_below paired
      name (omega (arith, same, low))

  c_passes : (class a ≡ class x) × (class b ≡ class y)
  unfolding class
  c_passes =
      let f : ℕ → ℕ = λ z. slice_index (straight_names code.crossings (is_of_two c d)) z in
      let c_gone : is_of_two c d c ≡ true = ap (λ t. t || nat_eq d c) (eq-eqb c c refl) in
      let two = straight-joined code.crossings (is_of_two c d) c twice at.c_below c_gone in
      let passed = straight-pass f (slots_in code.crossings c) p at.p_slot (two.0, (two.1, tt)) in
      (sym (ap f at.a_first) ∙ passed.0 ∙ ap f at.x_is, sym (ap f at.b_first) ∙ passed.1 ∙ ap f at.y_is)

  d_passes : (class b ≡ class u) × (class a ≡ class v)
  unfolding class
  d_passes =
      let f : ℕ → ℕ = λ z. slice_index (straight_names code.crossings (is_of_two c d)) z in
      let two = straight-joined code.crossings (is_of_two c d) d twice at.d_below (second-gone c d) in
      let passed = straight-pass f (slots_in code.crossings d) q at.q_slot (two.0, (two.1, tt)) in
      (sym (ap f at.b_second) ∙ passed.0 ∙ ap f at.u_is, sym (ap f at.a_second) ∙ passed.1 ∙ ap f at.v_is)

  a_straight : straight_name code (is_of_two c d) a ≡ class a
  a_straight = straight-slot c p a at.c_below at.p_slot at.a_first

  b_straight : straight_name code (is_of_two c d) b ≡ class b
  b_straight = straight-slot d q b at.d_below at.q_slot at.b_second

  x-straight : straight_name code (is_of_two c d) x ≡ straight_name code (is_of_two c d) a
  x-straight = straight-slot c ((p + 2) % 4) x at.c_below (omega arith) at.x_is ∙ sym c_passes.0 ∙ sym a_straight

  y-straight : straight_name code (is_of_two c d) y ≡ straight_name code (is_of_two c d) b
  y-straight = straight-slot c ((p + 3) % 4) y at.c_below (omega arith) at.y_is ∙ sym c_passes.1 ∙ sym b_straight

  u-straight : straight_name code (is_of_two c d) u ≡ straight_name code (is_of_two c d) b
  u-straight = straight-slot d ((q + 2) % 4) u at.d_below (omega arith) at.u_is ∙ sym d_passes.0 ∙ sym b_straight

  v-straight : straight_name code (is_of_two c d) v ≡ straight_name code (is_of_two c d) a
  v-straight = straight-slot d ((q + 3) % 4) v at.d_below (omega arith) at.v_is ∙ sym d_passes.1 ∙ sym a_straight

  moves : MovesOff code (is_of_two c d) (IsOfTwo a b) (moved_two a b x y)
  moves = MovesOff-two code (is_of_two c d) a b x y at.a_b x_off y_off x_name y_name x-straight y-straight

  -- what is joined in each of the four states
  joined-c : (state : ℕ) → Respects (λ z. circle_of (circles_of code state) z) (joined_at code.crossings state c)
  joined-c state = joined-there code state c twice at.c_below

  joined-d : (state : ℕ) → Respects (λ z. circle_of (circles_of code state) z) (joined_at code.crossings state d)
  joined-d state = joined-there code state d twice at.d_below

  -- a state that goes through both crossings, and the state of what is left
  straight : (state : ℕ) → bit state c ≡ through_at p → bit state d ≡ through_at q
      → KeepsStraight code (is_of_two c d) (moved_two a b x y) state
  straight state c_bit d_bit place below gone_there =
      let circle : ℕ → ℕ = λ z. circle_of (circles_of code state) z in
      let f : ℕ → ℕ = λ z. circle_of (circles_of code state) (moved_two a b x y z) in
      let at_a = ap circle (moved_two-first a b x y) in
      let at_b = ap circle (moved_two-second a b x y at.a_b) in
      let off : (z : ℕ) → (IsOfTwo a b z → ⊥) → f z ≡ circle z = λ z z_off. ap circle (moved_two-off a b x y z z_off) in
      let cs = through-at_c circle state c_bit (joined-c state) in
      let ds = through-at_d circle state d_bit (joined-d state) in
      let c_pass : Respects (λ z. circle_of (circles_of code state) (moved_two a b x y z)) (passes_of (slots_in code.crossings c)) =
      pass-straight f (slots_in code.crossings c) p at.p_slot
      (ap f at.a_first ∙ at_a ∙ sym (off x x_off) ∙ sym (ap f at.x_is))
      (ap f at.b_first ∙ at_b ∙ sym (off y y_off) ∙ sym (ap f at.y_is)) in
      let d_pass : Respects (λ z. circle_of (circles_of code state) (moved_two a b x y z)) (passes_of (slots_in code.crossings d)) =
      pass-straight f (slots_in code.crossings d) q at.q_slot
      (ap f at.b_second ∙ at_b ∙ cs.1 ∙ ds.0 ∙ sym (off u u_off) ∙ sym (ap f at.u_is))
      (ap f at.a_second ∙ at_a ∙ sym cs.0 ∙ sym ds.1 ∙ sym (off v v_off) ∙ sym (ap f at.v_is)) in
      let there : Respects (λ z. circle_of (circles_of code state) (moved_two a b x y z)) (passes_of (slots_in code.crossings place)) =
      elim (cases_Bool (nat_eq c place)) [
        | inl at_c ↦
            subst (λ (r : ℕ). Respects (λ z. circle_of (circles_of code state) (moved_two a b x y z))
            (passes_of (slots_in code.crossings r)))
            (eqb-true c place at_c) c_pass
        | inr not_c ↦
            subst (λ (r : ℕ). Respects (λ z. circle_of (circles_of code state) (moved_two a b x y z))
            (passes_of (slots_in code.crossings r)))
            (eqb-true d place (sym (ap (λ t. t || nat_eq d place) not_c) ∙ gone_there)) d_pass
      ] in
      (there.0, there.1.0)

  joined : (state new_state : ℕ) → bit state c ≡ through_at p → bit state d ≡ through_at q
      → KeepsJoined code (is_of_two c d) (moved_two a b y x) state new_state
  joined state new_state c_bit d_bit place below gone_there =
      let new : ℕ → ℕ = λ z. circle_of (circles_of (renumber (dropped code (is_of_two c d))) new_state)
      (number_left code (is_of_two c d) z) in
      let f : ℕ → ℕ = λ z. circle_of (circles_of (renumber (dropped code (is_of_two c d))) new_state)
      (number_left code (is_of_two c d) (moved_two a b y x z)) in
      let at_a = ap new (moved_two-first a b y x) in
      let at_b = ap new (moved_two-second a b y x at.a_b) in
      let off : (z : ℕ) → (IsOfTwo a b z → ⊥) → f z ≡ new z = λ z z_off. ap new (moved_two-off a b y x z z_off) in
      let alike : (z w : ℕ) → straight_name code (is_of_two c d) z ≡ straight_name code (is_of_two c d) w → new z ≡ new w =
      λ z w same. ap (λ m. circle_of (circles_of (renumber (dropped code (is_of_two c d))) new_state)
      (number_in (names_left code (is_of_two c d)) m)) same in
      let at_c : Respects f (joined_at code.crossings state c) = at_c-through f state c_bit (at_b ∙ sym (off x x_off))
      (off y y_off ∙ sym at_a) in
      let at_d : Respects f (joined_at code.crossings state d) =
      at_d-through f state d_bit (at_a ∙ alike y u (y-straight ∙ sym u-straight) ∙ sym (off u u_off))
      (off v v_off ∙ alike v x (v-straight ∙ sym x-straight) ∙ sym at_b) in
      elim (cases_Bool (nat_eq c place)) [
        | inl is_c ↦ subst (λ (r : ℕ). Respects f (joined_at code.crossings state r)) (eqb-true c place is_c) at_c
        | inr not_c ↦
            subst (λ (r : ℕ). Respects f (joined_at code.crossings state r))
            (eqb-true d place (sym (ap (λ t. t || nat_eq d place) not_c) ∙ gone_there)) at_d
      ]

  through-shows : (state : ℕ) → bit state c ≡ through_at p → bit state d ≡ through_at q → AllShow code (IsOfTwo a b) state
  through-shows state c_bit d_bit =
      let cs = through-at_c (λ z. circle_of (circles_of code state) z) state c_bit (joined-c state) in
      AllShow-two code state a b y x y_name x_name y_off x_off cs.1 (sym cs.0)

  first-shows : (state : ℕ) → bit state c ≡ closing_at p → bit state d ≡ through_at q → AllShow code (IsOfTwo a b) state
  first-shows state c_bit d_bit =
      let cs = closing-at_c (λ z. circle_of (circles_of code state) z) state c_bit (joined-c state) in
      let ds = through-at_d (λ z. circle_of (circles_of code state) z) state d_bit (joined-d state) in
      AllShow-two code state a b u v u_name v_name u_off v_off (sym ds.0) ds.1

  second-shows : (state : ℕ) → bit state c ≡ through_at p → bit state d ≡ closing_at q → AllShow code (IsOfTwo a b) state
  second-shows state c_bit d_bit =
      let cs = through-at_c (λ z. circle_of (circles_of code state) z) state c_bit (joined-c state) in
      AllShow-two code state a b y x y_name x_name y_off x_off cs.1 (sym cs.0)

  -- where both sides go to one arc
  one-at_a : (state e : ℕ) → circle_of (circles_of code state) (moved_two a b e e a) ≡ circle_of (circles_of code state) e
  one-at_a state e = ap (circle_of (circles_of code state)) (moved_two-first a b e e)

  one-at_b : (state e : ℕ) → circle_of (circles_of code state) (moved_two a b e e b) ≡ circle_of (circles_of code state) e
  one-at_b state e = ap (circle_of (circles_of code state)) (moved_two-second a b e e at.a_b)

  one-off : (state e z : ℕ) → (IsOfTwo a b z → ⊥) → circle_of (circles_of code state) (moved_two a b e e z)
      ≡ circle_of (circles_of code state) z
  one-off state e z off = ap (circle_of (circles_of code state)) (moved_two-off a b e e z off)

  turned-differ : (state other : ℕ) → DifferAt code c d state other → DifferAt code c d other state
  turned-differ state other differ place below not_c not_d = sym (differ place below not_c not_d)

  -- from a state that closes both to one that goes through the second crossing, and back
  first-mixed : (state other : ℕ) → DifferAt code c d state other → bit state c ≡ closing_at p → bit state d ≡ closing_at q
      → bit other c ≡ closing_at p → bit other d ≡ through_at q → AreAlikeBut code (IsOfTwo a b) state other
  first-mixed state other differ c_bit d_bit c_other d_other z w z_is w_is z_off w_off =
      let f : ℕ → ℕ = λ n. circle_of (circles_of code other) (moved_two a b u u n) in
      let g : ℕ → ℕ = λ n. circle_of (circles_of code state) (moved_two a b u u n) in
      let cs = closing-at_c (λ n. circle_of (circles_of code state) n) state c_bit (joined-c state) in
      let ds = closing-at_d (λ n. circle_of (circles_of code state) n) state d_bit (joined-d state) in
      let c_after = closing-at_c (λ n. circle_of (circles_of code other) n) other c_other (joined-c other) in
      let d_after = through-at_d (λ n. circle_of (circles_of code other) n) other d_other (joined-d other) in
      let u_v : circle_of (circles_of code other) u ≡ circle_of (circles_of code other) v = sym d_after.0 ∙ c_after.0 ∙ sym d_after.1 in (
        alike-onward code c d a b u u state other twice differ apart
            (at_c-closing f state c_bit (one-at_a other u ∙ sym (one-at_b other u))
            (one-off other u x x_off ∙ c_after.1 ∙ sym (one-off other u y y_off)))
            (at_d-closing f state d_bit (one-at_b other u ∙ sym (one-at_a other u))
            (one-off other u u u_off ∙ u_v ∙ sym (one-off other u v v_off)))
            z w z_is w_is z_off w_off,
        alike-onward code c d a b u u other state twice (turned-differ state other differ) apart
            (at_c-closing g other c_other (one-at_a state u ∙ sym (one-at_b state u))
            (one-off state u x x_off ∙ cs.1 ∙ sym (one-off state u y y_off)))
            (at_d-through g other d_other (one-at_a state u ∙ sym (one-off state u u u_off))
            (one-off state u v v_off ∙ sym ds.1 ∙ sym (one-at_b state u)))
            z w z_is w_is z_off w_off,
      )

  -- and to one that goes through the first
  second-mixed : (state other : ℕ) → DifferAt code c d state other → bit state c ≡ closing_at p → bit state d ≡ closing_at q
      → bit other c ≡ through_at p → bit other d ≡ closing_at q → AreAlikeBut code (IsOfTwo a b) state other
  second-mixed state other differ c_bit d_bit c_other d_other z w z_is w_is z_off w_off =
      let f : ℕ → ℕ = λ n. circle_of (circles_of code other) (moved_two a b x x n) in
      let g : ℕ → ℕ = λ n. circle_of (circles_of code state) (moved_two a b x x n) in
      let cs = closing-at_c (λ n. circle_of (circles_of code state) n) state c_bit (joined-c state) in
      let ds = closing-at_d (λ n. circle_of (circles_of code state) n) state d_bit (joined-d state) in
      let c_after = through-at_c (λ n. circle_of (circles_of code other) n) other c_other (joined-c other) in
      let d_after = closing-at_d (λ n. circle_of (circles_of code other) n) other d_other (joined-d other) in
      let x_y : circle_of (circles_of code other) x ≡ circle_of (circles_of code other) y = sym c_after.0 ∙ d_after.0 ∙ sym c_after.1 in (
        alike-onward code c d a b x x state other twice differ apart
            (at_c-closing f state c_bit (one-at_a other x ∙ sym (one-at_b other x))
            (one-off other x x x_off ∙ x_y ∙ sym (one-off other x y y_off)))
            (at_d-closing f state d_bit (one-at_b other x ∙ sym (one-at_a other x))
            (one-off other x u u_off ∙ d_after.1 ∙ sym (one-off other x v v_off)))
            z w z_is w_is z_off w_off,
        alike-onward code c d a b x x other state twice (turned-differ state other differ) apart
            (at_c-through g other c_other (one-at_b state x ∙ sym (one-off state x x x_off))
            (one-off state x y y_off ∙ sym cs.1 ∙ sym (one-at_a state x)))
            (at_d-closing g other d_other (one-at_b state x ∙ sym (one-at_a state x))
            (one-off state x u u_off ∙ ds.1 ∙ sym (one-off state x v v_off)))
            z w z_is w_is z_off w_off,
      )

  -- the sides are a circle where both crossings close
  closes-alone : (state : ℕ) → bit state c ≡ closing_at p → bit state d ≡ closing_at q → IsCircleOf code (IsOfTwo a b) state a
  closes-alone state c_bit d_bit =
      let f : ℕ → ℕ = λ z. mark_two a b z in
      let cs = closing-at_c (λ z. circle_of (circles_of code state) z) state c_bit (joined-c state) in
      let sides : mark_two a b a ≡ mark_two a b b = mark_two-first a b ∙ sym (mark_two-second a b) in
      let none : (z : ℕ) → z ≢ a → z ≢ b → mark_two a b z ≡ 0 = mark_two-off a b in
      record {
        all = λ z side. elim side [
          | inl first ↦ ap (circle_of (circles_of code state)) first
          | inr second ↦ ap (circle_of (circles_of code state)) second ∙ sym cs.0
        ];
        alone = λ z z_is together.
            let same = carried code state (λ n. mark_two a b n) twice
            (λ place below.
            elim (cases_eq place c) [
              | inl is_c ↦
                  subst (λ (r : ℕ). Respects (λ n. mark_two a b n) (joined_at code.crossings state r)) (sym is_c)
                  (at_c-closing f state c_bit sides (none x at.x_a at.x_b ∙ sym (none y at.y_a at.y_b)))
              | inr not_c ↦ elim (cases_eq place d) [
                | inl is_d ↦
                    subst (λ (r : ℕ). Respects (λ n. mark_two a b n) (joined_at code.crossings state r)) (sym is_d)
                    (at_d-closing f state d_bit (sym sides) (none u at.u_a at.u_b ∙ sym (none v at.v_a at.v_b)))
                | inr not_d ↦
                    marked f (bit state place) (slots_in code.crossings place)
                    (λ slot slot_below.
                    none (arc_by_place code.crossings place slot) (at.others_a place slot below slot_below not_c not_d)
                    (at.others_b place slot below slot_below not_c not_d))
              ]
            ]) z a (omega (arith, z_is.within)) (omega (arith, a_name.within)) together in
            elim (of_two a b z) [
              | inl first ↦ inl first
              | inr rest ↦ elim rest [
                | inl second ↦ inr second
                | inr off ↦
                    let zero_one : 0 ≡ 1 = sym (none z (λ e. off (inl e)) (λ e. off (inr e))) ∙ same ∙ mark_two-first a b in
                    absurd (omega (arith, zero_one))
              ]
            ];
      }

  pub IsBigonView-named : IsBigonView code (renumber (without_finger code c d)) c d p q a b (number_left code (is_of_two c d))
  IsBigonView-named = record {
    first_side = a_name;
    second_side = b_name;
    numbered = numbered-dropped code (is_of_two c d) (λ i. early_two c d (length code.crossings - 2) i) (length code.crossings - 2) twice
        places kept_below paired
        (IsOfTwo a b) (moved_two a b x y) moves outer;
    apart = apart;
    first_mixed = first-mixed;
    second_mixed = second-mixed;
    closing = closes-alone;
    first_shows = first-shows;
    second_shows = second-shows;
    through_shows = through-shows;
    seen = λ state new_state agree c_bit d_bit.
        seen-dropped code (is_of_two c d) (λ i. early_two c d (length code.crossings - 2) i) (length code.crossings - 2) twice places
        kept_below paired
        (IsOfTwo a b) (moved_two a b x y) moves outer state new_state agree (straight state c_bit d_bit) (moved_two a b y x)
        (λ z off. moved_two-off a b y x z off) (joined state new_state c_bit d_bit);
  }

pub IsBigonView-dropped : (code : Code) (c d p q : ℕ) → IsTrue (accepted code) → HasBigonAt code.crossings c d p q → p < 4 → q < 4
    → IsBigonView code (renumber (without_finger code c d)) c d p q (arc_by_place code.crossings c p) (arc_by_place code.crossings d q)
    (number_left code (is_of_two c d))
IsBigonView-dropped code c d p q is bigon p_below q_below =
    IsBigonView-named code c d p q _ _ _ _ _ _ is bigon
    (AreBigonNames-bigon code.crossings c d p q (HasArcsTwice-accepted code is) bigon p_below q_below)
