-- The circles of the four states at two crossings that meet in a bigon. Its sides have the names a and b, which stand nowhere
-- else, and four more arcs lead away, two from each crossing. All is compared with what is joined without a and b. Where one
-- crossing closes and the other is gone through, the outer arcs of each crossing are joined, and a and b hang on them; both these
-- states so have equally many circles. Where both close, the outer arcs are joined alike, but a and b are a circle of their own:
-- one more. Where both are gone through, the outer arcs of one crossing are joined with those of the other, as they are where
-- both crossings are passed straight, and again a and b hang on them. All other smoothings depend on their bits alone.
use Rattle.std.proofs.lemmas.Bool.Decides.{nat_tests}
use Rattle.std.proofs.Common.{◌≡◌, ◌≢◌, ℕ, zero, suc, ◌⊎◌, inl, inr, ◌+◌, ◌*◌, ◌%◌, ◌<◌, ◌≤◌, ◌∙◌, List, [], ◌∷◌, ◌++◌, sym, ap, arith, refl, Bool, false, not, length, eq-eqb}
use Rattle.std.specs.Prelude.{nat_eq}
use Rattle.std.specs.List.{filter, flat_map, range_with_len}
use Rattle.std.proofs.lemmas.Bool.{both_ways, cases_Bool}
use Rattle.kh_types.specs.Bits.{bit}
use Rattle.kh_types.specs.Classes.{classes_of, class_count, Respects, AreBelow}
use Rattle.kh_types.specs.Code.{arc_count}
use Rattle.kh_types.specs.Circles.{smoothings_of}
use Rattle.kh_types.specs.Darts.{HasArcsTwice}
use Rattle.kh_types.proofs.Lists.{AllByRecursion-append}
use Rattle.code_passes.specs.Parts.{slots_in}
use Rattle.gluing_laws.specs.Arcs.{arc_by_place}
use Rattle.gluing_laws.specs.Codes.{arc_of_dart}
use Rattle.kink_and_finger_laws.specs.Drops.{straight_pairs, is_of_two}
use Rattle.kink_and_finger_laws.specs.Dropping.{HasBigonAt}
use Rattle.kink_and_finger_laws.specs.Pulls.{dart_in}
use Rattle.kink_and_finger_laws.specs.DropCircles.{joined_at, outer_pairs, through_at, closing_at}
use Rattle.kink_and_finger_laws.proofs.Smoothed.{dart_in-below}
use Rattle.kink_and_finger_laws.proofs.OldDarts.{arc_of_dart-in, arc_of_dart-partner}
use Rattle.kink_and_finger_laws.proofs.KeptCodes.{arc_by_place-below}
use Rattle.kink_and_finger_laws.proofs.SmoothingPairs.{outer-all, joined-below, all_first, all_second}
use Rattle.kink_and_finger_laws.proofs.BigonJoins.{named-own, marked, or-false, closing-joined, joined-closing, through-joined, joined-through, straight-pass, pass-straight, packed, unpacked, mark, mark-off, count-leaf, count-leaves, smoothed-as, straight-as}

-- the names round a bigon: a and b on its sides, x, y, u and v on the arcs that lead away
pub record AreBigonNames (crossings : List (List ℕ)) (c d p q a b x y u v : ℕ) : Type 0 where
  pub c_below : c < length crossings
  pub d_below : d < length crossings
  pub p_slot : p < 4
  pub q_slot : q < 4
  pub a_first : arc_by_place crossings c p ≡ a
  pub a_second : arc_by_place crossings d ((q + 1) % 4) ≡ a
  pub b_first : arc_by_place crossings c ((p + 1) % 4) ≡ b
  pub b_second : arc_by_place crossings d q ≡ b
  pub x_is : arc_by_place crossings c ((p + 2) % 4) ≡ x
  pub y_is : arc_by_place crossings c ((p + 3) % 4) ≡ y
  pub u_is : arc_by_place crossings d ((q + 2) % 4) ≡ u
  pub v_is : arc_by_place crossings d ((q + 3) % 4) ≡ v
  pub x_a : x ≢ a
  pub y_a : y ≢ a
  pub u_a : u ≢ a
  pub v_a : v ≢ a
  pub x_b : x ≢ b
  pub y_b : y ≢ b
  pub u_b : u ≢ b
  pub v_b : v ≢ b
  pub a_b : a ≢ b
  pub others_a : (place slot : ℕ) → place < length crossings → slot < 4 → place ≢ c → place ≢ d → arc_by_place crossings place slot ≢ a
  pub others_b : (place slot : ℕ) → place < length crossings → slot < 4 → place ≢ c → place ≢ d → arc_by_place crossings place slot ≢ b

pub AreBigonNames-bigon : (crossings : List (List ℕ)) (c d p q : ℕ) → HasArcsTwice crossings → HasBigonAt crossings c d p q → p < 4 → q < 4
    → AreBigonNames crossings c d p q (arc_by_place crossings c p) (arc_by_place crossings d q) (arc_by_place crossings c ((p + 2) % 4))
    (arc_by_place crossings c ((p + 3) % 4)) (arc_by_place crossings d ((q + 2) % 4)) (arc_by_place crossings d ((q + 3) % 4))
AreBigonNames-bigon crossings c d p q twice bigon p_slot q_slot =
    let n = length crossings in
    let p_is : p % 4 ≡ p = omega (arith, p_slot) in
    let q_is : q % 4 ≡ q = omega (arith, q_slot) in
    let first_low = dart_in-below (length crossings) c p bigon.first_below in
    let second_low = dart_in-below (length crossings) d q bigon.second_below in
    let name_first : arc_of_dart crossings (dart_in c p) ≡ arc_by_place crossings c p =
    arc_of_dart-in crossings c p ∙ ap (arc_by_place crossings c) p_is in
    let name_second : arc_of_dart crossings (dart_in d q) ≡ arc_by_place crossings d q =
    arc_of_dart-in crossings d q ∙ ap (arc_by_place crossings d) q_is in
    let own_a : (place slot : ℕ) → place < length crossings → slot < 4 → arc_by_place crossings place slot ≡ arc_by_place crossings c p
    → (4 * place + slot ≡ dart_in c p) ⊎ (4 * place + slot ≡ dart_in d (q + 1)) =
    λ place slot below slot_below same.
    elim (named-own crossings (dart_in c p) place slot twice first_low below slot_below (same ∙ sym name_first)) [
      | inl own ↦ inl own
      | inr own ↦ inr (own ∙ bigon.first_side)
    ] in
    let own_b : (place slot : ℕ) → place < length crossings → slot < 4 → arc_by_place crossings place slot ≡ arc_by_place crossings d q
    → (4 * place + slot ≡ dart_in d q) ⊎ (4 * place + slot ≡ dart_in c (p + 1)) =
    λ place slot below slot_below same.
    elim (named-own crossings (dart_in d q) place slot twice second_low below slot_below (same ∙ sym name_second)) [
      | inl own ↦ inl own
      | inr own ↦ inr (own ∙ bigon.second_side)
    ] in
    let c_b = bigon.first_below in
    let d_b = bigon.second_below in
    let apart = bigon.apart in
    record {
      c_below = bigon.first_below;
      d_below = bigon.second_below;
      p_slot = p_slot;
      q_slot = q_slot;
      a_first = refl;
      a_second = sym (arc_of_dart-in crossings d (q + 1)) ∙ ap (arc_of_dart crossings) (sym bigon.first_side)
          ∙ arc_of_dart-partner crossings twice (dart_in c p) first_low ∙ name_first;
      b_first = sym (arc_of_dart-in crossings c (p + 1)) ∙ ap (arc_of_dart crossings) (sym bigon.second_side)
          ∙ arc_of_dart-partner crossings twice (dart_in d q) second_low ∙ name_second;
      b_second = refl;
      x_is = refl;
      y_is = refl;
      u_is = refl;
      v_is = refl;
      x_a = λ same. grind (arith, p_slot, q_slot, apart, own_a c ((p + 2) % 4) c_b (omega arith) same);
      y_a = λ same. grind (arith, p_slot, q_slot, apart, own_a c ((p + 3) % 4) c_b (omega arith) same);
      u_a = λ same. grind (arith, p_slot, q_slot, apart, own_a d ((q + 2) % 4) d_b (omega arith) same);
      v_a = λ same. grind (arith, p_slot, q_slot, apart, own_a d ((q + 3) % 4) d_b (omega arith) same);
      x_b = λ same. grind (arith, p_slot, q_slot, apart, own_b c ((p + 2) % 4) c_b (omega arith) same);
      y_b = λ same. grind (arith, p_slot, q_slot, apart, own_b c ((p + 3) % 4) c_b (omega arith) same);
      u_b = λ same. grind (arith, p_slot, q_slot, apart, own_b d ((q + 2) % 4) d_b (omega arith) same);
      v_b = λ same. grind (arith, p_slot, q_slot, apart, own_b d ((q + 3) % 4) d_b (omega arith) same);
      a_b = λ same. grind (arith, p_slot, q_slot, apart, own_b c p c_b p_slot same);
      others_a = λ place slot below slot_below not_c not_d same.
          grind (arith, slot_below, not_c, not_d, own_a place slot below slot_below same);
      others_b = λ place slot below slot_below not_c not_d same.
          grind (arith, slot_below, not_c, not_d, own_b place slot below slot_below same);
    }

outer-free : (crossings : List (List ℕ)) (c d state a : ℕ)
    → ((place slot : ℕ) → place < length crossings → slot < 4 → place ≢ c → place ≢ d → arc_by_place crossings place slot ≢ a)
    → Respects (λ z. mark a z) (outer_pairs crossings (is_of_two c d) state)
outer-free crossings c d state a others =
    outer-all (λ pair. mark a pair.0 ≡ mark a pair.1) crossings (is_of_two c d) state
    (λ place below stays.
    let away = or-false (nat_eq c place) (nat_eq d place) stays in
    marked (λ z. mark a z) (bit state place) (slots_in crossings place)
    (λ slot slot_below.
    mark-off a (arc_by_place crossings place slot)
    (others place slot below slot_below (λ same. both_ways (nat_eq c place) away.0 (eq-eqb c place (sym same)))
    (λ same. both_ways (nat_eq d place) away.1 (eq-eqb d place (sym same))))))

-- the smoothings of the crossings that stay depend on their bits alone

pairs-same : (crossings : List (List ℕ)) (gone : ℕ → Bool) (state other a n : ℕ)
    → ((place : ℕ) → place < a + n → gone place ≡ false → bit other place ≡ bit state place)
    → flat_map (joined_at crossings other) (filter (λ place. not (gone place)) (range_with_len a n))
    ≡ flat_map (joined_at crossings state) (filter (λ place. not (gone place)) (range_with_len a n))
pairs-same crossings gone state other a zero same = refl
pairs-same crossings gone state other a (suc n) same =
    grind (arith, nat_tests, cases_Bool, pairs-same crossings gone state other (a + 1) n (λ place below. same place (omega (arith, below))))

outer-same : (crossings : List (List ℕ)) (c d state other : ℕ) → ((place : ℕ) → place < length crossings → place ≢ c → place ≢ d → bit other place ≡ bit state place)
    → outer_pairs crossings (is_of_two c d) other ≡ outer_pairs crossings (is_of_two c d) state
outer-same crossings c d state other same = grind (arith, nat_tests, pairs-same, or-false, both_ways, eq-eqb)

-- the circles of the four states, and of what is joined straight
pub record FourStates (crossings : List (List ℕ)) (n c d p q : ℕ) : Type 0 where
  pub mixed : (state other : ℕ) → ((place : ℕ) → place < length crossings → place ≢ c → place ≢ d → bit other place ≡ bit state place)
      → bit state c ≡ closing_at p → bit state d ≡ through_at q → bit other c ≡ through_at p → bit other d ≡ closing_at q
      → class_count (classes_of n (smoothings_of crossings other)) ≡ class_count (classes_of n (smoothings_of crossings state))
  pub more : (state other : ℕ) → ((place : ℕ) → place < length crossings → place ≢ c → place ≢ d → bit other place ≡ bit state place)
      → bit state c ≡ closing_at p → bit state d ≡ through_at q → bit other c ≡ closing_at p → bit other d ≡ closing_at q
      → class_count (classes_of n (smoothings_of crossings other)) ≡ class_count (classes_of n (smoothings_of crossings state)) + 1
  pub straight : (state : ℕ) → bit state c ≡ through_at p → bit state d ≡ through_at q
      → class_count (classes_of n (smoothings_of crossings state))
      ≡ class_count (classes_of n (straight_pairs crossings (is_of_two c d) ++ outer_pairs crossings (is_of_two c d) state))

abbrev turned_in : List (List ℕ) → ℕ → ℕ → ℕ → ℕ → ℕ → ℕ → ℕ → List (ℕ × ℕ)
turned_in crossings state c d x y u v = outer_pairs crossings (is_of_two c d) state ++ (x, y) ∷ (u, v) ∷ []

below-in : (crossings : List (List ℕ)) (n state c d x y u v : ℕ) → HasArcsTwice crossings → arc_count crossings + 1 ≤ n
    → x < n → y < n → u < n → v < n → AreBelow n (turned_in crossings state c d x y u v)
below-in crossings n state c d x y u v twice large x_low y_low u_low v_low =
    AllByRecursion-append (λ pair. (pair.0 < n) × (pair.1 < n)) (outer_pairs crossings (is_of_two c d) state) ((x, y) ∷ (u, v) ∷ [])
    (outer-all (λ pair. (pair.0 < n) × (pair.1 < n)) crossings (is_of_two c d) state
    (λ place below stays. joined-below crossings n state place twice large below)) ((x_low, y_low), ((u_low, v_low), tt))

free-in : (crossings : List (List ℕ)) (state c d x y u v a : ℕ)
    → ((place slot : ℕ) → place < length crossings → slot < 4 → place ≢ c → place ≢ d → arc_by_place crossings place slot ≢ a)
    → x ≢ a → y ≢ a → u ≢ a → v ≢ a → Respects (λ z. mark a z) (turned_in crossings state c d x y u v)
free-in crossings state c d x y u v a others x_a y_a u_a v_a =
    AllByRecursion-append (λ pair. mark a pair.0 ≡ mark a pair.1) (outer_pairs crossings (is_of_two c d) state) ((x, y) ∷ (u, v) ∷ [])
    (outer-free crossings c d state a others)
    (mark-off a x x_a ∙ sym (mark-off a y y_a), (mark-off a u u_a ∙ sym (mark-off a v v_a), tt))

pub FourStates-bigon : (crossings : List (List ℕ)) (n c d p q a b x y u v : ℕ) → HasArcsTwice crossings → arc_count crossings + 1 ≤ n
    → AreBigonNames crossings c d p q a b x y u v → FourStates crossings n c d p q
FourStates-bigon crossings n c d p q a b x y u v twice large names =
    let c_slots = slots_in crossings c in
    let d_slots = slots_in crossings d in
    let low_c : (slot name : ℕ) → slot < 4 → arc_by_place crossings c slot ≡ name → name < n =
    λ slot name below is. omega (arith, large, sym is, arc_by_place-below crossings c slot twice names.c_below below) in
    let low_d : (slot name : ℕ) → slot < 4 → arc_by_place crossings d slot ≡ name → name < n =
    λ slot name below is. omega (arith, large, sym is, arc_by_place-below crossings d slot twice names.d_below below) in
    let a_low : a < n = low_c p a names.p_slot names.a_first in
    let b_low : b < n = low_d q b names.q_slot names.b_second in
    let x_low : x < n = low_c ((p + 2) % 4) x (omega arith) names.x_is in
    let y_low : y < n = low_c ((p + 3) % 4) y (omega arith) names.y_is in
    let u_low : u < n = low_d ((q + 2) % 4) u (omega arith) names.u_is in
    let v_low : v < n = low_d ((q + 3) % 4) v (omega arith) names.v_is in
    -- the pairs without a and b, and with them
    let turned_low : (state : ℕ) → AreBelow n (turned_in crossings state c d x y u v) =
    λ state. below-in crossings n state c d x y u v twice large x_low y_low u_low v_low in
    let straight_low : (state : ℕ) → AreBelow n (turned_in crossings state c d x v y u) =
    λ state. below-in crossings n state c d x v y u twice large x_low v_low y_low u_low in
    let turned_a : (state : ℕ) → Respects (λ z. mark a z) (turned_in crossings state c d x y u v) =
    λ state. free-in crossings state c d x y u v a names.others_a names.x_a names.y_a names.u_a names.v_a in
    let turned_b : (state : ℕ) → Respects (λ z. mark b z) (turned_in crossings state c d x y u v) =
    λ state. free-in crossings state c d x y u v b names.others_b names.x_b names.y_b names.u_b names.v_b in
    let straight_a : (state : ℕ) → Respects (λ z. mark a z) (turned_in crossings state c d x v y u) =
    λ state. free-in crossings state c d x v y u a names.others_a names.x_a names.v_a names.y_a names.u_a in
    let straight_b : (state : ℕ) → Respects (λ z. mark b z) (turned_in crossings state c d x v y u) =
    λ state. free-in crossings state c d x v y u b names.others_b names.x_b names.v_b names.y_b names.u_b in
    let all_low : (state e1 e2 e3 e4 s t : ℕ) → e1 < n → e2 < n → e3 < n → e4 < n → s < n → t < n → (l m : ℕ) → l < n → m < n
    → AreBelow n ((turned_in crossings state c d e1 e2 e3 e4 ++ (l, s) ∷ []) ++ (m, t) ∷ []) =
    λ state e1 e2 e3 e4 s t e1_low e2_low e3_low e4_low s_low t_low l m l_low m_low.
    AllByRecursion-append (λ pair. (pair.0 < n) × (pair.1 < n)) (turned_in crossings state c d e1 e2 e3 e4 ++ (l, s) ∷ []) ((m, t) ∷ [])
    (AllByRecursion-append (λ pair. (pair.0 < n) × (pair.1 < n)) (turned_in crossings state c d e1 e2 e3 e4) ((l, s) ∷ [])
    (below-in crossings n state c d e1 e2 e3 e4 twice large e1_low e2_low e3_low e4_low) ((l_low, s_low), tt)) ((m_low, t_low), tt) in
    let at : (f : ℕ → ℕ) (name other : ℕ) → name ≡ other → f name ≡ f other = λ f name other is. ap f is in
    -- a circle is closed at the first, and the second is gone through
    let first_mixed : (state : ℕ) → bit state c ≡ closing_at p → bit state d ≡ through_at q
    → class_count (classes_of n (turned_in crossings state c d x y u v)) ≡ class_count (classes_of n (smoothings_of crossings state)) + 2 =
    λ state c_bit d_bit.
    count-leaves n (turned_in crossings state c d x y u v) a u b u (turned_low state) (turned_a state) (turned_b state) a_low u_low b_low u_low
    names.u_a names.u_b names.a_b names.u_b
    ∙ ap (λ cs. class_count cs + 2)
    (sym
    (smoothed-as crossings n state c d ((turned_in crossings state c d x y u v ++ (a, u) ∷ []) ++ (b, u) ∷ []) twice large names.c_below names.d_below
    (all_low state x y u v u u x_low y_low u_low v_low u_low u_low a b a_low b_low)
    (λ f outer at_c at_d.
    let cs = closing-joined f c_slots p (bit state c) names.p_slot c_bit at_c in
    let ds = through-joined f d_slots q (bit state d) names.q_slot d_bit at_d in
    let a_u : f a ≡ f u = sym (ap f names.a_second) ∙ ds.0 ∙ ap f names.u_is in
    let a_b : f a ≡ f b = sym (ap f names.a_first) ∙ cs.0 ∙ ap f names.b_first in
    let v_b : f v ≡ f b = sym (ap f names.v_is) ∙ ds.1 ∙ ap f names.b_second in
    packed (λ pair. f pair.0 ≡ f pair.1) (outer_pairs crossings (is_of_two c d) state) (x, y) (u, v) (a, u) (b, u) outer
    (sym (ap f names.x_is) ∙ cs.1 ∙ ap f names.y_is) (sym a_u ∙ a_b ∙ sym v_b) a_u (sym a_b ∙ a_u))
    (λ f respects.
    let un = unpacked (λ pair. f pair.0 ≡ f pair.1) (outer_pairs crossings (is_of_two c d) state) (x, y) (u, v) (a, u) (b, u) respects in (
      un.outer_holds,
      joined-closing f c_slots p (bit state c) names.p_slot c_bit
          (ap f names.a_first ∙ un.three ∙ sym un.four ∙ sym (ap f names.b_first)) (ap f names.x_is ∙ un.one ∙ sym (ap f names.y_is)),
      joined-through f d_slots q (bit state d) names.q_slot d_bit
          (ap f names.a_second ∙ un.three ∙ sym (ap f names.u_is))
          (ap f names.v_is ∙ sym un.two ∙ sym un.four ∙ sym (ap f names.b_second)),
    )))) in
    let second_mixed : (state : ℕ) → bit state c ≡ through_at p → bit state d ≡ closing_at q
    → class_count (classes_of n (turned_in crossings state c d x y u v)) ≡ class_count (classes_of n (smoothings_of crossings state)) + 2 =
    λ state c_bit d_bit.
    count-leaves n (turned_in crossings state c d x y u v) a x b x (turned_low state) (turned_a state) (turned_b state) a_low x_low b_low x_low
    names.x_a names.x_b names.a_b names.x_b
    ∙ ap (λ cs. class_count cs + 2)
    (sym
    (smoothed-as crossings n state c d ((turned_in crossings state c d x y u v ++ (a, x) ∷ []) ++ (b, x) ∷ []) twice large names.c_below names.d_below
    (all_low state x y u v x x x_low y_low u_low v_low x_low x_low a b a_low b_low)
    (λ f outer at_c at_d.
    let cs = through-joined f c_slots p (bit state c) names.p_slot c_bit at_c in
    let ds = closing-joined f d_slots q (bit state d) names.q_slot d_bit at_d in
    let b_x : f b ≡ f x = sym (ap f names.b_first) ∙ cs.0 ∙ ap f names.x_is in
    let y_a : f y ≡ f a = sym (ap f names.y_is) ∙ cs.1 ∙ ap f names.a_first in
    let b_a : f b ≡ f a = sym (ap f names.b_second) ∙ ds.0 ∙ ap f names.a_second in
    packed (λ pair. f pair.0 ≡ f pair.1) (outer_pairs crossings (is_of_two c d) state) (x, y) (u, v) (a, x) (b, x) outer
    (sym b_x ∙ b_a ∙ sym y_a) (sym (ap f names.u_is) ∙ ds.1 ∙ ap f names.v_is) (sym b_a ∙ b_x) b_x)
    (λ f respects.
    let un = unpacked (λ pair. f pair.0 ≡ f pair.1) (outer_pairs crossings (is_of_two c d) state) (x, y) (u, v) (a, x) (b, x) respects in (
      un.outer_holds,
      joined-through f c_slots p (bit state c) names.p_slot c_bit
          (ap f names.b_first ∙ un.four ∙ sym (ap f names.x_is))
          (ap f names.y_is ∙ sym un.one ∙ sym un.three ∙ sym (ap f names.a_first)),
      joined-closing f d_slots q (bit state d) names.q_slot d_bit
          (ap f names.b_second ∙ un.four ∙ sym un.three ∙ sym (ap f names.a_second)) (ap f names.u_is ∙ un.two ∙ sym (ap f names.v_is)),
    )))) in
    let closed_both : (state : ℕ) → bit state c ≡ closing_at p → bit state d ≡ closing_at q
    → class_count (classes_of n (turned_in crossings state c d x y u v)) ≡ class_count (classes_of n (smoothings_of crossings state)) + 1 =
    λ state c_bit d_bit.
    count-leaf n (turned_in crossings state c d x y u v) a b (turned_low state) (turned_a state) a_low b_low (λ same. names.a_b (sym same))
    ∙ ap (λ cs. class_count cs + 1)
    (sym
    (smoothed-as crossings n state c d (turned_in crossings state c d x y u v ++ (a, b) ∷ []) twice large names.c_below names.d_below
    (AllByRecursion-append (λ pair. (pair.0 < n) × (pair.1 < n)) (turned_in crossings state c d x y u v) ((a, b) ∷ []) (turned_low state)
    ((a_low, b_low), tt))
    (λ f outer at_c at_d.
    let cs = closing-joined f c_slots p (bit state c) names.p_slot c_bit at_c in
    let ds = closing-joined f d_slots q (bit state d) names.q_slot d_bit at_d in
    AllByRecursion-append (λ pair. f pair.0 ≡ f pair.1) (turned_in crossings state c d x y u v) ((a, b) ∷ [])
    (AllByRecursion-append (λ pair. f pair.0 ≡ f pair.1) (outer_pairs crossings (is_of_two c d) state) ((x, y) ∷ (u, v) ∷ []) outer
    (sym (ap f names.x_is) ∙ cs.1 ∙ ap f names.y_is, (sym (ap f names.u_is) ∙ ds.1 ∙ ap f names.v_is, tt)))
    (sym (ap f names.a_first) ∙ cs.0 ∙ ap f names.b_first, tt))
    (λ f respects.
    let front = all_first (λ pair. f pair.0 ≡ f pair.1) (turned_in crossings state c d x y u v) ((a, b) ∷ []) respects in
    let last = (all_second (λ pair. f pair.0 ≡ f pair.1) (turned_in crossings state c d x y u v) ((a, b) ∷ []) respects).0 in
    let ends = all_second (λ pair. f pair.0 ≡ f pair.1) (outer_pairs crossings (is_of_two c d) state) ((x, y) ∷ (u, v) ∷ []) front in (
      all_first (λ pair. f pair.0 ≡ f pair.1) (outer_pairs crossings (is_of_two c d) state) ((x, y) ∷ (u, v) ∷ []) front,
      joined-closing f c_slots p (bit state c) names.p_slot c_bit
          (ap f names.a_first ∙ last ∙ sym (ap f names.b_first)) (ap f names.x_is ∙ ends.0 ∙ sym (ap f names.y_is)),
      joined-closing f d_slots q (bit state d) names.q_slot d_bit
          (ap f names.b_second ∙ sym last ∙ sym (ap f names.a_second)) (ap f names.u_is ∙ ends.1.0 ∙ sym (ap f names.v_is)),
    )))) in
    let through_both : (state : ℕ) → bit state c ≡ through_at p → bit state d ≡ through_at q
    → class_count (classes_of n (turned_in crossings state c d x v y u)) ≡ class_count (classes_of n (smoothings_of crossings state)) + 2 =
    λ state c_bit d_bit.
    count-leaves n (turned_in crossings state c d x v y u) a y b x (straight_low state) (straight_a state) (straight_b state) a_low y_low b_low x_low
    names.y_a names.x_b names.a_b names.y_b
    ∙ ap (λ cs. class_count cs + 2)
    (sym
    (smoothed-as crossings n state c d ((turned_in crossings state c d x v y u ++ (a, y) ∷ []) ++ (b, x) ∷ []) twice large names.c_below names.d_below
    (all_low state x v y u y x x_low v_low y_low u_low y_low x_low a b a_low b_low)
    (λ f outer at_c at_d.
    let cs = through-joined f c_slots p (bit state c) names.p_slot c_bit at_c in
    let ds = through-joined f d_slots q (bit state d) names.q_slot d_bit at_d in
    let b_x : f b ≡ f x = sym (ap f names.b_first) ∙ cs.0 ∙ ap f names.x_is in
    let y_a : f y ≡ f a = sym (ap f names.y_is) ∙ cs.1 ∙ ap f names.a_first in
    let a_u : f a ≡ f u = sym (ap f names.a_second) ∙ ds.0 ∙ ap f names.u_is in
    let v_b : f v ≡ f b = sym (ap f names.v_is) ∙ ds.1 ∙ ap f names.b_second in
    packed (λ pair. f pair.0 ≡ f pair.1) (outer_pairs crossings (is_of_two c d) state) (x, v) (y, u) (a, y) (b, x) outer
    (sym b_x ∙ sym v_b) (y_a ∙ a_u) (sym y_a) b_x)
    (λ f respects.
    let un = unpacked (λ pair. f pair.0 ≡ f pair.1) (outer_pairs crossings (is_of_two c d) state) (x, v) (y, u) (a, y) (b, x) respects in (
      un.outer_holds,
      joined-through f c_slots p (bit state c) names.p_slot c_bit
          (ap f names.b_first ∙ un.four ∙ sym (ap f names.x_is)) (ap f names.y_is ∙ sym un.three ∙ sym (ap f names.a_first)),
      joined-through f d_slots q (bit state d) names.q_slot d_bit
          (ap f names.a_second ∙ un.three ∙ un.two ∙ sym (ap f names.u_is))
          (ap f names.v_is ∙ sym un.one ∙ sym un.four ∙ sym (ap f names.b_second)),
    )))) in
    let straight_both : (state : ℕ) → class_count (classes_of n (turned_in crossings state c d x v y u))
    ≡ class_count (classes_of n (straight_pairs crossings (is_of_two c d) ++ outer_pairs crossings (is_of_two c d) state)) + 2 =
    λ state.
    count-leaves n (turned_in crossings state c d x v y u) a x b y (straight_low state) (straight_a state) (straight_b state) a_low x_low b_low y_low
    names.x_a names.y_b names.a_b names.x_b
    ∙ ap (λ cs. class_count cs + 2)
    (sym
    (straight-as crossings n state c d ((turned_in crossings state c d x v y u ++ (a, x) ∷ []) ++ (b, y) ∷ []) twice large names.c_below names.d_below
    (all_low state x v y u x y x_low v_low y_low u_low x_low y_low a b a_low b_low)
    (λ f outer at_c at_d.
    let cs = straight-pass f c_slots p names.p_slot at_c in
    let ds = straight-pass f d_slots q names.q_slot at_d in
    let a_x : f a ≡ f x = sym (ap f names.a_first) ∙ cs.0 ∙ ap f names.x_is in
    let b_y : f b ≡ f y = sym (ap f names.b_first) ∙ cs.1 ∙ ap f names.y_is in
    let b_u : f b ≡ f u = sym (ap f names.b_second) ∙ ds.0 ∙ ap f names.u_is in
    let a_v : f a ≡ f v = sym (ap f names.a_second) ∙ ds.1 ∙ ap f names.v_is in
    packed (λ pair. f pair.0 ≡ f pair.1) (outer_pairs crossings (is_of_two c d) state) (x, v) (y, u) (a, x) (b, y) outer
    (sym a_x ∙ a_v) (sym b_y ∙ b_u) a_x b_y)
    (λ f respects.
    let un = unpacked (λ pair. f pair.0 ≡ f pair.1) (outer_pairs crossings (is_of_two c d) state) (x, v) (y, u) (a, x) (b, y) respects in (
      un.outer_holds,
      pass-straight f c_slots p names.p_slot (ap f names.a_first ∙ un.three ∙ sym (ap f names.x_is))
          (ap f names.b_first ∙ un.four ∙ sym (ap f names.y_is)),
      pass-straight f d_slots q names.q_slot (ap f names.b_second ∙ un.four ∙ un.two ∙ sym (ap f names.u_is))
          (ap f names.a_second ∙ un.three ∙ un.one ∙ sym (ap f names.v_is)),
    )))) in
    record {
      mixed = λ state other same c_bit d_bit c_other d_other.
          omega (
            arith,
            first_mixed state c_bit d_bit,
            second_mixed other c_other d_other,
            ap (λ ps. class_count (classes_of n (ps ++ (x, y) ∷ (u, v) ∷ []))) (outer-same crossings c d state other same),
          );
      more = λ state other same c_bit d_bit c_other d_other.
          omega (
            arith,
            first_mixed state c_bit d_bit,
            closed_both other c_other d_other,
            ap (λ ps. class_count (classes_of n (ps ++ (x, y) ∷ (u, v) ∷ []))) (outer-same crossings c d state other same),
          );
      straight = λ state c_bit d_bit. omega (arith, through_both state c_bit d_bit, straight_both state);
    }
