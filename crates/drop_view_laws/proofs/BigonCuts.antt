-- A bigon brought to the front: the views before and after it is dropped.
use Rattle.std.proofs.lemmas.Bool.Decides.{nat_tests}
use Rattle.std.proofs.Common.{◌≡◌, ◌≢◌, ℕ, zero, suc, ◌⊎◌, inl, inr, ◌+◌, ◌-◌, ◌*◌, ◌/◌, ◌%◌, ◌^◌, ◌<◌, ◌≤◌, ◌∙◌, [], length, refl, sym, ap, subst, arith, cond, IsTrue}
use Rattle.std.specs.Prelude.{nat_eq}
use Rattle.std.proofs.lemmas.Nat.Bits.{bit_at_lowest}
use Rattle.kh_types.specs.Acceptance.{accepted}
use Rattle.kh_types.specs.Bits.{bit}
use Rattle.kh_types.specs.Circles.{circles_of}
use Rattle.kh_types.specs.Code.{Code}
use Rattle.kh_types.specs.Darts.{HasArcsTwice}
use Rattle.kh_types.proofs.AcceptedLemmas.{HasArcsTwice-accepted}
use Rattle.order_laws.specs.Orders.{listed_by}
use Rattle.order_laws.proofs.AnyOrder.{accepted-reordered}
use Rattle.order_laws.proofs.Reordered.{first-reordered}
use Rattle.gluing_laws.specs.Arcs.{arc_by_place}
use Rattle.orient_arcs.specs.Renumbered.{renumber}
use Rattle.kink_and_finger_laws.specs.DropCircles.{closing_at, through_at}
use Rattle.kink_and_finger_laws.specs.Dropping.{HasBigonAt}
use Rattle.kink_and_finger_laws.specs.Drops.{is_of_two, without_finger}
use Rattle.kink_and_finger_laws.specs.Pulls.{early, late}
use Rattle.drop_view_laws.specs.DropViews.{AllShow, AreAlikeBut, DifferAt, IsBigonView, IsCircleOf, IsOfTwo, early_two}
use Rattle.drop_view_laws.specs.DroppedCubes.{IsBigonCut, bigon_closing, bigon_first, bigon_through}
use Rattle.drop_view_laws.specs.DroppedFirst.{two_first}
use Rattle.view_laws.specs.Fronts.{first_to, place_behind}
use Rattle.drop_view_laws.specs.NamesLeft.{number_left}
use Rattle.drop_view_laws.proofs.Bigons.{IsBigonView-dropped}
use Rattle.drop_view_laws.proofs.ButSides.{IsView-front, IsView-left, SeeAlike-front, SeeAlike-left}
use Rattle.drop_view_laws.proofs.FrontCircles.{bit-home, bit-suc, circles-first, past-early, state_home, state_home-below}
use Rattle.view_laws.proofs.Fronts.{behind-below, home, home-behind, home-below, home-suc, home-zero, length-first, past, past-first, past-is, past-suc}
use Rattle.drop_view_laws.proofs.KinkCuts.{closing_or_through}
use Rattle.drop_view_laws.proofs.Signs.{AreBigonSigns-dropped}

-- places
behind-late : (c d k : ℕ) → d ≢ c → place_behind c d ≡ suc (late c k d)
behind-late c d k apart = grind (arith, nat_tests)

home-second : (c d : ℕ) → d ≢ c → home c (home (place_behind c d) 1) ≡ c
home-second c d apart =
    let e : 1 ≡ suc 0 = omega arith in
    ap (λ z. home c (home z 1)) (behind-late c d 0 apart) ∙ ap (λ m. home c (home (suc (late c 0 d)) m)) e
    ∙ ap (home c) (home-suc (suc (late c 0 d)) 0 ∙ past-first (late c 0 d)) ∙ home-zero c

home-first : (c d : ℕ) → home c (home (place_behind c d) 0) ≡ d
home-first c d = ap (home c) (home-zero (place_behind c d)) ∙ home-behind c d

home-others : (c d k i : ℕ) → d ≢ c → i < k → home c (home (place_behind c d) (suc (suc i))) ≡ early_two c d k i
home-others c d k i apart below =
    let z = late c (k + 1) d in
    let inner : past (late c (k + 1) d) i < k + 1 = elim (past-is (late c (k + 1) d) i) [
      | inl low ↦ omega (arith, low.1, below)
      | inr high ↦ omega (arith, high.1, below)
    ] in
    ap (λ w. home c (home w (suc (suc i)))) (behind-late c d (k + 1) apart)
    ∙ ap (home c) (home-suc (suc z) (suc i) ∙ past-suc z i) ∙ home-suc c (past (late c (k + 1) d) i)
    ∙ sym (past-early c (k + 1) (past (late c (k + 1) d) i) inner)
    ∙ ap (early c (k + 1)) (sym (past-early (late c (k + 1) d) k i below))

-- the smoothings of two slots of different parity
pub record AreParities (p q : ℕ) : Type 0 where
  pub closing_low : closing_at p < 2
  pub other_closing_low : closing_at q < 2
  pub closing : closing_at q ≡ 1 - closing_at p
  pub through : through_at p ≡ 1 - closing_at p
  pub other_through : through_at q ≡ closing_at p

parities : (p q : ℕ) → (p + q) % 2 ≡ 1 → AreParities p q
parities p q odd = elim (parity p) [
  | inl even ↦
      let q_odd : q % 2 ≡ 1 = omega (arith, odd, even) in
      let c_closing : closing_at p ≡ 0 = ap (λ m. cond (nat_eq m 0) 0 1) even in
      let c_through : through_at p ≡ 1 = ap (λ m. cond (nat_eq m 0) 1 0) even in
      let d_closing : closing_at q ≡ 1 = ap (λ m. cond (nat_eq m 0) 0 1) q_odd in
      let d_through : through_at q ≡ 0 = ap (λ m. cond (nat_eq m 0) 1 0) q_odd in
      record {
        closing_low = omega (arith, c_closing);
        other_closing_low = omega (arith, d_closing);
        closing = omega (arith, c_closing, d_closing);
        through = omega (arith, c_closing, c_through);
        other_through = omega (arith, c_closing, d_through);
      }
  | inr odd_p ↦
      let q_even : q % 2 ≡ 0 = omega (arith, odd, odd_p) in
      let c_closing : closing_at p ≡ 1 = ap (λ m. cond (nat_eq m 0) 0 1) odd_p in
      let c_through : through_at p ≡ 0 = ap (λ m. cond (nat_eq m 0) 1 0) odd_p in
      let d_closing : closing_at q ≡ 0 = ap (λ m. cond (nat_eq m 0) 0 1) q_even in
      let d_through : through_at q ≡ 1 = ap (λ m. cond (nat_eq m 0) 1 0) q_even in
      record {
        closing_low = omega (arith, c_closing);
        other_closing_low = omega (arith, d_closing);
        closing = omega (arith, c_closing, d_closing);
        through = omega (arith, c_closing, c_through);
        other_through = omega (arith, c_closing, d_through);
      }
]
  where
    parity : (x : ℕ) → (x % 2 ≡ 0) ⊎ (x % 2 ≡ 1)
    parity x = grind arith

module _ (code : Code) (c d p q : ℕ) (is : IsTrue (accepted code)) (bigon : HasBigonAt code.crossings c d p q) (p_below : p < 4)
    (q_below : q < 4) where
  size : length code.crossings ≡ suc (suc (length code.crossings - 2))
  size = two (length code.crossings) c d bigon.first_below bigon.second_below bigon.apart
    where
      two : (n c d : ℕ) → c < n → d < n → c ≢ d → n ≡ suc (suc (n - 2))
      two n c d c_below d_below apart = omega (arith, c_below, d_below, apart)

  d_c : d ≢ c
  d_c same = bigon.apart (sym same)

  powers : 2 ^ length code.crossings ≡ 2 ^ suc (suc (length code.crossings - 2))
  powers = ap (λ n. 2 ^ n) size

  view : IsBigonView code (renumber (without_finger code c d)) c d p q (arc_by_place code.crossings c p) (arc_by_place code.crossings d q)
      (number_left code (is_of_two c d))
  view = IsBigonView-dropped code c d p q is bigon p_below q_below

  once_size : length (first_to c code.crossings) ≡ length code.crossings
  once_size = length-first c code.crossings bigon.first_below

  second_below : place_behind c d < length (first_to c code.crossings)
  second_below =
      subst (λ (n : ℕ). place_behind c d < n) (sym once_size)
      (behind-below c d (length code.crossings) bigon.first_below bigon.second_below)

  once_twice : HasArcsTwice (first_to c code.crossings)
  once_twice =
      HasArcsTwice-accepted (listed_by code (first_to c code.crossings))
      (accepted-reordered code.loops code.crossings (first_to c code.crossings) (first-reordered c code.crossings [] bigon.first_below) is)

  front_size : length (two_first c d code.crossings) ≡ length code.crossings
  front_size = length-first (place_behind c d) (first_to c code.crossings) second_below ∙ once_size

  first_within : c ≤ suc (length code.crossings - 2)
  first_within = omega (arith, bigon.first_below, size)

  second_within : place_behind c d ≤ suc (length code.crossings - 2)
  second_within = omega (arith, second_below, once_size, size)

  back : ℕ → ℕ
  back state = state_home (suc (length code.crossings - 2)) c (state_home (suc (length code.crossings - 2)) (place_behind c d) state)

  low : (state : ℕ) → state < 2 ^ length code.crossings → state < 2 ^ suc (suc (length code.crossings - 2))
  low state below = omega (arith, below, powers)

  circles : (state : ℕ) → state < 2 ^ length code.crossings → circles_of (bigon_first code c d) state ≡ circles_of code (back state)
  unfolding back
  circles state below =
      circles-first (listed_by code (first_to c code.crossings)) (place_behind c d) (suc (length code.crossings - 2)) state once_twice
      (once_size ∙ size) second_within (low state below)
      ∙ circles-first code c (suc (length code.crossings - 2)) (state_home (suc (length code.crossings - 2)) (place_behind c d) state)
      (HasArcsTwice-accepted code is) size first_within
      (state_home-below (suc (length code.crossings - 2)) (place_behind c d) state second_within (low state below))

  bit-back : (state m : ℕ) → state < 2 ^ length code.crossings → m < length code.crossings
      → bit (back state) (home c (home (place_behind c d) m)) ≡ bit state m
  unfolding back
  bit-back state m below m_below =
      let m_low : m < suc (suc (length code.crossings - 2)) = omega (arith, m_below, size) in
      let behind_low : place_behind c d < suc (suc (length code.crossings - 2)) = omega (arith, second_within) in
      bit-home (suc (length code.crossings - 2)) c (state_home (suc (length code.crossings - 2)) (place_behind c d) state)
      (home (place_behind c d) m)
      first_within (state_home-below (suc (length code.crossings - 2)) (place_behind c d) state second_within (low state below))
      (home-below (place_behind c d) m (suc (suc (length code.crossings - 2))) behind_low m_low)
      ∙ bit-home (suc (length code.crossings - 2)) (place_behind c d) state m second_within (low state below) m_low

  bit-d : (state : ℕ) → state < 2 ^ length code.crossings → bit (back state) d ≡ state % 2
  bit-d state below =
      ap (bit (back state)) (sym (home-first c d)) ∙ bit-back state 0 below (omega (arith, size)) ∙ bit_at_lowest state

  bit-c : (state : ℕ) → state < 2 ^ length code.crossings → bit (back state) c ≡ state / 2 % 2
  bit-c state below =
      let e : 1 ≡ suc 0 = omega arith in
      ap (bit (back state)) (sym (home-second c d d_c)) ∙ bit-back state 1 below (omega (arith, size))
      ∙ ap (bit state) e ∙ bit-suc state 0 ∙ bit_at_lowest (state / 2)

  bit-others : (state i : ℕ) → state < 2 ^ length code.crossings → i < length code.crossings - 2
      → bit (back state) (early_two c d (length code.crossings - 2) i) ≡ bit (state / 2 / 2) i
  bit-others state i below i_below =
      ap (bit (back state)) (sym (home-others c d (length code.crossings - 2) i d_c i_below))
      ∙ bit-back state (suc (suc i)) below (omega (arith, i_below)) ∙ bit-suc state (suc i) ∙ bit-suc (state / 2) i

  -- states that differ in the two lowest bits alone
  differ : (state other : ℕ) → state < 2 ^ length code.crossings → other < 2 ^ length code.crossings → other / 2 / 2 ≡ state / 2 / 2
      → DifferAt code c d (back state) (back other)
  differ state other below other_below same place place_below not_c not_d =
      let d_1 = place_behind c d in
      let once_behind = behind-below c place (length code.crossings) bigon.first_below place_below in
      let m_low : place_behind d_1 (place_behind c place) < length code.crossings =
      behind-below d_1 (place_behind c place) (length code.crossings) (omega (arith, second_below, once_size)) once_behind in
      let there : home c (home d_1 (place_behind d_1 (place_behind c place))) ≡ place =
      ap (home c) (home-behind d_1 (place_behind c place)) ∙ home-behind c place in
      at (place_behind d_1 (place_behind c place)) m_low there
    where
      at : (m : ℕ) → m < length code.crossings → home c (home (place_behind c d) m) ≡ place → bit (back other) place
          ≡ bit (back state) place
      at zero m_low there = absurd (not_d (sym there ∙ home-first c d))
      at (suc zero) m_low there =
          let e : suc 0 ≡ 1 = omega arith in
          absurd (not_c (sym there ∙ ap (λ m. home c (home (place_behind c d) m)) e ∙ home-second c d d_c))
      at (suc (suc i)) m_low there =
          ap (bit (back other)) (sym there) ∙ bit-back other (suc (suc i)) other_below m_low ∙ bit-suc other (suc i) ∙ bit-suc (other / 2) i
          ∙ ap (λ s. bit s i) same
          ∙ sym (ap (bit (back state)) (sym there) ∙ bit-back state (suc (suc i)) below m_low ∙ bit-suc state (suc i)
          ∙ bit-suc (state / 2) i)

  par : AreParities p q
  par = parities p q bigon.odd

  abbrev side : ℕ
  side = arc_by_place code.crossings c p

  abbrev other_side : ℕ
  other_side = arc_by_place code.crossings d q

  closes-at : (state : ℕ) → state < 2 ^ length code.crossings → state % 4 ≡ bigon_closing p q
      → IsCircleOf code (IsOfTwo side other_side) (back state) side
  closes-at state below closes =
      let c_is : state / 2 % 2 ≡ closing_at p = omega (arith, closes, par.closing_low, par.other_closing_low) in
      let d_is : state % 2 ≡ closing_at q = omega (arith, closes, par.closing_low, par.other_closing_low) in
      view.closing (back state) (bit-c state below ∙ c_is) (bit-d state below ∙ d_is)

  shows : (state : ℕ) → state < 2 ^ length code.crossings → state % 4 ≢ bigon_closing p q
      → AllShow code (IsOfTwo side other_side) (back state)
  shows state below other = elim (closing_or_through p (state / 2 % 2) (omega arith)) [
    | inl c_closes ↦ elim (closing_or_through q (state % 2) (omega arith)) [
      | inl d_closes ↦ absurd (other (omega (arith, c_closes, d_closes)))
      | inr d_through ↦ view.first_shows (back state) (bit-c state below ∙ c_closes) (bit-d state below ∙ d_through)
    ]
    | inr c_through ↦ elim (closing_or_through q (state % 2) (omega arith)) [
      | inl d_closes ↦ view.second_shows (back state) (bit-c state below ∙ c_through) (bit-d state below ∙ d_closes)
      | inr d_through ↦ view.through_shows (back state) (bit-c state below ∙ c_through) (bit-d state below ∙ d_through)
    ]
  ]

  joint-below : (k inside outside : ℕ) → inside < 4 → outside < 2 ^ k → inside + 4 * outside < 2 ^ suc (suc k)
  joint-below k inside outside inside_below below =
      let e : 2 ^ suc (suc k) ≡ 2 * 2 ^ suc k = double (suc k) in
      let f : 2 ^ suc k ≡ 2 * 2 ^ k = double k in
      omega (arith, inside_below, below, e, f)
    where
      double : (k : ℕ) → 2 ^ suc k ≡ 2 * 2 ^ k
      double k = grind (arith)

  -- an inner state other than the one that closes both, at which one crossing closes
  mixed : (state other : ℕ) → state < 2 ^ length code.crossings → other < 2 ^ length code.crossings → other / 2 / 2 ≡ state / 2 / 2
      → state % 4 ≡ bigon_closing p q → other % 2 ≡ other / 2 % 2 → AreAlikeBut code (IsOfTwo side other_side) (back state) (back other)
  mixed state other below other_below same closes both =
      let c_is : state / 2 % 2 ≡ closing_at p = omega (arith, closes, par.closing_low, par.other_closing_low) in
      let d_is : state % 2 ≡ closing_at q = omega (arith, closes, par.closing_low, par.other_closing_low) in
      elim (closing_or_through p (other / 2 % 2) (omega arith)) [
        | inl c_closes ↦
            view.first_mixed (back state) (back other) (differ state other below other_below same) (bit-c state below ∙ c_is)
            (bit-d state below ∙ d_is) (bit-c other other_below ∙ c_closes)
            (bit-d other other_below ∙ both ∙ c_closes ∙ sym par.other_through)
        | inr c_through ↦
            view.second_mixed (back state) (back other) (differ state other below other_below same) (bit-c state below ∙ c_is)
            (bit-d state below ∙ d_is) (bit-c other other_below ∙ c_through)
            (bit-d other other_below ∙ both ∙ c_through ∙ par.through ∙ sym par.closing)
      ]

  pub IsBigonCut-dropped : IsBigonCut code (renumber (without_finger code c d)) c d p q
  IsBigonCut-dropped =
      let signs = AreBigonSigns-dropped code c d p q is bigon in
      let k_is : length (renumber (without_finger code c d)).crossings ≡ length code.crossings - 2 = omega (arith, signs.size) in
      let joint : (inside outside : ℕ) → inside < 4 → outside < 2 ^ length (renumber (without_finger code c d)).crossings
      → inside + 4 * outside < 2 ^ length code.crossings =
      λ inside outside inside_below below.
      let small : outside < 2 ^ (length code.crossings - 2) = subst (λ (n : ℕ). outside < 2 ^ n) k_is below in
      omega (arith, joint-below (length code.crossings - 2) inside outside inside_below small, powers) in
      let closing_low : bigon_closing p q < 4 = omega (arith, par.closing_low, par.other_closing_low) in
      let alike : (inside outside : ℕ) → inside < 4 → inside % 2 ≡ inside / 2 % 2
      → outside < 2 ^ length (renumber (without_finger code c d)).crossings
      → AreAlikeBut code (IsOfTwo side other_side) (back (bigon_closing p q + 4 * outside)) (back (inside + 4 * outside)) =
      λ inside outside inside_below both below.
      mixed (bigon_closing p q + 4 * outside) (inside + 4 * outside) (joint (bigon_closing p q) outside closing_low below)
      (joint inside outside inside_below below) (omega (arith, inside_below, closing_low)) (omega (arith, closing_low))
      (omega (arith, both, inside_below)) in
      record {
        order = (
          first-reordered c code.crossings [] bigon.first_below,
          first-reordered (place_behind c d) (first_to c code.crossings) [] second_below,
        );
        first_accepted = accepted-reordered code.loops (first_to c code.crossings) (two_first c d code.crossings)
            (first-reordered (place_behind c d) (first_to c code.crossings) [] second_below)
            (accepted-reordered code.loops code.crossings (first_to c code.crossings) (first-reordered c code.crossings [] bigon.first_below)
            is);
        view = IsView-front code (bigon_first code c d) side other_side front_size refl back circles 2 (bigon_closing p q)
            (omega (arith, size))
            view.first_side closes-at shows;
        left = IsView-left code (bigon_first code c d) side other_side front_size refl back circles (renumber (without_finger code c d))
            (number_left code (is_of_two c d)) view.numbered;
        size = signs.size;
        first_size = front_size;
        one_bit = one_of_two (closing_at p) (closing_at q) par.closing_low par.closing;
        other_bit = omega (arith, par.closing_low, par.closing, par.through, par.other_through);
        zero_alike = λ outside below.
            SeeAlike-front code (bigon_first code c d) side other_side front_size refl back circles 2 (bigon_closing p q)
            (bigon_closing p q + 4 * outside) (0 + 4 * outside) (joint (bigon_closing p q) outside closing_low below)
            (joint 0 outside (omega arith) below) (alike 0 outside (omega arith) (omega arith) below);
        three_alike = λ outside below.
            SeeAlike-front code (bigon_first code c d) side other_side front_size refl back circles 2 (bigon_closing p q)
            (bigon_closing p q + 4 * outside) (3 + 4 * outside) (joint (bigon_closing p q) outside closing_low below)
            (joint 3 outside (omega arith) below) (alike 3 outside (omega arith) (omega arith) below);
        fourth_alike = λ outside below.
            let s = bigon_through p q + 4 * outside in
            let through_low : bigon_through p q < 4 = omega (arith, par.closing_low, par.through, par.other_through) in
            let s_low = joint (bigon_through p q) outside through_low below in
            let d_is : (bigon_through p q + 4 * outside) % 2 ≡ through_at q = omega
            (arith, par.closing_low, par.through, par.other_through) in
            let c_is : (bigon_through p q + 4 * outside) / 2 % 2 ≡ through_at p = omega
            (arith, par.closing_low, par.through, par.other_through) in
            let half : (bigon_through p q + 4 * outside) / 2 / 2 ≡ outside = omega (arith, through_low) in
            let none : 0 + 1 * outside ≡ outside = omega arith in
            SeeAlike-left code (bigon_first code c d) side other_side front_size refl back circles (renumber (without_finger code c d))
            (number_left code (is_of_two c d)) 2 (bigon_closing p q) (bigon_through p q + 4 * outside) (0 + 1 * outside) s_low
            (view.seen (back s) (0 + 1 * outside)
            (λ i i_below. ap (λ t. bit t i) (none ∙ sym half) ∙ sym (bit-others s i s_low i_below))
            (bit-c s s_low ∙ c_is) (bit-d s s_low ∙ d_is));
      }
    where
      one_of_two : (x y : ℕ) → x < 2 → y ≡ 1 - x → (y + 2 * x ≡ 1) ⊎ (y + 2 * x ≡ 2)
      one_of_two x y below is = grind (arith, below, is)
