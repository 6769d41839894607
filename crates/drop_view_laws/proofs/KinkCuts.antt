-- A kink brought to the front: the views before and after it is dropped.
use Rattle.std.proofs.Common.{◌≡◌, ◌≢◌, ℕ, suc, ◌⊎◌, inl, inr, ◌+◌, ◌-◌, ◌*◌, ◌/◌, ◌%◌, ◌^◌, ◌<◌, ◌≤◌, ◌∙◌, [], length, refl, sym, ap, subst, arith, Bool, true, false, cond, IsTrue}
use Rattle.std.specs.Prelude.{nat_eq}
use Rattle.std.proofs.lemmas.Nat.Bits.{bit_at_lowest}
use Rattle.kh_types.specs.Acceptance.{accepted}
use Rattle.kh_types.specs.Bits.{bit}
use Rattle.kh_types.specs.Circles.{circles_of}
use Rattle.kh_types.specs.Code.{Code}
use Rattle.kh_types.specs.Darts.{HasArcsTwice}
use Rattle.kh_types.proofs.AcceptedLemmas.{HasArcsTwice-accepted}
use Rattle.order_laws.proofs.AnyOrder.{accepted-reordered}
use Rattle.order_laws.proofs.Reordered.{first-reordered}
use Rattle.gluing_laws.specs.Arcs.{arc_by_place}
use Rattle.orient_arcs.specs.Renumbered.{renumber}
use Rattle.kink_and_finger_laws.specs.DropCircles.{closing_at, through_at}
use Rattle.kink_and_finger_laws.specs.Dropping.{HasKinkAt}
use Rattle.kink_and_finger_laws.specs.Drops.{without_kink}
use Rattle.kink_and_finger_laws.specs.Pulls.{early}
use Rattle.drop_view_laws.specs.DropViews.{AllShow, AreNumbered, AreSeenAlike, IsCircleOf, IsKinkView, IsOfTwo}
use Rattle.drop_view_laws.specs.DroppedCubes.{IsKinkCut, kink_first}
use Rattle.view_laws.specs.Fronts.{first_to}
use Rattle.drop_view_laws.specs.NamesLeft.{number_left}
use Rattle.drop_view_laws.proofs.ButSides.{IsView-front, IsView-left, SeeAlike-left}
use Rattle.drop_view_laws.proofs.FrontCircles.{bit-home, bit-suc, circles-first, past-early, state_home}
use Rattle.view_laws.proofs.Fronts.{home-suc, home-zero, length-first}
use Rattle.drop_view_laws.proofs.Kinks.{IsKinkView-dropped}
use Rattle.drop_view_laws.proofs.Signs.{AreKinkSigns-dropped}

-- one side twice

twice-off : (a x : ℕ) → (x ≡ a → ⊥) → IsOfTwo a a x → ⊥
twice-off a x off side = elim side [ inl first ↦ off first | inr second ↦ off second ]

off-twice : (a x : ℕ) → (IsOfTwo a a x → ⊥) → x ≡ a → ⊥
off-twice a x off same = off (inl same)

numbered-twice : (code new : Code) (a : ℕ) (number : ℕ → ℕ) → AreNumbered code new (λ x. x ≡ a) number
    → AreNumbered code new (IsOfTwo a a) number
numbered-twice code new a number numbered = record {
  within = numbered.within;
  onto = λ name is. let old = numbered.onto name is in (old.0, old.1, twice-off a old.0 old.2, old.3);
}

seen-twice : (code new : Code) (a : ℕ) (number : ℕ → ℕ) (state new_state : ℕ) → AreSeenAlike code new (λ x. x ≡ a) number state new_state
    → AreSeenAlike code new (IsOfTwo a a) number state new_state
seen-twice code new a number state new_state seen x y x_is y_is x_off y_off = seen x y x_is y_is (off-twice a x x_off) (off-twice a y y_off)

shows-twice : (code : Code) (a state : ℕ) → AllShow code (λ x. x ≡ a) state → AllShow code (IsOfTwo a a) state
shows-twice code a state shows x is = let shown = shows x is in (shown.0, shown.1, twice-off a shown.0 shown.2, shown.3)

circle-twice : (code : Code) (a state : ℕ) → IsCircleOf code (λ x. x ≡ a) state a → IsCircleOf code (IsOfTwo a a) state a
circle-twice code a state circle = record {
  all = λ x side. elim side [ inl first ↦ circle.all x first | inr second ↦ circle.all x second ];
  alone = λ x is same. inl (circle.alone x is same);
}

-- the two values of a bit
pub closing_or_through : (p b : ℕ) → b < 2 → (b ≡ closing_at p) ⊎ (b ≡ through_at p)
closing_or_through p b below = by (nat_eq (p % 2) 0)
  where
    by : (t : Bool) → (b ≡ cond t 0 1) ⊎ (b ≡ cond t 1 0)
    by true = grind (arith, below)
    by false = grind (arith, below)

module _ (code : Code) (c p : ℕ) (is : IsTrue (accepted code)) (kink : HasKinkAt code.crossings c p) where
  twice : HasArcsTwice code.crossings
  twice = HasArcsTwice-accepted code is

  size : length code.crossings ≡ suc (length code.crossings - 1)
  size = omega (arith, kink.below)

  within : c ≤ length code.crossings - 1
  within = omega (arith, kink.below)

  powers : 2 ^ length code.crossings ≡ 2 ^ suc (length code.crossings - 1)
  powers = ap (λ n. 2 ^ n) size

  view : IsKinkView code (renumber (without_kink code c)) c p (number_left code (nat_eq c))
  view = IsKinkView-dropped code c p is kink

  back : ℕ → ℕ
  back state = state_home (length code.crossings - 1) c state

  circles : (state : ℕ) → state < 2 ^ length code.crossings → circles_of (kink_first code c) state ≡ circles_of code (back state)
  unfolding back
  circles state below = circles-first code c (length code.crossings - 1) state twice size within (omega (arith, below, powers))

  bit-kink : (state : ℕ) → state < 2 ^ length code.crossings → bit (back state) c ≡ state % 2
  unfolding back
  bit-kink state below =
      ap (bit (state_home (length code.crossings - 1) c state)) (sym (home-zero c))
      ∙ bit-home (length code.crossings - 1) c state 0 within (omega (arith, below, powers)) (omega arith) ∙ bit_at_lowest state

  bit-other : (state i : ℕ) → state < 2 ^ length code.crossings → i < length code.crossings - 1
      → bit (back state) (early c (length code.crossings - 1) i) ≡ bit (state / 2) i
  unfolding back
  bit-other state i below i_below =
      ap (bit (state_home (length code.crossings - 1) c state)) (past-early c (length code.crossings - 1) i i_below ∙ sym (home-suc c i))
      ∙ bit-home (length code.crossings - 1) c state (suc i) within (omega (arith, below, powers)) (omega (arith, i_below))
      ∙ bit-suc state i

  front_size : length (first_to c code.crossings) ≡ length code.crossings
  front_size = length-first c code.crossings kink.below

  shows : (state : ℕ) → state < 2 ^ length code.crossings → state % 2 ≢ closing_at p
      → AllShow code (IsOfTwo (arc_by_place code.crossings c p) (arc_by_place code.crossings c p)) (back state)
  shows state below other = elim (closing_or_through p (state % 2) (omega arith)) [
    | inl closes ↦ absurd (other closes)
    | inr through ↦
        shows-twice code (arc_by_place code.crossings c p) (back state) (view.through (back state) (bit-kink state below ∙ through))
  ]

  closes-at : (state : ℕ) → state < 2 ^ length code.crossings → state % 2 ≡ closing_at p
      → IsCircleOf code (IsOfTwo (arc_by_place code.crossings c p) (arc_by_place code.crossings c p)) (back state)
      (arc_by_place code.crossings c p)
  closes-at state below closes =
      circle-twice code (arc_by_place code.crossings c p) (back state) (view.closing (back state) (bit-kink state below ∙ closes))

  joint-below : (k inside outside : ℕ) → inside < 2 → outside < 2 ^ k → inside + 2 * outside < 2 ^ suc k
  joint-below k inside outside inside_below below = let e : 2 ^ suc k ≡ 2 * 2 ^ k = double k in omega (arith, inside_below, below, e)
    where
      double : (k : ℕ) → 2 ^ suc k ≡ 2 * 2 ^ k
      double k = grind (arith)

  pub IsKinkCut-dropped : IsKinkCut code (renumber (without_kink code c)) c p
  IsKinkCut-dropped =
      let side = arc_by_place code.crossings c p in
      let signs = AreKinkSigns-dropped code c p is kink in
      record {
        order = first-reordered c code.crossings [] kink.below;
        first_accepted = accepted-reordered code.loops code.crossings (first_to c code.crossings)
            (first-reordered c code.crossings [] kink.below) is;
        view = IsView-front code (kink_first code c) side side front_size refl back circles 1 (closing_at p) (omega (arith, kink.below))
            view.side_is closes-at shows;
        left = IsView-left code (kink_first code c) side side front_size refl back circles (renumber (without_kink code c))
            (number_left code (nat_eq c))
            (numbered-twice code (renumber (without_kink code c)) side (number_left code (nat_eq c)) view.numbered);
        size = signs.size;
        first_size = front_size;
        alike = λ inside outside inside_below below.
            let k_is : length (renumber (without_kink code c)).crossings ≡ length code.crossings - 1 = omega (arith, signs.size) in
            let low : outside < 2 ^ (length code.crossings - 1) = subst (λ (n : ℕ). outside < 2 ^ n) k_is below in
            let joint : inside + 2 * outside < 2 ^ length code.crossings =
            omega (arith, joint-below (length code.crossings - 1) inside outside inside_below low, powers) in
            let half : (inside + 2 * outside) / 2 ≡ outside = omega (arith, inside_below) in
            let first : (inside + 2 * outside) % 2 ≡ inside = omega (arith, inside_below) in
            let none : 0 + 1 * outside ≡ outside = omega arith in
            SeeAlike-left code (kink_first code c) side side front_size refl back circles (renumber (without_kink code c))
            (number_left code (nat_eq c)) 1 (closing_at p) (inside + 2 * outside) (0 + 1 * outside) joint
            (seen-twice code (renumber (without_kink code c)) side (number_left code (nat_eq c)) (back (inside + 2 * outside))
            (0 + 1 * outside)
            (view.seen (back (inside + 2 * outside)) (0 + 1 * outside)
            (λ i i_below. ap (λ s. bit s i) (none ∙ sym half) ∙ sym (bit-other (inside + 2 * outside) i joint i_below))
            (elim (closing_or_through p inside inside_below) [
              | inl closes ↦ inr (bit-kink (inside + 2 * outside) joint ∙ first ∙ closes)
              | inr through ↦ inl (bit-kink (inside + 2 * outside) joint ∙ first ∙ through)
            ])));
      }
