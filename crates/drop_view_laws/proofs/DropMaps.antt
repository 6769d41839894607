-- Circles before and after crossings are dropped. Some arcs are sides, which meet no crossing that stays. One map moves each side to
-- an arc of its class that is no side, and circles of the state before are kept straight through the dropped crossings under this map;
-- so what is on one circle after is on one before. Another map moves each side so that the smoothings of the dropped crossings join
-- numbers that are on one circle after; so what is on one circle before is on one after.
use Rattle.std.proofs.Common.{◌≡◌, ℕ, inl, inr, ◌⊎◌, ◌+◌, ◌<◌, ◌≤◌, ◌∙◌, length, map, sym, ap, subst, arith, Bool, true}
use Rattle.std.specs.Prelude.{slice_index}
use Rattle.std.specs.List.{range_with_len}
use Rattle.std.proofs.lemmas.Bool.{cases_Bool}
use Rattle.kh_types.specs.Bits.{bit}
use Rattle.kh_types.specs.Circles.{circle_of, circles_of, smoothing_of}
use Rattle.kh_types.specs.Classes.{Respects}
use Rattle.kh_types.specs.CircleNumbers.{IsName}
use Rattle.kh_types.specs.Code.{Code, arc_count}
use Rattle.kh_types.specs.Darts.{HasArcsTwice}
use Rattle.kh_types.proofs.AcceptedLemmas.{HasArcsTwice-directed}
use Rattle.code_passes.specs.Parts.{ArePaired, slots_in}
use Rattle.gluing_laws.specs.Arcs.{arc_by_place}
use Rattle.orient_arcs.specs.Renumbered.{number_in, renumber}
use Rattle.orient_arcs.proofs.Bridge.{IsDirected-renumbered}
use Rattle.kink_and_finger_laws.specs.DropCircles.{joined_at}
use Rattle.kink_and_finger_laws.specs.Drops.{dropped, kept_places, straight_names}
use Rattle.kink_and_finger_laws.proofs.KeptCodes.{arc_by_place-below, straight-finest}
use Rattle.kink_and_finger_laws.proofs.StandingNames.{arc_by_place-positive}
use Rattle.drop_view_laws.specs.DropViews.{AreNumbered, AreOneOutside, AreSeenAlike}
use Rattle.view_laws.specs.Views.{AreTogether}
use Rattle.drop_view_laws.specs.NamesLeft.{names_left, number_left, straight_name}
use Rattle.drop_view_laws.proofs.CircleMaps.{carried, joined-there, smoothing-onto}
use Rattle.drop_view_laws.proofs.LeftNames as names
use Rattle.drop_view_laws.proofs.LeftNames.{name_of}

-- sides are moved off, each to an arc of its class that is no side
pub record MovesOff (code : Code) (gone : ℕ → Bool) (IsSide : ℕ → Type 0) (off : ℕ → ℕ) : Type 0 where
  pub same : (x : ℕ) → (IsSide x → ⊥) → off x ≡ x
  pub none : (x : ℕ) → IsSide (off x) → ⊥
  pub is_name : (x : ℕ) → IsName code x → IsName code (off x)
  pub class : (x : ℕ) → IsName code x → straight_name code gone (off x) ≡ straight_name code gone x

-- the circles of a state are kept straight through dropped crossings, under a map
abbrev pub KeepsStraight : Code → (ℕ → Bool) → (ℕ → ℕ) → ℕ → Type 0
KeepsStraight code gone off state =
    (place : ℕ) → place < length code.crossings → gone place ≡ true
    → (circle_of (circles_of code state) (off (arc_by_place code.crossings place 0))
    ≡ circle_of (circles_of code state) (off (arc_by_place code.crossings place 2)))
    × (circle_of (circles_of code state) (off (arc_by_place code.crossings place 1))
    ≡ circle_of (circles_of code state) (off (arc_by_place code.crossings place 3)))

-- the smoothings of dropped crossings join what is on one circle after, under a map
abbrev pub KeepsJoined : Code → (ℕ → Bool) → (ℕ → ℕ) → ℕ → ℕ → Type 0
KeepsJoined code gone other state new_state =
    (place : ℕ) → place < length code.crossings → gone place ≡ true
    → Respects (λ z. circle_of (circles_of (renumber (dropped code gone)) new_state) (number_left code gone (other z)))
    (joined_at code.crossings state place)

module _ (code : Code) (gone : ℕ → Bool) (kept : ℕ → ℕ) (k : ℕ) (twice : HasArcsTwice code.crossings)
    (places : kept_places code.crossings gone ≡ map kept (range_with_len 0 k))
    (kept_below : (i : ℕ) → i < k → kept i < length code.crossings)
    (paired : ArePaired (dropped code gone)) (IsSide : ℕ → Type 0) (off : ℕ → ℕ) (moves : MovesOff code gone IsSide off)
    (outer : (i slot : ℕ) → i < k → slot < 4 → IsSide (arc_by_place code.crossings (kept i) slot) → ⊥) where
  new_twice : HasArcsTwice (renumber (dropped code gone)).crossings
  new_twice = HasArcsTwice-directed (renumber (dropped code gone)).crossings (IsDirected-renumbered (dropped code gone) paired)

  size-new : length (renumber (dropped code gone)).crossings ≡ k
  size-new = names.size-new code gone kept k twice places kept_below paired

  pub numbered-dropped : AreNumbered code (renumber (dropped code gone)) IsSide (number_left code gone)
  numbered-dropped = record {
    within = names.number-within code gone kept k twice places kept_below paired;
    onto = λ number is.
        let there = names.name_of-in code gone kept k twice places kept_below paired number is in
        let own = names.names-straight code gone kept k twice places kept_below paired (name_of code gone number) there in (
          off (name_of code gone number),
          moves.is_name (name_of code gone number) own.is_name,
          moves.none (name_of code gone number),
          ap (number_in (names_left code gone)) (moves.class (name_of code gone number) own.is_name ∙ own.straight)
              ∙ names.name_of-number code gone kept k twice places kept_below paired number is,
        );
  }

  -- an arc at a slot is a name
  slot-name : (place slot : ℕ) → place < length code.crossings → slot < 4 → IsName code (arc_by_place code.crossings place slot)
  slot-name place slot below slot_below =
      let low = arc_by_place-below code.crossings place slot twice below slot_below in
      record {
        positive = arc_by_place-positive code.crossings place slot twice below slot_below;
        within = omega (arith, low);
      }

  -- an arc is on the circle of the arc by which it goes, both moved off
  circle-straight : (state : ℕ) → KeepsStraight code gone off state → (x : ℕ) → IsName code x
      → circle_of (circles_of code state) (off (straight_name code gone x)) ≡ circle_of (circles_of code state) (off x)
  circle-straight state keeps x is = elim (arc_or_loop x (arc_count code.crossings + 1)) [
    | inl below ↦
        let least = names.class-least code gone kept k twice places kept_below paired x below in
        ap (λ z. circle_of (circles_of code state) (off z)) (names.straight-arc code gone kept k twice places kept_below paired x below)
        ∙ straight-finest code.crossings gone (λ z. circle_of (circles_of code state) (off z)) twice keeps
        (slice_index (straight_names code.crossings gone) x) x (omega (arith, least, below)) below
        (names.class-own code gone kept k twice places kept_below paired x below)
    | inr from ↦
        ap (λ z. circle_of (circles_of code state) (off z)) (names.straight-loop code gone kept k twice places kept_below paired x from)
  ]
    where
      arc_or_loop : (x n : ℕ) → (x < n) ⊎ (n ≤ x)
      arc_or_loop x n = grind arith

  circle-number : (state : ℕ) → KeepsStraight code gone off state → (x : ℕ) → IsName code x → (IsSide x → ⊥)
      → circle_of (circles_of code state) (off (name_of code gone (number_left code gone x))) ≡ circle_of (circles_of code state) x
  circle-number state keeps x is no_side =
      ap (λ z. circle_of (circles_of code state) (off z)) (names.number-name_of code gone kept k twice places kept_below paired x is)
      ∙ circle-straight state keeps x is ∙ ap (circle_of (circles_of code state)) (moves.same x no_side)

  -- what is on one circle after is on one circle before
  pub seen-back : (state new_state : ℕ) → AreOneOutside kept k state new_state → KeepsStraight code gone off state
      → (x y : ℕ) → IsName code x → IsName code y → (IsSide x → ⊥) → (IsSide y → ⊥)
      → AreTogether (renumber (dropped code gone)) new_state (number_left code gone x) (number_left code gone y)
      → AreTogether code state x y
  seen-back state new_state agree keeps x y x_is y_is x_off y_off same =
      let x_within = (names.number-within code gone kept k twice places kept_below paired x x_is).within in
      let y_within = (names.number-within code gone kept k twice places kept_below paired y y_is).within in
      sym (circle-number state keeps x x_is x_off)
      ∙ carried (renumber (dropped code gone)) new_state (λ m. circle_of (circles_of code state) (off (name_of code gone m))) new_twice
      (λ i below.
      let small : i < k = omega (arith, below, size-new) in
      subst (λ (b : ℕ). Respects (λ m. circle_of (circles_of code state) (off (name_of code gone m)))
      (smoothing_of b (slots_in (renumber (dropped code gone)).crossings i)))
      (sym (agree i small))
      (smoothing-onto (λ m. circle_of (circles_of code state) (off (name_of code gone m))) (circle_of (circles_of code state))
      (bit state (kept i))
      (slots_in (renumber (dropped code gone)).crossings i) (slots_in code.crossings (kept i))
      (λ slot slot_below.
      ap (λ m. circle_of (circles_of code state) (off (name_of code gone m)))
      (names.slot-number code gone kept k twice places kept_below paired i slot small slot_below)
      ∙ circle-number state keeps (arc_by_place code.crossings (kept i) slot) (slot-name (kept i) slot (kept_below i small) slot_below)
      (outer i slot small slot_below))
      (joined-there code state (kept i) twice (kept_below i small))))
      (number_left code gone x) (number_left code gone y) (omega (arith, x_within)) (omega (arith, y_within)) same
      ∙ circle-number state keeps y y_is y_off

  -- and what is on one circle before is on one circle after
  at_kept : (state new_state : ℕ) → AreOneOutside kept k state new_state → (f : ℕ → ℕ) (i : ℕ) → i < k
      → ((slot : ℕ) → slot < 4 → f (arc_by_place code.crossings (kept i) slot)
      ≡ circle_of (circles_of (renumber (dropped code gone)) new_state) (number_left code gone (arc_by_place code.crossings (kept i) slot)))
      → Respects f (joined_at code.crossings state (kept i))
  at_kept state new_state agree f i small f_is =
      smoothing-onto f (circle_of (circles_of (renumber (dropped code gone)) new_state)) (bit state (kept i))
      (slots_in code.crossings (kept i)) (slots_in (renumber (dropped code gone)).crossings i)
      (λ slot slot_below.
      f_is slot slot_below
      ∙ ap (circle_of (circles_of (renumber (dropped code gone)) new_state))
      (sym (names.slot-number code gone kept k twice places kept_below paired i slot small slot_below)))
      (subst (λ (b : ℕ). Respects (circle_of (circles_of (renumber (dropped code gone)) new_state))
      (smoothing_of b (slots_in (renumber (dropped code gone)).crossings i)))
      (agree i small) (joined-there (renumber (dropped code gone)) new_state i new_twice (omega (arith, small, size-new))))

  pub seen-onward : (state new_state : ℕ) → AreOneOutside kept k state new_state → (other : ℕ → ℕ)
      → ((x : ℕ) → (IsSide x → ⊥) → other x ≡ x)
      → KeepsJoined code gone other state new_state → (x y : ℕ) → IsName code x → IsName code y → (IsSide x → ⊥) → (IsSide y → ⊥)
      → AreTogether code state x y → AreTogether (renumber (dropped code gone)) new_state (number_left code gone x)
      (number_left code gone y)
  seen-onward state new_state agree other same keeps x y x_is y_is x_off y_off joined =
      let new : ℕ → ℕ = λ m. circle_of (circles_of (renumber (dropped code gone)) new_state) m in
      let f : ℕ → ℕ = λ z. circle_of (circles_of (renumber (dropped code gone)) new_state) (number_left code gone (other z)) in
      sym (ap (λ z. new (number_left code gone z)) (same x x_off))
      ∙ carried code state f twice
      (λ place below.
      elim (cases_Bool (gone place)) [
        | inl is_gone ↦ keeps place below is_gone
        | inr stays ↦
            let found = names.kept-of code gone kept k twice places kept_below paired place below stays in
            subst (λ (q : ℕ). Respects f (joined_at code.crossings state q)) found.2
            (at_kept state new_state agree f found.0 found.1
            (λ slot slot_below.
            ap (λ z. new (number_left code gone z)) (same (arc_by_place code.crossings (kept found.0) slot)
            (outer found.0 slot found.1 slot_below))))
      ]) x y (omega (arith, x_is.within)) (omega (arith, y_is.within)) joined
      ∙ ap (λ z. new (number_left code gone z)) (same y y_off)

  pub seen-dropped : (state new_state : ℕ) → AreOneOutside kept k state new_state → KeepsStraight code gone off state → (other : ℕ → ℕ)
      → ((x : ℕ) → (IsSide x → ⊥) → other x ≡ x) → KeepsJoined code gone other state new_state
      → AreSeenAlike code (renumber (dropped code gone)) IsSide (number_left code gone) state new_state
  seen-dropped state new_state agree straight other same joined x y x_is y_is x_off y_off = (
    seen-onward state new_state agree other same joined x y x_is y_is x_off y_off,
    seen-back state new_state agree straight x y x_is y_is x_off y_off,
  )
