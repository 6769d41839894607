-- What both codes of a slide show at the states of the triangle.
use Rattle.std.proofs.lemmas.Bool.Decides.{nat_tests}
use Rattle.std.proofs.Common.{◌≡◌, ◌≢◌, ℕ, ◌+◌, ◌*◌, ◌<◌, ◌≤◌, List, [], ◌∷◌, length, refl, sym, ap₂, subst, arith, true, not}
use Rattle.std.specs.Prelude.{slice_index_or, nat_lt}
use Rattle.std.specs.List.{filter, list_all, range_with_len}
use Rattle.std.proofs.lemmas.Bool.{ltb-true}
use Rattle.kh_types.specs.Code.{Code, arc_in}
use Rattle.kh_types.specs.Darts.{HasArcsTwice}
use Rattle.kh_types.proofs.Ranges.{below_four}
use Rattle.kh_types.proofs.RangeCounts.{list_all-at}
use Rattle.gluing_laws.specs.Slides.{triangle_before, triangle_after, quadruple_from, ends_joined}
use Rattle.gluing_laws.specs.SlidCodes.{Shows, IsSlid}
use Rattle.view_laws.specs.Views.{View, IsView, SeeAlike}
use Rattle.layer_laws.specs.Slid.{kind_before, kind_after}
use Rattle.slide_view_laws.specs.Together.{AreJoinedAlike}
use Rattle.slide_view_laws.specs.Triangles.{closing, across, changed_at, IsStateAt, SidesClose, SidesShow}
use Rattle.slide_view_laws.specs.SlideViews.{is_side, slide_view}
use Rattle.slide_view_laws.proofs.TableFacts.{SlideTurns, SlideTurns-table, HasKinds-table}
use Rattle.slide_view_laws.proofs.SeenCircles.{HasClosing, SidesClose-code, SidesShow-code, AreSeenAlike-codes}
use Rattle.slide_view_laws.proofs.Views.{IsStateAt-first, IsView-triangle, SeeAlike-seen}
use Rattle.view_laws.specs.Fronts.{closed_one}
use Rattle.kink_and_finger_laws.proofs.StandingNames.{arc_by_place-positive}

-- states are below 8

pub closing-below : (p q r : ℕ) → closing p q r < 8
closing-below p q r = omega arith

pub across-below : (p q r : ℕ) → across p q r < 8
across-below p q r = omega arith

all_changed : list_all (λ place. list_all (λ state. nat_lt (changed_at place state) 8) (range_with_len 0 8)) (range_with_len 0 3) ≡ true
all_changed = refl

pub changed-below : (place state : ℕ) → place < 3 → state < 8 → changed_at place state < 8
changed-below place state place_below state_below =
    ltb-true (changed_at place state) 8
    (list_all-at (λ s. nat_lt (changed_at place s) 8) 0 8 state
    (list_all-at (λ k. list_all (λ s. nat_lt (changed_at k s) 8) (range_with_len 0 8)) 0 3 place all_changed (omega arith)
    (omega (arith, place_below)))
    (omega arith) (omega (arith, state_below)))

-- the ends are arcs

ends-shown : (arcs : ℕ → ℕ) (quadruple : List ℕ) (a b c d p : ℕ) → p < 4 → Shows arcs quadruple (quadruple_from p (a ∷ b ∷ c ∷ d ∷ []))
    → ((slot : ℕ) → slot < 4 → 1 ≤ arc_in quadruple slot) → (1 ≤ arcs c) × (1 ≤ arcs d)
ends-shown arcs quadruple a b c d p p_below =
    let Claim : ℕ → Type 0 = λ k. Shows arcs quadruple (quadruple_from k (a ∷ b ∷ c ∷ d ∷ []))
    → ((slot : ℕ) → slot < 4 → 1 ≤ arc_in quadruple slot) → (1 ≤ arcs c) × (1 ≤ arcs d) in
    let at = λ (slot : ℕ) (x : ℕ) (below : slot < 4) (shows : arc_in quadruple slot ≡ arcs x) (some : 1 ≤ arc_in quadruple slot).
    subst (λ (k : ℕ). 1 ≤ k) shows some in
    below_four Claim
    (λ shows some. (
      at 2 c (omega arith) (shows 2 (omega arith)) (some 2 (omega arith)),
      at 3 d (omega arith) (shows 3 (omega arith)) (some 3 (omega arith)),
    ))
    (λ shows some. (
      at 3 c (omega arith) (shows 3 (omega arith)) (some 3 (omega arith)),
      at 0 d (omega arith) (shows 0 (omega arith)) (some 0 (omega arith)),
    ))
    (λ shows some. (
      at 0 c (omega arith) (shows 0 (omega arith)) (some 0 (omega arith)),
      at 1 d (omega arith) (shows 1 (omega arith)) (some 1 (omega arith)),
    ))
    (λ shows some. (
      at 1 c (omega arith) (shows 1 (omega arith)) (some 1 (omega arith)),
      at 2 d (omega arith) (shows 2 (omega arith)) (some 2 (omega arith)),
    ))
    p p_below

six : (P : ℕ → Type 0) → P 1 → P 2 → P 3 → P 4 → P 5 → P 6 → (i : ℕ) → 1 ≤ i → i < 7 → P i
six P a b c d e f i from below = grind (arith, nat_tests)

module _ (old new : Code) (c d e p q r : ℕ) (arcs : ℕ → ℕ) (slid : IsSlid old new c d e p q r arcs) where
  abbrev before : List (List ℕ)
  before = triangle_before p q r

  abbrev after : List (List ℕ)
  after = triangle_after p q r

  turns : SlideTurns p q r
  turns = SlideTurns-table p q r slid.p_below slid.q_below slid.r_below

  size : length new.crossings ≡ length old.crossings
  size = slid.size

  pub HasClosing-old : HasClosing old (slice_index_or (triangle_before p q r) 0 []) (slice_index_or (triangle_before p q r) 1 [])
      (slice_index_or (triangle_before p q r) 2 []) arcs c d e (closing p q r)
  HasClosing-old =
      record { triangle = slid.before; c_below = slid.c_below; d_below = slid.d_below; e_below = slid.e_below; closes = turns.before }

  pub HasClosing-new : HasClosing new (slice_index_or (triangle_after p q r) 0 []) (slice_index_or (triangle_after p q r) 1 [])
      (slice_index_or (triangle_after p q r) 2 []) arcs c d e (closing p q r)
  HasClosing-new =
      record {
        triangle = slid.after;
        c_below = omega (arith, slid.c_below, size);
        d_below = omega (arith, slid.d_below, size);
        e_below = omega (arith, slid.e_below, size);
        closes = turns.after;
      }

  pub ends-positive : HasArcsTwice old.crossings → (i : ℕ) → 1 ≤ i → i < 7 → 1 ≤ arcs i
  ends-positive twice =
      let slots = λ (place : ℕ) (below : place < length old.crossings) (slot : ℕ) (slot_below : slot < 4).
      arc_by_place-positive old.crossings place slot twice below slot_below in
      let first = ends-shown arcs (slice_index_or old.crossings c []) 7 9 1 2 p slid.p_below slid.before.first (slots c slid.c_below) in
      let second = ends-shown arcs (slice_index_or old.crossings d []) 8 7 3 4 q slid.q_below slid.before.second (slots d slid.d_below) in
      let third = ends-shown arcs (slice_index_or old.crossings e []) 9 8 5 6 r slid.r_below slid.before.third (slots e slid.e_below) in
      six (λ i. 1 ≤ arcs i) first.0 first.1 second.0 second.1 third.0 third.1

  -- the circle of the sides

  pub close-old : (n base state : ℕ) → IsStateAt n c d e base state (closing p q r) → SidesClose old arcs state
  close-old n base state at =
      SidesClose-code old (slice_index_or (triangle_before p q r) 0 []) (slice_index_or (triangle_before p q r) 1 [])
      (slice_index_or (triangle_before p q r) 2 []) arcs n c d e (closing p q r) HasClosing-old base state (closing p q r)
      (closing-below p q r) at refl

  pub close-new : (n base state : ℕ) → IsStateAt n c d e base state (closing p q r) → SidesClose new arcs state
  close-new n base state at =
      SidesClose-code new (slice_index_or (triangle_after p q r) 0 []) (slice_index_or (triangle_after p q r) 1 [])
      (slice_index_or (triangle_after p q r) 2 []) arcs n c d e (closing p q r) HasClosing-new base state (closing p q r)
      (closing-below p q r) at refl

  pub show-old : (n base state inner : ℕ) → inner < 8 → inner ≢ closing p q r → IsStateAt n c d e base state inner
      → SidesShow old arcs state
  show-old n base state inner below differs at =
      SidesShow-code old (slice_index_or (triangle_before p q r) 0 []) (slice_index_or (triangle_before p q r) 1 [])
      (slice_index_or (triangle_before p q r) 2 []) arcs n c d e (closing p q r) HasClosing-old base state inner below at differs

  pub show-new : (n base state inner : ℕ) → inner < 8 → inner ≢ closing p q r → IsStateAt n c d e base state inner
      → SidesShow new arcs state
  show-new n base state inner below differs at =
      SidesShow-code new (slice_index_or (triangle_after p q r) 0 []) (slice_index_or (triangle_after p q r) 1 [])
      (slice_index_or (triangle_after p q r) 2 []) arcs n c d e (closing p q r) HasClosing-new base state inner below at differs

  -- states that join the ends alike

  old-old : (n base state inner other other_inner : ℕ) → inner < 8 → other_inner < 8 → IsStateAt n c d e base state inner
      → IsStateAt n c d e base other other_inner
      → ends_joined (triangle_before p q r) inner ≡ ends_joined (triangle_before p q r) other_inner
      → AreJoinedAlike arcs old state old other
  old-old n base state inner other other_inner below other_below at at_too joined =
      AreSeenAlike-codes old (slice_index_or (triangle_before p q r) 0 []) (slice_index_or (triangle_before p q r) 1 [])
      (slice_index_or (triangle_before p q r) 2 []) old (slice_index_or (triangle_before p q r) 0 [])
      (slice_index_or (triangle_before p q r) 1 []) (slice_index_or (triangle_before p q r) 2 []) arcs n c d e (closing p q r)
      (closing p q r) HasClosing-old HasClosing-old refl refl (λ place slot place_below slot_below not_c not_d not_e. refl)
      base state inner other other_inner below other_below at at_too joined

  new-new : (n base state inner other other_inner : ℕ) → inner < 8 → other_inner < 8 → IsStateAt n c d e base state inner
      → IsStateAt n c d e base other other_inner
      → ends_joined (triangle_after p q r) inner ≡ ends_joined (triangle_after p q r) other_inner → AreJoinedAlike arcs new state new other
  new-new n base state inner other other_inner below other_below at at_too joined =
      AreSeenAlike-codes new (slice_index_or (triangle_after p q r) 0 []) (slice_index_or (triangle_after p q r) 1 [])
      (slice_index_or (triangle_after p q r) 2 []) new (slice_index_or (triangle_after p q r) 0 [])
      (slice_index_or (triangle_after p q r) 1 []) (slice_index_or (triangle_after p q r) 2 []) arcs n c d e (closing p q r)
      (closing p q r) HasClosing-new HasClosing-new refl refl (λ place slot place_below slot_below not_c not_d not_e. refl)
      base state inner other other_inner below other_below at at_too joined

  old-new : (n base state inner other other_inner : ℕ) → inner < 8 → other_inner < 8 → IsStateAt n c d e base state inner
      → IsStateAt n c d e base other other_inner
      → ends_joined (triangle_before p q r) inner ≡ ends_joined (triangle_after p q r) other_inner → AreJoinedAlike arcs old state new other
  old-new n base state inner other other_inner below other_below at at_too joined =
      AreSeenAlike-codes old (slice_index_or (triangle_before p q r) 0 []) (slice_index_or (triangle_before p q r) 1 [])
      (slice_index_or (triangle_before p q r) 2 []) new (slice_index_or (triangle_after p q r) 0 [])
      (slice_index_or (triangle_after p q r) 1 []) (slice_index_or (triangle_after p q r) 2 []) arcs n c d e (closing p q r)
      (closing p q r) HasClosing-old HasClosing-new slid.size slid.loops
      (λ place slot place_below slot_below not_c not_d not_e. slid.others place slot place_below slot_below not_c not_d not_e)
      base state inner other other_inner below other_below at at_too joined

  pub neighbours-old : (n base state other place : ℕ) → place < 3 → IsStateAt n c d e base state (changed_at place (closing p q r))
      → IsStateAt n c d e base other (closing p q r) → AreJoinedAlike arcs old state old other
  neighbours-old n base state other place below at at_too =
      old-old n base state (changed_at place (closing p q r)) other (closing p q r)
      (changed-below place (closing p q r) below (closing-below p q r)) (closing-below p q r) at at_too
      (turns.before.neighbours place below)

  pub neighbours-new : (n base state other place : ℕ) → place < 3 → IsStateAt n c d e base state (changed_at place (closing p q r))
      → IsStateAt n c d e base other (closing p q r) → AreJoinedAlike arcs new state new other
  neighbours-new n base state other place below at at_too =
      new-new n base state (changed_at place (closing p q r)) other (closing p q r)
      (changed-below place (closing p q r) below (closing-below p q r)) (closing-below p q r) at at_too (turns.after.neighbours place below)

  pub across-old : (n base state other : ℕ) → IsStateAt n c d e base state (across p q r)
      → IsStateAt n c d e base other (closing p q r) → AreJoinedAlike arcs old state new other
  across-old n base state other at at_too =
      old-new n base state (across p q r) other (closing p q r) (across-below p q r) (closing-below p q r) at at_too turns.before_across

  pub across-new : (n base state other : ℕ) → IsStateAt n c d e base state (closing p q r)
      → IsStateAt n c d e base other (across p q r) → AreJoinedAlike arcs old state new other
  across-new n base state other at at_too =
      old-new n base state (closing p q r) other (across p q r) (closing-below p q r) (across-below p q r) at at_too
      (sym turns.after_across)

  pub middle-both : (n base state other place : ℕ) → place < 3 → IsStateAt n c d e base state (changed_at place (across p q r))
      → IsStateAt n c d e base other (changed_at place (across p q r)) → AreJoinedAlike arcs old state new other
  middle-both n base state other place below at at_too =
      old-new n base state (changed_at place (across p q r)) other (changed_at place (across p q r))
      (changed-below place (across p q r) below (across-below p q r)) (changed-below place (across p q r) below (across-below p q r))
      at at_too (turns.middle place below)

  pub kinds-old : (n base state inner other : ℕ) → inner < 8 → IsStateAt n c d e base state inner
      → IsStateAt n c d e base other (kind_before (closing p q r) inner) → AreJoinedAlike arcs old state old other
  kinds-old n base state inner other below at at_too =
      let kinds = HasKinds-table p q r inner slid.p_below slid.q_below slid.r_below below in
      old-old n base state inner other (kind_before (closing p q r) inner) below kinds.before_below at at_too kinds.before

  pub kinds-new : (n base state inner other : ℕ) → inner < 8 → IsStateAt n c d e base state (kind_after (closing p q r) inner)
      → IsStateAt n c d e base other inner → AreJoinedAlike arcs old state new other
  kinds-new n base state inner other below at at_too =
      let kinds = HasKinds-table p q r inner slid.p_below slid.q_below slid.r_below below in
      old-new n base state (kind_after (closing p q r) inner) other inner kinds.after_below below at at_too kinds.after

-- where the triangle stands at the first three crossings
module _ (old new : Code) (p q r : ℕ) (arcs : ℕ → ℕ) (slid : IsSlid old new 0 1 2 p q r arcs) where
  pub IsView-old : HasArcsTwice old.crossings → IsView old (slide_view old arcs (closing p q r))
  IsView-old twice =
      IsView-triangle old (slice_index_or (triangle_before p q r) 0 []) (slice_index_or (triangle_before p q r) 1 [])
      (slice_index_or (triangle_before p q r) 2 []) arcs (closing p q r) (HasClosing-old old new 0 1 2 p q r arcs slid)
      (ends-positive old new 0 1 2 p q r arcs slid twice)

  pub IsView-new : HasArcsTwice old.crossings → IsView new (slide_view new arcs (closing p q r))
  IsView-new twice =
      IsView-triangle new (slice_index_or (triangle_after p q r) 0 []) (slice_index_or (triangle_after p q r) 1 [])
      (slice_index_or (triangle_after p q r) 2 []) arcs (closing p q r) (HasClosing-new old new 0 1 2 p q r arcs slid)
      (ends-positive old new 0 1 2 p q r arcs slid twice)

  -- the two views are one
  pub view-same : slide_view new arcs (closing p q r) ≡ slide_view old arcs (closing p q r)
  view-same =
      let view : ℕ → ℕ → View = λ count loops.
      record {
        inner = 3;
        names = filter (λ x. not (is_side arcs x)) (range_with_len 1 (2 * count + loops));
        arc = λ x. x;
        closed = closed_one (arcs 7) (closing p q r);
      } in
      ap₂ view slid.size slid.loops

  -- what they see

  at : (inner outside : ℕ) → inner < 8 → IsStateAt 3 0 1 2 (8 * outside) (inner + 8 * outside) inner
  at = IsStateAt-first

  pub see-before : (outside place : ℕ) → place < 3
      → SeeAlike old (slide_view old arcs (closing p q r)) (changed_at place (closing p q r) + 8 * outside)
      old (slide_view old arcs (closing p q r)) (closing p q r + 8 * outside)
  see-before outside place below =
      SeeAlike-seen old old arcs (closing p q r) (closing p q r) (changed_at place (closing p q r) + 8 * outside)
      (closing p q r + 8 * outside)
      (neighbours-old old new 0 1 2 p q r arcs slid 3 (8 * outside) (changed_at place (closing p q r) + 8 * outside)
      (closing p q r + 8 * outside) place below
      (at (changed_at place (closing p q r)) outside (changed-below place (closing p q r) below (closing-below p q r)))
      (at (closing p q r) outside (closing-below p q r)))

  pub see-after : (outside place : ℕ) → place < 3
      → SeeAlike new (slide_view new arcs (closing p q r)) (changed_at place (closing p q r) + 8 * outside)
      new (slide_view new arcs (closing p q r)) (closing p q r + 8 * outside)
  see-after outside place below =
      SeeAlike-seen new new arcs (closing p q r) (closing p q r) (changed_at place (closing p q r) + 8 * outside)
      (closing p q r + 8 * outside)
      (neighbours-new old new 0 1 2 p q r arcs slid 3 (8 * outside) (changed_at place (closing p q r) + 8 * outside)
      (closing p q r + 8 * outside) place below
      (at (changed_at place (closing p q r)) outside (changed-below place (closing p q r) below (closing-below p q r)))
      (at (closing p q r) outside (closing-below p q r)))

  pub see-across_before : (outside : ℕ)
      → SeeAlike old (slide_view old arcs (closing p q r)) (across p q r + 8 * outside)
      new (slide_view new arcs (closing p q r)) (closing p q r + 8 * outside)
  see-across_before outside =
      SeeAlike-seen old new arcs (closing p q r) (closing p q r) (across p q r + 8 * outside) (closing p q r + 8 * outside)
      (across-old old new 0 1 2 p q r arcs slid 3 (8 * outside) (across p q r + 8 * outside) (closing p q r + 8 * outside)
      (at (across p q r) outside (across-below p q r)) (at (closing p q r) outside (closing-below p q r)))

  pub see-across_after : (outside : ℕ)
      → SeeAlike old (slide_view old arcs (closing p q r)) (closing p q r + 8 * outside)
      new (slide_view new arcs (closing p q r)) (across p q r + 8 * outside)
  see-across_after outside =
      SeeAlike-seen old new arcs (closing p q r) (closing p q r) (closing p q r + 8 * outside) (across p q r + 8 * outside)
      (across-new old new 0 1 2 p q r arcs slid 3 (8 * outside) (closing p q r + 8 * outside) (across p q r + 8 * outside)
      (at (closing p q r) outside (closing-below p q r)) (at (across p q r) outside (across-below p q r)))

  pub see-middle : (outside place : ℕ) → place < 3
      → SeeAlike old (slide_view old arcs (closing p q r)) (changed_at place (across p q r) + 8 * outside)
      new (slide_view new arcs (closing p q r)) (changed_at place (across p q r) + 8 * outside)
  see-middle outside place below =
      let inner_below = changed-below place (across p q r) below (across-below p q r) in
      SeeAlike-seen old new arcs (closing p q r) (closing p q r) (changed_at place (across p q r) + 8 * outside)
      (changed_at place (across p q r) + 8 * outside)
      (middle-both old new 0 1 2 p q r arcs slid 3 (8 * outside) (changed_at place (across p q r) + 8 * outside)
      (changed_at place (across p q r) + 8 * outside) place below (at (changed_at place (across p q r)) outside inner_below)
      (at (changed_at place (across p q r)) outside inner_below))

  pub see-kind_before : (outside inner : ℕ) → inner < 8
      → SeeAlike old (slide_view old arcs (closing p q r)) (inner + 8 * outside)
      old (slide_view old arcs (closing p q r)) (kind_before (closing p q r) inner + 8 * outside)
  see-kind_before outside inner below =
      let kinds = HasKinds-table p q r inner slid.p_below slid.q_below slid.r_below below in
      SeeAlike-seen old old arcs (closing p q r) (closing p q r) (inner + 8 * outside) (kind_before (closing p q r) inner + 8 * outside)
      (kinds-old old new 0 1 2 p q r arcs slid 3 (8 * outside) (inner + 8 * outside) inner
      (kind_before (closing p q r) inner + 8 * outside) below (at inner outside below)
      (at (kind_before (closing p q r) inner) outside kinds.before_below))

  pub see-kind_after : (outside inner : ℕ) → inner < 8
      → SeeAlike old (slide_view old arcs (closing p q r)) (kind_after (closing p q r) inner + 8 * outside)
      new (slide_view new arcs (closing p q r)) (inner + 8 * outside)
  see-kind_after outside inner below =
      let kinds = HasKinds-table p q r inner slid.p_below slid.q_below slid.r_below below in
      SeeAlike-seen old new arcs (closing p q r) (closing p q r) (kind_after (closing p q r) inner + 8 * outside) (inner + 8 * outside)
      (kinds-new old new 0 1 2 p q r arcs slid 3 (8 * outside) (kind_after (closing p q r) inner + 8 * outside) inner
      (inner + 8 * outside) below (at (kind_after (closing p q r) inner) outside kinds.after_below) (at inner outside below))
