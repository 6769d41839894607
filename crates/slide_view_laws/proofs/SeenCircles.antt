-- The circles of a code with a triangle in a state, as they are seen from outside.
use Rattle.std.proofs.Common.{◌≡◌, ◌≢◌, ℕ, ◌+◌, ◌*◌, ◌<◌, ◌≤◌, ◌∙◌, List, [], ◌∷◌, length, sym, ap, ap₂, subst, arith}
use Rattle.std.specs.Prelude.{slice_index}
use Rattle.kh_types.specs.Code.{Code}
use Rattle.kh_types.specs.Circles.{smoothings_of, circles_of}
use Rattle.kh_types.proofs.JoinedClasses.{IsNamed-classes_of}
use Rattle.gluing_laws.specs.Arcs.{arc_by_place}
use Rattle.gluing_laws.specs.Codes.{name_count}
use Rattle.gluing_laws.specs.Slides.{ends_joined, IsNoSide}
use Rattle.gluing_laws.specs.SlidCodes.{HasTriangle}
use Rattle.gluing_laws.proofs.OutsidePairs.{outside_of}
use Rattle.gluing_laws.proofs.SlidCodes.{all_outside, AtInside, circles_at}
use Rattle.gluing_laws.proofs.SlidSums.{outside_of-same}
use Rattle.slide_view_laws.specs.Together.{AreJoinedAlike}
use Rattle.view_laws.specs.Views.{AreTogether}
use Rattle.slide_view_laws.specs.Triangles.{IsStateAt, SidesClose, SidesShow}
use Rattle.slide_view_laws.proofs.Relations.{IsInside, whole_class, inside_class, whole-joined, whole-onward, whole-closed}
use Rattle.slide_view_laws.proofs.TableFacts.{IsClosedBy, classes-joined}

AtInside-state : (n c d e base state inner : ℕ) → IsStateAt n c d e base state inner → AtInside n c d e base state inner
AtInside-state n c d e base state inner at =
    record { others = at.others; at_c = at.at_c; at_d = at.at_d; at_e = at.at_e; ones = at.ones }

-- a code with a triangle of three crossings at the places c, d and e, which are told with its closing state
pub record HasClosing (code : Code) (t0 t1 t2 : List ℕ) (arcs : ℕ → ℕ) (c d e closed : ℕ) : Type 0 where
  pub triangle : HasTriangle code (t0 ∷ t1 ∷ t2 ∷ []) arcs c d e
  pub c_below : c < length code.crossings
  pub d_below : d < length code.crossings
  pub e_below : e < length code.crossings
  pub closes : IsClosedBy (t0 ∷ t1 ∷ t2 ∷ []) closed

module _ (code : Code) (t0 t1 t2 : List ℕ) (arcs : ℕ → ℕ) (n c d e closed : ℕ) (has : HasClosing code t0 t1 t2 arcs c d e closed)
    (base state inner : ℕ) (inner_below : inner < 8) (at : IsStateAt n c d e base state inner) where
  abbrev inside : List (ℕ × ℕ)
  inside = smoothings_of (t0 ∷ t1 ∷ t2 ∷ []) inner

  abbrev outer : List (ℕ × ℕ)
  outer = outside_of code.crossings c d e state

  pub IsInside-code : IsInside (name_count code) arcs (outside_of code.crossings c d e state) (smoothings_of (t0 ∷ t1 ∷ t2 ∷ []) inner)
  IsInside-code = record {
    placed = has.triangle.placed;
    outer_below = all_outside (λ x. x < name_count code) code c d e state
        (λ place slot below not_c not_d not_e slot_below. has.triangle.holds place slot below slot_below);
    touch = all_outside (IsNoSide arcs) code c d e state has.triangle.sides;
    below = has.closes.below inner inner_below;
  }

  pub circle-inside : (x : ℕ) → slice_index (circles_of code state) x
      ≡ whole_class (name_count code) arcs (outside_of code.crossings c d e state) (smoothings_of (t0 ∷ t1 ∷ t2 ∷ []) inner) x
  circle-inside x =
      ap (λ (classes : List ℕ). slice_index classes x)
      (circles_at code t0 t1 t2 arcs n c d e base state inner has.triangle has.c_below has.d_below has.e_below
      (AtInside-state n c d e base state inner at) (has.closes.below inner inner_below))

  -- inside numbers that are joined inside are on one circle
  pub together-inside : (i j : ℕ) → i < 10 → j < 10 → inside_class (smoothings_of (t0 ∷ t1 ∷ t2 ∷ []) inner) i
      ≡ inside_class (smoothings_of (t0 ∷ t1 ∷ t2 ∷ []) inner) j
      → AreTogether code state (arcs i) (arcs j)
  together-inside i j i_below j_below same =
      circle-inside (arcs i) ∙ whole-joined (name_count code) arcs outer inside IsInside-code i j i_below j_below same
      ∙ sym (circle-inside (arcs j))

  pub SidesClose-code : inner ≡ closed → SidesClose code arcs state
  SidesClose-code is_closed =
      let class : (side : ℕ) → 7 ≤ side → side < 10 → inside_class (smoothings_of (t0 ∷ t1 ∷ t2 ∷ []) inner) side ≡ 7 =
      λ side from below. ap (λ t. inside_class (smoothings_of (t0 ∷ t1 ∷ t2 ∷ []) t) side) is_closed ∙ has.closes.closes side from below in
      let seven = class 7 (omega arith) (omega arith) in
      record {
        second = together-inside 8 7 (omega arith) (omega arith) (class 8 (omega arith) (omega arith) ∙ sym seven);
        third = together-inside 9 7 (omega arith) (omega arith) (class 9 (omega arith) (omega arith) ∙ sym seven);
        alone = λ x seen same.
            whole-closed (name_count code) arcs outer inside IsInside-code 7 (omega arith) (omega arith) (omega (arith, seven)) x seen.below
            seen.no_side (sym (circle-inside x) ∙ same ∙ circle-inside (arcs 7));
      }

  pub SidesShow-code : inner ≢ closed → SidesShow code arcs state
  SidesShow-code differs =
      let class : ℕ → ℕ = λ side. inside_class (smoothings_of (t0 ∷ t1 ∷ t2 ∷ []) inner) side in
      let shows = has.closes.shows inner inner_below differs in
      let named = IsNamed-classes_of 10 inside (has.closes.below inner inner_below) in
      record {
        end = class;
        first_end = λ side from below. (shows side from below).0;
        last_end = λ side from below. (shows side from below).1;
        together = λ side from below.
            together-inside side (class side) below (omega (arith, (shows side from below).1)) (sym (named.own side below));
      }

-- two codes that are one but for their triangles, which join the ends alike
module _ (first : Code) (t0 t1 t2 : List ℕ) (second : Code) (u0 u1 u2 : List ℕ) (arcs : ℕ → ℕ) (n c d e closed other_closed : ℕ)
    (has : HasClosing first t0 t1 t2 arcs c d e closed) (has_too : HasClosing second u0 u1 u2 arcs c d e other_closed)
    (size : length second.crossings ≡ length first.crossings) (loops : second.loops ≡ first.loops)
    (others : (place slot : ℕ) → place < length first.crossings → slot < 4 → place ≢ c → place ≢ d → place ≢ e
    → arc_by_place second.crossings place slot ≡ arc_by_place first.crossings place slot) where
  names : name_count second ≡ name_count first
  names = ap₂ (λ k l. 2 * k + l + 1) size loops

  pub AreSeenAlike-codes : (base state inner other other_inner : ℕ) → inner < 8 → other_inner < 8
      → IsStateAt n c d e base state inner → IsStateAt n c d e base other other_inner
      → ends_joined (t0 ∷ t1 ∷ t2 ∷ []) inner ≡ ends_joined (u0 ∷ u1 ∷ u2 ∷ []) other_inner → AreJoinedAlike arcs first state second other
  AreSeenAlike-codes base state inner other other_inner inner_below other_below at at_too joined =
      let inside = smoothings_of (t0 ∷ t1 ∷ t2 ∷ []) inner in
      let inside_too = smoothings_of (u0 ∷ u1 ∷ u2 ∷ []) other_inner in
      let outer = outside_of first.crossings c d e state in
      let is = IsInside-code first t0 t1 t2 arcs n c d e closed has base state inner inner_below at in
      let same_outer : outside_of second.crossings c d e other ≡ outside_of first.crossings c d e state =
      outside_of-same second.crossings first.crossings c d e other state size
      (λ k slot below slot_below not_c not_d not_e. others k slot (omega (arith, below, size)) slot_below not_c not_d not_e)
      (λ k not_c not_d not_e. at_too.others k not_c not_d not_e ∙ sym (at.others k not_c not_d not_e)) in
      let is_too : IsInside (name_count first) arcs (outside_of first.crossings c d e state)
      (smoothings_of (u0 ∷ u1 ∷ u2 ∷ []) other_inner) =
      subst (λ (k : ℕ). IsInside k arcs (outside_of first.crossings c d e state) (smoothings_of (u0 ∷ u1 ∷ u2 ∷ []) other_inner)) names
      (subst (λ (ps : List (ℕ × ℕ)). IsInside (name_count second) arcs ps (smoothings_of (u0 ∷ u1 ∷ u2 ∷ []) other_inner)) same_outer
      (IsInside-code second u0 u1 u2 arcs n c d e other_closed has_too base other other_inner other_below at_too)) in
      let here = circle-inside first t0 t1 t2 arcs n c d e closed has base state inner inner_below at in
      let there : (x : ℕ) → slice_index (circles_of second other) x ≡ whole_class (name_count first) arcs outer inside_too x =
      λ x. circle-inside second u0 u1 u2 arcs n c d e other_closed has_too base other other_inner other_below at_too x
      ∙ ap₂ (λ k ps. whole_class k arcs ps inside_too x) names same_outer in
      let alike = classes-joined (t0 ∷ t1 ∷ t2 ∷ []) (u0 ∷ u1 ∷ u2 ∷ []) inner other_inner is.below is_too.below joined in
      record {
        onward = λ x y x_seen y_seen same.
            there x
            ∙ whole-onward (name_count first) arcs outer inside inside_too is is_too alike x y x_seen.below y_seen.below x_seen.no_side
            y_seen.no_side (sym (here x) ∙ same ∙ here y)
            ∙ sym (there y);
        back = λ x y x_seen y_seen same.
            here x
            ∙ whole-onward (name_count first) arcs outer inside_too inside is_too is (λ i i_below. sym (alike i i_below)) x y x_seen.below
            y_seen.below x_seen.no_side y_seen.no_side (sym (there x) ∙ same ∙ there y)
            ∙ sym (here y);
      }
