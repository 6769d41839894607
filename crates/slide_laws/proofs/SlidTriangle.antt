-- A slide is one of the codes that the gluing law speaks of.
--
-- gluing_laws speaks of codes with a triangle whose crossings show their slots in some order (`triangle_before`, `triangle_after`). Here the
-- three crossings of the code are those, with their arcs inside and the six ends, and the slid crossings are those after: so that the sum
-- of the whole is that of the law.
use Rattle.std.proofs.lemmas.Bool.Decides.{nat_tests}
use Rattle.std.proofs.Common.{◌≡◌, ◌≢◌, ℕ, ◌⊎◌, inl, inr, ◌+◌, ◌-◌, ◌*◌, ◌/◌, ◌%◌, ◌<◌, ◌≤◌, ◌∙◌, List, [], ◌∷◌, length, refl, sym, ap, ap₂, subst, arith, true, ℤ}
use Rattle.std.specs.Prelude.{slice_index, slice_index_or, IsTrue}
use Rattle.std.proofs.lemmas.Bool.{cases_eq, cases_lt}
use Rattle.kh_types.specs.Acceptance.{accepted}
use Rattle.kh_types.specs.Code.{Code, IsArc}
use Rattle.kh_types.specs.Darts.{dart_at, partner_at, HasArcsTwice}
use Rattle.kh_types.specs.Directions.{plus_count, minus_count}
use Rattle.kh_types.specs.StateSum.{state_sum, sum_with}
use Rattle.kh_types.proofs.DartPairs.{IsDart-at, IsOtherPlace-partner_at, partner_at-only}
use Rattle.kh_types.proofs.AcceptedLemmas.{HasArcsTwice-accepted}
use Rattle.kh_types.proofs.Ranges.{below_four}
use Rattle.gluing_laws.specs.Arcs.{arc_by_place}
use Rattle.gluing_laws.specs.Codes.{name_count, HoldsArcs, IsRenumbered, arc_of_dart}
use Rattle.gluing_laws.specs.Slides.{quadruple_from, IsPlacedTriangle, IsNoSide}
use Rattle.gluing_laws.specs.SlidCodes.{Shows, IsSlid}
use Rattle.gluing_laws.proofs.SlidSums.{sum_with-slide}
use Rattle.gluing_laws.proofs.Renumbered.{sum_with-renumbered}
use Rattle.slide_laws.specs.Triangles.{has_heights}
use Rattle.slide_laws.specs.Slid.{on, slid, slid_code}
use Rattle.slide_laws.proofs.Corners.{IsOutside, on-zero, on-below, on-apart, source-x, source-outside}
use Rattle.slide_laws.proofs.Sides.{HasSides, HasSides-rotated}
use Rattle.slide_laws.proofs.SlidArcs.{length-slid, arc_of_dart-slid, HasArcsTwice-slid}
use Rattle.slide_laws.proofs.SlidRule.{slid-rotated}
use Rattle.slide_laws.proofs.SlidFaces.{IsNoSideDart, on-no_side, outside-no_side}
use Rattle.gluing_laws.proofs.DartPairs.{arc_of-dart}

-- the arcs of the triangle's ends and sides, by their inside numbers
abbrev pub inside_arcs : List (List ℕ) → ℕ → ℕ → ℕ → ℕ → ℕ
inside_arcs crossings x y z number =
    slice_index
    (0
    ∷ arc_of_dart crossings (on x 2) ∷ arc_of_dart crossings (on x 3) ∷ arc_of_dart crossings (on y 2) ∷ arc_of_dart crossings (on y 3)
    ∷ arc_of_dart crossings (on z 2) ∷ arc_of_dart crossings (on z 3) ∷ arc_of_dart crossings x ∷ arc_of_dart crossings y
    ∷ arc_of_dart crossings z ∷ [])
    number

-- finitely many numbers

seven : (P : ℕ → Type 0) → P 0 → P 1 → P 2 → P 3 → P 4 → P 5 → P 6 → (i : ℕ) → i < 7 → P i
seven P a b c d e f g i below = grind (arith, nat_tests)

at_sides : (P : ℕ → Type 0) → P 7 → P 8 → P 9 → (side : ℕ) → 7 ≤ side → side < 10 → P side
at_sides P at_7 at_8 at_9 side from below = grind (arith, nat_tests)

-- arcs of slots

pub arc_at-there : (crossings : List (List ℕ)) (place slot : ℕ) → slot < 4 → arc_by_place crossings place slot ≡ arc_of_dart crossings (4 * place + slot)
arc_at-there crossings place slot below = grind (arith, nat_tests)

IsArc-there : (crossings : List (List ℕ)) (place : ℕ) → HasArcsTwice crossings → place < 4 * length crossings
    → IsArc crossings (arc_of_dart crossings place)
IsArc-there crossings place twice below =
    subst (λ (a : ℕ). IsArc crossings a) (arc_of-dart crossings place) (twice.slots (dart_at place) (IsDart-at crossings place below))

pub HoldsArcs-twice : (code : Code) → HasArcsTwice code.crossings → HoldsArcs code
HoldsArcs-twice code twice = grind (arith, nat_tests, IsArc-there, arc_at-there)

-- the darts of an arc
darts_of_arc : (crossings : List (List ℕ)) (place other : ℕ) → HasArcsTwice crossings → place < 4 * length crossings
    → other < 4 * length crossings → arc_of_dart crossings other ≡ arc_of_dart crossings place
    → (other ≡ place) ⊎ (other ≡ partner_at crossings place)
darts_of_arc crossings place other twice below other_below same = elim (cases_eq other place) [
  | inl is ↦ inl is
  | inr differs ↦ inr
      (partner_at-only crossings place other twice below
      (record {
        below = other_below;
        differs = differs;
        same_arc = arc_of-dart crossings other ∙ same ∙ sym (arc_of-dart crossings place);
      }))
]

-- a dart that is of no side has the arc of none
record IsNoSideArc (crossings : List (List ℕ)) (x y z arc : ℕ) : Type 0 where
  pub not_x : arc ≢ arc_of_dart crossings x
  pub not_y : arc ≢ arc_of_dart crossings y
  pub not_z : arc ≢ arc_of_dart crossings z

no_side_arc : (crossings : List (List ℕ)) (x y z place : ℕ) → HasArcsTwice crossings
    → HasSides (length crossings) (partner_at crossings) x y z → place < 4 * length crossings → IsNoSideDart x y z place
    → IsNoSideArc crossings x y z (arc_of_dart crossings place)
no_side_arc crossings x y z place twice sides below no_side = grind (arith, nat_tests, darts_of_arc)

-- two sides have two arcs
sides-apart : (crossings : List (List ℕ)) (x y z : ℕ) → HasArcsTwice crossings
    → HasSides (length crossings) (partner_at crossings) x y z → arc_of_dart crossings x ≢ arc_of_dart crossings y
sides-apart crossings x y z twice sides = grind (arith, nat_tests, darts_of_arc, on-apart, on-zero)

-- the side to the dart before
arc-side : (crossings : List (List ℕ)) (x y z : ℕ) → HasArcsTwice crossings
    → HasSides (length crossings) (partner_at crossings) x y z → arc_of_dart crossings (on y 1) ≡ arc_of_dart crossings x
arc-side crossings x y z twice sides = grind (arith, nat_tests, IsOtherPlace-partner_at, arc_of-dart)

-- the triangle is placed
pub IsPlaced-inside : (code : Code) (x y z : ℕ) → HasArcsTwice code.crossings
    → HasSides (length code.crossings) (partner_at code.crossings) x y z
    → IsPlacedTriangle (name_count code) (inside_arcs code.crossings x y z)
IsPlaced-inside code x y z twice sides =
    let crossings = code.crossings in
    let arcs = inside_arcs crossings x y z in
    let second = HasSides-rotated (length crossings) (partner_at crossings) x y z sides in
    let third = HasSides-rotated (length crossings) (partner_at crossings) y z x second in
    let arc_below : (place : ℕ) → place < 4 * length crossings → arc_of_dart crossings place < name_count code = λ place below.
    let is = IsArc-there crossings place twice below in
    omega (arith, is.within) in
    let zero_is : IsNoSideArc crossings x y z 0 =
    record {
      not_x = λ same. (let is = IsArc-there crossings x twice sides.x_below in omega (arith, is.positive, same));
      not_y = λ same. (let is = IsArc-there crossings y twice sides.y_below in omega (arith, is.positive, same));
      not_z = λ same. (let is = IsArc-there crossings z twice sides.z_below in omega (arith, is.positive, same));
    } in
    let end_x = λ (j : ℕ) (below : j < 4) (not_0 : j ≢ 0) (not_1 : j ≢ 1).
    no_side_arc crossings x y z (on x j) twice sides (on-below (length crossings) x j sides.x_below) (on-no_side x y z j sides.apart below not_0 not_1) in
    let end_y = λ (j : ℕ) (below : j < 4) (not_0 : j ≢ 0) (not_1 : j ≢ 1).
    no_side_arc crossings y z x (on y j) twice second (on-below (length crossings) y j sides.y_below)
    (on-no_side y z x j second.apart below not_0 not_1) in
    let end_z = λ (j : ℕ) (below : j < 4) (not_0 : j ≢ 0) (not_1 : j ≢ 1).
    no_side_arc crossings z x y (on z j) twice third (on-below (length crossings) z j sides.z_below)
    (on-no_side z x y j third.apart below not_0 not_1) in
    let from_y = λ (arc : ℕ) (is : IsNoSideArc crossings y z x arc).
    let turned : IsNoSideArc crossings x y z arc = record { not_x = is.not_z; not_y = is.not_x; not_z = is.not_y } in turned in
    let from_z = λ (arc : ℕ) (is : IsNoSideArc crossings z x y arc).
    let turned : IsNoSideArc crossings x y z arc = record { not_x = is.not_y; not_y = is.not_z; not_z = is.not_x } in turned in
    let ends = seven (λ i. IsNoSideArc crossings x y z (arcs i)) zero_is (end_x 2 (omega arith) (omega arith) (omega arith))
    (end_x 3 (omega arith) (omega arith) (omega arith))
    (from_y (arc_of_dart crossings (on y 2)) (end_y 2 (omega arith) (omega arith) (omega arith)))
    (from_y (arc_of_dart crossings (on y 3)) (end_y 3 (omega arith) (omega arith) (omega arith)))
    (from_z (arc_of_dart crossings (on z 2)) (end_z 2 (omega arith) (omega arith) (omega arith)))
    (from_z (arc_of_dart crossings (on z 3)) (end_z 3 (omega arith) (omega arith) (omega arith))) in
    let n = length crossings in
    let inner = seven (λ i. arcs i < name_count code) (omega arith) (arc_below (on x 2) (on-below n x 2 sides.x_below))
    (arc_below (on x 3) (on-below n x 3 sides.x_below)) (arc_below (on y 2) (on-below n y 2 sides.y_below))
    (arc_below (on y 3) (on-below n y 3 sides.y_below)) (arc_below (on z 2) (on-below n z 2 sides.z_below))
    (arc_below (on z 3) (on-below n z 3 sides.z_below)) in
    let outer = at_sides (λ i. arcs i < name_count code) (arc_below x sides.x_below) (arc_below y sides.y_below) (arc_below z sides.z_below) in
    let x_y = sides-apart crossings x y z twice sides in
    let y_z = sides-apart crossings y z x twice second in
    let z_x = sides-apart crossings z x y twice third in
    record {
      zero_kept = refl;
      below = λ i i_below. elim (cases_lt i 7) [ inl first ↦ inner i first | inr later ↦ outer i later i_below ];
      apart = λ i side less from below.
          at_sides (λ s. (k : ℕ) → k < s → arcs k ≢ arcs s)
          (λ k k_below. (ends k k_below).not_x)
          (λ k k_below. elim (cases_lt k 7) [
            | inl first ↦ (ends k first).not_y
            | inr later ↦
                let is : 7 ≡ k = omega (arith, k_below, later) in
                subst (λ (m : ℕ). arcs m ≢ arcs 8) is x_y
          ])
          (λ k k_below. elim (cases_lt k 7) [
            | inl first ↦ (ends k first).not_z
            | inr later ↦ elim (cases_eq k 7) [
              | inl is ↦ subst (λ (m : ℕ). arcs m ≢ arcs 9) (sym is) (λ same. z_x (sym same))
              | inr not_7 ↦
                  let is : 8 ≡ k = omega (arith, k_below, later, not_7) in
                  subst (λ (m : ℕ). arcs m ≢ arcs 9) is y_z
            ]
          ])
          side from below i less;
    }

-- a crossing shows a quadruple, by slots on from a dart
pub Shows-from : (crossings : List (List ℕ)) (arcs : ℕ → ℕ) (x : ℕ) (around : List ℕ)
    → ((j : ℕ) → j < 4 → arc_of_dart crossings (on x j) ≡ arcs (slice_index around j))
    → Shows arcs (slice_index_or crossings (x / 4) []) (quadruple_from (x % 4) around)
Shows-from crossings arcs x around shows = grind (arith, nat_tests)

-- before and after

shows-before : (crossings : List (List ℕ)) (x y z : ℕ) (arcs : ℕ → ℕ) (a b c d : ℕ)
    → arc_of_dart crossings x ≡ arcs a → arc_of_dart crossings z ≡ arcs b → arc_of_dart crossings (on x 2) ≡ arcs c
    → arc_of_dart crossings (on x 3) ≡ arcs d → arc_of_dart crossings (on x 1) ≡ arc_of_dart crossings z
    → Shows arcs (slice_index_or crossings (x / 4) []) (quadruple_from (x % 4) (a ∷ b ∷ c ∷ d ∷ []))
shows-before crossings x y z arcs a b c d at_0 at_1 at_2 at_3 side =
    Shows-from crossings arcs x (a ∷ b ∷ c ∷ d ∷ [])
    (below_four (λ j. arc_of_dart crossings (on x j) ≡ arcs (slice_index (a ∷ b ∷ c ∷ d ∷ []) j)) (ap (arc_of_dart crossings) (on-zero x) ∙ at_0)
    (side ∙ at_1) at_2 at_3)

shows-after : (crossings : List (List ℕ)) (x y z : ℕ) (arcs : ℕ → ℕ) (a b c d : ℕ) → HasSides (length crossings) (partner_at crossings) x y z
    → arc_of_dart crossings (on y 3) ≡ arcs a → arc_of_dart crossings (on z 2) ≡ arcs b → arc_of_dart crossings x ≡ arcs c
    → arc_of_dart crossings z ≡ arcs d → arc_of_dart crossings (on y 1) ≡ arc_of_dart crossings x
    → Shows arcs (slice_index_or (slid crossings x y z) (x / 4) []) (quadruple_from (x % 4) (a ∷ b ∷ c ∷ d ∷ []))
shows-after crossings x y z arcs a b c d sides at_0 at_1 at_2 at_3 side =
    let n = length crossings in
    let new = slid crossings x y z in
    let moved = λ (j : ℕ) (below : j < 4).
    arc_of_dart-slid crossings x y z (on x j) (on-below n x j sides.x_below) ∙ ap (arc_of_dart crossings) (source-x x y z j below) in
    Shows-from new arcs x (a ∷ b ∷ c ∷ d ∷ [])
    (below_four (λ j. arc_of_dart new (on x j) ≡ arcs (slice_index (a ∷ b ∷ c ∷ d ∷ []) j)) (moved 0 (omega arith) ∙ at_0)
    (moved 1 (omega arith) ∙ at_1) (moved 2 (omega arith) ∙ side ∙ at_2) (moved 3 (omega arith) ∙ at_3))

outside-places : (x y z place slot : ℕ) → slot < 4 → place ≢ x / 4 → place ≢ y / 4 → place ≢ z / 4 → IsOutside x y z (4 * place + slot)
outside-places x y z place slot below not_x not_y not_z = omega arith

outside_arcs : (crossings : List (List ℕ)) (x y z place slot : ℕ) → HasSides (length crossings) (partner_at crossings) x y z
    → place < length crossings → slot < 4 → place ≢ x / 4 → place ≢ y / 4 → place ≢ z / 4
    → arc_by_place (slid crossings x y z) place slot ≡ arc_by_place crossings place slot
outside_arcs crossings x y z place slot sides below slot_below not_x not_y not_z =
    grind (arith, nat_tests, arc_at-there, arc_of_dart-slid, source-outside, outside-places)

outside_sides : (crossings : List (List ℕ)) (x y z place slot : ℕ) → HasArcsTwice crossings
    → HasSides (length crossings) (partner_at crossings) x y z → place < length crossings → slot < 4 → place ≢ x / 4 → place ≢ y / 4
    → place ≢ z / 4 → IsNoSide (inside_arcs crossings x y z) (arc_by_place crossings place slot)
outside_sides crossings x y z place slot twice sides below slot_below not_x not_y not_z =
    let arcs = inside_arcs crossings x y z in
    let dart = 4 * place + slot in
    let no_side = no_side_arc crossings x y z dart twice sides (omega (arith, below, slot_below))
    (outside-no_side x y z dart (outside-places x y z place slot slot_below not_x not_y not_z)) in
    subst (λ (a : ℕ). IsNoSide arcs a) (sym (arc_at-there crossings place slot slot_below))
    (at_sides (λ side. arc_of_dart crossings dart ≢ arcs side) no_side.not_x no_side.not_y no_side.not_z)

pub IsSlid-slid : (code : Code) (x y z : ℕ) → HasArcsTwice code.crossings
    → HasSides (length code.crossings) (partner_at code.crossings) x y z → has_heights x y z ≡ true
    → IsSlid code (slid_code code x y z) (x / 4) (y / 4) (z / 4) (x % 4) (y % 4) (z % 4) (inside_arcs code.crossings x y z)
IsSlid-slid code x y z twice sides heights =
    let crossings = code.crossings in
    let n = length crossings in
    let partner = partner_at crossings in
    let new = slid_code code x y z in
    let arcs = inside_arcs crossings x y z in
    let second = HasSides-rotated n partner x y z sides in
    let third = HasSides-rotated n partner y z x second in
    let size = length-slid crossings x y z in
    let new_twice = HasArcsTwice-slid crossings x y z twice sides in
    let placed = IsPlaced-inside code x y z twice sides in
    let names : name_count code ≡ name_count new = ap (λ k. 2 * k + code.loops + 1) (sym size) in
    let x_below = sides.x_below in
    let y_below = sides.y_below in
    let z_below = sides.z_below in
    let side_x = arc-side crossings x y z twice sides in
    let side_y = arc-side crossings y z x twice second in
    let side_z = arc-side crossings z x y twice third in
    let slid_once = slid-rotated crossings n partner x y z sides in
    let slid_twice = slid_once ∙ slid-rotated crossings n partner y z x second in
    record {
      c_below = omega (arith, x_below);
      d_below = omega (arith, y_below);
      e_below = omega (arith, z_below);
      c_d = sides.apart.x_y;
      c_e = sides.apart.x_z;
      d_e = sides.apart.y_z;
      p_below = omega arith;
      q_below = omega arith;
      r_below = omega arith;
      slidable = heights;
      before = record {
        holds = HoldsArcs-twice code twice;
        placed = placed;
        first = shows-before crossings x y z arcs 7 9 1 2 refl refl refl refl side_z;
        second = shows-before crossings y z x arcs 8 7 3 4 refl refl refl refl side_x;
        third = shows-before crossings z x y arcs 9 8 5 6 refl refl refl refl side_y;
        sides = λ place slot below not_c not_d not_e slot_below.
            outside_sides crossings x y z place slot twice sides below slot_below not_c not_d not_e;
      };
      after = record {
        holds = HoldsArcs-twice new new_twice;
        placed = subst (λ (k : ℕ). IsPlacedTriangle k arcs) names placed;
        first = shows-after crossings x y z arcs 4 5 7 9 sides refl refl refl refl side_x;
        second = subst (λ after. Shows arcs (slice_index_or after (y / 4) []) (quadruple_from (y % 4) (6 ∷ 1 ∷ 8 ∷ 7 ∷ []))) (sym slid_once)
            (shows-after crossings y z x arcs 6 1 8 7 second refl refl refl refl side_y);
        third = subst (λ after. Shows arcs (slice_index_or after (z / 4) []) (quadruple_from (z % 4) (2 ∷ 3 ∷ 9 ∷ 8 ∷ []))) (sym slid_twice)
            (shows-after crossings z x y arcs 2 3 9 8 third refl refl refl refl side_z);
        sides = λ place slot below not_c not_d not_e slot_below.
            let small : place < n = subst (λ (k : ℕ). place < k) size below in
            subst (λ (a : ℕ). IsNoSide arcs a) (sym (outside_arcs crossings x y z place slot sides small slot_below not_c not_d not_e))
            (outside_sides crossings x y z place slot twice sides small slot_below not_c not_d not_e);
      };
      size = size;
      others = λ place slot below slot_below not_c not_d not_e.
          outside_arcs crossings x y z place slot sides below slot_below not_c not_d not_e;
      loops = refl;
    }

pub sum_with-slid : (code : Code) (x y z : ℕ) → IsTrue (accepted code)
    → HasSides (length code.crossings) (partner_at code.crossings) x y z → has_heights x y z ≡ true → (exponent : ℤ)
    → sum_with (plus_count code.crossings) (minus_count code.crossings) (slid_code code x y z) exponent ≡ state_sum code exponent
sum_with-slid code x y z is sides heights exponent =
    sum_with-slide code (slid_code code x y z) (x / 4) (y / 4) (z / 4) (x % 4) (y % 4) (z % 4) (plus_count code.crossings)
    (minus_count code.crossings) (inside_arcs code.crossings x y z)
    (IsSlid-slid code x y z (HasArcsTwice-accepted code is) sides heights) exponent

-- and under other numbers, with as many positive crossings
pub state_sum-slid : (f : ℕ → ℕ) (code new : Code) (x y z : ℕ) → IsTrue (accepted code)
    → HasSides (length code.crossings) (partner_at code.crossings) x y z → has_heights x y z ≡ true
    → IsRenumbered f (slid_code code x y z) new → HoldsArcs new → plus_count new.crossings ≡ plus_count code.crossings → (exponent : ℤ)
    → state_sum new exponent ≡ state_sum code exponent
state_sum-slid f code new x y z is sides heights same holds plus exponent =
    let crossings = code.crossings in
    let twice = HasArcsTwice-accepted code is in
    let size : length new.crossings ≡ length crossings = same.size ∙ length-slid crossings x y z in
    let minus : minus_count new.crossings ≡ minus_count crossings = ap₂ (λ n p. n - p) size plus in
    ap₂ (λ p m. sum_with p m new exponent) plus minus
    ∙ sum_with-renumbered f (slid_code code x y z) new (plus_count crossings) (minus_count crossings) same
    (HoldsArcs-twice (slid_code code x y z) (HasArcsTwice-slid crossings x y z twice sides)) holds exponent
    ∙ sum_with-slid code x y z is sides heights exponent
