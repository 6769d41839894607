-- Rule 1 of the drawing: in an empty row a crossing begins, as two caps and a cross whose slot 0 is at the upper left. If what is
-- read of the slices so far fits the drawing under way, it still does after these three slices. There are six new segments, two
-- of each cap and two that come out of the cross. Two darts of the crossing meet the inner segments of the caps, whose outer
-- segments are in the row; the other two meet those that come out, which are in the row themselves. Each part of what is known is
-- shown by cases: a dart is one of these four or of an old crossing, a segment is one of these six or old. Old darts and segments
-- keep what they had, as the crossing was not drawn, and its darts are still open. The new segments are painted by the arcs of
-- their darts, so segments of different arcs stay apart.
use Rattle.std.proofs.lemmas.Bool.Decides.{nat_tests}
use Rattle.std.proofs.Common.{◌≡◌, ◌≢◌, ℕ, inl, inr, ◌+◌, ◌*◌, ◌/◌, ◌<◌, ◌≤◌, ◌∙◌, List, [], ◌∷◌, ◌++◌, length, map, refl, sym, ap, subst, arith, min}
use Rattle.std.proofs.lemmas.Bool.{cases_eq, cases_lt}
use Rattle.kh_types.specs.Classes.{Respects}
use Rattle.kh_types.proofs.ClassCounts.{AreBelow-wider}
use Rattle.kh_types.proofs.Lists.{AllByRecursion-append, AllByRecursion-first, AllByRecursion-second}
use Rattle.morse_drawing.specs.Sketches.{IsSketched, Sketch, segment_met, sketched}
use Rattle.morse_drawing.specs.DartRows.{IsDrawing, IsIn, other_three}
use Rattle.morse_drawing.specs.declared.slice.Slice.TheVariants.{Cap, Cross}
use Rattle.morse_drawing.proofs.SketchParts.Which.{is_one, is_other, is_three, is_two, is_zero}
use Rattle.morse_drawing.proofs.SketchParts.FourNext.{next_one, next_three, next_two, next_zero}
use Rattle.morse_drawing.proofs.SketchParts.{segment, dart, made, cross_met, turn_one, turn_two, turn_three, crossing-one, crossing-two, crossing-three, which, is-met, met-other, met-here, dart-there, painted, painted-is, reached-here, respects-old, four_next}

begun-is : (c next : ℕ) (joins met : List (ℕ × ℕ))
    → sketched (sketched (sketched (made [] next joins met) (Cap 1)) (Cap 3)) (Cross 2 (c + 1) 0)
    ≡ made (next ∷ (next + 2 + 2) ∷ (next + 2 + 2 + 1) ∷ (next + 2 + 1) ∷ []) (next + 2 + 2 + 2)
    ((joins ++ (next, next + 1) ∷ []) ++ (next + 2, next + 2 + 1) ∷ []) (cross_met (4 * c) (next + 1) (next + 2) (next + 2 + 2) met)
begun-is c next joins met = grind (arith, nat_tests)

pub sketched-begun : (n : ℕ) (part whole : ℕ → ℕ) (drawn : List ℕ) (c : ℕ) (r : Sketch)
    → IsSketched n part whole drawn [] r → IsDrawing n part whole drawn [] → c < n → (IsIn c drawn → ⊥)
    → IsSketched n part whole (c ∷ drawn) (4 * c ∷ other_three (4 * c)) (sketched (sketched (sketched r (Cap 1)) (Cap 3)) (Cross 2 (c + 1) 0))
sketched-begun n part whole drawn c r is drawing c_below new =
    let o = 4 * c in
    let o_below : o < 4 * n = omega (arith, c_below) in
    let o_is : o / 4 ≡ c = omega arith in
    let next = r.next in
    let row_is : r.row ≡ [] = sym is.segments ∙ ap (map segment) (none_left is.zipped is.darts) in
    let first_joins = r.joins ++ (next, next + 1) ∷ [] in
    let joins = first_joins ++ (next + 2, next + 2 + 1) ∷ [] in
    let met = cross_met o (next + 1) (next + 2) (next + 2 + 2) r.met in
    let end_next = next + 2 + 2 + 2 in
    let end = made (next ∷ (next + 2 + 2) ∷ (next + 2 + 2 + 1) ∷ (next + 2 + 1) ∷ []) end_next joins met in
    let end_is : sketched (sketched (sketched r (Cap 1)) (Cap 3)) (Cross 2 (c + 1) 0) ≡ end =
    ap (λ w. sketched (sketched (sketched (made w next r.joins r.met) (Cap 1)) (Cap 3)) (Cross 2 (c + 1) 0)) row_is
    ∙ begun-is c next r.joins r.met in
    let values = is-met o (next + 1) (next + 2) (next + 2 + 2) r.met in
    let far : (z : ℕ) → IsIn (z / 4) drawn → z / 4 ≢ o / 4 =
    λ z z_drawn same. new (subst (λ (k : ℕ). IsIn k drawn) (same ∙ o_is) z_drawn) in
    let one_joins : (f : ℕ → ℕ) → Respects f joins → Respects f first_joins =
    λ f holds. AllByRecursion-first (λ (pair : ℕ × ℕ). f pair.0 ≡ f pair.1) first_joins ((next + 2, next + 2 + 1) ∷ []) holds in
    let old : (f : ℕ → ℕ) → Respects f joins → Respects f r.joins =
    λ f holds. AllByRecursion-first (λ (pair : ℕ × ℕ). f pair.0 ≡ f pair.1) r.joins ((next, next + 1) ∷ []) (one_joins f holds) in
    let cap_one : (f : ℕ → ℕ) → Respects f joins → f next ≡ f (next + 1) =
    λ f holds.
    (AllByRecursion-second (λ (pair : ℕ × ℕ). f pair.0 ≡ f pair.1) r.joins ((next, next + 1) ∷ []) (one_joins f holds)).0 in
    let cap_two : (f : ℕ → ℕ) → Respects f joins → f (next + 2) ≡ f (next + 2 + 1) =
    λ f holds.
    (AllByRecursion-second (λ (pair : ℕ × ℕ). f pair.0 ≡ f pair.1) first_joins ((next + 2, next + 2 + 1) ∷ []) holds).0 in
    let alone : (z : ℕ) → z / 4 ≡ o / 4 → z < 4 * n → part z ≡ z =
    λ z at z_below. drawing.others_bare z z_below (λ stands. new (subst (λ (k : ℕ). IsIn k drawn) (at ∙ o_is) stands)) in
    let rep : ℕ → ℕ = λ z. min z (whole z) in
    let base : ℕ → ℕ = painted is.colour next next (next + 1) (rep o) (rep o) (rep o) in
    let paint : ℕ → ℕ = painted base (next + 2) (next + 2 + 2) (next + 2 + 2 + 1) (rep (turn_one o)) (rep (turn_two o)) (rep (turn_three o)) in
    let bases = painted-is is.colour next next (next + 1) (rep o) (rep o) (rep o) (omega arith) (omega arith) in
    let paints = painted-is base (next + 2) (next + 2 + 2) (next + 2 + 2 + 1) (rep (turn_one o)) (rep (turn_two o)) (rep (turn_three o))
    (omega arith) (omega arith) in
    let paint_old : (z : ℕ) → z < next → paint z ≡ is.colour z =
    λ z z_below. paints.old z (omega (arith, z_below)) ∙ bases.old z z_below in
    let second : paint (next + 1) ≡ rep o = paints.old (next + 1) (omega arith) ∙ bases.second in
    let third : (z : ℕ) → next + 2 ≤ z → z < next + 2 + 2 → paint z ≡ rep (turn_three o) =
    λ z from below. paints.others z from (λ same. omega (arith, same, below)) (λ same. omega (arith, same, below)) in
    subst (λ (k : ℕ). IsSketched n part whole (k ∷ drawn) (o ∷ other_three o)
    (sketched (sketched (sketched r (Cap 1)) (Cap 3)) (Cross 2 (c + 1) 0))) o_is
    (subst (λ (w : Sketch). IsSketched n part whole (o / 4 ∷ drawn) (o ∷ other_three o) w) (sym end_is)
    (record {
      zipped = (next, o) ∷ (next + 2 + 2, turn_one o) ∷ (next + 2 + 2 + 1, turn_two o) ∷ (next + 2 + 1, turn_three o) ∷ [];
      segments = refl;
      darts = refl;
      joins_below = AllByRecursion-append (λ (pair : ℕ × ℕ). (pair.0 < end_next) × (pair.1 < end_next)) first_joins
          ((next + 2, next + 2 + 1) ∷ [])
          (AllByRecursion-append (λ (pair : ℕ × ℕ). (pair.0 < end_next) × (pair.1 < end_next)) r.joins ((next, next + 1) ∷ [])
          (AreBelow-wider next end_next r.joins (omega arith) is.joins_below) ((omega arith, omega arith), tt))
          ((omega arith, omega arith), tt);
      segments_below = (omega arith, (omega arith, (omega arith, (omega arith, tt))));
      met_below = λ z z_below z_drawn. elim (which o z) [
        | is_zero at ↦ omega (arith, ap (segment_met met) at, values.zero_is)
        | is_one at ↦ omega (arith, ap (segment_met met) at, values.one_is)
        | is_two at ↦ omega (arith, ap (segment_met met) at, values.two_is)
        | is_three at ↦ omega (arith, ap (segment_met met) at, values.three_is)
        | is_other apart ↦ elim z_drawn [
          | inl here ↦ absurd (apart here)
          | inr before_drawn ↦ omega (arith, values.other_is z apart, is.met_below z z_below before_drawn)
        ]
      ];
      known = λ z z_met. elim (cases_eq (z / 4) (o / 4)) [
        | inl at ↦ (dart-there n o z o_below at, inl at)
        | inr apart ↦
            let old_known = is.known z (sym (met-other o (next + 1) (next + 2) (next + 2 + 2) z r.met apart) ∙ z_met) in
            (old_known.0, inr old_known.1)
      ];
      all_met = λ z z_below z_drawn. elim (cases_eq (z / 4) (o / 4)) [
        | inl at ↦ met-here o (next + 1) (next + 2) (next + 2 + 2) z r.met at
        | inr apart ↦ elim z_drawn [
          | inl here ↦ absurd (apart here)
          | inr z_before ↦ met-other o (next + 1) (next + 2) (next + 2 + 2) z r.met apart ∙ is.all_met z z_below z_before
        ]
      ];
      reached = λ q q_below. elim (cases_lt q next) [
        | inl early ↦
            let old_reached = is.reached q early in
            record {
              dart = old_reached.dart;
              below = old_reached.below;
              is_drawn = inr old_reached.is_drawn;
              same = λ f holds. old_reached.same f (old f holds)
                  ∙ ap f (sym (values.other_is old_reached.dart (far old_reached.dart old_reached.is_drawn)));
            }
        | inr late ↦ elim (cases_lt q (next + 2 + 2)) [
          | inl middle ↦ elim (four_next q next middle late) [
            | next_zero at ↦ reached-here n o o q drawn end o_below refl (λ f holds. ap f at ∙ cap_one f holds ∙ ap f (sym values.zero_is))
            | next_one at ↦ reached-here n o o q drawn end o_below refl (λ f holds. ap f at ∙ ap f (sym values.zero_is))
            | next_two at ↦ reached-here n o (turn_three o) q drawn end o_below (crossing-three o)
                (λ f holds. ap f at ∙ ap f (sym values.three_is))
            | next_three at ↦ reached-here n o (turn_three o) q drawn end o_below (crossing-three o)
                (λ f holds. ap f at ∙ sym (cap_two f holds) ∙ ap f (sym values.three_is))
          ]
          | inr last ↦ elim (cases_eq q (next + 2 + 2)) [
            | inl at ↦ reached-here n o (turn_one o) q drawn end o_below (crossing-one o)
                (λ f holds. ap f at ∙ ap f (sym values.one_is))
            | inr not_first ↦
                let at : q ≡ next + 2 + 2 + 1 = omega (arith, q_below, last, not_first) in
                reached-here n o (turn_two o) q drawn end o_below (crossing-two o) (λ f holds. ap f at ∙ ap f (sym values.two_is))
          ]
        ]
      ];
      along = λ f holds. (
        cap_one f holds ∙ sym (ap f values.zero_is),
        (
          sym (ap f values.one_is),
          (sym (ap f values.two_is), (sym (cap_two f holds) ∙ sym (ap f values.three_is), tt)),
        ),
      );
      closed = λ f holds z z_below z_drawn. elim (cases_eq (z / 4) (o / 4)) [
        | inl at ↦ sym (ap (λ w. f (segment_met met w)) (alone z at z_below))
        | inr apart ↦ elim z_drawn [
          | inl here ↦ absurd (apart here)
          | inr z_before ↦
              let partner_far : part z / 4 ≢ o / 4 =
              λ at. apart (ap (λ w. w / 4) (sym (drawing.is_partner.back z z_below) ∙ alone (part z) at (drawing.is_partner.below z z_below))
              ∙ at) in
              ap f (values.other_is z apart) ∙ is.closed f (old f holds) z z_below z_before
              ∙ sym (ap f (values.other_is (part z) partner_far))
        ]
      ];
      colour = paint;
      respects = AllByRecursion-append (λ (pair : ℕ × ℕ). paint pair.0 ≡ paint pair.1) first_joins ((next + 2, next + 2 + 1) ∷ [])
          (AllByRecursion-append (λ (pair : ℕ × ℕ). paint pair.0 ≡ paint pair.1) r.joins ((next, next + 1) ∷ [])
          (respects-old is.colour paint next r.joins paint_old is.joins_below is.respects) (
            paints.old next (omega arith) ∙ bases.first ∙ sym second,
            tt,
          )) (
            third (next + 2) (omega arith) (omega arith) ∙ sym (third (next + 2 + 1) (omega arith) (omega arith)),
            tt,
          );
      named = λ z z_below z_drawn. elim (which o z) [
        | is_zero at ↦ ap (λ w. paint (segment_met met w)) at ∙ ap paint values.zero_is ∙ second ∙ sym (ap rep at)
        | is_one at ↦ ap (λ w. paint (segment_met met w)) at ∙ ap paint values.one_is ∙ paints.first ∙ sym (ap rep at)
        | is_two at ↦ ap (λ w. paint (segment_met met w)) at ∙ ap paint values.two_is ∙ paints.second ∙ sym (ap rep at)
        | is_three at ↦
            ap (λ w. paint (segment_met met w)) at ∙ ap paint values.three_is ∙ third (next + 2) (omega arith) (omega arith)
            ∙ sym (ap rep at)
        | is_other apart ↦ elim z_drawn [
          | inl here ↦ absurd (apart here)
          | inr z_before ↦
              ap paint (values.other_is z apart) ∙ paint_old (segment_met r.met z) (is.met_below z z_below z_before)
              ∙ is.named z z_below z_before
        ]
      ];
    }))
  where
    none_left : (zipped : List (ℕ × ℕ)) → map dart zipped ≡ [] → zipped ≡ []
    none_left [] same = refl
    none_left (e ∷ zipped) same = absurd (omega (arith, ap (λ zs. length zs) same))
