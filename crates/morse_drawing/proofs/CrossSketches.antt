-- Rule 2 of the drawing: a strand meets its partner at a crossing that is not drawn, with a cap at its right and a cross below.
-- If what is read of the slices so far fits the drawing under way, it still does after these two slices: the strand's arc is
-- closed, and the other three darts of the crossing take its place in the row. There are four new segments. The partner meets the
-- strand's own segment; the next two darts meet the two that come out of the cross; the last meets the left segment of the cap,
-- whose right one is in the row. Each part of what is known is shown by cases: a dart is one of these four or old, a segment is
-- one of the four new ones or old. The new segments are painted by the arcs of the three darts that are open, and the strand's
-- segment has the colour of the closed arc already.
use Rattle.std.proofs.Common.{◌≡◌, ◌≢◌, ℕ, inl, inr, ◌+◌, ◌*◌, ◌/◌, ◌%◌, ◌<◌, ◌≤◌, ◌∙◌, List, [], ◌∷◌, ◌++◌, length, map, sym, ap, ap₂, subst, arith, min}
use Rattle.std.specs.List.{AllByRecursion}
use Rattle.std.proofs.lemmas.Bool.{cases_eq, cases_lt}
use Rattle.std.proofs.lemmas.List.{append_assoc, length-map, map-append}
use Rattle.kh_types.specs.Classes.{Respects}
use Rattle.kh_types.specs.Darts.{IsPairing}
use Rattle.kh_types.proofs.ClassCounts.{AreBelow-wider}
use Rattle.kh_types.proofs.Lists.{AllByRecursion-append, AllByRecursion-both, AllByRecursion-first, AllByRecursion-second, AllByRecursion-weaker}
use Rattle.face_walk.specs.AddedArcs.{with_arc}
use Rattle.face_walk.proofs.AddedArcs.{arc-first, arc-second, arc-other}
use Rattle.morse_drawing.specs.Sketches.{IsSketched, Sketch, segment_met, sketched}
use Rattle.morse_drawing.specs.DartRows.{IsDrawing, IsIn, other_three}
use Rattle.morse_drawing.specs.declared.slice.Slice.TheVariants.{Cap, Cross}
use Rattle.morse_drawing.proofs.SketchParts.Which.{is_one, is_other, is_three, is_two, is_zero}
use Rattle.morse_drawing.proofs.SketchParts.FourNext.{next_one, next_three, next_two, next_zero}
use Rattle.morse_drawing.proofs.SketchParts.{segment, dart, made, cross_met, cross-is, parted, min_swap, turn_one, turn_two, turn_three, crossing-one, crossing-two, crossing-three, which, is-met, met-other, met-here, dart-there, painted, painted-is, reached-here, respects-old, four_next}

-- rule 2
pub sketched-crossed : (n : ℕ) (part whole : ℕ → ℕ) (drawn front back : List ℕ) (x : ℕ) (r : Sketch)
    → IsSketched n part whole drawn (front ++ x ∷ back) r → IsPairing (4 * n) whole → IsDrawing n part whole drawn (front ++ x ∷ back)
    → x < 4 * n → IsIn (x / 4) drawn → (IsIn (whole x / 4) drawn → ⊥)
    → IsSketched n (with_arc part x (whole x)) whole (whole x / 4 ∷ drawn) (front ++ other_three (whole x) ++ back)
    (sketched (sketched r (Cap (length front + 2))) (Cross (length front + 1) (whole x / 4 + 1) (whole x % 4)))
sketched-crossed n part whole drawn front back x r is pairing drawing x_below x_drawn new =
    let o = whole x in
    let next = r.next in
    let p = parted is.zipped front x back is.darts in
    let a = p.at in
    let before = p.before in
    let behind = p.behind in
    let left = map segment before in
    let right = map segment behind in
    let row_is : r.row ≡ left ++ a ∷ right =
    sym is.segments ∙ ap (map segment) p.whole_is ∙ map-append segment before ((a, x) ∷ behind) in
    let size : length front ≡ length left =
    sym (ap (λ zs. length zs) p.front_is) ∙ length-map before dart ∙ sym (length-map before segment) in
    let joins = r.joins ++ (next, next + 1) ∷ [] in
    let met = cross_met o a next (next + 2) r.met in
    let end = made (left ++ (next + 2) ∷ (next + 2 + 1) ∷ (next + 1) ∷ right) (next + 2 + 2) joins met in
    let end_is : sketched (sketched r (Cap (length front + 2))) (Cross (length front + 1) (o / 4 + 1) (o % 4)) ≡ end =
    ap₂ (λ w k. sketched (sketched (made w next r.joins r.met) (Cap (k + 2))) (Cross (k + 1) (o / 4 + 1) (o % 4))) row_is size
    ∙ cross-is left right a next o r.joins r.met in
    let values = is-met o a next (next + 2) r.met in
    let far : (z : ℕ) → IsIn (z / 4) drawn → z / 4 ≢ o / 4 = λ z z_drawn same. new (subst (λ (c : ℕ). IsIn c drawn) same z_drawn) in
    let keeps : (z : ℕ) → IsIn (z / 4) drawn → segment_met met z ≡ segment_met r.met z = λ z z_drawn. values.other_is z (far z z_drawn) in
    let parts : (P : ℕ × ℕ → Type 0) → AllByRecursion P is.zipped → AllByRecursion P (before ++ (a, x) ∷ behind) =
    λ P holds. subst (λ (zs : List (ℕ × ℕ)). AllByRecursion P zs) p.whole_is holds in
    let drawn_all = parts (λ e. IsIn (e.1 / 4) drawn) (all_darts is.zipped (front ++ x ∷ back) is.darts drawing.at_drawn) in
    let drawn_front = AllByRecursion-first (λ (e : ℕ × ℕ). IsIn (e.1 / 4) drawn) before ((a, x) ∷ behind) drawn_all in
    let drawn_back = (AllByRecursion-second (λ (e : ℕ × ℕ). IsIn (e.1 / 4) drawn) before ((a, x) ∷ behind) drawn_all).1 in
    let below = parts (λ e. e.0 < next) is.segments_below in
    let below_front = AllByRecursion-first (λ (e : ℕ × ℕ). e.0 < next) before ((a, x) ∷ behind) below in
    let below_back = AllByRecursion-second (λ (e : ℕ × ℕ). e.0 < next) before ((a, x) ∷ behind) below in
    let wider : (e : ℕ × ℕ) → e.0 < next → e.0 < next + 2 + 2 = λ e e_below. omega (arith, e_below) in
    let runs : (f : ℕ → ℕ) → Respects f r.joins
    → AllByRecursion (λ (e : ℕ × ℕ). f e.0 ≡ f (segment_met r.met e.1)) (before ++ (a, x) ∷ behind) =
    λ f holds. parts (λ e. f e.0 ≡ f (segment_met r.met e.1)) (is.along f holds) in
    let at_x : (f : ℕ → ℕ) → Respects f r.joins → f a ≡ f (segment_met r.met x) =
    λ f holds. (AllByRecursion-second (λ (e : ℕ × ℕ). f e.0 ≡ f (segment_met r.met e.1)) before ((a, x) ∷ behind) (runs f holds)).0 in
    let old : (f : ℕ → ℕ) → Respects f joins → Respects f r.joins =
    λ f holds. AllByRecursion-first (λ (pair : ℕ × ℕ). f pair.0 ≡ f pair.1) r.joins ((next, next + 1) ∷ []) holds in
    let cap : (f : ℕ → ℕ) → Respects f joins → f next ≡ f (next + 1) =
    λ f holds. (AllByRecursion-second (λ (pair : ℕ × ℕ). f pair.0 ≡ f pair.1) r.joins ((next, next + 1) ∷ []) holds).0 in
    let moved : (f : ℕ → ℕ) (xs : List (ℕ × ℕ)) → AllByRecursion (λ e. IsIn (e.1 / 4) drawn) xs
    → AllByRecursion (λ e. f e.0 ≡ f (segment_met r.met e.1)) xs → AllByRecursion (λ e. f e.0 ≡ f (segment_met met e.1)) xs =
    λ f xs first second.
    AllByRecursion-both (λ (e : ℕ × ℕ). IsIn (e.1 / 4) drawn) (λ (e : ℕ × ℕ). f e.0 ≡ f (segment_met r.met e.1))
    (λ (e : ℕ × ℕ). f e.0 ≡ f (segment_met met e.1)) xs (λ e stands same. same ∙ ap f (sym (keeps e.1 stands))) first second in
    let o_below = pairing.below x x_below in
    let o_apart : o ≢ x = λ same. new (subst (λ (z : ℕ). IsIn (z / 4) drawn) (sym same) x_drawn) in
    let arc_ends : (f : ℕ → ℕ) → Respects f joins → f (segment_met met x) ≡ f (segment_met met o) =
    λ f holds. ap f (keeps x x_drawn) ∙ sym (at_x f (old f holds)) ∙ sym (ap f values.zero_is) in
    let alone : (z : ℕ) → z / 4 ≡ o / 4 → z < 4 * n → part z ≡ z =
    λ z at z_below. drawing.others_bare z z_below (λ stands. new (subst (λ (c : ℕ). IsIn c drawn) at stands)) in
    let rep : ℕ → ℕ = λ z. min z (whole z) in
    let paint : ℕ → ℕ = painted is.colour next (next + 2) (next + 2 + 1) (rep (turn_one o)) (rep (turn_two o)) (rep (turn_three o)) in
    let paints = painted-is is.colour next (next + 2) (next + 2 + 1) (rep (turn_one o)) (rep (turn_two o)) (rep (turn_three o))
    (omega arith) (omega arith) in
    let third : (z : ℕ) → next ≤ z → z < next + 2 → paint z ≡ rep (turn_three o) =
    λ z from below. paints.others z from (λ same. omega (arith, same, below)) (λ same. omega (arith, same, below)) in
    subst (λ (w : Sketch). IsSketched n (with_arc part x o) whole (o / 4 ∷ drawn) (front ++ other_three o ++ back) w) (sym end_is)
    (record {
      zipped = before ++ (next + 2, turn_one o) ∷ (next + 2 + 1, turn_two o) ∷ (next + 1, turn_three o) ∷ behind;
      segments = map-append segment before ((next + 2, turn_one o) ∷ (next + 2 + 1, turn_two o) ∷ (next + 1, turn_three o) ∷ behind);
      darts = map-append dart before ((next + 2, turn_one o) ∷ (next + 2 + 1, turn_two o) ∷ (next + 1, turn_three o) ∷ behind)
          ∙ ap₂ (λ zs ws. zs ++ turn_one o ∷ turn_two o ∷ turn_three o ∷ ws) p.front_is p.back_is
          ∙ sym (append_assoc front (other_three o) back);
      joins_below = AllByRecursion-append (λ (pair : ℕ × ℕ). (pair.0 < next + 2 + 2) × (pair.1 < next + 2 + 2)) r.joins
          ((next, next + 1) ∷ []) (AreBelow-wider next (next + 2 + 2) r.joins (omega arith) is.joins_below)
          ((omega arith, omega arith), tt);
      segments_below = AllByRecursion-append (λ (e : ℕ × ℕ). e.0 < next + 2 + 2) before
          ((next + 2, turn_one o) ∷ (next + 2 + 1, turn_two o) ∷ (next + 1, turn_three o) ∷ behind)
          (AllByRecursion-weaker (λ (e : ℕ × ℕ). e.0 < next) (λ (e : ℕ × ℕ). e.0 < next + 2 + 2) before wider below_front) (
            omega arith,
            (
              omega arith,
              (
                omega arith,
                AllByRecursion-weaker (λ (e : ℕ × ℕ). e.0 < next) (λ (e : ℕ × ℕ). e.0 < next + 2 + 2) behind wider below_back.1,
              ),
            ),
          );
      met_below = λ z z_below z_drawn. elim (which o z) [
        | is_zero at ↦ omega (arith, ap (segment_met met) at, values.zero_is, below_back.0)
        | is_one at ↦ omega (arith, ap (segment_met met) at, values.one_is)
        | is_two at ↦ omega (arith, ap (segment_met met) at, values.two_is)
        | is_three at ↦ omega (arith, ap (segment_met met) at, values.three_is)
        | is_other apart ↦ elim z_drawn [
          | inl here ↦ absurd (apart here)
          | inr before_drawn ↦ omega (arith, values.other_is z apart, is.met_below z z_below before_drawn)
        ]
      ];
      known = λ z z_met. elim (cases_eq (z / 4) (o / 4)) [
        | inl at ↦ (dart-there n o z o_below at, inl (at))
        | inr apart ↦
            let old_known = is.known z (sym (met-other o a next (next + 2) z r.met apart) ∙ z_met) in
            (old_known.0, inr old_known.1)
      ];
      all_met = λ z z_below z_drawn. elim (cases_eq (z / 4) (o / 4)) [
        | inl at ↦ met-here o a next (next + 2) z r.met at
        | inr apart ↦ elim z_drawn [
          | inl here ↦ absurd (apart (here))
          | inr z_before ↦ met-other o a next (next + 2) z r.met apart ∙ is.all_met z z_below z_before
        ]
      ];
      reached = λ q q_below. elim (cases_lt q next) [
        | inl early ↦
            let old_reached = is.reached q early in
            record {
              dart = old_reached.dart;
              below = old_reached.below;
              is_drawn = inr old_reached.is_drawn;
              same = λ f holds. old_reached.same f (old f holds) ∙ ap f (sym (keeps old_reached.dart old_reached.is_drawn));
            }
        | inr late ↦ elim (four_next q next q_below late) [
          | next_zero at ↦ reached-here n o (turn_three o) q drawn end o_below (crossing-three o)
              (λ f holds. ap f at ∙ ap f (sym values.three_is))
          | next_one at ↦ reached-here n o (turn_three o) q drawn end o_below (crossing-three o)
              (λ f holds. ap f at ∙ sym (cap f holds) ∙ ap f (sym values.three_is))
          | next_two at ↦ reached-here n o (turn_one o) q drawn end o_below (crossing-one o)
              (λ f holds. ap f at ∙ ap f (sym values.one_is))
          | next_three at ↦ reached-here n o (turn_two o) q drawn end o_below (crossing-two o)
              (λ f holds. ap f at ∙ ap f (sym values.two_is))
        ]
      ];
      along = λ f holds.
          AllByRecursion-append (λ (e : ℕ × ℕ). f e.0 ≡ f (segment_met met e.1)) before
          ((next + 2, turn_one o) ∷ (next + 2 + 1, turn_two o) ∷ (next + 1, turn_three o) ∷ behind)
          (moved f before drawn_front
          (AllByRecursion-first (λ (e : ℕ × ℕ). f e.0 ≡ f (segment_met r.met e.1)) before ((a, x) ∷ behind) (runs f (old f holds)))) (
            sym (ap f values.one_is),
            (
              sym (ap f values.two_is),
              (
                sym (cap f holds) ∙ sym (ap f values.three_is),
                moved f behind drawn_back
                    (AllByRecursion-second (λ (e : ℕ × ℕ). f e.0 ≡ f (segment_met r.met e.1)) before ((a, x) ∷ behind)
                    (runs f (old f holds))).1,
              ),
            ),
          );
      closed = λ f holds z z_below z_drawn. elim (cases_eq z x) [
        | inl is_x ↦
            ap (λ w. f (segment_met met w)) is_x ∙ arc_ends f holds
            ∙ sym (ap (λ w. f (segment_met met (with_arc part x o w))) is_x ∙ ap (λ w. f (segment_met met w)) (arc-first part x o))
        | inr not_x ↦ elim (cases_eq z o) [
          | inl is_o ↦
              ap (λ w. f (segment_met met w)) is_o ∙ sym (arc_ends f holds)
              ∙ sym (ap (λ w. f (segment_met met (with_arc part x o w))) is_o ∙ ap (λ w. f (segment_met met w)) (arc-second part x o o_apart))
          | inr not_o ↦
              let rest = arc-other part x o z not_x not_o in
              elim (cases_eq (z / 4) (o / 4)) [
                | inl at ↦ sym (ap (λ w. f (segment_met met w)) (rest ∙ alone z at z_below))
                | inr apart ↦ elim z_drawn [
                  | inl here ↦ absurd (apart here)
                  | inr z_before ↦
                      let partner_far : part z / 4 ≢ o / 4 =
                      λ at. apart (ap (λ w. w / 4) (sym (drawing.is_partner.back z z_below) ∙ alone (part z) at (drawing.is_partner.below z z_below))
                      ∙ at) in
                      ap f (values.other_is z apart) ∙ is.closed f (old f holds) z z_below z_before
                      ∙ sym (ap f (values.other_is (part z) partner_far)) ∙ sym (ap (λ w. f (segment_met met w)) rest)
                ]
              ]
        ]
      ];
      colour = paint;
      respects = AllByRecursion-append (λ (pair : ℕ × ℕ). paint pair.0 ≡ paint pair.1) r.joins ((next, next + 1) ∷ [])
          (respects-old is.colour paint next r.joins paints.old is.joins_below is.respects) (
            third next (omega arith) (omega arith) ∙ sym (third (next + 1) (omega arith) (omega arith)),
            tt,
          );
      named = λ z z_below z_drawn. elim (which o z) [
        | is_zero at ↦
            ap (λ w. paint (segment_met met w)) at ∙ ap paint values.zero_is ∙ paints.old a below_back.0
            ∙ at_x is.colour is.respects ∙ is.named x x_below x_drawn
            ∙ min_swap x o ∙ ap (λ w. min o w) (sym (pairing.back x x_below)) ∙ sym (ap rep at)
        | is_one at ↦ ap (λ w. paint (segment_met met w)) at ∙ ap paint values.one_is ∙ paints.first ∙ sym (ap rep at)
        | is_two at ↦ ap (λ w. paint (segment_met met w)) at ∙ ap paint values.two_is ∙ paints.second ∙ sym (ap rep at)
        | is_three at ↦
            ap (λ w. paint (segment_met met w)) at ∙ ap paint values.three_is ∙ third next (omega arith) (omega arith) ∙ sym (ap rep at)
        | is_other apart ↦ elim z_drawn [
          | inl here ↦ absurd (apart here)
          | inr z_before ↦
              ap paint (values.other_is z apart) ∙ paints.old (segment_met r.met z) (is.met_below z z_below z_before)
              ∙ is.named z z_below z_before
        ]
      ];
    })
  where
    all_darts : (zipped : List (ℕ × ℕ)) (row : List ℕ) → map dart zipped ≡ row → AllByRecursion (λ z. IsIn (z / 4) drawn) row
        → AllByRecursion (λ (e : ℕ × ℕ). IsIn (e.1 / 4) drawn) zipped
    all_darts zipped row same holds = from zipped (subst (λ (zs : List ℕ). AllByRecursion (λ z. IsIn (z / 4) drawn) zs) (sym same) holds)
      where
        from : (xs : List (ℕ × ℕ)) → AllByRecursion (λ z. IsIn (z / 4) drawn) (map dart xs) → AllByRecursion (λ (e : ℕ × ℕ). IsIn (e.1 / 4) drawn) xs
        from [] all = tt
        from (e ∷ xs) all = (all.0, from xs all.1)

-- rule 1
