-- What is read of a drawing's slices, after a cup.
use Rattle.std.proofs.Common.{◌≡◌, ◌≢◌, ℕ, inl, inr, ◌+◌, ◌*◌, ◌/◌, ◌<◌, ◌∙◌, List, [], ◌∷◌, ◌++◌, length, map, sym, ap, ap₂, subst, min}
use Rattle.std.specs.List.{AllByRecursion}
use Rattle.std.proofs.lemmas.Bool.{cases_eq}
use Rattle.std.proofs.lemmas.List.{length-map, map-append}
use Rattle.kh_types.specs.Classes.{Respects}
use Rattle.kh_types.proofs.Lists.{AllByRecursion-append, AllByRecursion-first, AllByRecursion-second}
use Rattle.face_walk.specs.AddedArcs.{with_arc}
use Rattle.face_walk.proofs.AddedArcs.{arc-first, arc-second, arc-other}
use Rattle.morse_drawing.specs.Sketches.{IsSketched, Sketch, segment_met, sketched}
use Rattle.morse_drawing.specs.DartRows.{IsIn}
use Rattle.morse_drawing.specs.declared.slice.Slice.TheVariants.{Cup}
use Rattle.morse_drawing.proofs.SketchParts.{segment, dart, made, pair_of, cup-is, parted, head_of, min_swap}

-- rule 3
pub sketched-closed : (n : ℕ) (part whole : ℕ → ℕ) (drawn front back : List ℕ) (x y : ℕ) (r : Sketch)
    → IsSketched n part whole drawn (front ++ x ∷ y ∷ back) r → whole x ≡ y → whole y ≡ x → y ≢ x
    → x < 4 * n → y < 4 * n → IsIn (x / 4) drawn → IsIn (y / 4) drawn
    → IsSketched n (with_arc part x y) whole drawn (front ++ back) (sketched r (Cup (length front + 1)))
sketched-closed n part whole drawn front back x y r is is_arc is_back apart x_below y_below x_drawn y_drawn =
    let p = parted is.zipped front x (y ∷ back) is.darts in
    let h = head_of p.behind y back p.back_is in
    let a = p.at in
    let b = h.0 in
    let before = p.before in
    let behind = h.1 in
    let zipped_is : is.zipped ≡ before ++ (a, x) ∷ (b, y) ∷ behind = p.whole_is ∙ ap (λ zs. before ++ pair_of a x ∷ zs) h.2 in
    let left = map segment before in
    let right = map segment behind in
    let row_is : r.row ≡ left ++ a ∷ b ∷ right =
    sym is.segments ∙ ap (map segment) zipped_is ∙ map-append segment before ((a, x) ∷ (b, y) ∷ behind) in
    let size : length front ≡ length left =
    sym (ap (λ zs. length zs) p.front_is) ∙ length-map before dart ∙ sym (length-map before segment) in
    let joins = r.joins ++ (a, b) ∷ [] in
    let end = made (left ++ right) r.next joins r.met in
    let end_is : sketched r (Cup (length front + 1)) ≡ end =
    ap₂ (λ w k. sketched (made w r.next r.joins r.met) (Cup (k + 1))) row_is size ∙ cup-is left right a b r.next r.joins r.met in
    let Both : (P : ℕ × ℕ → Type 0) → AllByRecursion P is.zipped → AllByRecursion P (before ++ (a, x) ∷ (b, y) ∷ behind) =
    λ P holds. subst (λ (zs : List (ℕ × ℕ)). AllByRecursion P zs) zipped_is holds in
    let below = Both (λ e. e.0 < r.next) is.segments_below in
    let below_two = AllByRecursion-second (λ (e : ℕ × ℕ). e.0 < r.next) before ((a, x) ∷ (b, y) ∷ behind) below in
    let runs : (f : ℕ → ℕ) → Respects f r.joins
    → AllByRecursion (λ (e : ℕ × ℕ). f e.0 ≡ f (segment_met r.met e.1)) (before ++ (a, x) ∷ (b, y) ∷ behind) =
    λ f holds. Both (λ e. f e.0 ≡ f (segment_met r.met e.1)) (is.along f holds) in
    let runs_two : (f : ℕ → ℕ) → Respects f r.joins
    → AllByRecursion (λ (e : ℕ × ℕ). f e.0 ≡ f (segment_met r.met e.1)) ((a, x) ∷ (b, y) ∷ behind) =
    λ f holds. AllByRecursion-second (λ (e : ℕ × ℕ). f e.0 ≡ f (segment_met r.met e.1)) before ((a, x) ∷ (b, y) ∷ behind) (runs f holds) in
    let old : (f : ℕ → ℕ) → Respects f joins → Respects f r.joins =
    λ f holds. AllByRecursion-first (λ (pair : ℕ × ℕ). f pair.0 ≡ f pair.1) r.joins ((a, b) ∷ []) holds in
    let joined : (f : ℕ → ℕ) → Respects f joins → f (segment_met r.met x) ≡ f (segment_met r.met y) =
    λ f holds.
    let ab = (AllByRecursion-second (λ (pair : ℕ × ℕ). f pair.0 ≡ f pair.1) r.joins ((a, b) ∷ []) holds).0 in
    let two = runs_two f (old f holds) in sym two.0 ∙ ab ∙ two.1.0 in
    let colours = runs_two is.colour is.respects in
    subst (λ (w : Sketch). IsSketched n (with_arc part x y) whole drawn (front ++ back) w) (sym end_is)
    (record {
      zipped = before ++ behind;
      segments = map-append segment before behind;
      darts = map-append dart before behind ∙ ap₂ (λ zs ws. zs ++ ws) p.front_is h.3;
      joins_below = AllByRecursion-append (λ (pair : ℕ × ℕ). (pair.0 < r.next) × (pair.1 < r.next)) r.joins ((a, b) ∷ []) is.joins_below
          ((below_two.0, below_two.1.0), tt);
      segments_below = AllByRecursion-append (λ (e : ℕ × ℕ). e.0 < r.next) before behind
          (AllByRecursion-first (λ (e : ℕ × ℕ). e.0 < r.next) before ((a, x) ∷ (b, y) ∷ behind) below) below_two.1.1;
      met_below = is.met_below;
      known = is.known;
      all_met = is.all_met;
      reached = λ q q_below.
          let old_reached = is.reached q q_below in
          record {
            dart = old_reached.dart;
            below = old_reached.below;
            is_drawn = old_reached.is_drawn;
            same = λ f holds. old_reached.same f (old f holds);
          };
      along = λ f holds.
          AllByRecursion-append (λ (e : ℕ × ℕ). f e.0 ≡ f (segment_met r.met e.1)) before behind
          (AllByRecursion-first (λ (e : ℕ × ℕ). f e.0 ≡ f (segment_met r.met e.1)) before ((a, x) ∷ (b, y) ∷ behind) (runs f (old f holds)))
          (runs_two f (old f holds)).1.1;
      closed = λ f holds z z_below z_drawn. elim (cases_eq z x) [
        | inl is_x ↦
            ap (λ w. f (segment_met r.met w)) is_x ∙ joined f holds
            ∙ sym (ap (λ w. f (segment_met r.met (with_arc part x y w))) is_x ∙ ap (λ w. f (segment_met r.met w)) (arc-first part x y))
        | inr not_x ↦ elim (cases_eq z y) [
          | inl is_y ↦
              ap (λ w. f (segment_met r.met w)) is_y ∙ sym (joined f holds)
              ∙ sym (ap (λ w. f (segment_met r.met (with_arc part x y w))) is_y ∙ ap (λ w. f (segment_met r.met w)) (arc-second part x y apart))
          | inr not_y ↦
              is.closed f (old f holds) z z_below z_drawn ∙ sym (ap (λ w. f (segment_met r.met w)) (arc-other part x y z not_x not_y))
        ]
      ];
      colour = is.colour;
      respects = AllByRecursion-append (λ (pair : ℕ × ℕ). is.colour pair.0 ≡ is.colour pair.1) r.joins ((a, b) ∷ []) is.respects (
        colours.0 ∙ is.named x x_below x_drawn ∙ ap (λ w. min x w) is_arc ∙ min_swap x y
            ∙ sym (ap (λ w. min y w) is_back) ∙ sym (is.named y y_below y_drawn) ∙ sym colours.1.0,
        tt,
      );
      named = is.named;
    })
