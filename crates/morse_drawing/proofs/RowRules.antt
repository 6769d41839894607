-- The rules of the drawing keep what the row is: the open darts of the crossings drawn so far, each once, in their order round
-- one face, while all darts of other crossings are bare. This holds where nothing is drawn. Rule 1 begins a crossing with its
-- four darts, rule 2 puts the other three darts of a new crossing in the place of a dart whose partner is there, and rule 3 takes
-- out two neighbours that are partners. That the order stays comes from the moves of rows; the rest is that a dart which is open
-- afterwards stands in the row: it is of the new crossing, or was open before and is no end of the new arc. Where rule 2 finds
-- nothing, the partner of each dart of the row is open at a drawn crossing, so it stands in the row too, and as the whole is
-- planar rule 3 finds its pair. Where the row is empty and all crossings are drawn, all arcs are closed.
use Rattle.std.proofs.lemmas.Bool.Decides.{nat_tests}
use Rattle.std.proofs.Common.{◌≡◌, ◌≢◌, ℕ, inl, inr, ◌*◌, ◌/◌, ◌<◌, ◌∙◌, List, [], ◌∷◌, ◌++◌, refl, sym, ap, subst, arith}
use Rattle.std.specs.List.{AllByRecursion}
use Rattle.std.proofs.lemmas.Bool.{cases_eq}
use Rattle.kh_types.specs.Darts.{IsPairing}
use Rattle.face_walk.specs.AddedArcs.{IsPlanar, with_arc, bare}
use Rattle.morse_drawing.specs.DartRows.{IsIn, AreDifferent, IsDrawing, other_three}
use Rattle.morse_drawing.proofs.RowPlaces.{HasNeighbours}
use Rattle.face_walk.proofs.AddedArcs.{HasArcMore-with_arc, IsPairing-more}
use Rattle.face_walk.proofs.PartArcs.{IsPart-more}
use Rattle.kh_types.proofs.Lists.{AllByRecursion-append, AllByRecursion-first, AllByRecursion-second, AllByRecursion-weaker}
use Rattle.morse_drawing.proofs.Neighbours.{in_either, all_in, all_by_in, in_front, HasNeighbours-row}
use Rattle.morse_drawing.proofs.RowMoves.{IsDartRow-crossed, IsDartRow-closed}

in_back : (y : ℕ) (bs cs : List ℕ) → IsIn y cs → IsIn y (bs ++ cs)
in_back y [] cs is_in = is_in
in_back y (b ∷ bs) cs is_in = inr (in_back y bs cs is_in)

-- the four darts of a crossing
four_darts : (x dart : ℕ) → x / 4 ≡ dart / 4 → IsIn x (dart ∷ other_three dart)
four_darts x dart at = grind (arith)

below_there : (n x dart : ℕ) → dart < 4 * n → x / 4 ≡ dart / 4 → x < 4 * n
below_there n x dart below at = omega (arith, below, at)

three_there : (dart : ℕ) → AllByRecursion (λ z. z / 4 ≡ dart / 4) (other_three dart)
three_there dart = (omega arith, (omega arith, (omega arith, tt)))

-- the drawing begins with nothing drawn
pub IsDrawing-none : (n : ℕ) (whole : ℕ → ℕ) → IsDrawing n bare whole [] []
IsDrawing-none n whole = grind (arith, nat_tests)

-- rule 1: a crossing that is not drawn, where the row is empty
pub IsDrawing-first : (n : ℕ) (part whole : ℕ → ℕ) (drawn : List ℕ) (dart : ℕ) → IsDrawing n part whole drawn [] → dart < 4 * n
    → (IsIn (dart / 4) drawn → ⊥) → IsDrawing n part whole (dart / 4 ∷ drawn) (dart ∷ other_three dart)
IsDrawing-first n part whole drawn dart drawing below new = grind (arith, nat_tests)

-- rule 2: a crossing that is not drawn, at the other end of the arc of a dart of the row
pub IsDrawing-crossed : (n : ℕ) (part whole : ℕ → ℕ) (drawn front back : List ℕ) (dart : ℕ) → IsPairing (4 * n) whole
    → IsDrawing n part whole drawn (front ++ dart ∷ back) → (IsIn (whole dart / 4) drawn → ⊥)
    → IsDrawing n (with_arc part dart (whole dart)) whole (whole dart / 4 ∷ drawn) (front ++ other_three (whole dart) ++ back)
IsDrawing-crossed n part whole drawn front back dart whole_partner drawing new =
    let other = whole dart in
    let after = with_arc part dart (whole dart) in
    let here = (AllByRecursion-second (λ z. (z < 4 * n) × (part z ≡ z)) front (dart ∷ back) drawing.is_row.are_open).0 in
    let dart_drawn = (AllByRecursion-second (λ z. IsIn (z / 4) drawn) front (dart ∷ back) drawing.at_drawn).0 in
    let other_below = whole_partner.below dart here.0 in
    let bare : (x : ℕ) → x / 4 ≡ other / 4 → part x ≡ x =
    λ x at. drawing.others_bare x (below_there n x other other_below at) (λ is_in. new (subst (λ (c : ℕ). IsIn c drawn) at is_in)) in
    let apart : dart ≢ other = λ same. new (subst (λ (c : ℕ). IsIn (c / 4) drawn) same dart_drawn) in
    let more = HasArcMore-with_arc (4 * n) part dart other here.0 other_below apart here.1 (bare other refl) in
    let dart_closed : after dart ≢ dart = λ same. apart (sym same ∙ more.dart_after) in
    let other_closed : after other ≢ other = λ same. apart (sym more.other_after ∙ same) in
    record {
      is_partner = IsPairing-more (4 * n) part after dart other drawing.is_partner more;
      is_part = IsPart-more (4 * n) part after whole dart other whole_partner drawing.is_part more refl;
      is_row = IsDartRow-crossed n part after dart other front back more
          (record {
            below = other_below;
            alone = bare;
            beside = AllByRecursion-weaker (λ z. IsIn (z / 4) drawn) (λ z. z / 4 ≢ other / 4) (front ++ dart ∷ back)
                (λ z is_in at. new (subst (λ (c : ℕ). IsIn c drawn) at is_in)) drawing.at_drawn;
          }) drawing.is_row;
      at_drawn = AllByRecursion-append (λ z. IsIn (z / 4) (other / 4 ∷ drawn)) (front ++ other_three other) back
          (AllByRecursion-append (λ z. IsIn (z / 4) (other / 4 ∷ drawn)) front (other_three other)
          (AllByRecursion-weaker (λ z. IsIn (z / 4) drawn) (λ z. IsIn (z / 4) (other / 4 ∷ drawn)) front (λ z is_in. inr is_in)
          (AllByRecursion-first (λ z. IsIn (z / 4) drawn) front (dart ∷ back) drawing.at_drawn))
          (AllByRecursion-weaker (λ z. z / 4 ≡ other / 4) (λ z. IsIn (z / 4) (other / 4 ∷ drawn)) (other_three other)
          (λ z at. inl at) (three_there other)))
          (AllByRecursion-weaker (λ z. IsIn (z / 4) drawn) (λ z. IsIn (z / 4) (other / 4 ∷ drawn)) back (λ z is_in. inr is_in)
          (AllByRecursion-second (λ z. IsIn (z / 4) drawn) front (dart ∷ back) drawing.at_drawn).1);
      all_open = λ x x_below is_open is_in. elim is_in [
        | inl at_other ↦ elim (four_darts x other at_other) [
          | inl is_other ↦ absurd (other_closed (ap after (sym is_other) ∙ is_open ∙ is_other))
          | inr in_three ↦ in_front x (front ++ other_three other) back (in_back x front (other_three other) in_three)
        ]
        | inr before ↦ elim (cases_eq x dart) [
          | inl is_dart ↦ absurd (dart_closed (ap after (sym is_dart) ∙ is_open ∙ is_dart))
          | inr not_dart ↦ elim (cases_eq x other) [
            | inl is_other ↦ absurd (other_closed (ap after (sym is_other) ∙ is_open ∙ is_other))
            | inr not_other ↦
                let found = drawing.all_open x x_below (sym (more.others x x_below not_dart not_other) ∙ is_open) before in
                elim (in_either x dart front back found) [
                  | inl in_one ↦ in_front x (front ++ other_three other) back (in_front x front (other_three other) in_one)
                  | inr rest ↦ elim rest [
                    | inl is_dart ↦ absurd (not_dart is_dart)
                    | inr in_two ↦ in_back x (front ++ other_three other) back in_two
                  ]
                ]
          ]
        ]
      ];
      others_bare = λ x x_below is_bare.
          let not_dart : x ≢ dart = λ same. is_bare (inr (subst (λ (c : ℕ). IsIn (c / 4) drawn) (sym same) dart_drawn)) in
          let not_other : x ≢ other = λ same. is_bare (inl (ap (λ z. z / 4) same)) in
          more.others x x_below not_dart not_other ∙ drawing.others_bare x x_below (λ before. is_bare (inr before));
    }

-- two neighbours of a list without repetition are not one
pub apart_in : (front : List ℕ) (x y : ℕ) (back : List ℕ) → AreDifferent (front ++ x ∷ y ∷ back) → x ≢ y
apart_in [] x y back once same = once.0.0 (sym same)
apart_in (z ∷ zs) x y back once same = apart_in zs x y back once.1 same

-- rule 3: two neighbours of the row that are partners
pub IsDrawing-closed : (n : ℕ) (part whole : ℕ → ℕ) (drawn front back : List ℕ) (dart other : ℕ) → IsPairing (4 * n) whole
    → IsDrawing n part whole drawn (front ++ dart ∷ other ∷ back) → whole dart ≡ other
    → IsDrawing n (with_arc part dart other) whole drawn (front ++ back)
IsDrawing-closed n part whole drawn front back dart other whole_partner drawing is_arc =
    let after = with_arc part dart other in
    let here = AllByRecursion-second (λ z. (z < 4 * n) × (part z ≡ z)) front (dart ∷ other ∷ back) drawing.is_row.are_open in
    let drawn_here = AllByRecursion-second (λ z. IsIn (z / 4) drawn) front (dart ∷ other ∷ back) drawing.at_drawn in
    let apart : dart ≢ other = apart_in front dart other back drawing.is_row.once in
    let more = HasArcMore-with_arc (4 * n) part dart other here.0.0 here.1.0.0 apart here.0.1 here.1.0.1 in
    let dart_closed : after dart ≢ dart = λ same. apart (sym same ∙ more.dart_after) in
    let other_closed : after other ≢ other = λ same. apart (sym more.other_after ∙ same) in
    record {
      is_partner = IsPairing-more (4 * n) part after dart other drawing.is_partner more;
      is_part = IsPart-more (4 * n) part after whole dart other whole_partner drawing.is_part more is_arc;
      is_row = IsDartRow-closed n part after dart other front back more drawing.is_row;
      at_drawn = AllByRecursion-append (λ z. IsIn (z / 4) drawn) front back
          (AllByRecursion-first (λ z. IsIn (z / 4) drawn) front (dart ∷ other ∷ back) drawing.at_drawn) drawn_here.1.1;
      all_open = λ x x_below is_open is_in. elim (cases_eq x dart) [
        | inl is_dart ↦ absurd (dart_closed (ap after (sym is_dart) ∙ is_open ∙ is_dart))
        | inr not_dart ↦ elim (cases_eq x other) [
          | inl is_other ↦ absurd (other_closed (ap after (sym is_other) ∙ is_open ∙ is_other))
          | inr not_other ↦
              let found = drawing.all_open x x_below (sym (more.others x x_below not_dart not_other) ∙ is_open) is_in in
              elim (in_either x dart front (other ∷ back) found) [
                | inl in_one ↦ in_front x front back in_one
                | inr rest ↦ elim rest [
                  | inl is_dart ↦ absurd (not_dart is_dart)
                  | inr behind ↦ elim behind [
                    | inl is_other ↦ absurd (not_other is_other)
                    | inr in_two ↦ in_back x front back in_two
                  ]
                ]
              ]
        ]
      ];
      others_bare = λ x x_below is_bare.
          let not_dart : x ≢ dart = λ same. is_bare (subst (λ (c : ℕ). IsIn (c / 4) drawn) (sym same) drawn_here.0) in
          let not_other : x ≢ other = λ same. is_bare (subst (λ (c : ℕ). IsIn (c / 4) drawn) (sym same) drawn_here.1.0) in
          more.others x x_below not_dart not_other ∙ drawing.others_bare x x_below is_bare;
    }

-- where rule 2 finds nothing, rule 3 finds its pair
pub HasNeighbours-drawing : (n : ℕ) (part whole : ℕ → ℕ) (drawn : List ℕ) (dart : ℕ) (darts : List ℕ) → IsPairing (4 * n) whole
    → IsPlanar n whole → ((x : ℕ) → x < 4 * n → whole x ≢ x) → IsDrawing n part whole drawn (dart ∷ darts)
    → AllByRecursion (λ z. IsIn (whole z / 4) drawn) (dart ∷ darts) → HasNeighbours whole (dart ∷ darts)
HasNeighbours-drawing n part whole drawn dart darts whole_partner planar full drawing at_drawn =
    HasNeighbours-row n part whole dart darts drawing.is_partner whole_partner drawing.is_part planar full drawing.is_row
    (all_by_in (λ z. IsIn (whole z) (dart ∷ darts)) (dart ∷ darts)
    (λ z z_in.
    let here = all_in (λ z. (z < 4 * n) × (part z ≡ z)) (dart ∷ darts) z drawing.is_row.are_open z_in in
    let other_below = whole_partner.below z here.0 in
    let other_open : part (whole z) ≡ whole z =
    elim (drawing.is_part (whole z) other_below) [
      | inr is ↦ is
      | inl same ↦
          absurd (full z here.0
          (sym (drawing.is_partner.back (whole z) other_below) ∙ ap part (same ∙ whole_partner.back z here.0) ∙ here.1))
    ] in
    drawing.all_open (whole z) other_below other_open (all_in (λ z. IsIn (whole z / 4) drawn) (dart ∷ darts) z at_drawn z_in)))

-- where all crossings are drawn and the row is empty, all arcs are closed
pub IsDrawing-whole : (n : ℕ) (part whole : ℕ → ℕ) (drawn : List ℕ) → IsDrawing n part whole drawn []
    → ((x : ℕ) → x < 4 * n → IsIn (x / 4) drawn) → (x : ℕ) → x < 4 * n → part x ≡ whole x
IsDrawing-whole n part whole drawn drawing all x below = grind (arith, nat_tests)
