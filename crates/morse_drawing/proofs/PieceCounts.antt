-- The pieces of a drawing under way: a strand that leads to a new crossing joins that crossing's piece to another, and a cup joins two
-- darts of one piece.
use Rattle.std.proofs.Common.{◌≡◌, ◌≢◌, ℕ, inl, inr, ◌+◌, ◌*◌, ◌/◌, ◌<◌, ◌∙◌, List, ◌∷◌, ◌++◌, map, refl, sym, ap, subst, arith}
use Rattle.std.specs.Prelude.{nat_eq, slice_index, if◌then◌else◌}
use Rattle.std.specs.List.{range_with_len}
use Rattle.std.proofs.lemmas.Bool.{cases_eq, eq-eqb, ne_eqb}
use Rattle.kh_types.specs.Classes.{Respects, class_count, classes_of}
use Rattle.kh_types.specs.Darts.{IsPairing}
use Rattle.kh_types.specs.Faces.{open_faces, open_pieces, piece_pair}
use Rattle.kh_types.proofs.ClassLemmas.{classes-finest}
use Rattle.face_walk.specs.AddedArcs.{open_piece_count, with_arc}
use Rattle.face_walk.proofs.AddedArcs.{HasArcMore-with_arc, JoinsPieces-apart}
use Rattle.kh_types.proofs.ExchangedCycles.{AreJoined-count}
use Rattle.face_walk.proofs.OpenFaces.{IsNamed-open_pieces, open_faces-in_pieces, piece_pairs-below}
use Rattle.kh_types.proofs.RangeImages.{all-map_range, map_range-agree}
use Rattle.morse_drawing.specs.DartRows.{IsDrawing, IsIn}
use Rattle.morse_drawing.proofs.Helpers.{open_faces-step, open_pieces-inside}
use Rattle.morse_drawing.proofs.Links.{AreLinked-keeps}
use Rattle.kh_types.proofs.Lists.{AllByRecursion-second, AllByRecursion-weaker}
use Rattle.morse_drawing.proofs.RowMoves.{IsDartRow-turned}

-- a crossing whose darts have no arcs is a piece by itself
abbrev marked : ℕ → ℕ → ℕ
marked crossing c = if nat_eq c crossing then 1 else 0

marked-here : (c : ℕ) → marked c c ≡ 1
marked-here c = ap (λ b. if b then 1 else 0) (eq-eqb c c refl)

marked-away : (c k : ℕ) → k ≢ c → marked c k ≡ 0
marked-away c k apart = ap (λ b. if b then 1 else 0) (ne_eqb k c apart)

bare-apart : (n : ℕ) (part : ℕ → ℕ) (c k : ℕ) → IsPairing (4 * n) part → ((x : ℕ) → x < 4 * n → x / 4 ≡ c → part x ≡ x)
    → c < n → k < n → k ≢ c → slice_index (open_pieces n part) k ≢ slice_index (open_pieces n part) c
bare-apart n part c k pairing bare c_below k_below apart same =
    let respects : Respects (marked c) (map (piece_pair part) (range_with_len 0 (4 * n))) =
    all-map_range (λ (pair : ℕ × ℕ). marked c pair.0 ≡ marked c pair.1) (piece_pair part) 0 (4 * n)
    (λ x below. elim (cases_eq (x / 4) c) [
      | inl at ↦ ap (λ y. marked c (y / 4)) (sym (bare x (omega (arith, below)) at))
      | inr away ↦
          let x_below : x < 4 * n = omega (arith, below) in
          marked-away c (x / 4) away
          ∙ sym (marked-away c (part x / 4)
          (λ at. away (ap (λ y. y / 4) (sym (pairing.back x x_below) ∙ bare (part x) (pairing.below x x_below) at) ∙ at)))
    ]) in
    let one = classes-finest (marked c) n (map (piece_pair part) (range_with_len 0 (4 * n))) respects (piece_pairs-below n part pairing) k c
    k_below c_below same in
    omega (arith, marked-away c k apart, one, marked-here c)

pub pieces-crossed : (n : ℕ) (part whole : ℕ → ℕ) (drawn front back : List ℕ) (dart : ℕ) → IsPairing (4 * n) whole
    → IsDrawing n part whole drawn (front ++ dart ∷ back) → (IsIn (whole dart / 4) drawn → ⊥)
    → open_piece_count n part ≡ open_piece_count n (with_arc part dart (whole dart)) + 1
pieces-crossed n part whole drawn front back dart whole_partner drawing new =
    let other = whole dart in
    let here = (AllByRecursion-second (λ z. (z < 4 * n) × (part z ≡ z)) front (dart ∷ back) drawing.is_row.are_open).0 in
    let dart_drawn = (AllByRecursion-second (λ z. IsIn (z / 4) drawn) front (dart ∷ back) drawing.at_drawn).0 in
    let other_below = whole_partner.below dart here.0 in
    let bare : (x : ℕ) → x < 4 * n → x / 4 ≡ other / 4 → part x ≡ x =
    λ x below at. drawing.others_bare x below (λ is_in. new (subst (λ (c : ℕ). IsIn c drawn) at is_in)) in
    let apart : dart ≢ other = λ same. new (subst (λ (c : ℕ). IsIn (c / 4) drawn) same dart_drawn) in
    let crossings_apart : dart / 4 ≢ other / 4 = λ same. new (subst (λ (c : ℕ). IsIn c drawn) same dart_drawn) in
    let more = HasArcMore-with_arc (4 * n) part dart other here.0 other_below apart here.1 (bare other other_below refl) in
    let dart_at : dart / 4 < n = omega (arith, here.0) in
    let other_at : other / 4 < n = omega (arith, other_below) in
    let pieces_apart = bare-apart n part (other / 4) (dart / 4) drawing.is_partner bare other_at dart_at crossings_apart in
    AreJoined-count n (open_pieces n part) (open_pieces n (with_arc part dart other)) (dart / 4) (other / 4)
    (IsNamed-open_pieces n part drawing.is_partner) dart_at other_at
    (JoinsPieces-apart n part (with_arc part dart other) dart other drawing.is_partner more pieces_apart).pieces

pub pieces-closed : (n : ℕ) (part whole : ℕ → ℕ) (drawn front back : List ℕ) (dart other : ℕ)
    → IsDrawing n part whole drawn (front ++ dart ∷ other ∷ back)
    → open_piece_count n (with_arc part dart other) ≡ open_piece_count n part
pieces-closed n part whole drawn front back dart other drawing =
    let row = IsDartRow-turned n part front (dart ∷ other ∷ back) drawing.is_row in
    let darts = other ∷ (back ++ front) in
    let face : ℕ → ℕ = λ z. slice_index (open_faces n part) z in
    let here = row.are_open.0 in
    let there = row.are_open.1.0 in
    let in_face = AreLinked-keeps face n part dart dart darts (λ z z_below. open_faces-step n part z drawing.is_partner z_below) here.0
    (AllByRecursion-weaker (λ z. (z < 4 * n) × (part z ≡ z)) (λ z. z < 4 * n) darts (λ z all. all.0) row.are_open.1) row.round in
    let together = open_faces-in_pieces n part dart other drawing.is_partner here.0 there.0 (sym in_face.0.0) in
    let more = HasArcMore-with_arc (4 * n) part dart other here.0 there.0 (λ same. row.once.0.0 (sym same)) here.1 there.1 in
    ap class_count (open_pieces-inside n part (with_arc part dart other) dart other drawing.is_partner more together)

abbrev pair_of : ℕ → ℕ → ℕ × ℕ
pair_of x y = (x, y)

pub pieces-same : (n : ℕ) (part whole : ℕ → ℕ) → ((x : ℕ) → x < 4 * n → part x ≡ whole x)
    → open_piece_count n part ≡ open_piece_count n whole
pieces-same n part whole same =
    ap (λ pairs. class_count (classes_of n pairs))
    (map_range-agree (piece_pair part) (piece_pair whole) 0 (4 * n) (λ k below. ap (λ y. pair_of (k / 4) (y / 4)) (same k (omega (arith, below)))))
