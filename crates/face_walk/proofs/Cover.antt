-- The double cover of crossings with arcs: over each crossing there are two, and over each arc two, which lead from a dart of one
-- colour to one of the other, where the colour of a dart is told by its crossing's sheet and its slot. A face step of the cover
-- goes above one below, and keeps the colour: so over each face there are two at least, one of either colour. Over the ends of an
-- arc lie the same two pieces, so over each piece there are two at most, and fewer in all where both crossings above a crossing
-- are in one piece. The cover too has at most as many faces as on the sphere. So of a planar whole without open darts, the two
-- crossings above each crossing are in different pieces: else the cover would have too many faces for its pieces.
use Rattle.std.proofs.Common.{◌≡◌, ◌≢◌, ℕ, ◌⊎◌, inl, inr, ◌+◌, ◌*◌, ◌/◌, ◌%◌, ◌<◌, ◌≤◌, ◌∙◌, List, length, map, sym, ap, arith, Bool, true, not, ◌&&◌, eq-eqb, eqb-true}
use Rattle.std.specs.Prelude.{slice_index, nat_eq, min, max, if◌then◌else◌}
use Rattle.std.specs.List.{count_by, range_with_len}
use Rattle.std.proofs.lemmas.List.Sums.{length-filter}
use Rattle.std.proofs.lemmas.Bool.{cases_eq}
use Rattle.std.proofs.lemmas.Bool.Decides.{nat_tests}
use Rattle.kh_types.specs.Classes.{class_count, is_least}
use Rattle.kh_types.specs.Darts.{IsPairing, face_step, turned}
use Rattle.kh_types.specs.Faces.{open_faces, open_pieces, piece_pair}
use Rattle.kh_types.proofs.ClassLemmas.{classes-finest}
use Rattle.kh_types.proofs.RangeCounts.{but, count_by-but}
use Rattle.face_walk.specs.AddedArcs.{open_face_count, open_piece_count}
use Rattle.kh_types.proofs.RangeImages.{all-map_range}
use Rattle.face_walk.proofs.OpenFaces.{AreCycles-open_faces, IsNamed-open_pieces, piece_pairs-below, open_pieces-ends}
use Rattle.face_walk.proofs.PartArcs.{planar-bound}
use Rattle.face_walk.proofs.PlainCounts.{count_by-one_to_one, count_by-halves}

-- the dart below a dart of the cover, and the sheet of its crossing
abbrev pub base : ℕ → ℕ
base y = 4 * (y / 8) + y % 4

abbrev pub sheet : ℕ → ℕ
sheet y = y / 4 % 2

-- the dart of the cover above a dart, on a sheet
abbrev pub lift : ℕ → ℕ → ℕ
lift x s = 8 * (x / 4) + 4 * s + x % 4

abbrev pub tone : ℕ → ℕ
tone y = (sheet y + y % 4) % 2

abbrev pub cover : (ℕ → ℕ) → ℕ → ℕ
cover p y = lift (p (base y)) ((sheet y + y % 4 + p (base y) % 4 + 1) % 2)

base-lift : (x s : ℕ) → s < 2 → base (lift x s) ≡ x
base-lift x s below = omega arith

sheet-lift : (x s : ℕ) → s < 2 → sheet (lift x s) ≡ s
sheet-lift x s below = omega arith

slot-lift : (x s : ℕ) → s < 2 → lift x s % 4 ≡ x % 4
slot-lift x s below = omega arith

crossing-lift : (x s : ℕ) → s < 2 → lift x s / 4 ≡ 2 * (x / 4) + s
crossing-lift x s below = omega arith

two-below : (k : ℕ) → k % 2 < 2
two-below k = omega arith

base-cover : (p : ℕ → ℕ) (y : ℕ) → base (cover p y) ≡ p (base y)
base-cover p y = base-lift (p (base y)) ((sheet y + y % 4 + p (base y) % 4 + 1) % 2) (two-below (sheet y + y % 4 + p (base y) % 4 + 1))

lift-below : (n x s : ℕ) → x < 4 * n → s < 2 → lift x s < 4 * (2 * n)
lift-below n x s below s_below = omega (arith, below, s_below)

base-below : (n y : ℕ) → y < 4 * (2 * n) → base y < 4 * n
base-below n y below = omega (arith, below)

pub IsPairing-cover : (n : ℕ) (p : ℕ → ℕ) → IsPairing (4 * n) p → IsPairing (4 * (2 * n)) (cover p)
IsPairing-cover n p pairing = grind (arith, nat_tests)

-- a face step of the cover is one of the darts below, and keeps the colour
base-turned : (z : ℕ) → base (turned z) ≡ turned (base z)
base-turned z = omega arith

base-face_step : (p : ℕ → ℕ) (y : ℕ) → base (face_step (cover p) y) ≡ face_step p (base y)
base-face_step p y = base-turned (cover p y) ∙ ap turned (base-cover p y)

tone-face_step : (p : ℕ → ℕ) (y : ℕ) → tone (face_step (cover p) y) ≡ tone y
tone-face_step p y = omega arith

-- each face has two above it

pub class_count-counts : (n : ℕ) (classes : List ℕ) → length classes ≡ n → class_count classes ≡ count_by (is_least classes) (range_with_len 0 n)
class_count-counts n classes size = grind (arith, nat_tests, length-filter)

-- the dart above that of a number's half, whose colour is the number's parity
abbrev above : ℕ → ℕ
above w = lift (w / 2) ((w % 2 + w / 2 % 4) % 2)

tone-above : (w : ℕ) → tone (above w) ≡ w % 2
tone-above w = omega arith

base-above : (w : ℕ) → base (above w) ≡ w / 2
base-above w = base-lift (w / 2) ((w % 2 + w / 2 % 4) % 2) (two-below (w % 2 + w / 2 % 4))

pub faces-doubled : (n : ℕ) (p : ℕ → ℕ) → IsPairing (4 * n) p → 2 * open_face_count n p ≤ open_face_count (2 * n) (cover p)
faces-doubled n p pairing =
    let faces = open_faces n p in
    let above_faces = open_faces (2 * n) (cover p) in
    let cycles = AreCycles-open_faces n p pairing in
    let above_cycles = AreCycles-open_faces (2 * n) (cover p) (IsPairing-cover n p pairing) in
    let name : ℕ → ℕ = λ y. slice_index faces (base y) * 2 + tone y in
    let within : (w : ℕ) → w < 2 * (4 * n) → above w < 4 * (2 * n) =
    λ w below. lift-below n (w / 2) ((w % 2 + w / 2 % 4) % 2) (omega (arith, below)) (two-below (w % 2 + w / 2 % 4)) in
    let named : (w : ℕ) → is_least faces (w / 2) ≡ true → name (above w) ≡ w =
    λ w least.
    ap (λ b. slice_index faces b * 2 + tone (above w)) (base-above w)
    ∙ ap (λ b. b * 2 + tone (above w)) (eqb-true (slice_index faces (w / 2)) (w / 2) least)
    ∙ ap (λ b. w / 2 * 2 + b) (tone-above w) ∙ omega arith in
    let one_to_one = count_by-one_to_one (λ w. is_least faces (w / 2)) (is_least above_faces) (λ w. slice_index above_faces (above w))
    (2 * (4 * n)) (4 * (2 * n)) (record {
      below = λ w below least. omega (arith, above_cycles.named.least (above w) (within w below), within w below);
      passes = λ w below least.
          eq-eqb (slice_index above_faces (slice_index above_faces (above w))) (slice_index above_faces (above w))
          (above_cycles.named.own (above w) (within w below));
      apart = λ w v w_below v_below w_least v_least same.
          sym (named w w_least)
          ∙ above_cycles.finest name
          (λ y below.
          ap (λ b. b * 2 + tone y) (sym (cycles.step (base y) (base-below n y below)))
          ∙ ap (λ b. slice_index faces b * 2 + tone y) (sym (base-face_step p y))
          ∙ ap (λ b. slice_index faces (base (face_step (cover p) y)) * 2 + b) (sym (tone-face_step p y)))
          (above w) (above v) (within w w_below) (within v v_below) same
          ∙ named v v_least;
    }) in
    let count = class_count-counts (4 * n) faces cycles.named.size in
    let above_count = class_count-counts (4 * (2 * n)) above_faces above_cycles.named.size in
    let halves = count_by-halves (is_least faces) (4 * n) in
    omega (arith, one_to_one, count, above_count, halves)

-- each piece has at most two above it

-- the piece of the crossing on a sheet above a crossing
abbrev pub piece_above : ℕ → (ℕ → ℕ) → ℕ → ℕ → ℕ
piece_above n p c s = slice_index (open_pieces (2 * n) (cover p)) (2 * c + s)

-- the sheet to which the arc above a dart leads from a sheet
abbrev pub sheet_behind : (ℕ → ℕ) → ℕ → ℕ → ℕ
sheet_behind p x s = (s + x % 4 + p x % 4 + 1) % 2

pub pieces_above-ends : (n : ℕ) (p : ℕ → ℕ) (x s : ℕ) → IsPairing (4 * n) p → x < 4 * n → s < 2
    → piece_above n p (x / 4) s ≡ piece_above n p (p x / 4) (sheet_behind p x s)
pieces_above-ends n p x s pairing below s_below =
    let y = lift x s in
    let pieces = open_pieces (2 * n) (cover p) in
    let at = base-lift x s s_below in
    let t : (sheet y + y % 4 + p (base y) % 4 + 1) % 2 ≡ sheet_behind p x s =
    ap (λ b. (b + y % 4 + p (base y) % 4 + 1) % 2) (sheet-lift x s s_below)
    ∙ ap (λ b. (s + b + p (base y) % 4 + 1) % 2) (slot-lift x s s_below)
    ∙ ap (λ b. (s + x % 4 + p b % 4 + 1) % 2) at in
    let there : cover p y / 4 ≡ 2 * (p x / 4) + sheet_behind p x s =
    ap (λ b. lift b ((sheet y + y % 4 + p (base y) % 4 + 1) % 2) / 4) (ap p at) ∙ ap (λ b. lift (p x) b / 4) t
    ∙ crossing-lift (p x) (sheet_behind p x s) (two-below (s + x % 4 + p x % 4 + 1)) in
    ap (λ b. slice_index pieces b) (sym (crossing-lift x s s_below))
    ∙ open_pieces-ends (2 * n) (cover p) y (IsPairing-cover n p pairing) (lift-below n x s below s_below)
    ∙ ap (λ b. slice_index pieces b) there

-- the pieces above a crossing are those above the least crossing of its piece, on the same sheets or the other way round
pub record AreOneOfTwo (one other first second : ℕ) : Type 0 where
  pub least : min one other ≡ min first second
  pub greatest : max one other ≡ max first second

two_ways : (f g : ℕ → ℕ) (s t : ℕ) → s < 2 → t ≡ (s + 1) % 2 → (f 0 ≡ g s) → (f 1 ≡ g t)
    → AreOneOfTwo (f 0) (f 1) (g 0) (g 1)
two_ways f g s t below is first second = grind (arith, nat_tests)

ends-two : (n : ℕ) (p : ℕ → ℕ) (x : ℕ) → IsPairing (4 * n) p → x < 4 * n
    → AreOneOfTwo (piece_above n p (x / 4) 0) (piece_above n p (x / 4) 1) (piece_above n p (p x / 4) 0) (piece_above n p (p x / 4) 1)
ends-two n p x pairing below =
    two_ways (piece_above n p (x / 4)) (piece_above n p (p x / 4)) (sheet_behind p x 0) (sheet_behind p x 1)
    (two-below (0 + x % 4 + p x % 4 + 1)) (other_sheet (x % 4) (p x % 4))
    (pieces_above-ends n p x 0 pairing below (omega arith)) (pieces_above-ends n p x 1 pairing below (omega arith))
  where
    other_sheet : (t u : ℕ) → (1 + t + u + 1) % 2 ≡ ((0 + t + u + 1) % 2 + 1) % 2
    other_sheet t u = omega arith

pub piece_above-two : (n : ℕ) (p : ℕ → ℕ) (c : ℕ) → IsPairing (4 * n) p → c < n
    → AreOneOfTwo (piece_above n p c 0) (piece_above n p c 1) (piece_above n p (slice_index (open_pieces n p) c) 0)
    (piece_above n p (slice_index (open_pieces n p) c) 1)
piece_above-two n p c pairing below =
    let pieces = open_pieces n p in
    let named = IsNamed-open_pieces n p pairing in
    let pairs = map (piece_pair p) (range_with_len 0 (4 * n)) in
    let pairs_below = piece_pairs-below n p pairing in
    let lesser : ℕ → ℕ = λ d. min (piece_above n p d 0) (piece_above n p d 1) in
    let greater : ℕ → ℕ = λ d. max (piece_above n p d 0) (piece_above n p d 1) in
    let first_below : slice_index pieces c < n = omega (arith, named.least c below, below) in
    record {
      least = classes-finest lesser n pairs
          (all-map_range (λ (pair : ℕ × ℕ). lesser pair.0 ≡ lesser pair.1) (piece_pair p) 0 (4 * n)
          (λ x x_below. (ends-two n p x pairing (omega (arith, x_below))).least))
          pairs_below c (slice_index pieces c) below first_below (sym (named.own c below));
      greatest = classes-finest greater n pairs
          (all-map_range (λ (pair : ℕ × ℕ). greater pair.0 ≡ greater pair.1) (piece_pair p) 0 (4 * n)
          (λ x x_below. (ends-two n p x pairing (omega (arith, x_below))).greatest))
          pairs_below c (slice_index pieces c) below first_below (sym (named.own c below));
    }

-- so a piece of the cover has the number 2c or 2c+1, where c is the least crossing of a piece below
abbrev at_least_crossing : ℕ → (ℕ → ℕ) → ℕ → ℕ
at_least_crossing n p y =
    let first = slice_index (open_pieces n p) (y / 2) in
    if nat_eq (piece_above n p first 0) y then 2 * first else 2 * first + 1

either_piece : (one other first second y : ℕ) → AreOneOfTwo one other first second → (one ≡ y) ⊎ (other ≡ y)
    → (first ≡ y) ⊎ (second ≡ y)
either_piece one other first second y two either = grind (arith, nat_tests)

half_cases : (y : ℕ) → (2 * (y / 2) + 0 ≡ y) ⊎ (2 * (y / 2) + 1 ≡ y)
half_cases y = grind arith

at_least_crossing-is : (n : ℕ) (p : ℕ → ℕ) (y : ℕ) → IsPairing (4 * n) p → y < 2 * n
    → slice_index (open_pieces (2 * n) (cover p)) y ≡ y
    → slice_index (open_pieces (2 * n) (cover p)) (at_least_crossing n p y) ≡ y
at_least_crossing-is n p y pairing below own =
    let pieces = open_pieces (2 * n) (cover p) in
    let c = y / 2 in
    let first = slice_index (open_pieces n p) c in
    let two = piece_above-two n p c pairing (omega (arith, below)) in
    let either : (piece_above n p c 0 ≡ y) ⊎ (piece_above n p c 1 ≡ y) =
    elim (half_cases y) [
      | inl even ↦ inl (ap (λ z. slice_index pieces z) even ∙ own)
      | inr odd ↦ inr (ap (λ z. slice_index pieces z) odd ∙ own)
    ] in
    let found = either_piece (piece_above n p c 0) (piece_above n p c 1) (piece_above n p first 0) (piece_above n p first 1) y two either in
    let even : 2 * first + 0 ≡ 2 * first = omega arith in
    elim (cases_eq (piece_above n p first 0) y) [
      | inl is ↦
          ap (λ z. slice_index pieces z) (chosen (piece_above n p first 0) y (2 * first) (2 * first + 1) is ∙ sym even) ∙ is
      | inr is_not ↦
          ap (λ z. slice_index pieces z) (other_chosen (piece_above n p first 0) y (2 * first) (2 * first + 1) is_not)
          ∙ elim found [ inl is ↦ absurd (is_not is) | inr is ↦ is ]
    ]
  where
    chosen : (x y a b : ℕ) → x ≡ y → (if nat_eq x y then a else b) ≡ a
    chosen x y a b same = grind (arith, nat_tests)

    other_chosen : (x y a b : ℕ) → x ≢ y → (if nat_eq x y then a else b) ≡ b
    other_chosen x y a b other = grind (arith, nat_tests)

at_least_crossing-half : (n : ℕ) (p : ℕ → ℕ) (y : ℕ) → at_least_crossing n p y / 2 ≡ slice_index (open_pieces n p) (y / 2)
at_least_crossing-half n p y = grind (arith, nat_tests)

-- where the two crossings above one are in one piece, there are fewer than two pieces above each
no_second : (x y f other g : ℕ) → f ≡ g → x ≡ other → other ≡ y → (if nat_eq x y then 2 * f else 2 * f + 1) ≡ 2 * g + 1 → ⊥
no_second x y f other g same x_is is odd = grind (arith, nat_tests)

same_two : (one other first second : ℕ) → AreOneOfTwo one other first second → one ≡ other → first ≡ second
same_two one other first second two same = let least = two.least in let greatest = two.greatest in grind arith

pub pieces-fewer : (n : ℕ) (p : ℕ → ℕ) (c : ℕ) → IsPairing (4 * n) p → c < n → piece_above n p c 0 ≡ piece_above n p c 1
    → open_piece_count (2 * n) (cover p) + 1 ≤ 2 * open_piece_count n p
pieces-fewer n p c pairing below same =
    let pieces = open_pieces n p in
    let above_pieces = open_pieces (2 * n) (cover p) in
    let named = IsNamed-open_pieces n p pairing in
    let above_named = IsNamed-open_pieces (2 * n) (cover p) (IsPairing-cover n p pairing) in
    let first = slice_index pieces c in
    let least = named.least c below in
    let first_same = same_two (piece_above n p c 0) (piece_above n p c 1) (piece_above n p first 0) (piece_above n p first 1)
    (piece_above-two n p c pairing below) same in
    let half : ℕ → Bool = λ w. is_least pieces (w / 2) in
    let half_first : is_least pieces ((2 * first + 1) / 2) ≡ true =
    let e : (2 * first + 1) / 2 ≡ first = omega arith in
    ap (λ k. is_least pieces k) e ∙ eq-eqb (slice_index pieces first) first (named.own c below) in
    let own : (y : ℕ) → is_least above_pieces y ≡ true → slice_index above_pieces y ≡ y =
    λ y holds. eqb-true (slice_index above_pieces y) y holds in
    let at : (y : ℕ) → y < 2 * n → is_least above_pieces y ≡ true → slice_index above_pieces (at_least_crossing n p y) ≡ y =
    λ y y_below holds. at_least_crossing-is n p y pairing y_below (own y holds) in
    let halved : (y : ℕ) → at_least_crossing n p y / 2 ≡ slice_index pieces (y / 2) = at_least_crossing-half n p in
    let one_to_one = count_by-one_to_one (is_least above_pieces) (but half (2 * first + 1)) (at_least_crossing n p) (2 * n) (2 * n)
    (record {
      below = λ y y_below holds.
          omega (arith, halved y, named.least (y / 2) (omega (arith, y_below)), y_below);
      passes = λ y y_below holds.
          but_passes (half (at_least_crossing n p y)) (2 * first + 1) (at_least_crossing n p y)
          (ap (λ k. is_least pieces k) (halved y)
          ∙ eq-eqb (slice_index pieces (slice_index pieces (y / 2))) (slice_index pieces (y / 2)) (named.own (y / 2) (omega (arith, y_below))))
          (λ odd.
          let at_first : slice_index pieces (y / 2) ≡ first = omega (arith, halved y, odd) in
          no_second (piece_above n p (slice_index pieces (y / 2)) 0) y (slice_index pieces (y / 2)) (piece_above n p first 1) first
          at_first
          (ap (λ f. piece_above n p f 0) at_first ∙ first_same)
          (ap (λ z. slice_index above_pieces z) (sym odd) ∙ at y y_below holds)
          odd);
      apart = λ y z y_below z_below y_holds z_holds alike.
          sym (at y y_below y_holds) ∙ ap (λ k. slice_index above_pieces k) alike ∙ at z z_below z_holds;
    }) in
    let fewer = count_by-but half 0 (2 * n) (2 * first + 1) (omega arith) (omega (arith, least, below)) half_first in
    let count = class_count-counts n pieces named.size in
    let above_count = class_count-counts (2 * n) above_pieces above_named.size in
    let halves = count_by-halves (is_least pieces) n in
    omega (arith, one_to_one, fewer, count, above_count, halves)
  where
    but_passes : (b : Bool) (m k : ℕ) → b ≡ true → (k ≡ m → ⊥) → (b && not (nat_eq k m)) ≡ true
    but_passes b m k passes other = grind (arith, nat_tests)

-- of a planar whole without open darts, the two crossings above each are in different pieces
pub sheets-apart : (n : ℕ) (p : ℕ → ℕ) (c : ℕ) → IsPairing (4 * n) p → open_face_count n p ≡ n + 2 * open_piece_count n p → c < n
    → piece_above n p c 0 ≢ piece_above n p c 1
sheets-apart n p c pairing planar below = grind (arith, nat_tests, pieces-fewer, faces-doubled, planar-bound, IsPairing-cover)
