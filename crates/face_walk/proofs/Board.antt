-- A planar code has a checkerboard: a crossing has the bit of the sheet on which it lies above the least crossing of its piece.
use Rattle.std.proofs.Common.{◌≡◌, ◌≢◌, ℕ, ◌+◌, ◌-◌, ◌*◌, ◌/◌, ◌%◌, ◌<◌, ◌∙◌, List, length, refl, sym, ap, subst, arith, Bool, not, eq-eqb}
use Rattle.std.specs.Prelude.{slice_index, nat_eq}
use Rattle.std.proofs.lemmas.Bool.Decides.{nat_tests}
use Rattle.kh_types.specs.declared.dart.Dart.{Dart}
use Rattle.kh_types.specs.Code.{IsArc, place_of}
use Rattle.kh_types.specs.Bits.{bit}
use Rattle.kh_types.specs.Darts.{dart_place, first_dart, partner, partner_at, HasArcsTwice, IsPairing}
use Rattle.kh_types.specs.Faces.{face_count, planar_face_count, open_pieces}
use Rattle.kh_types.specs.Checkerboard.{solves_at, IsCheckerboard}
use Rattle.kh_types.proofs.RangeCounts.{list_all-each}
use Rattle.kh_types.proofs.DartPairs.{IsPairing-partner_at, IsDartOf-first_dart, partner-is, dart_place-below}
use Rattle.face_walk.proofs.PlainCounts.{counted, with_bits, with_bits-below, bit-with_bits}
use Rattle.face_walk.proofs.Cover.{AreOneOfTwo, piece_above, piece_above-two, pieces_above-ends, sheets-apart}
use Rattle.face_walk.proofs.OpenFaces.{open_pieces-ends}

-- whether a crossing lies on the other sheet than the least of its piece
abbrev pub is_other_sheet : ℕ → (ℕ → ℕ) → ℕ → Bool
is_other_sheet n p c = not (nat_eq (piece_above n p c 0) (piece_above n p (slice_index (open_pieces n p) c) 0))

-- an arc whose ends lie on sheets so that it leads from one colour to the other
odd_arc : (x0 x1 y0 y1 a b t u : ℕ) (z : ℕ → ℕ) → AreOneOfTwo x0 x1 a b → AreOneOfTwo y0 y1 a b → a ≢ b → z 0 ≡ y0 → z 1 ≡ y1
    → x0 ≡ z ((0 + t + u + 1) % 2) → x1 ≡ z ((1 + t + u + 1) % 2)
    → (counted (not (nat_eq x0 a)) + (counted (not (nat_eq y0 a)) + (t + u))) % 2 ≡ 1
odd_arc x0 x1 y0 y1 a b t u z x_two y_two apart at_zero at_one first second = grind (arith, nat_tests)

pub IsCheckerboard-planar : (crossings : List (List ℕ)) → HasArcsTwice crossings
    → face_count crossings ≡ planar_face_count crossings → IsCheckerboard crossings
IsCheckerboard-planar crossings twice planar =
    let n = length crossings in
    let p = partner_at crossings in
    let pairing = IsPairing-partner_at crossings twice in
    let is_other = is_other_sheet n p in
    let choice = with_bits is_other n in
    record {
      choice = choice;
      below = with_bits-below is_other n;
      solves = list_all-each (solves_at crossings choice) 1 (2 * n)
          (λ arc from below.
          let is_arc : IsArc crossings arc = record { positive = from; within = omega (arith, below) } in
          let dart = first_dart crossings arc in
          let other = partner crossings dart in
          let is_dart = (IsDartOf-first_dart crossings arc twice is_arc).within in
          let x = dart_place dart in
          let x_below = dart_place-below crossings dart is_dart in
          let y = p x in
          let y_below = pairing.below x x_below in
          let c_is : dart.crossing - 1 ≡ x / 4 = omega (arith, is_dart.slot) in
          let t_is : dart.slot ≡ x % 4 = omega (arith, is_dart.slot) in
          let d_is : other.crossing - 1 ≡ y / 4 = ap (λ (d : Dart). d.crossing - 1) (partner-is crossings dart is_dart) ∙ omega arith in
          let u_is : other.slot ≡ y % 4 = ap (λ (d : Dart). d.slot) (partner-is crossings dart is_dart) in
          let c_bit = ap (λ k. bit choice k) c_is ∙ bit-with_bits is_other n (x / 4) (omega (arith, x_below)) in
          let d_bit = ap (λ k. bit choice k) d_is ∙ bit-with_bits is_other n (y / 4) (omega (arith, y_below)) in
          let first = slice_index (open_pieces n p) (x / 4) in
          let one_piece = open_pieces-ends n p x pairing x_below in
          let y_two = subst (λ (f : ℕ). AreOneOfTwo (piece_above n p (y / 4) 0) (piece_above n p (y / 4) 1) (piece_above n p f 0) (piece_above n p f 1))
          (sym one_piece) (piece_above-two n p (y / 4) pairing (omega (arith, y_below))) in
          let x_two = piece_above-two n p (x / 4) pairing (omega (arith, x_below)) in
          let odd = odd_arc (piece_above n p (x / 4) 0) (piece_above n p (x / 4) 1) (piece_above n p (y / 4) 0) (piece_above n p (y / 4) 1)
          (piece_above n p first 0) (piece_above n p first 1) (x % 4) (y % 4) (piece_above n p (y / 4)) x_two y_two
          (λ same. sheets-apart n p (x / 4) pairing planar (omega (arith, x_below)) (twin_sheets n p (x / 4) pairing (omega (arith, x_below)) same))
          refl refl (pieces_above-ends n p x 0 pairing x_below (omega arith)) (pieces_above-ends n p x 1 pairing x_below (omega arith)) in
          let d_other : counted (is_other (y / 4)) ≡ counted (not (nat_eq (piece_above n p (y / 4) 0) (piece_above n p first 0))) =
          ap (λ f. counted (not (nat_eq (piece_above n p (y / 4) 0) (piece_above n p f 0)))) (sym one_piece) in
          eq-eqb ((bit choice (place_of dart.crossing) + (bit choice (place_of other.crossing) + (dart.slot + other.slot))) % 2) 1
          (same_sum (bit choice (place_of dart.crossing)) (counted (is_other (x / 4))) (bit choice (place_of other.crossing))
          (counted (not (nat_eq (piece_above n p (y / 4) 0) (piece_above n p first 0)))) dart.slot (x % 4) other.slot (y % 4)
          c_bit (d_bit ∙ d_other) t_is u_is ∙ odd));
    }
  where
    same_sum : (a a2 b b2 t t2 u u2 : ℕ) → a ≡ a2 → b ≡ b2 → t ≡ t2 → u ≡ u2 → (a + (b + (t + u))) % 2 ≡ (a2 + (b2 + (t2 + u2))) % 2
    same_sum a a2 b b2 t t2 u u2 a_is b_is t_is u_is = omega (arith, a_is, b_is, t_is, u_is)

    twin : (x0 x1 a b : ℕ) → AreOneOfTwo x0 x1 a b → a ≡ b → x0 ≡ x1
    twin x0 x1 a b two same = let least = two.least in let greatest = two.greatest in grind arith

    twin_sheets : (n : ℕ) (p : ℕ → ℕ) (c : ℕ) → IsPairing (4 * n) p → c < n
        → piece_above n p (slice_index (open_pieces n p) c) 0 ≡ piece_above n p (slice_index (open_pieces n p) c) 1
        → piece_above n p c 0 ≡ piece_above n p c 1
    twin_sheets n p c pairing below same =
        twin (piece_above n p c 0) (piece_above n p c 1) (piece_above n p (slice_index (open_pieces n p) c) 0)
        (piece_above n p (slice_index (open_pieces n p) c) 1) (piece_above-two n p c pairing below) same
