-- Bare crossings: n faces, n pieces, and 4n open darts.
use Rattle.std.proofs.lemmas.Bool.Decides.{nat_tests}
use Rattle.std.proofs.Common.{◌≡◌, ◌≢◌, ℕ, zero, suc, ◌+◌, ◌*◌, ◌/◌, ◌<◌, ◌≤◌, ◌∙◌, [], refl, sym, ap, length, map, arith, Bool, cond, eq-eqb}
use Rattle.std.specs.Prelude.{slice_index, nat_eq}
use Rattle.std.specs.List.{count_by, filter, range_with_len}
use Rattle.std.proofs.lemmas.Bool.{ne_eqb}
use Rattle.std.proofs.lemmas.List.FromFn.{length-range_with_len}
use Rattle.std.proofs.lemmas.List.Sums.{length-filter}
use Rattle.kh_types.specs.Classes.{is_least}
use Rattle.kh_types.specs.Darts.{IsPairing, turned}
use Rattle.kh_types.specs.Faces.{open_faces, open_pieces, piece_pair}
use Rattle.kh_types.proofs.JoinedClasses.{classes_of-same, slice_index-range}
use Rattle.kh_types.proofs.Lists.{filter-range_agree, filter-range_all}
use Rattle.kh_types.proofs.Ranges.{count_by-range_more}
use Rattle.face_walk.specs.AddedArcs.{bare, is_open, open_dart_count, open_face_count, open_piece_count}
use Rattle.face_walk.proofs.OpenFaces.{turned-below, AreCycles-open_faces, piece_pairs-below}
use Rattle.kh_types.proofs.RangeImages.{all-map_range}
use Rattle.kh_types.proofs.DartLemmas.{turned-crossing}

pub IsPairing-bare : (m : ℕ) → IsPairing m bare
IsPairing-bare m = record { below = λ x below. below; back = λ x below. refl }

pub open_dart_count-bare : (n : ℕ) → open_dart_count n bare ≡ 4 * n
open_dart_count-bare n =
    sym (length-filter (is_open bare) (range_with_len 0 (4 * n)))
    ∙ ap length (filter-range_all (is_open bare) 0 (4 * n) (λ x from below. eq-eqb x x refl)) ∙ length-range_with_len 0 (4 * n)

-- a dart without an arc joins its crossing with itself, so each crossing is a piece
open_pieces-bare : (n : ℕ) → open_pieces n bare ≡ range_with_len 0 n
open_pieces-bare n =
    classes_of-same n (map (piece_pair bare) (range_with_len 0 (4 * n))) [] (piece_pairs-below n bare (IsPairing-bare (4 * n))) tt
    (λ h holds. tt)
    (λ h holds. all-map_range (λ (pair : ℕ × ℕ). h pair.0 ≡ h pair.1) (piece_pair bare) 0 (4 * n) (λ x below. refl))

pub open_piece_count-bare : (n : ℕ) → open_piece_count n bare ≡ n
open_piece_count-bare n = grind (arith, nat_tests, length-range_with_len, open_pieces-bare, filter-range_all, eq-eqb, slice_index-range)

-- the least of the four darts round a crossing
least_turned : (x c : ℕ) → c ≤ x → c ≤ turned x → c ≤ turned (turned x) → c ≤ turned (turned (turned x)) → c ≤ 4 * (x / 4)
least_turned x c here one two three = omega (arith, here, one, two, three)

quarter : (x c : ℕ) → c / 4 ≡ x / 4 → c ≤ 4 * (x / 4) → c ≡ 4 * (x / 4)
quarter x c same within = omega (arith, same, within)

-- the face of a dart of a bare crossing is round that crossing, and named by the dart at its slot 0
face-bare : (n x : ℕ) → x < 4 * n → slice_index (open_faces n bare) x ≡ 4 * (x / 4)
face-bare n x below =
    let class : ℕ → ℕ = λ z. slice_index (open_faces n bare) z in
    let cycles = AreCycles-open_faces n bare (IsPairing-bare (4 * n)) in
    let least = cycles.named.least in
    let one_below = turned-below n x below in
    let two_below = turned-below n (turned x) one_below in
    let three_below = turned-below n (turned (turned x)) two_below in
    let one : class (turned x) ≡ class x = cycles.step x below in
    let two : class (turned (turned x)) ≡ class x = cycles.step (turned x) one_below ∙ one in
    let three : class (turned (turned (turned x))) ≡ class x = cycles.step (turned (turned x)) two_below ∙ two in
    let under : (z : ℕ) → z < 4 * n → class z ≡ class x → class x ≤ z = λ z z_below same. omega (arith, same, least z z_below) in
    quarter x (class x)
    (cycles.finest (λ z. z / 4) (λ z z_below. sym (turned-crossing z)) (class x) x (omega (arith, least x below, below)) below
    (cycles.named.own x below))
    (least_turned x (class x) (least x below) (under (turned x) one_below one) (under (turned (turned x)) two_below two)
    (under (turned (turned (turned x))) three_below three))

-- whether the dart at a place is at slot 0
abbrev is_first : ℕ → Bool
is_first x = nat_eq (4 * (x / 4)) x

count-is_first : (n : ℕ) → count_by is_first (range_with_len 0 (4 * n)) ≡ n
count-is_first zero = let e : 4 * zero ≡ 0 = omega arith in ap (λ k. count_by is_first (range_with_len 0 k)) e
count-is_first (suc n) =
    let count : ℕ → ℕ = λ m. count_by is_first (range_with_len 0 m) in
    let first : count (4 * n + 1) ≡ count (4 * n) + 1 =
    count_by-range_more is_first 0 (4 * n) (4 * n) (omega arith)
    ∙ ap (λ b. count (4 * n) + cond b 1 0) (eq-eqb (4 * (4 * n / 4)) (4 * n) (omega arith)) in
    let other : (m : ℕ) → 4 * (m / 4) ≢ m → count (m + 1) ≡ count m =
    λ m later. count_by-range_more is_first 0 m m (omega arith)
    ∙ ap (λ b. count m + cond b 1 0) (ne_eqb (4 * (m / 4)) m later) ∙ omega arith in
    let e : 4 * suc n ≡ 4 * n + 1 + 1 + 1 + 1 = omega arith in
    ap count e
    ∙ omega (
      arith,
      first,
      other (4 * n + 1) (λ same. omega (arith, same)),
      other (4 * n + 1 + 1) (λ same. omega (arith, same)),
      other (4 * n + 1 + 1 + 1) (λ same. omega (arith, same)),
      count-is_first n,
    )

pub open_face_count-bare : (n : ℕ) → open_face_count n bare ≡ n
open_face_count-bare n =
    let faces = open_faces n bare in
    let size = (AreCycles-open_faces n bare (IsPairing-bare (4 * n))).named.size in
    ap (λ k. length (filter (is_least faces) (range_with_len 0 k))) size
    ∙ ap length
    (filter-range_agree (is_least faces) is_first 0 (4 * n)
    (λ x from below. ap (λ c. nat_eq c x) (face-bare n x (omega (arith, below)))))
    ∙ length-filter is_first (range_with_len 0 (4 * n)) ∙ count-is_first n
