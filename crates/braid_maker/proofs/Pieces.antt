-- The pieces of a closed braid: each has a rightmost position and a leftmost one.
--
-- A strand joins two crossings, so all crossings that a position has are in one piece. From each crossing the piece goes on to the right,
-- as long as a position has crossings on its right, up to an end. So there are at most as many pieces as ends on the right, and as ends on
-- the left.
use Rattle.std.proofs.Common.{◌≡◌, ℕ, zero, suc, inl, inr, ◌+◌, ◌*◌, ◌/◌, ◌<◌, ◌≤◌, ◌∙◌, length, refl, sym, ap, subst, map, arith, Bool, true}
use Rattle.std.specs.Prelude.{not, ◌&&◌, slice_index, unwrap_or}
use Rattle.std.specs.List.{count_by, list_any, range_with_len}
use Rattle.std.specs.Option.{option_or}
use Rattle.std.proofs.lemmas.Bool.{cases_Bool, and_from, eq-eqb, eqb-true}
use Rattle.std.proofs.lemmas.List.Sums.{length-filter}
use Rattle.kh_types.specs.Classes.{class_count, is_least}
use Rattle.kh_types.specs.Darts.{IsPairing, partner_at}
use Rattle.kh_types.specs.Faces.{open_pieces, piece_pair}
use Rattle.kh_types.proofs.ClassLemmas.{classes-together}
use Rattle.kh_types.proofs.DartPairs.{IsPairing-partner_at}
use Rattle.kh_types.proofs.Ranges.{list_any-below, list_any-found}
use Rattle.face_walk.proofs.OpenFaces.{piece_pairs-below, IsNamed-open_pieces}
use Rattle.kh_types.proofs.RangeImages.{map_range-at}
use Rattle.braid_maker.specs.Words.{touches, last_below, previous, closed_crossings}
use Rattle.braid_maker.proofs.Nearest.{found, none, Last-is, IsNearest-previous, nearest-only}
use Rattle.braid_maker.proofs.Corners.{corner_place, corner_place-crossing, length-crossings}
use Rattle.braid_maker.proofs.Strands.{IsStrand, strand_below, lower_corner}
use Rattle.braid_maker.proofs.Partners.{HasArcsTwice-braid, partner-lower, place-below}
use Rattle.braid_maker.proofs.Counts.{count-images}
use Rattle.braid_maker.proofs.Regions.{right_test, left_test}

-- whether a position is the rightmost of a piece: it has a crossing at its left, and none at its right; or the leftmost
abbrev pub is_right_end : ℕ → (ℕ → ℕ) → ℕ → Bool
is_right_end n left position =
    list_any (left_test left position) (range_with_len 0 n) && not (list_any (right_test left position) (range_with_len 0 n))

abbrev pub is_left_end : ℕ → (ℕ → ℕ) → ℕ → Bool
is_left_end n left position =
    list_any (right_test left position) (range_with_len 0 n) && not (list_any (left_test left position) (range_with_len 0 n))

-- the piece of each place
abbrev pub piece_at : ℕ → (ℕ → ℕ) → (ℕ → Bool) → ℕ → ℕ
piece_at n left is_over place = slice_index (open_pieces n (partner_at (closed_crossings n left is_over))) place

pub IsPairing-braid : (n : ℕ) (left : ℕ → ℕ) (is_over : ℕ → Bool) → IsPairing (4 * n) (partner_at (closed_crossings n left is_over))
IsPairing-braid n left is_over =
    subst (λ (k : ℕ). IsPairing (4 * k) (partner_at (closed_crossings n left is_over))) (length-crossings n left is_over)
    (IsPairing-partner_at (closed_crossings n left is_over) (HasArcsTwice-braid n left is_over))

-- a strand joins two crossings
piece-strand : (n : ℕ) (left : ℕ → ℕ) (is_over : ℕ → Bool) (q place from lower upper : ℕ) → IsStrand n left q place from lower upper
    → piece_at n left is_over place ≡ piece_at n left is_over from
piece-strand n left is_over q place from lower upper is =
    let partner : ℕ → ℕ = partner_at (closed_crossings n left is_over) in
    let pairing = IsPairing-braid n left is_over in
    let dart = corner_place is_over place lower in
    let piece : ℕ → ℕ = piece_at n left is_over in
    sym (ap piece (corner_place-crossing is_over place lower))
    ∙ map_range-at (λ (pair : ℕ × ℕ). piece pair.0 ≡ piece pair.1) (piece_pair partner) 0 (4 * n) dart
    (classes-together n (map (piece_pair partner) (range_with_len 0 (4 * n))) (piece_pairs-below n partner pairing))
    (omega arith) (omega (arith, place-below n is_over place lower is.place_below))
    ∙ ap (λ d. piece (d / 4)) (partner-lower n left is_over q place from lower upper is)
    ∙ ap piece (corner_place-crossing is_over from upper)

-- the piece of all crossings that a position has
abbrev pub piece_of_position : ℕ → (ℕ → ℕ) → (ℕ → Bool) → ℕ → ℕ
piece_of_position n left is_over position =
    piece_at n left is_over (unwrap_or (last_below (touches left position) n) 0)

-- all crossings that a position has are in one piece
together : (n : ℕ) (left : ℕ → ℕ) (is_over : ℕ → Bool) (position fuel place lower : ℕ) → place < fuel → place < n → lower < 2
    → left place + lower ≡ position → piece_at n left is_over place ≡ piece_of_position n left is_over position
together n left is_over position zero place lower within below small at = absurd (omega (arith, within))
together n left is_over position (suc fuel) place lower within below small at =
    let test = touches left position in
    let piece : ℕ → ℕ = piece_at n left is_over in
    let some = strand_below n left place lower below small in
    let strand = subst (λ (q : ℕ). IsStrand n left q place some.0 lower some.1) at some.2 in
    let before = IsNearest-previous n test 0 place some.0 below strand.from_below strand.nearest.passes in
    let from_is : some.0 ≡ previous n test 0 place = nearest-only n test place some.0 (previous n test 0 place) below strand.nearest before in
    let step : piece place ≡ piece (previous n test 0 place) =
    piece-strand n left is_over position place some.0 lower some.1 strand ∙ ap piece from_is in
    elim (Last-is test place) [
      | found x x_below passes last is ↦
          let corner = lower_corner left position x passes in
          step ∙ ap (λ o. piece (unwrap_or (option_or o (last_below test n)) 0)) is
          ∙ together n left is_over position fuel x corner.0 (omega (arith, within, x_below)) (omega (arith, x_below, below)) corner.1
          corner.2
      | none all is ↦ step ∙ ap (λ o. piece (unwrap_or (option_or o (last_below test n)) 0)) is
    ]

pub piece-left : (n : ℕ) (left : ℕ → ℕ) (is_over : ℕ → Bool) (place : ℕ) → place < n
    → piece_at n left is_over place ≡ piece_of_position n left is_over (left place)
piece-left n left is_over place below =
    together n left is_over (left place) (place + 1) place 0 (omega arith) below (omega arith) (omega arith)

pub piece-right : (n : ℕ) (left : ℕ → ℕ) (is_over : ℕ → Bool) (place : ℕ) → place < n
    → piece_at n left is_over place ≡ piece_of_position n left is_over (left place + 1)
piece-right n left is_over place below =
    together n left is_over (left place + 1) (place + 1) place 1 (omega arith) below (omega arith) refl

-- from each crossing the piece goes on to the right up to an end
right_end : (n bound : ℕ) (left : ℕ → ℕ) (is_over : ℕ → Bool) (fuel place : ℕ) → ((x : ℕ) → x < n → left x + 1 < bound)
    → bound ≤ left place + fuel → place < n
    → (q : ℕ) × (q < bound) × (is_right_end n left q ≡ true) × (piece_of_position n left is_over q ≡ piece_at n left is_over place)
right_end n bound left is_over zero place within enough below = absurd (omega (arith, enough, within place below))
right_end n bound left is_over (suc fuel) place within enough below =
    let q = left place + 1 in
    elim (cases_Bool (list_any (right_test left q) (range_with_len 0 n))) [
      | inl some ↦
          let other = list_any-found (right_test left q) n some in
          let y = other.0 in
          let at : left y ≡ q = eqb-true (left y) q other.2 in
          let rest = right_end n bound left is_over fuel y within (omega (arith, enough, at)) other.1 in (
            rest.0,
            rest.1,
            rest.2,
            rest.3 ∙ piece-left n left is_over y other.1 ∙ ap (piece_of_position n left is_over) at
                ∙ sym (piece-right n left is_over place below),
          )
      | inr missing ↦ (
        q,
        within place below,
        and_from (list_any (left_test left q) (range_with_len 0 n)) (not (list_any (right_test left q) (range_with_len 0 n)))
            (list_any-below (left_test left q) n place below (eq-eqb (left place + 1) q refl)) (ap not missing),
        sym (piece-right n left is_over place below),
      )
    ]

left_end : (n bound : ℕ) (left : ℕ → ℕ) (is_over : ℕ → Bool) (fuel place : ℕ) → ((x : ℕ) → x < n → left x + 1 < bound)
    → left place < fuel → place < n
    → (q : ℕ) × (q < bound) × (is_left_end n left q ≡ true) × (piece_of_position n left is_over q ≡ piece_at n left is_over place)
left_end n bound left is_over zero place within enough below = absurd (omega (arith, enough))
left_end n bound left is_over (suc fuel) place within enough below =
    let q = left place in
    elim (cases_Bool (list_any (left_test left q) (range_with_len 0 n))) [
      | inl some ↦
          let other = list_any-found (left_test left q) n some in
          let y = other.0 in
          let at : left y + 1 ≡ q = eqb-true (left y + 1) q other.2 in
          let rest = left_end n bound left is_over fuel y within (omega (arith, enough, at)) other.1 in (
            rest.0,
            rest.1,
            rest.2,
            rest.3 ∙ piece-right n left is_over y other.1 ∙ ap (piece_of_position n left is_over) at
                ∙ sym (piece-left n left is_over place below),
          )
      | inr missing ↦ (
        q,
        omega (arith, within place below),
        and_from (list_any (right_test left q) (range_with_len 0 n)) (not (list_any (left_test left q) (range_with_len 0 n)))
            (list_any-below (right_test left q) n place below (eq-eqb (left place) q refl)) (ap not missing),
        sym (piece-left n left is_over place below),
      )
    ]

-- so there are at most as many pieces as ends
piece_count-is : (n : ℕ) (left : ℕ → ℕ) (is_over : ℕ → Bool)
    → class_count (open_pieces n (partner_at (closed_crossings n left is_over)))
    ≡ count_by (is_least (open_pieces n (partner_at (closed_crossings n left is_over)))) (range_with_len 0 n)
piece_count-is n left is_over =
    let pieces = open_pieces n (partner_at (closed_crossings n left is_over)) in
    let size = (IsNamed-open_pieces n (partner_at (closed_crossings n left is_over)) (IsPairing-braid n left is_over)).size in
    length-filter (is_least pieces) (range_with_len 0 (length pieces)) ∙ ap (λ k. count_by (is_least pieces) (range_with_len 0 k)) size

pub pieces-right : (n bound : ℕ) (left : ℕ → ℕ) (is_over : ℕ → Bool) → ((x : ℕ) → x < n → left x + 1 < bound)
    → class_count (open_pieces n (partner_at (closed_crossings n left is_over))) ≤ count_by (is_right_end n left) (range_with_len 0 bound)
pieces-right n bound left is_over within =
    let pieces = open_pieces n (partner_at (closed_crossings n left is_over)) in
    omega (
      arith,
      piece_count-is n left is_over,
      count-images (is_least pieces) (is_right_end n left) (piece_of_position n left is_over) n bound
          (λ x below passes.
          let end = right_end n bound left is_over bound x within (omega arith) below in
          (end.0, end.1, end.2, end.3 ∙ eqb-true (slice_index pieces x) x passes)),
    )

pub pieces-left : (n bound : ℕ) (left : ℕ → ℕ) (is_over : ℕ → Bool) → ((x : ℕ) → x < n → left x + 1 < bound)
    → class_count (open_pieces n (partner_at (closed_crossings n left is_over))) ≤ count_by (is_left_end n left) (range_with_len 0 bound)
pieces-left n bound left is_over within =
    let pieces = open_pieces n (partner_at (closed_crossings n left is_over)) in
    omega (
      arith,
      piece_count-is n left is_over,
      count-images (is_least pieces) (is_left_end n left) (piece_of_position n left is_over) n bound
          (λ x below passes.
          let end = left_end n bound left is_over (left x + 1) x within (omega arith) below in
          (end.0, end.1, end.2, end.3 ∙ eqb-true (slice_index pieces x) x passes)),
    )
