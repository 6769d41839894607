-- The faces of a closed braid are as many as on the sphere.
--
-- A region of the drawing lies between two crossings of one position that follow one another, or outside; a dart is named for each. What
-- has one value on the darts of a face tells regions apart, so there are at least as many faces as regions; and the sphere allows no more.
use Rattle.std.proofs.Common.{◌≡◌, ℕ, inl, inr, ◌+◌, ◌-◌, ◌*◌, ◌<◌, ◌≤◌, ◌∙◌, length, sym, ap, arith, Bool, true, false, cond}
use Rattle.std.specs.Prelude.{nat_lt, not, slice_index}
use Rattle.std.specs.List.{count_by, list_any, range_with_len}
use Rattle.std.proofs.lemmas.Bool.{cases_lt, and_parts, eq-eqb, eqb-true, both_ways, not-true, false_from_ne_true}
use Rattle.std.proofs.lemmas.Bool.Decides.{nat_tests}
use Rattle.std.proofs.lemmas.List.Sums.{length-filter}
use Rattle.kh_types.specs.Classes.{class_count, is_least}
use Rattle.kh_types.specs.Darts.{partner_at}
use Rattle.kh_types.specs.Faces.{open_faces, open_pieces, face_count, planar_face_count}
use Rattle.kh_types.proofs.Ranges.{list_any-below, list_any-found}
use Rattle.kh_types.proofs.RangeCounts.{count_by-alike}
use Rattle.face_walk.proofs.OpenFaces.{AreCycles-open_faces}
use Rattle.face_walk.proofs.FewFaces.{face_count-le}
use Rattle.braid_maker.specs.Words.{previous, closed_crossings}
use Rattle.braid_maker.proofs.Nearest.{previous-none}
use Rattle.braid_maker.proofs.Corners.{corner_place, length-crossings}
use Rattle.braid_maker.proofs.Partners.{HasArcsTwice-braid, place-below}
use Rattle.braid_maker.proofs.Regions.{right_test, left_test, left_region, region_of, region_of-corner, region-step}
use Rattle.braid_maker.proofs.Pieces.{is_right_end, is_left_end, IsPairing-braid, pieces-right, pieces-left}
use Rattle.braid_maker.proofs.Counts.{count-images, count-parts, count-whole}

-- whether a number names a region
abbrev is_region : ℕ → ℕ → (ℕ → ℕ) → ℕ → Bool
is_region n bound left name =
    cond (nat_lt name n) true
    (cond (nat_lt name (n + bound)) (is_right_end n left (name - n)) (is_left_end n left (name - n - bound)))

region_first : (n bound name : ℕ) (a b : Bool) → name < n → cond (nat_lt name n) true (cond (nat_lt name (n + bound)) a b) ≡ true
region_first n bound name a b below = grind (arith, nat_tests)

region_second : (n bound name : ℕ) (a b : Bool) → n ≤ name → name < n + bound
    → cond (nat_lt name n) true (cond (nat_lt name (n + bound)) a b) ≡ a
region_second n bound name a b from below = grind (arith, nat_tests)

region_third : (n bound name : ℕ) (a b : Bool) → n + bound ≤ name
    → cond (nat_lt name n) true (cond (nat_lt name (n + bound)) a b) ≡ b
region_third n bound name a b from = grind (arith, nat_tests)

count-regions : (n bound : ℕ) (left : ℕ → ℕ)
    → count_by (is_region n bound left) (range_with_len 0 (n + bound + bound))
    ≡ n + count_by (is_right_end n left) (range_with_len 0 bound) + count_by (is_left_end n left) (range_with_len 0 bound)
count-regions n bound left =
    let test = is_region n bound left in
    let right = is_right_end n left in
    let other = is_left_end n left in
    omega (
      arith,
      count-parts test (n + bound) bound,
      count-parts test n bound,
      count-whole test n (λ x below. region_first n bound x (right (x - n)) (other (x - n - bound)) below),
      count_by-alike (λ x. test (n + x)) right 0 bound
          (λ x from below.
          let e : n + x - n ≡ x = omega arith in
          region_second n bound (n + x) (right (n + x - n)) (other (n + x - n - bound)) (omega arith) (omega (arith, below)) ∙ ap right e),
      count_by-alike (λ x. test (n + bound + x)) other 0 bound
          (λ x from below.
          let e : n + bound + x - n - bound ≡ x = omega arith in
          region_third n bound (n + bound + x) (right (n + bound + x - n)) (other (n + bound + x - n - bound)) (omega arith) ∙ ap other e),
    )

-- no place passes
none-passes : (test : ℕ → Bool) (n : ℕ) → not (list_any test (range_with_len 0 n)) ≡ true → (x : ℕ) → x < n → test x ≡ false
none-passes test n fails x below =
    false_from_ne_true (test x)
    (λ passes. both_ways (list_any test (range_with_len 0 n)) (not-true (list_any test (range_with_len 0 n)) fails)
    (list_any-below test n x below passes))

-- each region has a dart
region-dart : (n bound : ℕ) (left : ℕ → ℕ) (is_over : ℕ → Bool) (name : ℕ) → name < n + bound + bound
    → is_region n bound left name ≡ true → (dart : ℕ) × (dart < 4 * n) × (region_of n bound left is_over dart ≡ name)
region-dart n bound left is_over name below holds =
    let right = is_right_end n left (name - n) in
    let other = is_left_end n left (name - n - bound) in
    elim (cases_lt name n) [
      | inl first ↦ (
        corner_place is_over name 2,
        place-below n is_over name 2 first,
        region_of-corner n bound left is_over name 2 (omega arith),
      )
      | inr past ↦ elim (cases_lt name (n + bound)) [
        | inl second ↦
            let q = name - n in
            let parts = and_parts (list_any (left_test left q) (range_with_len 0 n)) (not (list_any (right_test left q) (range_with_len 0 n)))
            (sym (region_second n bound name right other past second) ∙ holds) in
            let at = list_any-found (left_test left q) n parts.0 in
            let place = at.0 in
            let same : left place + 1 ≡ q = eqb-true (left place + 1) q at.2 in (
              corner_place is_over place 1,
              place-below n is_over place 1 at.1,
              region_of-corner n bound left is_over place 1 (omega arith)
                  ∙ ap (λ p. previous n (right_test left p) (n + p) place) same
                  ∙ previous-none n (right_test left q) (n + q) place at.1 (none-passes (right_test left q) n parts.1) ∙ omega (arith, past),
            )
        | inr third ↦
            let q = name - n - bound in
            let parts = and_parts (list_any (right_test left q) (range_with_len 0 n)) (not (list_any (left_test left q) (range_with_len 0 n)))
            (sym (region_third n bound name right other third) ∙ holds) in
            let at = list_any-found (right_test left q) n parts.0 in
            let place = at.0 in
            let same : left place ≡ q = eqb-true (left place) q at.2 in (
              corner_place is_over place 3,
              place-below n is_over place 3 at.1,
              region_of-corner n bound left is_over place 3 (omega arith)
                  ∙ ap (λ p. left_region n bound left p place) same
                  ∙ previous-none n (left_test left q) (n + bound + q) place at.1 (none-passes (left_test left q) n parts.1)
                  ∙ omega (arith, third),
            )
      ]
    ]

-- so there are at least as many faces as regions
faces-regions : (n bound : ℕ) (left : ℕ → ℕ) (is_over : ℕ → Bool)
    → count_by (is_region n bound left) (range_with_len 0 (n + bound + bound))
    ≤ class_count (open_faces n (partner_at (closed_crossings n left is_over)))
faces-regions n bound left is_over =
    let partner : ℕ → ℕ = partner_at (closed_crossings n left is_over) in
    let faces = open_faces n partner in
    let cycles = AreCycles-open_faces n partner (IsPairing-braid n left is_over) in
    let region : ℕ → ℕ = region_of n bound left is_over in
    let count : class_count faces ≡ count_by (is_least faces) (range_with_len 0 (4 * n)) =
    length-filter (is_least faces) (range_with_len 0 (length faces))
    ∙ ap (λ k. count_by (is_least faces) (range_with_len 0 k)) cycles.named.size in
    omega (
      arith,
      count,
      count-images (is_region n bound left) (is_least faces) region (n + bound + bound) (4 * n)
          (λ name below holds.
          let some = region-dart n bound left is_over name below holds in
          let dart = some.0 in
          let least = slice_index faces dart in
          let least_below : least < 4 * n = omega (arith, cycles.named.least dart some.1, some.1) in
          let own = cycles.named.own dart some.1 in (
            least,
            least_below,
            eq-eqb (slice_index faces least) least own,
            cycles.finest region (region-step n bound left is_over) least dart least_below some.1 own ∙ some.2,
          )),
    )

pub face_count-braid : (n bound : ℕ) (left : ℕ → ℕ) (is_over : ℕ → Bool) → ((x : ℕ) → x < n → left x + 1 < bound)
    → face_count (closed_crossings n left is_over) ≡ planar_face_count (closed_crossings n left is_over)
face_count-braid n bound left is_over within =
    let crossings = closed_crossings n left is_over in
    let size = length-crossings n left is_over in
    let partner : ℕ → ℕ = partner_at crossings in
    omega (
      arith,
      face_count-le crossings (HasArcsTwice-braid n left is_over),
      faces-regions n bound left is_over,
      count-regions n bound left,
      pieces-right n bound left is_over within,
      pieces-left n bound left is_over within,
      size,
      ap (λ k. class_count (open_faces k partner)) size,
      ap (λ k. class_count (open_pieces k partner)) size,
    )
