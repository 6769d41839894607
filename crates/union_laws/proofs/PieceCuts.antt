-- No arc joins the first piece of a code to the others.
use Rattle.std.proofs.Common.{◌≡◌, ◌≢◌, ℕ, zero, suc, inl, inr, ◌+◌, ◌-◌, ◌*◌, ◌/◌, ◌%◌, ◌<◌, ◌≤◌, ◌∙◌, List, length, map, refl, sym, ap, ap₂, arith, Bool, true, false, IsTrue}
use Rattle.std.specs.Prelude.{nat_eq, slice_index}
use Rattle.std.specs.List.{filter, position_or_len, range_with_len, sum_by}
use Rattle.std.proofs.lemmas.Bool.{cases_eq, eq-eqb, eqb-true, ne_eqb}
use Rattle.std.proofs.lemmas.List.Sums.{length-filter, sum_by-cons}
use Rattle.kh_types.specs.Acceptance.{accepted}
use Rattle.kh_types.specs.Bits.{one_if}
use Rattle.kh_types.specs.Classes.{IsNamed, is_least}
use Rattle.kh_types.specs.Code.{Code}
use Rattle.kh_types.specs.Darts.{HasArcsTwice, arc_of, dart_at, partner_at}
use Rattle.kh_types.specs.Faces.{piece_count, piece_pair, pieces_of}
use Rattle.kh_types.proofs.AcceptedLemmas.{HasArcsTwice-accepted}
use Rattle.kh_types.proofs.ClassLemmas.{classes-together}
use Rattle.kh_types.proofs.CountedClasses.{below-range, respects-at}
use Rattle.kh_types.proofs.DartPairs.{IsOtherPlace-partner_at, partner_at-only}
use Rattle.kh_types.proofs.ListSums.{sum_by-some}
use Rattle.gluing_laws.specs.Arcs.{arc_by_place}
use Rattle.face_walk.specs.ClassNumbers.{class_number, least_numbers}
use Rattle.face_walk.proofs.FaceLemmas.{IsNamed-pieces, IsNamed-pieces_of}
use Rattle.face_walk.proofs.NumberLemmas.{class_number-counted, least_numbers-class_number}
use Rattle.union_laws.specs.Pieces.{IsCut, is_in_first_piece}

module _ (code : Code) (holds : IsTrue (accepted code)) where
  abbrev crossings : List (List ℕ)
  crossings = code.crossings

  abbrev n : ℕ
  n = length code.crossings

  abbrev pieces : List ℕ
  pieces = pieces_of code.crossings

  twice : HasArcsTwice crossings
  twice = HasArcsTwice-accepted code holds

  named : IsNamed (length pieces) pieces
  named = IsNamed-pieces code pieces holds refl

  size : length pieces ≡ n
  size = (IsNamed-pieces_of code holds).size

  arc-dart : (place slot : ℕ) → slot < 4 → arc_of crossings (dart_at (4 * place + slot)) ≡ arc_by_place crossings place slot
  arc-dart place slot below =
      let there : (4 * place + slot) / 4 + 1 - 1 ≡ place = omega (arith, below) in
      let at : (4 * place + slot) % 4 ≡ slot = omega (arith, below) in
      ap₂ (λ k s. arc_by_place crossings k s) there at

  -- the two ends of an arc are in one piece
  piece-partner : (x : ℕ) → x < 4 * n → slice_index pieces (x / 4) ≡ slice_index pieces (partner_at crossings x / 4)
  piece-partner x below =
      respects-at (λ y. slice_index pieces y) (piece_pair (partner_at crossings)) 0 (4 * n)
      (classes-together n (map (piece_pair (partner_at crossings)) (range_with_len 0 (4 * n)))
      (below-range (piece_pair (partner_at crossings)) n 0 (4 * n)
      (λ q from inside.
      let small : q < 4 * n = omega (arith, inside) in
      (omega (arith, small), omega (arith, (IsOtherPlace-partner_at crossings q twice small).below)))))
      x (omega arith) (omega (arith, below))

  pub piece-joined : (place other slot other_slot : ℕ) → place < n → other < n → slot < 4 → other_slot < 4
      → arc_by_place crossings place slot ≡ arc_by_place crossings other other_slot → slice_index pieces place ≡ slice_index pieces other
  piece-joined place other slot other_slot below other_below slot_below other_slot_below same =
      let x = 4 * place + slot in
      let y = 4 * other + other_slot in
      let x_at : place ≡ x / 4 = omega (arith, slot_below) in
      let y_at : y / 4 ≡ other = omega (arith, other_slot_below) in
      elim (cases_eq y x) [
        | inl one ↦ let e : place ≡ other = omega (arith, one, slot_below, other_slot_below) in ap (λ k. slice_index pieces k) e
        | inr differs ↦
            let x_below : x < 4 * n = omega (arith, below, slot_below) in
            let is = partner_at-only crossings x y twice x_below
            (record {
              below = omega (arith, other_below, other_slot_below);
              differs = differs;
              same_arc = arc-dart other other_slot other_slot_below ∙ sym same ∙ sym (arc-dart place slot slot_below);
            }) in
            ap (λ k. slice_index pieces k) x_at ∙ piece-partner x x_below ∙ ap (λ z. slice_index pieces (z / 4)) (sym is)
            ∙ ap (λ k. slice_index pieces k) y_at
      ]

  number-at : (place : ℕ) → is_in_first_piece crossings place ≡ nat_eq (class_number pieces place) 0
  number-at place = let e : place + 1 - 1 ≡ place = omega arith in ap (λ k. nat_eq (class_number pieces k) 0) e

  pub IsCut-pieces : IsCut (is_in_first_piece crossings) crossings
  IsCut-pieces place other slot other_slot below other_below slot_below other_slot_below same =
      number-at place
      ∙ ap (λ c. nat_eq (position_or_len (nat_eq c) (least_numbers pieces)) 0)
      (piece-joined place other slot other_slot below other_below slot_below other_slot_below same)
      ∙ sym (number-at other)

  -- the first crossing is in the first piece
  number-first : 0 < n → class_number pieces 0 ≡ 0
  number-first some =
      let inside : 0 < length pieces = omega (arith, some, size) in
      let least : slice_index pieces 0 ≡ 0 = omega (arith, named.least 0 inside) in
      class_number-counted pieces 0 named inside ∙ ap (λ k. length (filter (is_least pieces) (range_with_len 0 k))) least

  pub first-in : 0 < n → is_in_first_piece crossings 0 ≡ true
  first-in some = number-at 0 ∙ eq-eqb (class_number pieces 0) 0 (number-first some)

  -- and so are only those of its class
  pub first-class : (place : ℕ) → place < n → is_in_first_piece crossings place ≡ true → slice_index pieces place ≡ slice_index pieces 0
  first-class place below is =
      let number : class_number pieces place ≡ 0 = eqb-true (class_number pieces place) 0 (sym (number-at place) ∙ is) in
      sym (least_numbers-class_number pieces place named (omega (arith, below, size)))
      ∙ ap (λ k. slice_index (least_numbers pieces) k) (number ∙ sym (number-first (omega (arith, below))))
      ∙ least_numbers-class_number pieces 0 named (omega (arith, below, size))

  -- where there are more pieces, another crossing is the least of its piece
  least-later : (m : ℕ) → length pieces ≡ suc m → 1 < piece_count crossings
      → (place : ℕ) × (1 ≤ place) × (place < suc m) × (slice_index pieces place ≡ place)
  least-later m is more =
      let one = λ (k : ℕ). one_if (is_least pieces k) in
      let count : piece_count crossings ≡ one 0 + sum_by one (range_with_len 1 m) =
      length-filter (is_least pieces) (range_with_len 0 (length pieces)) ∙ ap (λ k. sum_by one (range_with_len 0 k)) is
      ∙ sum_by-cons one 0 (range_with_len 1 m) in
      let found = sum_by-some one 1 m (λ none. omega (arith, count, none, more, small (is_least pieces 0))) in (
        found.0,
        found.1,
        omega (arith, found.2),
        eqb-true (slice_index pieces found.0) found.0 (passes (is_least pieces found.0) found.3),
      )
    where
      small : (b : Bool) → one_if b ≤ 1
      small true = omega arith
      small false = omega arith

      passes : (b : Bool) → one_if b ≢ 0 → b ≡ true
      passes true some = refl
      passes false some = absurd (some refl)

  pub other-out : 1 < piece_count crossings → (place : ℕ) × (place < n) × (is_in_first_piece crossings place ≡ false)
  other-out more = by (length pieces) refl
    where
      by : (count : ℕ) → length pieces ≡ count → (place : ℕ) × (place < n) × (is_in_first_piece crossings place ≡ false)
      by zero none = absurd (omega (arith, more, ap (λ k. length (filter (is_least pieces) (range_with_len 0 k))) none))
      by (suc m) is =
          let found = least-later m is more in
          let inside : found.0 < length pieces = omega (arith, found.2, is) in
          let some : 0 < n = omega (arith, is, size) in
          let nothing : 0 < length pieces = omega (arith, is) in
          let here = least_numbers-class_number pieces found.0 named inside in
          let there = least_numbers-class_number pieces 0 named nothing in (
            found.0,
            omega (arith, inside, size),
            number-at found.0
                ∙ ne_eqb (class_number pieces found.0) 0
                (λ is_zero.
                let one : slice_index pieces found.0 ≡ slice_index pieces 0 =
                sym here ∙ ap (λ k. slice_index (least_numbers pieces) k) (is_zero ∙ sym (number-first some)) ∙ there in
                omega (arith, one, found.1, found.3, named.least 0 nothing)),
          )
