-- The first piece of a code is one piece, and the others are all but one.
--
-- The pieces of two parts are together those of the code. Classes of a code's crossings in its first piece, with all others in one class,
-- are classes that its arcs respect (`class-ends`). Since pieces are the finest such classes, the first piece has one class.
use Rattle.std.proofs.Common.{◌≡◌, ℕ, inl, inr, ◌+◌, ◌*◌, ◌/◌, ◌%◌, ◌<◌, ◌≤◌, ◌∙◌, List, [], ◌∷◌, ◌++◌, length, get_or, map, refl, sym, ap, arith, Bool, true, false, cond, not, IsTrue}
use Rattle.std.specs.Prelude.{nat_eq, slice_index}
use Rattle.std.specs.List.{position_or_len, range_with_len}
use Rattle.std.proofs.lemmas.Bool.{cases_Bool, eq-eqb, eqb-true, ne_eqb}
use Rattle.std.proofs.lemmas.List.{get_or-map, length-append, length-map}
use Rattle.kh_types.specs.Acceptance.{accepted}
use Rattle.kh_types.specs.Classes.{class_count, is_least}
use Rattle.kh_types.specs.Code.{Code, arc_in}
use Rattle.kh_types.specs.Darts.{HasArcsTwice, partner_at}
use Rattle.kh_types.specs.Faces.{piece_count, piece_pair, pieces_of}
use Rattle.kh_types.proofs.AcceptedLemmas.{HasArcsTwice-accepted}
use Rattle.kh_types.proofs.ClassLemmas.{classes-finest}
use Rattle.kh_types.proofs.CountedClasses.{at-respects, below-range}
use Rattle.kh_types.proofs.DartPairs.{IsOtherPlace-partner_at}
use Rattle.kh_types.proofs.FilteredRanges.{filter-one}
use Rattle.kh_types.proofs.Lists.{Contains-filter, Contains-range}
use Rattle.gluing_laws.specs.Arcs.{arc_by_place}
use Rattle.code_passes.specs.Parts.{ArePaired, Parts, slots_in}
use Rattle.orient_arcs.specs.Renumbered.{renamed_crossing}
use Rattle.orient_arcs.proofs.AlikeCrossings.{pieces-alike}
use Rattle.orient_arcs.proofs.FirstArcs.{Passes-filter}
use Rattle.face_walk.proofs.FaceLemmas.{IsNamed-pieces_of}
use Rattle.order_laws.proofs.ExchangedBits.{exchanged, moved}
use Rattle.order_laws.proofs.Orders.{reordered}
use Rattle.order_laws.proofs.Shuffled.{IsShuffled-exchanged}
use Rattle.order_laws.proofs.ShuffledDarts.{HasArcsTwice-shuffled}
use Rattle.order_laws.proofs.ShuffledFaces.{piece_count-shuffled}
use Rattle.order_laws.specs.Orders.{listed_by}
use Rattle.link_algebra.specs.Unions.{union_of}
use Rattle.link_algebra.proofs.UnitedAccepted.{piece_count-both}
use Rattle.link_algebra.proofs.UnitedDirected.{AreUnited-from}
use Rattle.view_laws.proofs.Seen.{found-first}
use Rattle.union_laws.specs.Pieces.{IsCut, first_piece, is_in_first_piece, kept_first, kept_parts, kept_places, other_pieces, part_of}
use Rattle.union_laws.proofs.CutCodes.{accepted-cut, accepted-order, accepted-part, first-directed, second-directed}
use Rattle.union_laws.proofs.CutNumbers.{cut_number, numbers-cut, own_number, slot-number}
use Rattle.union_laws.proofs.KeptParts.{ArePaired-kept}
use Rattle.union_laws.proofs.KeptPlaces.{length-order, place-front, place-once, reordered-kept}
use Rattle.union_laws.proofs.PieceCuts.{IsCut-pieces, first-class, first-in, piece-joined}
use Rattle.union_laws.proofs.RenumberedAccepted.{AreAlike-numbers, arc-place}

-- the order of crossings does not matter to the number of pieces
piece_count-kept : (keep : ℕ → Bool) (crossings : List (List ℕ)) → HasArcsTwice crossings
    → piece_count (kept_first keep crossings) ≡ piece_count crossings
piece_count-kept keep crossings twice =
    (reordered (λ others. HasArcsTwice others × (piece_count others ≡ piece_count crossings))
    (λ front back a b here.
    let to = moved (length front) in
    let choices = exchanged (length front) in
    let is = IsShuffled-exchanged front back a b in
    let old = front ++ a ∷ b ∷ back in
    let new = front ++ b ∷ a ∷ back in
    (HasArcsTwice-shuffled old new to choices is here.0, piece_count-shuffled old new to choices is here.0 ∙ here.1))
    [] crossings (kept_first keep crossings) (reordered-kept keep crossings) (twice, refl)).1

-- the pieces of two parts are those of the code
pub piece_count-parts : (keep : ℕ → Bool) (code : Code) (loops others : ℕ) → IsTrue (accepted code) → IsCut keep code.crossings
    → loops + others ≡ code.loops
    → piece_count (part_of keep code loops).crossings + piece_count (part_of (λ place. not (keep place)) code others).crossings
    ≡ piece_count code.crossings
piece_count-parts keep code loops others holds cut adds =
    let first = part_of keep code loops in
    let second = part_of (λ place. not (keep place)) code others in
    let old = listed_by code (kept_first keep code.crossings) in
    let whole = union_of first second in
    let are = AreUnited-from first second (first-directed keep code loops others holds cut adds)
    (second-directed keep code loops others holds cut adds) in
    let old_twice = HasArcsTwice-accepted old (accepted-order keep code loops others holds cut adds) in
    sym (piece_count-both first second are (HasArcsTwice-accepted whole (accepted-cut keep code loops others holds cut adds)))
    ∙ ap class_count
    (pieces-alike old.crossings whole.crossings
    (AreAlike-numbers (cut_number keep code loops others holds cut adds) old whole old_twice
    (numbers-cut keep code loops others holds cut adds)))
    ∙ piece_count-kept keep code.crossings (HasArcsTwice-accepted code holds)

module _ (code : Code) (holds : IsTrue (accepted code)) (some : 0 < length code.crossings) where
  abbrev crossings : List (List ℕ)
  crossings = code.crossings

  abbrev n : ℕ
  n = length code.crossings

  abbrev keep : ℕ → Bool
  keep = is_in_first_piece code.crossings

  abbrev places : List ℕ
  places = kept_places keep code.crossings

  abbrev parts : Parts
  parts = kept_parts keep code 0

  abbrev first : Code
  first = first_piece code

  abbrev pieces : List ℕ
  pieces = pieces_of first.crossings

  cut : IsCut keep crossings
  cut = IsCut-pieces code holds

  paired : ArePaired parts
  paired = ArePaired-kept keep code 0 cut holds

  first_is : IsTrue (accepted first)
  first_is = accepted-part keep code 0 holds cut (omega arith)

  length-places : length first.crossings ≡ length places
  length-places = length-map parts.crossings (renamed_crossing (own_number parts paired)) ∙ length-map places (slots_in crossings)

  places-few : length places ≤ n
  places-few = omega (arith, length-order keep crossings, length-append places (kept_places (λ place. not (keep place)) crossings))

  -- where a crossing stands in the first piece
  abbrev index : ℕ → ℕ
  index place = position_or_len (nat_eq place) places

  index-found : (place : ℕ) → place < n → keep place ≡ true → (index place < length places) × (get_or places (index place) 0 ≡ place)
  index-found place below is =
      let found = found-first (nat_eq place) places place
      (Contains-filter keep (range_with_len 0 n) place is (Contains-range n place below)) (eq-eqb place place refl) in
      (found.within, sym (eqb-true place (get_or places (index place) 0) found.passes))

  index-at : (k : ℕ) → k < length places → index (get_or places k 0) ≡ k
  index-at k below =
      let place = get_or places k 0 in
      let is = Passes-filter keep 0 n k below in
      let found = index-found place (omega (arith, is.below)) is.passes in
      place-once keep crossings (index place) k (omega (arith, found.0, places-few)) (omega (arith, below, places-few))
      (place-front keep crossings (index place) found.0 ∙ found.1 ∙ sym (place-front keep crossings k below))

  arc-index : (place slot : ℕ) → place < n → keep place ≡ true → slot < 4
      → arc_by_place first.crossings (index place) slot ≡ own_number parts paired (arc_by_place crossings place slot)
  arc-index place slot below is slot_below =
      let found = index-found place below is in
      let size : length parts.crossings ≡ length places = length-map places (slots_in crossings) in
      slot-number parts paired (index place) slot (omega (arith, found.0, size)) slot_below
      ∙ ap (λ slots. own_number parts paired (arc_in slots slot))
      (get_or-map (slots_in crossings) places (index place) 0 [] found.0 ∙ ap (slots_in crossings) found.1)

  -- the class of a crossing in the first piece, and one number for all others
  abbrev class : ℕ → ℕ
  class place = cond (keep place) (slice_index pieces (index place)) (length places)

  class-kept : (place : ℕ) → keep place ≡ true → class place ≡ slice_index pieces (index place)
  class-kept place is = ap (λ b. cond b (slice_index pieces (index place)) (length places)) is

  class-other : (place : ℕ) → keep place ≡ false → class place ≡ length places
  class-other place fails = ap (λ b. cond b (slice_index pieces (index place)) (length places)) fails

  -- the ends of an arc are in one class
  class-ends : (x : ℕ) → x < 4 * n → class (x / 4) ≡ class (partner_at crossings x / 4)
  class-ends x below =
      let y = partner_at crossings x in
      let other = IsOtherPlace-partner_at crossings x (HasArcsTwice-accepted code holds) below in
      let x_below : x / 4 < n = omega (arith, below) in
      let y_below : y / 4 < n = omega (arith, other.below) in
      let x_slot : x % 4 < 4 = omega arith in
      let y_slot : y % 4 < 4 = omega arith in
      let same : arc_by_place crossings (x / 4) (x % 4) ≡ arc_by_place crossings (y / 4) (y % 4) =
      sym (arc-place crossings x) ∙ sym other.same_arc ∙ arc-place crossings y in
      let side = cut (x / 4) (y / 4) (x % 4) (y % 4) x_below y_below x_slot y_slot same in
      elim (cases_Bool (keep (x / 4))) [
        | inl is ↦
            let is_too = sym side ∙ is in
            let x_found = index-found (x / 4) x_below is in
            let y_found = index-found (y / 4) y_below is_too in
            class-kept (x / 4) is
            ∙ piece-joined first first_is (index (x / 4)) (index (y / 4)) (x % 4) (y % 4) (omega (arith, x_found.0, length-places))
            (omega (arith, y_found.0, length-places)) x_slot y_slot
            (arc-index (x / 4) (x % 4) x_below is x_slot ∙ ap (own_number parts paired) same
            ∙ sym (arc-index (y / 4) (y % 4) y_below is_too y_slot))
            ∙ sym (class-kept (y / 4) is_too)
        | inr fails ↦ class-other (x / 4) fails ∙ sym (class-other (y / 4) (sym side ∙ fails))
      ]

  -- so the first piece has one
  class-first : (k : ℕ) → k < length places → slice_index pieces k ≡ class 0
  class-first k below =
      let place = get_or places k 0 in
      let is = Passes-filter keep 0 n k below in
      let inside : place < n = omega (arith, is.below) in
      let pair = piece_pair (partner_at crossings) in
      let small = λ (x : ℕ) (x_below : x < 4 * n).
      (IsOtherPlace-partner_at crossings x (HasArcsTwice-accepted code holds) x_below).below in
      ap (λ m. slice_index pieces m) (sym (index-at k below))
      ∙ sym (class-kept place is.passes)
      ∙ classes-finest class n (map pair (range_with_len 0 (4 * n)))
      (at-respects class pair 0 (4 * n) (λ x from x_below. class-ends x (omega (arith, x_below))))
      (below-range pair n 0 (4 * n)
      (λ x from x_below. (omega (arith, x_below), omega (arith, small x (omega (arith, x_below))))))
      place 0 inside some (first-class code holds place inside is.passes)

  pub piece_count-first : piece_count first.crossings ≡ 1
  piece_count-first =
      let named = IsNamed-pieces_of first first_is in
      let found = index-found 0 some (first-in code holds some) in
      let nothing : 0 < length first.crossings = omega (arith, found.0, length-places) in
      let least : slice_index pieces 0 ≡ 0 = omega (arith, named.least 0 nothing) in
      let zeroth = class-first 0 (omega (arith, found.0)) in
      ap length
      (filter-one (is_least pieces) 0 (length pieces) 0 (omega arith) (omega (arith, nothing, named.size))
      (eq-eqb (slice_index pieces 0) 0 least)
      (λ k from below differs.
      ne_eqb (slice_index pieces k) k
      (λ same. differs (omega (arith, same, class-first k (omega (arith, below, named.size, length-places)), zeroth, least)))))

  pub piece_count-others : piece_count (other_pieces code).crossings + 1 ≡ piece_count crossings
  piece_count-others =
      let adds : 0 + code.loops ≡ code.loops = omega arith in
      omega (arith, piece_count-first, piece_count-parts keep code 0 code.loops holds cut adds)
