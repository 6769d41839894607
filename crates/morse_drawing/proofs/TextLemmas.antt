-- The text of a drawing, line by line. Where the tests find no fault in a slice, it has its place in the row, by cases for cap,
-- cup and crossing; and it leaves as many strands as the text counts. So by induction all slices of a list without faults have
-- their places. While slices are printed, the text so far, with the lines of the slices that are left, is the text of the
-- drawing: this holds where nothing is printed, stays with one line more, and at the end nothing is left. Last, how many cells a
-- line has: with one more they are as many as the strands before or after the slice, whichever are more.
use Rattle.std.proofs.Common.{◌≡◌, ◌∙◌, ℕ, zero, suc, ◌+◌, ◌-◌, ◌<◌, ◌≤◌, List, [], ◌∷◌, ◌++◌, length, take, drop, sym, ap, ap₂, subst, refl, arith, Bool, false}
use Rattle.std.specs.Prelude.{◌||◌, max, nat_lt, replicate, slice_index_or, Option, Some, None}
use Rattle.std.specs.Option.{option_or}
use Rattle.std.specs.Result.{IsOk}
use Rattle.std.proofs.lemmas.Bool.Decides.{nat_tests}
use Rattle.std.proofs.Math.Seq.{drop-cons}
use Rattle.std.proofs.lemmas.List.{append_assoc, append-nil, length-append, length-drop, length-replicate, length-take-le}
use Rattle.std.proofs.lemmas.Bool.{or_parts, ltb-false}
use Rattle.kh_types.specs.declared.limits.TheConstants.{CROSSINGS}
use Rattle.morse_drawing.specs.Joins.{IsFaultless, JoinedDarts, answer_by, ends_fault, fault_where, first_slice_fault, is_outside, joined_in, slice_fault}
use Rattle.morse_drawing.specs.Sketches.{Sketch, no_sketch, sketch_of, sketched}
use Rattle.morse_drawing.specs.Texts.{IsPlaced, bar, cells, drawing_text, line_text, lines_below, slice_cell, strands_after}
use Rattle.morse_drawing.proofs.PlacedSlices.{ArePlaced}
use Rattle.morse_drawing.specs.declared.fault.SliceFault.{SliceFault}
use Rattle.morse_drawing.specs.declared.slice.Slice.{Slice}
use Rattle.morse_drawing.specs.declared.slice.Slice.TheVariants.{Cap, Cup, Cross}

-- no fault is not a fault
abbrev is_fault : Option SliceFault → ℕ
is_fault None = 0
is_fault (Some fault) = 1

not_both : (fault : SliceFault) → Some fault ≡ None → ⊥
not_both fault same = absurd (omega (arith, ap is_fault same))

pub or_none : (a b : Option SliceFault) → option_or a b ≡ None → (a ≡ None) × (b ≡ None)
or_none a b none = grind (arith, nat_tests)

pub no_fault : (holds : Bool) (fault : SliceFault) → fault_where holds fault ≡ None → holds ≡ false
no_fault holds fault none = grind (arith, nat_tests)

pub within : (last at : ℕ) → is_outside last at ≡ false → (1 ≤ at) × (at ≤ last)
within last at fails = let parts = or_parts (nat_lt at 1) (nat_lt last at) fails in (ltb-false at 1 parts.0, ltb-false last at parts.1)

below : (m at : ℕ) → (1 ≤ at) × (at ≤ m - 1) → (1 ≤ at) × (at < m)
below m at it = (it.0, omega (arith, it.0, it.1))

-- a slice without a fault has its place
pub placed : (limit number : ℕ) (r : Sketch) (slice : Slice) → slice_fault limit r number slice ≡ None → IsPlaced (length r.row) slice
placed limit number r slice none = grind (arith, nat_tests)

-- and leaves so many strands
left_over : (r : Sketch) (slice : Slice) → IsPlaced (length r.row) slice → length (sketched r slice).row ≡ strands_after (length r.row) slice
left_over r (Cap at) is =
    omega (
      arith,
      is,
      length-append (take (at - 1) r.row) (r.next ∷ (r.next + 1) ∷ drop (at - 1) r.row),
      length-take-le (at - 1) r.row (omega (arith, is)),
      length-drop (at - 1) r.row,
    )
left_over r (Cup at) is =
    omega (
      arith,
      is,
      length-append (take (at - 1) r.row) (drop (at - 1 + 2) r.row),
      length-take-le (at - 1) r.row (omega (arith, is)),
      length-drop (at - 1 + 2) r.row,
    )
left_over r (Cross at crossing slot) is =
    omega (
      arith,
      is,
      length-append (take (at - 1) r.row) (r.next ∷ (r.next + 1) ∷ drop (at - 1 + 2) r.row),
      length-take-le (at - 1) r.row (omega (arith, is)),
      length-drop (at - 1 + 2) r.row,
    )

all_placed : (limit number strands : ℕ) (r : Sketch) (slices : List Slice) → length r.row ≡ strands
    → first_slice_fault limit r number slices ≡ None → ArePlaced strands slices
all_placed limit number strands r [] same none = tt
all_placed limit number strands r (slice ∷ slices) same none =
    let parts = or_none (slice_fault limit r number slice) (first_slice_fault limit (sketched r slice) (number + 1) slices) none in
    let is = placed limit number r slice parts.0 in (
      subst (λ (m : ℕ). IsPlaced m slice) same is,
      all_placed limit (number + 1) (strands_after strands slice) (sketched r slice) slices
          (left_over r slice is ∙ ap (λ m. strands_after m slice) same) parts.1,
    )

no_answer : (fault : Option SliceFault) (joins : JoinedDarts) → IsOk (answer_by fault joins) → fault ≡ None
no_answer fault joins is = grind (arith, nat_tests)

pub ArePlaced-faultless : (slices : List Slice) → IsFaultless slices → ArePlaced 0 slices
ArePlaced-faultless slices is =
    let none = no_answer _ (joined_in CROSSINGS (sketch_of slices)) is in
    all_placed CROSSINGS 1 0 no_sketch slices refl
    (or_none (first_slice_fault CROSSINGS no_sketch 1 slices) (ends_fault (sketch_of slices)) none).0

-- the slices before a place are printed
pub record IsPrinted (slices : List Slice) (place strands : ℕ) (text : List ℕ) : Type 0 where
  pub placed : ArePlaced strands (drop place slices)
  pub lines : text ++ lines_below strands (drop place slices) ≡ drawing_text slices

pub printed_none : (slices : List Slice) (text : List ℕ) → IsFaultless slices → text ≡ [] → IsPrinted slices 0 0 text
printed_none slices text is none = grind (arith, nat_tests, placed, ArePlaced-faultless slices is)

pub next-slice : (slices : List Slice) (place : ℕ) (other : Slice) → place < length slices
    → drop place slices ≡ slice_index_or slices place other ∷ drop (place + 1) slices
next-slice slices place other below = grind (arith, nat_tests, drop-cons slices place other below, below)

-- the next slice has its place
pub printed_next : (slices : List Slice) (place strands : ℕ) (text : List ℕ) (other : Slice) → IsPrinted slices place strands text
    → place < length slices → IsPlaced strands (slice_index_or slices place other)
printed_next slices place strands text other is below =
    (subst (λ (xs : List Slice). ArePlaced strands xs) (next-slice slices place other below) is.placed).0

pub printed_more : (slices : List Slice) (place strands more : ℕ) (text longer : List ℕ) (other : Slice)
    → IsPrinted slices place strands text → place < length slices → more ≡ strands_after strands (slice_index_or slices place other)
    → longer ≡ text ++ line_text strands (slice_index_or slices place other) → IsPrinted slices (place + 1) more longer
printed_more slices place strands more text longer other is below now line =
    let slice = slice_index_or slices place other in
    let rest = drop (place + 1) slices in
    let next = next-slice slices place other below in
    record {
      placed = subst (λ (m : ℕ). ArePlaced m rest) (sym now) (subst (λ (xs : List Slice). ArePlaced strands xs) next is.placed).1;
      lines = ap₂ (λ (start : List ℕ) m. start ++ lines_below m rest) line now
          ∙ append_assoc text (line_text strands slice) (lines_below (strands_after strands slice) rest)
          ∙ sym (ap (λ (xs : List Slice). text ++ lines_below strands xs) next) ∙ is.lines;
    }

pub drop-all : (slices : List Slice) (k : ℕ) → length slices ≤ k → drop k slices ≡ []
drop-all [] zero all = refl
drop-all [] (suc k) all = refl
drop-all (slice ∷ slices) zero all = absurd (omega (arith, all))
drop-all (slice ∷ slices) (suc k) all = drop-all slices k (omega (arith, all))

pub printed_all : (slices : List Slice) (place strands : ℕ) (text : List ℕ) → IsPrinted slices place strands text → length slices ≤ place
    → text ≡ drawing_text slices
printed_all slices place strands text is all = grind (arith, nat_tests, append-nil text, drop-all slices place all)

counted : (left right : ℕ) (cell : List ℕ) → length (replicate left bar ++ cell ∷ replicate right bar) ≡ left + 1 + right
counted left right cell =
    omega (
      arith,
      length-append (replicate left bar) (cell ∷ replicate right bar),
      length-replicate left bar,
      length-replicate right bar,
    )

-- a cell for each strand that passes by, and the slice's own
pub cells-count : (strands : ℕ) (slice : Slice) → IsPlaced strands slice
    → 1 + length (cells strands slice) ≡ max strands (strands_after strands slice)
cells-count strands (Cap at) is = grind (arith, nat_tests, counted (at - 1) (strands + 1 - at) (slice_cell (Cap at)))
cells-count strands (Cup at) is = grind (arith, nat_tests, counted (at - 1) (strands - 2 + 1 - at) (slice_cell (Cup at)))
cells-count strands (Cross at crossing slot) is =
    grind (arith, nat_tests, counted (at - 1) (strands - 2 + 1 - at) (slice_cell (Cross at crossing slot)))
