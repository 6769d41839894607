-- Lines across a pivot's row or column: copies of them, and what the cancellation makes of them. On either side of a matrix the
-- copied lines are those that have an entry in the pivot's line across. Copied from a complex, their entries ascend below its
-- size, and the pivot's own line is among them, since its entry there is the pivot, which is not 0: so a search by place finds
-- it. Each line less the multiple of the pivot's line that clears the place of the pivot is that line after the cancellation. So
-- the cleared copies are the lines across as the cancelled complex has them. The last part says this of parts that are known to
-- be copied from some complex.
use Rattle.std.proofs.lemmas.Bool.Decides.{nat_tests, eqb_tells}
use Rattle.std.proofs.Common.{◌≡◌, ◌≢◌, ℕ, suc, ◌<◌, ◌∙◌, inl, inr, List, [], ◌∷◌, length, map, get_or, ap, ap₂, sym, subst, refl, arith, Bool}
use Rattle.std.specs.Prelude.{nat_eq, Option, Some, cond}
use Rattle.std.specs.List.{find}
use Rattle.std.specs.Option.{option_map_or}
use Rattle.std.proofs.lemmas.Simd.{map-map}
use Rattle.std.proofs.lemmas.List.{get_or-map, length-map}
use Rattle.kh_types.specs.Complex.{Complex, IsComplex, IsPivot, Pivot, cancel}
use Rattle.prime_field.specs.Residues.{IsField, inverse_mod, product_mod}
use Rattle.sparse_block.specs.Entries.{Entry, AreEntries, entries_of, value_at}
use Rattle.sparse_block.specs.Changes.{PlacedLine}
use Rattle.cancel_step.specs.Copies.{Copied, WasCopied, line_across}
use Rattle.cancel_step.specs.Lines.{AreLines, entries_with, line_cleared}
use Rattle.sparse_block.specs.LinePairs.{factor_at}
use Rattle.cancel_step.specs.Sides.{line_on, lines_across, other_side, place_on}
use Rattle.cancel_step.specs.declared.side.Side.{Side}
use Rattle.sparse_block.proofs.EntryValues.{HasEntry, entry-at_number}
use Rattle.cancel_step.proofs.SideLemmas.{entries-on, entry-across, entry-pivot, line-less, number-on, pivot-on, size_on, value-on}

pub blank : Entry
blank = record { place = 0; value = 0 }

-- lists made alike of each element
pub map-alike : {X Y : Type 0} (f g : X → Y) (xs : List X) → ((k : ℕ) (d : X) → k < length xs → f (get_or xs k d) ≡ g (get_or xs k d))
    → map f xs ≡ map g xs
map-alike f g [] same = refl
map-alike {X} {Y} f g (x ∷ xs) same =
    ap₂ (λ (y : Y) (ys : List Y). y ∷ ys) (same 0 x (omega arith))
    (map-alike f g xs (λ k d within. same (suc k) d (omega (arith, within))))

-- the line across at an index
pub line-across_at : (line : ℕ → List ℕ) (es : List Entry) (k : ℕ) (d : Entry) (e : PlacedLine) → k < length es
    → get_or (map (line_across line) es) k e ≡ line_across line (get_or es k d)
line-across_at line es k d e within = get_or-map (line_across line) es k d e within

-- the entries of the line that has a place

entries_in : Option PlacedLine → List Entry
entries_in found = option_map_or (λ (line : PlacedLine). line.entries) found []

pub entries_with-across : (line : ℕ → List ℕ) (es : List Entry) (place : ℕ) (d : Entry) → HasEntry es place d
    → entries_with (map (line_across line) es) place ≡ entries_of (line place)
entries_with-across line [] place d has = absurd (omega (arith, has.within))
entries_with-across line (e ∷ es) place d has =
    let rest : List PlacedLine = map (line_across line) es in
    let found : Bool → List Entry =
    λ test. option_map_or (λ (line : PlacedLine). line.entries)
    (cond test (Some (line_across line e)) (find (λ (line : PlacedLine). nat_eq line.place place) rest)) [] in
    elim (eqb_tells e.place place) [
      | inl here ↦ ap found here.0 ∙ ap (λ (n : ℕ). entries_of (line n)) here.1
      | inr other ↦ ap found other.0 ∙ entries_with-across line es place d (later e es has other.1)
    ]
  where
    later : (e : Entry) (es : List Entry) → HasEntry (e ∷ es) place d → e.place ≢ place → HasEntry es place d
    later e es has differs = grind (arith, nat_tests)

-- the entries of the pivot's line across
abbrev pub entries_across : Side → Complex → Pivot → List Entry
entries_across side complex pivot =
    entries_of (line_on (other_side side) complex pivot.degree (place_on (other_side side) pivot))

module _ (side : Side) (p : ℕ) (complex : Complex) (pivot : Pivot) (is : IsComplex p complex) where
  -- the lines copied from a complex have entries

  pub across-lines : AreLines p (size_on side complex pivot.degree) (lines_across side complex pivot complex)
  across-lines k d within =
      let line : ℕ → List ℕ = line_on side complex pivot.degree in
      let es : List Entry = entries_across side complex pivot in
      let inside : k < length es = omega (arith, within, length-map es (line_across line)) in
      subst (λ (line : PlacedLine). AreEntries p (size_on side complex pivot.degree) line.entries)
      (sym (line-across_at line es k blank d inside))
      (entries-on side p complex pivot.degree (get_or es k blank).place is)

  module _ (is_pivot : IsPivot complex pivot) where
    -- and the pivot's own line is among them

    pub in-across : HasEntry (entries_across side complex pivot) (place_on side pivot) blank
    in-across = grind (arith, nat_tests, entry-at_number, blank, number-on, entry-across, entry-pivot)

    pub pivot-line : entries_with (lines_across side complex pivot complex) (place_on side pivot)
        ≡ entries_of (line_on side complex pivot.degree (place_on side pivot))
    pivot-line =
        entries_with-across (line_on side complex pivot.degree) (entries_across side complex pivot) (place_on side pivot) blank in-across

    pub pivot-in_line : value_at (entries_with (lines_across side complex pivot complex) (place_on side pivot))
        (place_on (other_side side) pivot) ≢ 0
    pivot-in_line = grind (arith, nat_tests, pivot-on, pivot-line)

    -- cleared by the pivot's own, they are the lines after the cancellation
    pub across-cleared : IsField p → (size : ℕ) → AreLines p size (lines_across side complex pivot complex)
        → map (line_cleared p size (entries_with (lines_across side complex pivot complex) (place_on side pivot))
        (place_on (other_side side) pivot)) (lines_across side complex pivot complex)
        ≡ lines_across side complex pivot (cancel p complex pivot)
    across-cleared field size are =
        let i = pivot.degree in
        let at = place_on (other_side side) pivot in
        let before : ℕ → List ℕ = line_on side complex i in
        let after : ℕ → List ℕ = line_on side (cancel p complex pivot) i in
        let es : List Entry = entries_across side complex pivot in
        let own : List Entry = entries_with (lines_across side complex pivot complex) (place_on side pivot) in
        let are_at : (k : ℕ) (d : Entry) → k < length es → AreEntries p size (entries_of (before (get_or es k d).place)) =
        λ k d within.
        subst (λ (line : PlacedLine). AreEntries p size line.entries) (line-across_at before es k d (line_across before blank) within)
        (are k (line_across before blank) (omega (arith, within, length-map es (line_across before)))) in
        let are_own : AreEntries p size own =
        subst (AreEntries p size) (sym pivot-line)
        (subst (λ (place : ℕ). AreEntries p size (entries_of (before place))) in-across.is_place
        (are_at in-across.at blank in-across.within)) in
        map-map (line_cleared p size own at) (line_across before) es
        ∙ map-alike (λ (e : Entry). line_cleared p size own at (line_across before e)) (line_across after) es
        (λ k d within.
        let place = (get_or es k d).place in
        ap (λ (es : List Entry). let line : PlacedLine = record { place = place; entries = es } in line)
        (line-less p complex pivot field is is_pivot side size place (factor_at p own (entries_of (before place)) at)
        (entries_of (before place)) own refl pivot-line (are_at k d within) are_own
        (ap₂ (λ x y. product_mod p x (inverse_mod p y)) (value-on side complex i place at)
        (ap (λ (es : List Entry). value_at es at) pivot-line ∙ pivot-on side complex pivot))))

-- the copied lines of a side are those of the complex that was copied from

abbrev pub parts_on : Side → Copied → List PlacedLine
parts_on Side.Columns parts = parts.columns
parts_on Side.Rows parts = parts.rows

pub parts-copied : (side : Side) (p : ℕ) (parts : Copied) (was : WasCopied p parts)
    → parts_on side parts ≡ lines_across side was.complex parts.pivot was.complex
parts-copied side p parts was = grind (arith, nat_tests)

module _ (side : Side) (p : ℕ) (parts : Copied) (was : WasCopied p parts) (lines : List PlacedLine) (are : lines ≡ parts_on side parts)
  where
    pub copied-lines : AreLines p (size_on side was.complex parts.pivot.degree) lines
    copied-lines =
        subst (AreLines p (size_on side was.complex parts.pivot.degree)) (sym (are ∙ parts-copied side p parts was))
        (across-lines side p was.complex parts.pivot was.is_complex)

    pub copied-pivot : value_at (entries_with lines (place_on side parts.pivot)) (place_on (other_side side) parts.pivot) ≢ 0
    copied-pivot =
        subst
        (λ (lines : List PlacedLine).
        value_at (entries_with lines (place_on side parts.pivot)) (place_on (other_side side) parts.pivot) ≢ 0)
        (sym (are ∙ parts-copied side p parts was))
        (pivot-in_line side p was.complex parts.pivot was.is_complex was.is_pivot)

    pub copied-cleared : IsField p → (made : List PlacedLine)
        → ((size : ℕ) → AreLines p size lines
        → made ≡ map (line_cleared p size (entries_with lines (place_on side parts.pivot)) (place_on (other_side side) parts.pivot)) lines)
        → made ≡ lines_across side was.complex parts.pivot (cancel p was.complex parts.pivot)
    copied-cleared field made cleared =
        let size = size_on side was.complex parts.pivot.degree in
        cleared size copied-lines
        ∙ ap
        (λ (lines : List PlacedLine).
        map (line_cleared p size (entries_with lines (place_on side parts.pivot)) (place_on (other_side side) parts.pivot)) lines)
        (are ∙ parts-copied side p parts was)
        ∙ across-cleared side p was.complex parts.pivot was.is_complex was.is_pivot field size
        (across-lines side p was.complex parts.pivot was.is_complex)
