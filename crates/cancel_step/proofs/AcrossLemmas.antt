-- One line more of those that the code makes.
use Rattle.std.proofs.Common.{◌≡◌, ℕ, ◌+◌, ◌<◌, ◌∙◌, inl, inr, List, [], ◌∷◌, ◌++◌, length, map, take, get_or, ap, ap₂, sym, subst, Bool}
use Rattle.std.specs.Prelude.{nat_eq, slice_index, Some, cond}
use Rattle.std.specs.List.{find}
use Rattle.std.specs.Option.{option_map_or}
use Rattle.std.proofs.lemmas.Bool.Decides.{eqb_tells}
use Rattle.std.proofs.lemmas.List.{map_more}
use Rattle.std.proofs.lemmas.List.Elements.{All-head, All-tail}
use Rattle.kh_types.specs.Complex.{Complex, IsComplex, IsPivot, Pivot, cancel, entry_of}
use Rattle.prime_field.specs.Residues.{IsField, inverse_mod, product_mod}
use Rattle.sparse_block.specs.Entries.{Entry, AreEntries, entries_of, value_at}
use Rattle.sparse_block.specs.Changes.{PlacedLine}
use Rattle.sparse_block.proofs.AscendingLemmas.{entries-from_ascend}
use Rattle.cancel_step.specs.Copies.{line_across}
use Rattle.cancel_step.specs.Lines.{AreLines, entries_with, line_cleared}
use Rattle.sparse_block.specs.LinePairs.{line_less}
use Rattle.cancel_step.specs.Sides.{line_on, other_side, place_on}
use Rattle.cancel_step.specs.declared.side.Side.{Side}
use Rattle.sparse_block.proofs.EntryValues.{entry-of_line}
use Rattle.cancel_step.proofs.SideLemmas.{entries-on, entry-across, entry_on, line-less, number-on, pivot-on, size_on}

-- a list with one element more, each made by the same function
one_more : {X Y : Type 0} (f : X → Y) (xs : List X) (k : ℕ) (d : X) (made made_more : List Y) (y : Y) → k < length xs
    → made ≡ map f (take k xs) → y ≡ f (get_or xs k d) → made_more ≡ made ++ y ∷ [] → made_more ≡ map f (take (k + 1) xs)
one_more {X} {Y} f xs k d made made_more y within so_far is_next is_more =
    is_more ∙ ap₂ (λ (ys : List Y) (y : Y). ys ++ y ∷ []) so_far is_next ∙ sym (map_more f xs k d within)

-- an entry of a line by its index
entry-value : (p size k : ℕ) (es : List Entry) (line : List ℕ) (d : Entry) → es ≡ entries_of line
    → AreEntries p size (entries_of line) → k < length es → (get_or es k d).value ≡ slice_index line (get_or es k d).place
entry-value p size k es line d is_line are within =
    subst (λ (es : List Entry). k < length es → (get_or es k d).value ≡ slice_index line (get_or es k d).place) (sym is_line)
    (λ inside. sym (entry-of_line p size k line d are inside).value) within

pub entry-below : (p size k : ℕ) (es : List Entry) (d : Entry) → AreEntries p size es → k < length es → (get_or es k d).value < p
entry-below p size k es d are within = (are.values k d within).1

module _ (p : ℕ) (complex : Complex) (pivot : Pivot) (field : IsField p) (is : IsComplex p complex) (is_pivot : IsPivot complex pivot)
  where
    -- one line more of a side, at the place of an entry of the pivot's line across
    pub line_more : (side : Side) (across line own made : List Entry) (k factor value : ℕ) (d : Entry)
        (lines lines_more : List PlacedLine)
        → across ≡ entries_of (line_on (other_side side) complex pivot.degree (place_on (other_side side) pivot)) → k < length across
        → line ≡ entries_of (line_on side complex pivot.degree (get_or across k d).place)
        → own ≡ entries_of (line_on side complex pivot.degree (place_on side pivot))
        → value ≡ value_at own (place_on (other_side side) pivot)
        → factor ≡ product_mod p (get_or across k d).value (inverse_mod p value)
        → ((size : ℕ) → AreEntries p size line → AreEntries p size own → made ≡ entries_of (line_less p size line factor own))
        → lines ≡ map (line_across (line_on side (cancel p complex pivot) pivot.degree)) (take k across)
        → lines_more ≡ lines ++ record { place = (get_or across k d).place; entries = made } ∷ []
        → lines_more ≡ map (line_across (line_on side (cancel p complex pivot) pivot.degree)) (take (k + 1) across)
    line_more side across line own made k factor value d lines lines_more is_across within is_line is_own is_value is_factor merged
        so_far is_more =
        let i = pivot.degree in
        let other = other_side side in
        let at = place_on other pivot in
        let size = size_on side complex i in
        let e : Entry = get_or across k d in
        let are : AreEntries p size line = subst (AreEntries p size) (sym is_line) (entries-on side p complex i e.place is) in
        let are_own : AreEntries p size own =
        subst (AreEntries p size) (sym is_own) (entries-on side p complex i (place_on side pivot) is) in
        let entry : e.value ≡ entry_on side complex i e.place at =
        entry-value p (size_on other complex i) k across (line_on other complex i at) d is_across (entries-on other p complex i at is)
        within
        ∙ number-on other complex i at e.place ∙ entry-across side complex i e.place at in
        let pivot_value : value ≡ entry_of complex i pivot.row pivot.column =
        is_value ∙ ap (λ (es : List Entry). value_at es at) is_own ∙ pivot-on side complex pivot in
        let next : PlacedLine = record { place = e.place; entries = made } in
        one_more (line_across (line_on side (cancel p complex pivot) i)) across k d lines lines_more next within so_far
        (ap (λ (es : List Entry). let line : PlacedLine = record { place = e.place; entries = es } in line)
        (merged size are are_own
        ∙ line-less p complex pivot field is is_pivot side size e.place factor line own is_line is_own are are_own
        (is_factor ∙ ap₂ (λ x y. product_mod p x (inverse_mod p y)) entry pivot_value)))
        is_more

-- the line that has a place, if there is one

entries-none : (p size : ℕ) → AreEntries p size []
entries-none p size = entries-from_ascend p 0 size [] tt

pub entries_with-are : (p size place : ℕ) (lines : List PlacedLine) → AreLines p size lines → AreEntries p size (entries_with lines place)
entries_with-are p size place [] are = entries-none p size
entries_with-are p size place (line ∷ lines) are =
    let found : Bool → List Entry =
    λ test. option_map_or (λ (line : PlacedLine). line.entries)
    (cond test (Some line) (find (λ (line : PlacedLine). nat_eq line.place place) lines)) [] in
    let Are : PlacedLine → Type 0 = λ line. AreEntries p size line.entries in
    elim (eqb_tells line.place place) [
      | inl here ↦ subst (λ (test : Bool). AreEntries p size (found test)) (sym here.0) (All-head Are line lines are)
      | inr other ↦
          subst (λ (test : Bool). AreEntries p size (found test)) (sym other.0)
          (entries_with-are p size place lines (All-tail Are line lines are))
    ]

-- one line cleared more
pub cleared_more : (p size across k factor : ℕ) (own made : List Entry) (line : PlacedLine)
    (lines made_lines made_more : List PlacedLine) → AreLines p size lines → AreEntries p size own → k < length lines
    → line ≡ get_or lines k line → factor ≡ product_mod p (value_at line.entries across) (inverse_mod p (value_at own across))
    → ((size : ℕ) → AreEntries p size line.entries → AreEntries p size own
    → made ≡ entries_of (line_less p size line.entries factor own))
    → made_lines ≡ map (line_cleared p size own across) (take k lines)
    → made_more ≡ made_lines ++ record { place = line.place; entries = made } ∷ []
    → made_more ≡ map (line_cleared p size own across) (take (k + 1) lines)
cleared_more p size across k factor own made line lines made_lines made_more are are_own within is_line is_factor merged so_far
    is_more =
    let line_made : PlacedLine = record { place = line.place; entries = made } in
    let are_line : AreEntries p size line.entries =
    subst (λ (line : PlacedLine). AreEntries p size line.entries) (sym is_line) (are k line within) in
    one_more (line_cleared p size own across) lines k line made_lines made_more line_made within so_far
    (ap (λ (es : List Entry). let made : PlacedLine = record { place = line.place; entries = es } in made)
    (merged size are_line are_own
    ∙ ap (λ (factor : ℕ). entries_of (line_less p size line.entries factor own)) is_factor)
    ∙ ap (line_cleared p size own across) is_line)
    is_more
