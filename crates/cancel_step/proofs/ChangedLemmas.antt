-- The lines across a pivot are those that its cancellation changes.
use Rattle.std.proofs.lemmas.Bool.Decides.{nat_tests, eqb_tells}
use Rattle.std.proofs.Common.{◌≡◌, ℕ, suc, ◌<◌, ◌∙◌, inl, inr, List, [], ◌∷◌, length, map, get_or, ap, ap₂, sym, subst, refl, arith}
use Rattle.std.specs.Prelude.{slice_index}
use Rattle.std.proofs.Math.ListN as plain
use Rattle.std.specs.List.{Contains}
use Rattle.std.proofs.lemmas.Simd.{map-map}
use Rattle.std.proofs.lemmas.List.{get_or-map, length-map}
use Rattle.kh_types.specs.Complex.{Complex, IsComplex, IsPivot, Pivot, cancel, degree_of}
use Rattle.kh_types.proofs.CancelLemmas.{sizes-cancel}
use Rattle.prime_field.specs.Residues.{IsField}
use Rattle.sparse_block.specs.Entries.{Entry, AreEntries, entries_of}
use Rattle.sparse_block.specs.Changes.{AreChanged, PlacedLine, places_of}
use Rattle.sparse_block.specs.Complexes.{column_of, row_of}
use Rattle.cancel_step.specs.Copies.{line_across}
use Rattle.cancel_step.specs.Sides.{line_on, lines_across, other_side, place_on}
use Rattle.cancel_step.specs.declared.side.Side.{Side}
use Rattle.sparse_block.proofs.CancelledNumbers.{entry-stays}
use Rattle.sparse_block.proofs.EntryValues.{HasEntry, entry-at_number}
use Rattle.cancel_step.proofs.SideLemmas.{entries-on, entry_on, number-on, size_on}
use Rattle.cancel_step.proofs.CopiedLemmas.{blank, line-across_at}

-- they are the lines that the cancellation changes

lists-alike : (xs ys : List ℕ) → length xs ≡ length ys → ((k : ℕ) → slice_index xs k ≡ slice_index ys k) → xs ≡ ys
lists-alike [] [] sizes same = refl
lists-alike [] (y ∷ ys) sizes same = absurd (omega (arith, sizes))
lists-alike (x ∷ xs) [] sizes same = absurd (omega (arith, sizes))
lists-alike (x ∷ xs) (y ∷ ys) sizes same =
    ap₂ (λ (x : ℕ) (xs : List ℕ). x ∷ xs) (same 0) (lists-alike xs ys (omega (arith, sizes)) (λ k. same (suc k)))

places-across : (line : ℕ → List ℕ) (es : List Entry) → places_of (map (line_across line) es) ≡ map (λ e. e.place) es
places-across line es = map-map (λ (line : PlacedLine). line.place) (line_across line) es

module _ (p size : ℕ) (before after : ℕ → List ℕ) (across : List ℕ) (es : List Entry) (are_entries : es ≡ entries_of across)
    (are : AreEntries p size es) where
  pub changed-across : ((place : ℕ) → slice_index across place ≡ 0 → before place ≡ after place)
      → AreChanged size before after (map (line_across after) es)
  changed-across stays =
      record {
        within = λ k d within.
            let inside : k < length es = omega (arith, within, length-map es (line_across after)) in
            subst (λ (line : PlacedLine). line.place < size) (sym (line-across_at after es k blank d inside))
            (are.places k blank inside);
        entries = λ k d within.
            let inside : k < length es = omega (arith, within, length-map es (line_across after)) in
            subst (λ (line : PlacedLine). line.entries ≡ entries_of (after line.place)) (sym (line-across_at after es k blank d inside))
            refl;
        all = λ place changes.
            elim (eqb_tells (slice_index across place) 0) [
              | inl none ↦ absurd (changes (stays place none.1))
              | inr other ↦
                  let has : HasEntry es place blank =
                  subst (λ (es : List Entry). HasEntry es place blank) (sym are_entries) (entry-at_number across place blank other.1) in
                  subst (λ (places : List ℕ). Contains places place) (sym (places-across after es)) (
                    has.at,
                    omega (arith, has.within, length-map es (λ (e : Entry). e.place)),
                    get_or-map (λ (e : Entry). e.place) es has.at blank place has.within ∙ has.is_place,
                  )
            ];
      }

module _ (p : ℕ) (complex : Complex) (pivot : Pivot) (field : IsField p) (is : IsComplex p complex) (is_pivot : IsPivot complex pivot)
  where
    column-size : (place : ℕ)
        → length (column_of complex pivot.degree place) ≡ length (column_of (cancel p complex pivot) pivot.degree place)
    column-size place = grind (arith, nat_tests, length-map, sizes-cancel)

    row-size : (place : ℕ) → length (row_of complex pivot.degree place) ≡ length (row_of (cancel p complex pivot) pivot.degree place)
    row-size place =
        sym (plain.get_or-map length (degree_of complex pivot.degree).matrix place [])
        ∙ sym (ap (λ (sizes : List ℕ). get_or sizes place 0) (sizes-cancel p complex pivot pivot.degree))
        ∙ plain.get_or-map length (degree_of (cancel p complex pivot) pivot.degree).matrix place []

    line-size : (side : Side) (line : ℕ)
        → length (line_on side complex pivot.degree line) ≡ length (line_on side (cancel p complex pivot) pivot.degree line)
    line-size side line = grind (arith, nat_tests, column-size, row-size)

    line-stays : (side : Side) (line place : ℕ)
        → entry_on (other_side side) complex pivot.degree (place_on (other_side side) pivot) line ≡ 0
        → entry_on side complex pivot.degree line place ≡ entry_on side (cancel p complex pivot) pivot.degree line place
    line-stays side line place none = grind (arith, nat_tests, entry-stays)

    pub lines-changed : (side : Side)
        → AreChanged (size_on (other_side side) complex pivot.degree) (line_on side complex pivot.degree)
        (line_on side (cancel p complex pivot) pivot.degree) (lines_across side complex pivot (cancel p complex pivot))
    lines-changed side =
        let i = pivot.degree in
        let other = other_side side in
        let at = place_on other pivot in
        let after = cancel p complex pivot in
        changed-across p (size_on other complex i) (line_on side complex i) (line_on side after i) (line_on other complex i at)
        (entries_of (line_on other complex i at)) refl (entries-on other p complex i at is)
        (λ line none.
        lists-alike (line_on side complex i line) (line_on side after i line) (line-size side line)
        (λ k.
        number-on side complex i line k ∙ line-stays side line k (sym (number-on other complex i at line) ∙ none)
        ∙ sym (number-on side after i line k)))
