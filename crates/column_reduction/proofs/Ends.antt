-- The end of one degree, and of all degrees from the least up: a column without entries keeps none, and so what has been emptied
-- stays empty.
use Rattle.std.proofs.Common.{◌≡◌, ℕ, ◌∙◌, inl, inr, List, [], ◌∷◌, ℤ, pos, ◌+ℤ◌, ◌<ℤ◌, ◌≤ℤ◌, length, ap, sym, subst, arith, true}
use Rattle.std.specs.List.{AllByRecursion}
use Rattle.std.proofs.lemmas.Bool.Decides.{eqb_tells, leb_tells}
use Rattle.std.proofs.lemmas.Int.{ints}
use Rattle.kh_types.specs.Complex.{Complex, IsComplex, Pivot, entry_of, is_zero}
use Rattle.kh_types.specs.History.{IsLegal, replay}
use Rattle.kh_types.proofs.Lists.{AllByRecursion-append}
use Rattle.prime_field.specs.Residues.{IsField}
use Rattle.sparse_block.specs.Complexes.{column_of, place_count}
use Rattle.sparse_block.specs.Entries.{entries_of}
use Rattle.sparse_block.proofs.CancelledDegrees.{Where, where_is}
use Rattle.sparse_block.proofs.ComplexMatrices.{entry-stands}
use Rattle.sparse_block.proofs.PastLemmas.{degree-from_place, entries-zeros}
use Rattle.sparse_block.proofs.ReadingLemmas.{number-column_of}
use Rattle.sparse_block.specs.Histories.{ComesByCancelling}
use Rattle.column_reduction.proofs.Commuting.{come-first}
use Rattle.sparse_block.proofs.EntryValues.{number-none}
use Rattle.sparse_block.proofs.ComesLemmas.{complex-comes, empty-comes, places-comes}
use Rattle.sparse_block.proofs.HistoryLemmas.{degrees-replay, low-replay}
use Rattle.sparse_block.proofs.FindPivot.{zero-from_columns}
use Rattle.column_reduction.specs.Reductions.{ReducedColumn, AreReduced, AreReducedUp, HasNoEntry, HaveNoEntryBelow, IsReducedComplex, IsReducedDegree, pivots_from_greatest, pivots_of}

-- what the reduction leaves comes by cancelling
pub comes-reduced : (p : ℕ) (before after : Complex) (i : ℤ) (count : ℕ) (reduced : List ReducedColumn)
    → AreReduced p before i count reduced after → ComesByCancelling p before after
comes-reduced p before after i count reduced so_far =
    record { history = pivots_of i reduced; legal = so_far.legal; replayed = so_far.replayed }

-- where no entries were there are none
pub no_entry-comes : (p : ℕ) (before after : Complex) (j : ℤ) → IsField p → IsComplex p before → ComesByCancelling p before after
    → HasNoEntry before j → HasNoEntry after j
no_entry-comes p before after j field is comes none column row =
    sym (number-column_of after j row column)
    ∙ number-none (column_of after j column) row
    (empty-comes p before after j column field is comes
    (entries-zeros (column_of before j column) (λ r. number-column_of before j r column ∙ none column r)))

-- a degree at its end has no entries
pub no_entry-end : (p : ℕ) (before after : Complex) (i : ℤ) (reduced : List ReducedColumn) → IsField p → IsComplex p before
    → IsReducedDegree p before i reduced after → HasNoEntry after i
no_entry-end p before after i reduced field is so_far column row =
    let comes = comes-reduced p before after i (place_count before i) reduced so_far in
    elim (leb_tells (place_count before i) column) [
      | inr within ↦ so_far.cleared column within.1 row
      | inl past ↦
          elim (eqb_tells (entry_of after i row column) 0) [
            | inl same ↦ same.1
            | inr other ↦
                let stands = entry-stands p after i row column (complex-comes p before after field is comes) other.1 in
                absurd (omega (arith, past.1, stands.column_place, places-comes p before after i comes))
          ]
    ]

-- no entries below the least degree, nor, at the end of a degree, below the next one
pub below-low : (p : ℕ) (complex : Complex) → IsComplex p complex → HaveNoEntryBelow complex complex.low
below-low p complex is j below column row =
    elim (eqb_tells (entry_of complex j row column) 0) [
      | inl same ↦ same.1
      | inr other ↦
          let degree = degree-from_place complex j column (entry-stands p complex j row column is other.1).column_place in
          absurd (omega (arith, ints, below, degree.low))
    ]

pub below-next : (p : ℕ) (before after : Complex) (i : ℤ) (reduced : List ReducedColumn) → IsField p → IsComplex p before
    → IsReducedDegree p before i reduced after → HaveNoEntryBelow before i → HaveNoEntryBelow after (i +ℤ pos 1)
below-next p before after i reduced field is so_far none j below =
    let comes = comes-reduced p before after i (place_count before i) reduced so_far in
    let earlier : j <ℤ i → HasNoEntry after j = λ (less : j <ℤ i). no_entry-comes p before after j field is comes (none j less) in
    elim (where_is j i) [
      | Where.is_at here ↦
          subst (HasNoEntry after) (sym here) (no_entry-end p before after i reduced field is so_far)
      | Where.is_after next ↦ absurd (omega (arith, ints, next, below))
      | Where.is_before previous ↦ earlier (omega (arith, ints, previous))
      | Where.is_elsewhere not_here not_next not_previous ↦ earlier (omega (arith, ints, below, not_here))
    ]

-- a complex is zero where it has no entries below what is above its greatest degree
pub zero-below : (p : ℕ) (complex : Complex) → IsComplex p complex
    → HaveNoEntryBelow complex (complex.low +ℤ pos (length complex.degrees)) → is_zero complex ≡ true
zero-below p complex is none = zero-from_columns complex empty
  where
    entry-none : (j : ℤ) (row column : ℕ) → entry_of complex j row column ≡ 0
    entry-none j row column =
        elim (eqb_tells (entry_of complex j row column) 0) [
          | inl same ↦ same.1
          | inr other ↦
              let degree = degree-from_place complex j column (entry-stands p complex j row column is other.1).column_place in
              none j (omega (arith, ints, degree.high)) column row
        ]

    empty : (j : ℤ) (column : ℕ) → entries_of (column_of complex j column) ≡ []
    empty j column =
        entries-zeros (column_of complex j column) (λ row. number-column_of complex j row column ∙ entry-none j row column)

-- all degrees from one up

-- the degrees of their pivots
pub own-degrees : (i j : ℤ) (reduced : List ReducedColumn) → i ≤ℤ j → AllByRecursion (λ pivot. i ≤ℤ pivot.degree) (pivots_of j reduced)
own-degrees i j [] within = tt
own-degrees i j (line ∷ lines) within = (within, own-degrees i j lines within)

pub less-own : (i j : ℤ) (reduced : List ReducedColumn) → j <ℤ i → AllByRecursion (λ pivot. pivot.degree <ℤ i) (pivots_of j reduced)
less-own i j [] less = tt
less-own i j (line ∷ lines) less = (less, less-own i j lines less)

greater-degrees : (i j : ℤ) (degrees : List (List ReducedColumn)) → i ≤ℤ j
    → AllByRecursion (λ pivot. i ≤ℤ pivot.degree) (pivots_from_greatest j degrees)
greater-degrees i j [] within = tt
greater-degrees i j (reduced ∷ later) within =
    AllByRecursion-append (λ pivot. i ≤ℤ pivot.degree) (pivots_from_greatest (j +ℤ pos 1) later) (pivots_of j reduced)
    (greater-degrees i (j +ℤ pos 1) later (omega (arith, ints, within))) (own-degrees i j reduced within)

pub less-degrees : (i j : ℤ) (degrees : List (List ReducedColumn)) → (j +ℤ pos (length degrees)) ≤ℤ i
    → AllByRecursion (λ pivot. pivot.degree <ℤ i) (pivots_from_greatest j degrees)
less-degrees i j [] less = tt
less-degrees i j (reduced ∷ later) less =
    AllByRecursion-append (λ pivot. pivot.degree <ℤ i) (pivots_from_greatest (j +ℤ pos 1) later) (pivots_of j reduced)
    (less-degrees i (j +ℤ pos 1) later (omega (arith, ints, less))) (less-own i j reduced (omega (arith, ints, less)))

-- so those of the greater degrees may come first
pub up-first : (p : ℕ) (before after : Complex) (i : ℤ) (degrees : List (List ReducedColumn)) → IsField p → IsComplex p before
    → AreReducedUp p before i degrees after
    → IsLegal p before (pivots_from_greatest i degrees) × (after ≡ replay p before (pivots_from_greatest i degrees))
up-first p before after i [] field is up = (tt, up)
up-first p before after i (reduced ∷ later) field is up =
    let comes = comes-reduced p before up.0 i (place_count before i) reduced up.1 in
    let greater = pivots_from_greatest (i +ℤ pos 1) later in
    let rest = up-first p up.0 after (i +ℤ pos 1) later field (complex-comes p before up.0 field is comes) up.2 in
    let both =
    come-first p before (i +ℤ pos 1) greater (pivots_of i reduced) field is
    (less-own (i +ℤ pos 1) i reduced (omega (arith, ints))) (greater-degrees (i +ℤ pos 1) (i +ℤ pos 1) later (omega (arith, ints)))
    up.1.legal
    (subst (λ (complex : Complex). IsLegal p complex greater) up.1.replayed rest.0) in
    (both.legal, rest.1 ∙ ap (λ (complex : Complex). replay p complex greater) up.1.replayed ∙ sym both.same)

pub legal-up : (p : ℕ) (before after : Complex) (i : ℤ) (degrees : List (List ReducedColumn)) → IsField p → IsComplex p before
    → AreReducedUp p before i degrees after → IsLegal p before (pivots_from_greatest i degrees)
legal-up p before after i degrees field is up = (up-first p before after i degrees field is up).0

pub replay-up : (p : ℕ) (before after : Complex) (i : ℤ) (degrees : List (List ReducedColumn)) → IsField p → IsComplex p before
    → AreReducedUp p before i degrees after → after ≡ replay p before (pivots_from_greatest i degrees)
replay-up p before after i degrees field is up = (up-first p before after i degrees field is up).1

pub comes-up : (p : ℕ) (before after : Complex) (i : ℤ) (degrees : List (List ReducedColumn)) → IsField p → IsComplex p before
    → AreReducedUp p before i degrees after → ComesByCancelling p before after
comes-up p before after i degrees field is up =
    record {
      history = pivots_from_greatest i degrees;
      legal = legal-up p before after i degrees field is up;
      replayed = replay-up p before after i degrees field is up;
    }

below-up : (p : ℕ) (before after : Complex) (i : ℤ) (degrees : List (List ReducedColumn)) → IsField p → IsComplex p before
    → AreReducedUp p before i degrees after → HaveNoEntryBelow before i → HaveNoEntryBelow after (i +ℤ pos (length degrees))
below-up p before after i [] field is up none j below =
    subst (λ (complex : Complex). HasNoEntry complex j) (sym up) (none j (omega (arith, ints, below)))
below-up p before after i (reduced ∷ later) field is up none j below =
    let comes = comes-reduced p before up.0 i (place_count before i) reduced up.1 in
    below-up p up.0 after (i +ℤ pos 1) later field (complex-comes p before up.0 field is comes) up.2
    (below-next p before up.0 i reduced field is up.1 none) j (omega (arith, ints, below))

-- so all degrees leave zero
pub zero-up : (p : ℕ) (before after : Complex) (degrees : List (List ReducedColumn)) → IsField p → IsComplex p before
    → AreReducedUp p before before.low degrees after → length degrees ≡ length before.degrees → is_zero after ≡ true
zero-up p before after degrees field is up all =
    let comes = comes-up p before after before.low degrees field is up in
    let low : after.low ≡ before.low = ap (λ (complex : Complex). complex.low) comes.replayed ∙ low-replay p before comes.history in
    let size : length after.degrees ≡ length before.degrees =
    ap (λ (complex : Complex). length complex.degrees) comes.replayed ∙ degrees-replay p before comes.history in
    zero-below p after (complex-comes p before after field is comes)
    (λ j below.
    below-up p before after before.low degrees field is up (below-low p before is) j
    (omega (arith, ints, below, low, size, all)))

-- so a reduced complex has a legal history, and is zero
pub legal-reduced : (p : ℕ) (before after : Complex) (pivots : List Pivot) → IsField p → IsComplex p before
    → IsReducedComplex p before pivots after → IsLegal p before pivots
legal-reduced p before after pivots field is reduced =
    subst (IsLegal p before) (sym reduced.listed) (legal-up p before after before.low reduced.degrees field is reduced.up)

pub zero-reduced : (p : ℕ) (before after : Complex) (pivots : List Pivot) → IsField p → IsComplex p before
    → IsReducedComplex p before pivots after → is_zero after ≡ true
zero-reduced p before after pivots field is reduced = zero-up p before after reduced.degrees field is reduced.up reduced.count
