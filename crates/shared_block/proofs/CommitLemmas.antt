-- What cancellations and commits leave of a block. The complex that a legal history leaves of the block of an accepted code is a
-- complex. One pivot more keeps the history legal, and cancels once more, which takes two live places away. A block in memory has
-- room for half as many pivots more as it has live places: so where its complex has a pivot there is room for it, and after the
-- cancellation the same holds again. A copy of a block as it stands shows no difference from its complex, in columns or rows, so
-- it is never foreign. Last, a turn of finishing: it leaves fewer live places, and a longer history of the same diagram and
-- degree.
use Rattle.std.proofs.Common.{◌≡◌, ℕ, ◌+◌, ◌/◌, ◌<◌, ◌∙◌, List, [], ◌∷◌, ◌++◌, ℤ, length, map, get_or, inl, inr, append_assoc, IsTrue, sym, ap, subst, subst₂, arith}
use Rattle.std.specs.List.{Any}
use Rattle.std.proofs.lemmas.List.{get_or-map, length-append, length-map}
use mathlib.Core.List.{IsPrefix}
use Rattle.kh_types.specs.Acceptance.{accepted}
use Rattle.kh_types.specs.Complex.{Complex, IsComplex, IsPivot, Pivot, cancel}
use Rattle.kh_types.specs.History.{block}
use Rattle.prime_field.specs.Residues.{IsField}
use Rattle.square_laws.proofs.BlockComplexes.{IsComplex-block}
use Rattle.sparse_block.specs.Changes.{PlacedLine}
use Rattle.sparse_block.specs.Complexes.{column_of, row_of}
use Rattle.sparse_block.specs.Entries.{Entry, entries_of}
use Rattle.sparse_block.proofs.EntryLemmas.{value_at-entries_of}
use Rattle.cancel_step.specs.Copies.{Copied, copied, line_across}
use Rattle.cancel_step.specs.Foreign.{IsForeign, IsOtherColumn, IsOtherRowAt, ShowsAt, ShowsIn}
use Rattle.sparse_block.specs.Complexes.{live_places}
use Rattle.sparse_block.proofs.HistoryLemmas.{complex-replay, legal-push, replay-push}
use Rattle.sparse_block.proofs.LivePlaces.{live_places-cancel}
use Rattle.shared_block.specs.BlockHistories.{BlockCopy, BlockHistory, HasLegalHistory, IsCopyOf, IsKeptBlock, block_with, complex_of}
use Rattle.shared_block.specs.Commits.{with_pivot}

-- the complex that a legal history leaves of the block of an accepted code is a complex
pub complex-left : (p : ℕ) (held : BlockHistory) → IsField p → IsTrue (accepted held.diagram) → HasLegalHistory p held
    → IsComplex p (complex_of p held)
complex-left p held field is legal =
    complex-replay p (block p held.diagram held.degree) held.history field
    (IsComplex-block p held.diagram held.degree field.above_one is) legal

-- a history that is longer by a pivot
pub legal-with_pivot : (p : ℕ) (held : BlockHistory) (pivot : Pivot) → HasLegalHistory p held → IsPivot (complex_of p held) pivot
    → HasLegalHistory p (with_pivot held pivot)
legal-with_pivot p held pivot legal is_pivot = legal-push p (block p held.diagram held.degree) held.history pivot legal is_pivot

pub complex-with_pivot : (p : ℕ) (held : BlockHistory) (pivot : Pivot)
    → complex_of p (with_pivot held pivot) ≡ cancel p (complex_of p held) pivot
complex-with_pivot p held pivot = replay-push p (block p held.diagram held.degree) held.history pivot

pub live_places-with_pivot : (p : ℕ) (held : BlockHistory) (pivot : Pivot) → IsField p → IsTrue (accepted held.diagram)
    → HasLegalHistory p held → IsPivot (complex_of p held) pivot
    → live_places (complex_of p (with_pivot held pivot)) + 2 ≡ live_places (complex_of p held)
live_places-with_pivot p held pivot field is legal is_pivot =
    ap (λ complex. live_places complex + 2) (complex-with_pivot p held pivot)
    ∙ live_places-cancel p (complex_of p held) pivot (complex-left p held field is legal) is_pivot

-- half of what is two less is one less
half-less : (x y : ℕ) → x + 2 ≡ y → x / 2 + 1 ≡ y / 2
half-less x y less = omega (arith, less)

-- what a block keeps: where its complex has a pivot, its history has room for it, and the block keeps the same once it is cancelled

live_places-pivot : (p : ℕ) (held : BlockHistory) (room : ℕ) (complex : Complex) (pivot : Pivot) → IsField p
    → IsKeptBlock p held room complex → IsPivot complex pivot → live_places (cancel p complex pivot) + 2 ≡ live_places complex
live_places-pivot p held room complex pivot field kept is_pivot =
    live_places-cancel p complex pivot
    (subst (IsComplex p) (sym kept.replayed) (complex-left p held field kept.accepted kept.legal)) is_pivot

pub room-pivot : (p : ℕ) (held : BlockHistory) (room : ℕ) (complex : Complex) (pivot : Pivot) → IsField p
    → IsKeptBlock p held room complex → IsPivot complex pivot → length held.history < room
room-pivot p held room complex pivot field kept is_pivot =
    omega (
      arith,
      kept.spare,
      half-less (live_places (cancel p complex pivot)) (live_places complex)
          (live_places-pivot p held room complex pivot field kept is_pivot),
    )

pub kept-pivot : (p : ℕ) (held : BlockHistory) (room : ℕ) (complex : Complex) (pivot : Pivot) (history : List Pivot) (later : ℕ)
    (after : Complex) → IsField p → IsKeptBlock p held room complex → IsPivot complex pivot → history ≡ held.history ++ pivot ∷ []
    → later ≡ room → after ≡ cancel p complex pivot → IsKeptBlock p (block_with held.diagram held.degree history) later after
kept-pivot p held room complex pivot history later after field kept is_pivot is_history is_room is_after =
    let made : IsKeptBlock p (with_pivot held pivot) room (cancel p complex pivot) =
    record {
      accepted = kept.accepted;
      legal = legal-with_pivot p held pivot kept.legal (subst (λ c. IsPivot c pivot) kept.replayed is_pivot);
      replayed = ap (λ c. cancel p c pivot) kept.replayed ∙ sym (complex-with_pivot p held pivot);
      spare = omega (
        arith,
        kept.spare,
        length-append held.history (pivot ∷ []),
        half-less (live_places (cancel p complex pivot)) (live_places complex)
            (live_places-pivot p held room complex pivot field kept is_pivot),
      );
      short = kept.short;
    } in
    subst (λ (h : List Pivot). IsKeptBlock p (block_with held.diagram held.degree h) later after) (sym is_history)
    (subst₂ (λ (r : ℕ) (c : Complex). IsKeptBlock p (with_pivot held pivot) r c) (sym is_room) (sym is_after) made)

-- a pivot of the complex that is seen is one of the complex that is kept
pub pivot-inside : (p : ℕ) (held seen : BlockHistory) (complex : Complex) (pivot : Pivot) → complex ≡ complex_of p held → held ≡ seen
    → IsPivot (complex_of p seen) pivot → IsPivot complex pivot
pivot-inside p held seen complex pivot replayed is_seen is_pivot =
    subst (λ c. IsPivot c pivot) (sym (replayed ∙ ap (complex_of p) is_seen)) is_pivot

-- a copy of a block as it stands differs nowhere from its complex

none-across : (f : Entry → PlacedLine) (Shows : PlacedLine → Type 0) (entries : List Entry)
    → ((entry : Entry) → Shows (f entry) → ⊥) → Any Shows (map f entries) → ⊥
none-across f Shows entries never (k, line, below, at, shows) =
    let blank : Entry = record { place = 0; value = 0 } in
    let entry = get_or entries k blank in
    let within : k < length entries = omega (arith, below, length-map entries f) in
    never entry (subst Shows (sym at ∙ get_or-map f entries k blank line within) shows)

open-columns : (complex : Complex) (i : ℤ) (column : ℕ) (entries : List Entry)
    → ShowsIn (IsOtherColumn complex i) (map (line_across (column_of complex i)) entries) column → ⊥
open-columns complex i column entries =
    none-across (line_across (column_of complex i)) (λ line. IsOtherColumn complex i line column) entries
    (λ entry shows. shows.1 (ap (λ at. entries_of (column_of complex i at)) shows.0))

open-rows : (complex : Complex) (i : ℤ) (column : ℕ) (entries : List Entry)
    → ShowsIn (IsOtherRowAt complex i) (map (line_across (row_of complex i)) entries) column → ⊥
open-rows complex i column entries =
    none-across (line_across (row_of complex i)) (λ line. IsOtherRowAt complex i line column) entries
    (λ entry shows. shows (value_at-entries_of (row_of complex i entry.place) column))

open-copy : (complex : Complex) (pivot : Pivot) (column : ℕ) → ShowsAt (copied complex pivot) complex column → ⊥
open-copy complex pivot column shows =
    elim shows [
      | inl columns ↦
          open-columns complex pivot.degree column (entries_of (row_of complex pivot.degree pivot.row)) columns
      | inr rows ↦
          open-rows complex pivot.degree column (entries_of (column_of complex pivot.degree pivot.column)) rows
    ]

pub copy-committed : (p : ℕ) (held : BlockHistory) (copy : BlockCopy) → IsCopyOf p held copy → IsForeign copy.parts (complex_of p held) → ⊥
copy-committed p held copy is foreign =
    open-copy (complex_of p held) copy.parts.pivot foreign.0
    (subst (λ (parts : Copied). ShowsAt parts (complex_of p held) foreign.0) is.parts foreign.1)

-- a turn of finishing

pub turn-smaller : (p : ℕ) (seen after : BlockHistory) (pivot : Pivot) → IsField p → IsTrue (accepted seen.diagram)
    → HasLegalHistory p seen → IsPivot (complex_of p seen) pivot → after ≡ with_pivot seen pivot
    → live_places (complex_of p after) < live_places (complex_of p seen)
turn-smaller p seen after pivot field accepted_there legal_there is_pivot is_after =
    let falls = live_places-with_pivot p seen pivot field accepted_there legal_there is_pivot in
    let same = ap (λ (h : BlockHistory). live_places (complex_of p h)) is_after in
    omega (arith, falls, same)

pub turn-later : (start seen after : BlockHistory) (pivot : Pivot)
    → IsPrefix start.history seen.history × (seen.diagram ≡ start.diagram) × (seen.degree ≡ start.degree) → after ≡ with_pivot seen pivot
    → IsPrefix start.history after.history × (after.diagram ≡ start.diagram) × (after.degree ≡ start.degree)
turn-later start seen after pivot later is_after = (
  (
    later.0.0 ++ pivot ∷ [],
    sym (append_assoc start.history later.0.0 (pivot ∷ [])) ∙ ap (λ (h : List Pivot). h ++ pivot ∷ []) later.0.1
        ∙ sym (ap (λ (h : BlockHistory). h.history) is_after),
  ),
  ap (λ (h : BlockHistory). h.diagram) is_after ∙ later.1,
  ap (λ (h : BlockHistory). h.degree) is_after ∙ later.2,
)
