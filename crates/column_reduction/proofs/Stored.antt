-- Columns that are stored as lists of entries: they end at their last entry, and a multiple of one may be taken from another.
use Rattle.std.proofs.Common.{◌≡◌, ℕ, zero, suc, ◌+◌, ◌*◌, ◌<◌, ◌≤◌, ◌∙◌, List, [], ◌∷◌, length, get_or, refl, ap, sym, arith}
use Rattle.kh_types.specs.Rank.{minus_mod}
use Rattle.prime_field.specs.Residues.{IsField}
use Rattle.sparse_block.specs.Entries.{Entry, AreEntries, entries_of, value_at}
use Rattle.sparse_block.proofs.AscendingLemmas.{Ascend, ascend-place, entries-ascend}
use Rattle.sparse_block.proofs.EntryLemmas.{value_at-entries_of, value_at-here, value_at-later}
use Rattle.sparse_block.specs.LinePairs.{line_less}
use Rattle.sparse_block.proofs.EntryValues.{value-below}
use Rattle.sparse_block.proofs.PairLemmas.{number-line_less}
use Rattle.column_reduction.specs.Reductions.{ReducedColumn, IsLineBelow, AreReducedColumns, EndsAt, IsLeftOf, IsZeroLine}
use Rattle.column_reduction.proofs.Lefts.{left-less}

pub stored-below : (p size : ℕ) (entries : List Entry) → IsField p → AreEntries p size entries → IsLineBelow p (value_at entries)
stored-below p size entries field are row = value-below p size row entries field are

pub stored-none : (entries : List Entry) → entries ≡ [] → IsZeroLine (value_at entries)
stored-none entries none row = ap (λ (es : List Entry). value_at es row) none

ends-ascending : (p a b k : ℕ) (es : List Entry) (d : Entry) → Ascend p a b es → k + 1 ≡ length es
    → EndsAt (get_or es k d).place (value_at es)
ends-ascending p a b k [] d ascend last = absurd (omega arith)
ends-ascending p a b zero (e ∷ []) d ascend last =
    record {
      other = λ none. omega (arith, value_at-here e [] e.place refl, ascend.2, none);
      zeros = λ greater later. value_at-later e [] greater (λ same. omega (arith, later, same));
    }
ends-ascending p a b zero (e ∷ f ∷ es) d ascend last = absurd (omega (arith, last))
ends-ascending p a b (suc k) (e ∷ es) d ascend last =
    let rest = ends-ascending p (e.place + 1) b k es d ascend.4 (omega (arith, last)) in
    let place = (get_or es k d).place in
    let before : e.place + 1 ≤ place = ascend-place p (e.place + 1) b k es d ascend.4 (omega (arith, last)) in
    record {
      other = λ none. rest.other (sym (value_at-later e es place (λ same. omega (arith, before, same))) ∙ none);
      zeros = λ greater later.
          value_at-later e es greater (λ same. omega (arith, before, later, same)) ∙ rest.zeros greater later;
    }

pub stored-ends : (p size k : ℕ) (entries : List Entry) (none : Entry) → AreEntries p size entries → k + 1 ≡ length entries
    → EndsAt (get_or entries k none).place (value_at entries)
stored-ends p size k entries none are last = ends-ascending p 0 size k entries none (entries-ascend p size entries are) last

-- the entries of the line less a multiple
pub stored-less : (p size at factor : ℕ) (reduced : List ReducedColumn) (none : ReducedColumn) (whole : ℕ → ℕ)
    (entries others : List Entry) → IsField p → AreReducedColumns p reduced → at < length reduced → AreEntries p size entries
    → AreEntries p size others → ((row : ℕ) → value_at others row ≡ (get_or reduced at none).values row)
    → IsLeftOf p reduced whole (value_at entries)
    → IsLeftOf p reduced whole (value_at (entries_of (line_less p size entries factor others)))
stored-less p size at factor reduced none whole entries others field columns within are are_others same is_left =
    left-less p reduced whole (value_at entries) (value_at (entries_of (line_less p size entries factor others))) at factor none
    (omega (arith, field.above_one)) columns.apart within is_left
    (λ row.
    value_at-entries_of (line_less p size entries factor others) row
    ∙ number-line_less p size entries others factor row are are_others
    ∙ ap (λ (value : ℕ). minus_mod p (value_at entries row) (factor * value)) (same row))
