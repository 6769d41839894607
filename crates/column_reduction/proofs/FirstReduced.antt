-- The columns of a degree, stored one after another: what a complex that has them keeps of them.
use Rattle.std.proofs.Common.{◌≡◌, ℕ, ◌+◌, ◌≤◌, ◌∙◌, List, [], ◌∷◌, ℤ, length, refl, ap, sym, subst, arith, Bool, false}
use Rattle.std.specs.Prelude.{slice_index_or, if◌then◌else◌}
use Rattle.std.proofs.lemmas.List.{length-append, map_push}
use Rattle.kh_types.specs.Complex.{Complex, entry_of}
use Rattle.kh_types.specs.History.{replay}
use Rattle.kh_types.proofs.Residues.{same-equal}
use Rattle.prime_field.specs.Residues.{IsField}
use Rattle.sparse_block.specs.Entries.{Entry, value_at}
use Rattle.column_reduction.specs.Reductions.{AreReduced, EndsAt, IsLeftOf, ReducedColumn, column_numbers, pivots_of}
use Rattle.column_reduction.specs.StoredColumns.{AreFirstReduced, HasColumns, IsLiveColumn, IsReducedLine, StoredColumn, last_place, reduced_column, reduced_columns, stored_column, stored_pivots, stored_with}
use Rattle.column_reduction.proofs.LastEntries.{ends-last_place}
use Rattle.column_reduction.proofs.Steps.{reduced-none, reduced-nothing, reduced-pivot}
use Rattle.column_reduction.proofs.Stored.{stored-below}

-- no column
pub first_reduced-none : (p : ℕ) (whole : Complex) (i : ℤ) (alive : List Bool) → AreFirstReduced p whole i alive 0 []
first_reduced-none p whole i alive complex is has = reduced-none p complex i

-- what reduction leaves is the replay of its pivots
replayed : (p : ℕ) (before after : Complex) (i : ℤ) (count : ℕ) (reduced : List ReducedColumn) → AreReduced p before i count reduced after
    → AreReduced p before i count reduced (replay p before (pivots_of i reduced))
replayed p before after i count reduced are = subst (AreReduced p before i count reduced) are.replayed are

-- a line is left of each line with the same numbers
pub left-agree : (p : ℕ) (reduced : List ReducedColumn) (first second left : ℕ → ℕ) → ((row : ℕ) → second row ≡ first row)
    → IsLeftOf p reduced first left → IsLeftOf p reduced second left
left-agree p reduced first second left same is_left =
    record { factor = is_left.factor; sum = λ row. same-equal p (second row) (first row) (same row) ∙ is_left.sum row }

-- one column more
module _ (p size count : ℕ) (whole : Complex) (i : ℤ) (alive : List Bool) (stored : List StoredColumn) (line : List Entry)
    (is_alive : Bool) (field : IsField p) (are : AreFirstReduced p whole i alive count stored)
    (here : is_alive ≡ slice_index_or alive count false) (is_line : IsLiveColumn p whole i is_alive count line) where
  is_left : (complex : Complex) (left : List Entry) → HasColumns complex whole i alive → IsReducedLine p size stored line left
      → IsLeftOf p (reduced_columns stored) (column_numbers complex i count) (value_at left)
  is_left complex left has reduced =
      left-agree p (reduced_columns stored) (value_at line) (column_numbers complex i count) (value_at left)
      (λ row.
      has.entries row count ∙ ap (λ (b : Bool). if b then entry_of whole i row count else 0) (sym here) ∙ sym (is_line.values row))
      reduced.left

  pub first_reduced-more : (left : List Entry) → IsReducedLine p size stored line left
      → AreFirstReduced p whole i alive (count + 1) (stored_with stored count left)
  first_reduced-more [] reduced complex is has =
      reduced-nothing p complex (replay p complex (stored_pivots i stored)) i count (reduced_columns stored) field is
      (are complex is has) (value_at []) (is_left complex [] has reduced) (λ row. refl)
  first_reduced-more (e ∷ es) reduced complex is has =
      let left = e ∷ es in
      let last = last_place (e ∷ es) in
      let ends : EndsAt last (value_at (e ∷ es)) = ends-last_place p size (e ∷ es) reduced.entries (λ none. some e es none) in
      let step =
      replayed p complex _ i (count + 1) _
      (reduced-pivot p complex (replay p complex (stored_pivots i stored)) i count (reduced_columns stored) field is
      (are complex is has) (value_at (e ∷ es)) (is_left complex (e ∷ es) has reduced) last
      (stored-below p size (e ∷ es) field reduced.entries) ends (reduced.free last ends)) in
      subst (λ (lines : List ReducedColumn). AreReduced p complex i (count + 1) lines (replay p complex (pivots_of i lines)))
      (sym (map_push reduced_column stored (stored_column count last (e ∷ es)))) step
    where
      some : (e : Entry) (es : List Entry) → e ∷ es ≡ [] → ⊥
      some e es none = cc

-- there are at most as many stored columns as columns
pub length-stored_with : (column : ℕ) (stored : List StoredColumn) (left : List Entry)
    → length (stored_with stored column left) ≤ length stored + 1
length-stored_with column stored [] = omega arith
length-stored_with column stored (e ∷ es) =
    omega (arith, length-append stored (stored_column column (last_place (e ∷ es)) (e ∷ es) ∷ []))
