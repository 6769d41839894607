-- A multiple of a stored column is taken from a line that ends where the column ends: what is left ends before.
use Rattle.std.proofs.Common.{◌≡◌, ◌≢◌, ℕ, ◌+◌, ◌-◌, ◌*◌, ◌%◌, ◌<◌, ◌≤◌, ◌∙◌, inl, inr, List, length, get_or, refl, ap, ap₂, sym, subst, arith}
use Rattle.std.specs.Prelude.{Option}
use Rattle.std.proofs.Math.Nat.{mod-eq_of_lt, mod_self}
use Rattle.std.proofs.Math.ListN.{get_or-map}
use Rattle.std.proofs.lemmas.Bool.Decides.{eqb_tells}
use Rattle.std.proofs.lemmas.List.{length-map}
use Rattle.std.proofs.lemmas.List.Elements.{All-from_recursion}
use Rattle.std.proofs.lemmas.List.FromFn.{get_or-map-range_with_len, length-map-range_with_len}
use Rattle.kh_types.specs.Rank.{minus_mod}
use Rattle.prime_field.specs.Residues.{IsField, inverse_mod, product_mod}
use Rattle.prime_field.proofs.FieldLemmas.{product_mod-quotient}
use Rattle.sparse_block.specs.Entries.{Entry, AreEntries, entries_of, value_at}
use Rattle.sparse_block.proofs.EntryLemmas.{entries-entries_of, value_at-entries_of}
use Rattle.sparse_block.specs.LinePairs.{factor_at, line_less}
use Rattle.sparse_block.proofs.EntryValues.{value-below}
use Rattle.sparse_block.proofs.PairLemmas.{number-line_less}
use Rattle.column_reduction.specs.Reductions.{EndsAt, IsLeftOf, IsReducedColumn, ReducedColumn}
use Rattle.column_reduction.specs.StoredColumns.{AreStored, StoredColumn, end_of, no_column, reduced_column, reduced_columns}
use Rattle.column_reduction.proofs.LastEntries.{end_of-ends, end_of-zeros}
use Rattle.column_reduction.proofs.Stored.{stored-less}

-- what a step of the reduction of a line leaves
pub record IsNextLine (p size : ℕ) (stored : List StoredColumn) (whole before after : List Entry) : Type 0 where
  pub left : IsLeftOf p (reduced_columns stored) (value_at whole) (value_at after)
  pub entries : AreEntries p size after
  pub smaller : end_of after < end_of before

-- a number less itself, and 0 less 0
minus_mod-self : (p x y : ℕ) → 0 < p → x < p → y % p ≡ x → minus_mod p x y ≡ 0
minus_mod-self p x y positive below same =
    let whole : x + (p - y % p) ≡ p = omega (arith, below, same) in
    ap (λ (n : ℕ). n % p) whole ∙ mod_self p

-- the entries of a line less a multiple of another
entries-less : (p size factor : ℕ) (es others : List Entry) → 0 < p → AreEntries p size (entries_of (line_less p size es factor others))
entries-less p size factor es others positive =
    let f : ℕ → ℕ = λ place. minus_mod p (value_at es place) (factor * value_at others place) in
    let size_is : length (line_less p size es factor others) ≡ size = length-map-range_with_len f 0 size in
    subst (λ (n : ℕ). AreEntries p n (entries_of (line_less p size es factor others))) size_is
    (entries-entries_of p (line_less p size es factor others)
    (λ k d within.
    let small : f k < p = mod-lt (value_at es k + (p - (factor * value_at others k) % p)) p positive in
    subst (λ (n : ℕ). n < p)
    (sym (get_or-map-range_with_len f 0 size k k d (omega (arith, within, size_is)) (omega arith)))
    small))
  where
    mod-lt : (x p : ℕ) → 0 < p → x % p < p
    mod-lt x p positive = omega arith

-- a quotient times the divisor
factor-back : (p x y : ℕ) → IsField p → x < p → y < p → y ≢ 0 → product_mod p (product_mod p x (inverse_mod p y)) y ≡ x
factor-back p x y field below below_y other =
    product_mod-quotient p x y (inverse_mod p y) (product_mod p x (inverse_mod p y)) field below
    (field.inverses_cancel y (λ none. other (sym (mod-eq_of_lt below_y) ∙ none))) refl

-- where the multiple is that which makes 0 at the row where both end, what is left is 0 from there on
zeros-taken : (p size row : ℕ) (es others : List Entry) → IsField p → AreEntries p size es → AreEntries p size others
    → EndsAt row (value_at es) → EndsAt row (value_at others) → (at : ℕ) → row ≤ at
    → value_at (entries_of (line_less p size es (factor_at p others es row) others)) at ≡ 0
zeros-taken p size row es others field are are_others ends ends_other at later =
    let factor = factor_at p others es row in
    let back = factor-back p (value_at es row) (value_at others row) field (value-below p size row es field are)
    (value-below p size row others field are_others) ends_other.other in
    value_at-entries_of (line_less p size es factor others) at
    ∙ number-line_less p size es others factor at are are_others
    ∙ elim (eqb_tells at row) [
      | inl here ↦
          ap (λ (n : ℕ). minus_mod p (value_at es n) (factor * value_at others n)) here.1
          ∙ minus_mod-self p (value_at es row) (factor * value_at others row) (omega (arith, field.above_one))
          (value-below p size row es field are) back
      | inr other ↦
          let past : row < at = omega (arith, later, other.1) in
          ap₂ (λ (x y : ℕ). minus_mod p x (factor * y)) (ends.zeros at past) (ends_other.zeros at past)
          ∙ minus_mod-self p 0 (factor * 0) (omega (arith, field.above_one)) (omega (arith, field.above_one))
          (zero-times factor)
    ]
  where
    positive : 0 < p
    positive = omega (arith, field.above_one)

    zero-times : (factor : ℕ) → (factor * 0) % p ≡ 0
    zero-times factor =
        let none : factor * 0 ≡ 0 = omega arith in
        ap (λ (n : ℕ). n % p) none ∙ mod-eq_of_lt positive

-- a stored column ends at its row
pub stored-at : (p at : ℕ) (stored : List StoredColumn) (owners : List (Option ℕ)) → AreStored p stored owners → at < length stored
    → EndsAt (get_or stored at no_column).row (value_at (get_or stored at no_column).entries)
stored-at p at stored owners are within =
    let found : get_or (reduced_columns stored) at (reduced_column no_column) ≡ reduced_column (get_or stored at no_column) =
    get_or-map reduced_column stored at no_column in
    subst (λ (line : ReducedColumn). EndsAt line.row line.values) found
    (All-from_recursion (IsReducedColumn p) (reduced_columns stored) are.columns.each at (reduced_column no_column) (omega (arith, within, length-map stored reduced_column))).ends

-- what is left as the multiple of a stored column is taken away, where the column is known by its place
pub next-line : (p at : ℕ) (stored : List StoredColumn) (owners : List (Option ℕ)) (line : StoredColumn) (whole before after : List Entry)
    → IsField p → AreStored p stored owners → at < length stored → line ≡ get_or stored at no_column
    → EndsAt (get_or stored at no_column).row (value_at before) → AreEntries p (length owners) before
    → IsLeftOf p (reduced_columns stored) (value_at whole) (value_at before)
    → (AreEntries p (length owners) line.entries
    → after ≡ entries_of (line_less p (length owners) before (factor_at p line.entries before line.row) line.entries))
    → IsNextLine p (length owners) stored whole before after
next-line p at stored owners line whole before after field are within is_line ends_own are_before is_left taken =
    let size = length owners in
    let others = line.entries in
    let factor = factor_at p others before line.row in
    let next = entries_of (line_less p size before factor others) in
    let are_others : AreEntries p size others =
    subst (λ (line : StoredColumn). AreEntries p size line.entries) (sym is_line) (are.entries at no_column within) in
    let ends : EndsAt line.row (value_at before) =
    subst (λ (line : StoredColumn). EndsAt line.row (value_at before)) (sym is_line) ends_own in
    let ends_others : EndsAt line.row (value_at others) =
    subst (λ (line : StoredColumn). EndsAt line.row (value_at line.entries)) (sym is_line) (stored-at p at stored owners are within) in
    let are_next : AreEntries p size next = entries-less p size factor before others (omega (arith, field.above_one)) in
    let found : get_or (reduced_columns stored) at (reduced_column no_column) ≡ reduced_column line =
    get_or-map reduced_column stored at no_column ∙ ap reduced_column (sym is_line) in
    let step : IsNextLine p size stored whole before next =
    record {
      left = stored-less p size at factor (reduced_columns stored) (reduced_column no_column) (value_at whole) before others field
          are.columns (omega (arith, within, length-map stored reduced_column)) are_before are_others
          (λ row. ap (λ (line : ReducedColumn). line.values row) (sym found)) is_left;
      entries = are_next;
      smaller =
          let less : end_of next ≤ line.row =
          end_of-zeros p size line.row next are_next (zeros-taken p size line.row before others field are_before are_others ends ends_others) in
          omega (arith, less, end_of-ends p size line.row before are_before ends);
    } in
    subst (IsNextLine p size stored whole before) (sym (taken are_others)) step
