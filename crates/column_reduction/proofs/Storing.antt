-- The owners of rows: which stored column ends where a line ends, and how one column more is stored.
use Rattle.std.proofs.Common.{◌≡◌, ◌≢◌, ℕ, ◌+◌, ◌<◌, ◌∙◌, inl, inr, List, [], ◌∷◌, ◌++◌, length, get_or, set, refl, ap, sym, subst, arith, false, ◌||◌}
use Rattle.std.specs.Prelude.{Option, Some, None, nat_eq, slice_index_or, All}
use Rattle.std.proofs.Math.ListN.{get_or-append}
use Rattle.std.proofs.Math.Seq.{get_or-append_seam}
use Rattle.std.proofs.lemmas.Bool.Decides.{eqb_tells}
use Rattle.std.proofs.lemmas.Bool.{or_from}
use Rattle.std.proofs.lemmas.List.{get_or-set_other, get_or-set_same, length-append, length-set, map_push}
use Rattle.std.proofs.lemmas.List.Elements.{All-push}
use Rattle.kh_types.proofs.Lists.{AllByRecursion-append}
use Rattle.prime_field.specs.Residues.{IsField}
use Rattle.sparse_block.specs.Entries.{Entry, AreEntries, value_at}
use Rattle.column_reduction.specs.Reductions.{AreReducedColumns, EndsAt, IsReducedColumn, is_last_row}
use Rattle.column_reduction.specs.StoredColumns.{AreStored, IsFree, StoredColumn, last_place, no_column, owner_in, reduced_column, reduced_columns, stored_column, stored_with}
use Rattle.column_reduction.proofs.Combinations.{apart-push, is_last_row-append}
use Rattle.column_reduction.proofs.LastEntries.{ends-last_place, last_place-ends, last_place-within, some-ends}
use Rattle.column_reduction.proofs.Stored.{stored-below}

-- the owner of the row where a line with an entry ends
pub owner-at : (owners : List (Option ℕ)) (line : List Entry) → line ≢ []
    → owner_in owners line ≡ slice_index_or owners (last_place line) None
owner-at owners [] some = absurd (some refl)
owner-at owners (first ∷ rest) some = refl

module _ (p q : ℕ) (stored : List StoredColumn) (owners : List (Option ℕ)) (are : AreStored p stored owners) where
  -- it ends there
  pub owner-ends : (line : List Entry) (number : ℕ) → AreEntries q (length owners) line → owner_in owners line ≡ Some number
      → (number < length stored) × EndsAt (get_or stored number no_column).row (value_at line)
  owner-ends [] number entries is = absurd (clash number is)
    where
      clash : (n : ℕ) → None ≡ Some n → ⊥
      clash n is = cc
  owner-ends (first ∷ rest) number entries is =
      let own = are.some (last_place (first ∷ rest)) number is in (
        own.0,
        subst (λ (n : ℕ). EndsAt n (value_at (first ∷ rest))) (sym own.1)
            (ends-last_place q (length owners) (first ∷ rest) entries (λ empty. some first rest empty)),
      )
    where
      some : (first : Entry) (rest : List Entry) → first ∷ rest ≡ [] → ⊥
      some first rest empty = cc

  -- where there is none, no stored column does
  pub owner-free : (line : List Entry) → AreEntries q (length owners) line → owner_in owners line ≡ None
      → IsFree (reduced_columns stored) (value_at line)
  owner-free [] entries is row ends = absurd (ends.other refl)
  owner-free (first ∷ rest) entries is row ends =
      let line = first ∷ rest in
      let same : last_place line ≡ row = last_place-ends q (length owners) row line entries ends in
      ap (λ (n : ℕ). is_last_row n (reduced_columns stored)) (sym same)
      ∙ are.none (last_place line) (last_place-within q (length owners) line entries (some-ends row line ends)) is

-- one stored column more
module _ (p column row : ℕ) (stored : List StoredColumn) (owners : List (Option ℕ)) (left : List Entry) (field : IsField p)
    (are : AreStored p stored owners) (entries : AreEntries p (length owners) left) (some : left ≢ []) (last : row ≡ last_place left)
    (free : IsFree (reduced_columns stored) (value_at left)) where
  abbrev new : StoredColumn
  new = stored_column column row left

  abbrev owners_after : List (Option ℕ)
  owners_after = set owners row (Some (length stored))

  ends_new : EndsAt row (value_at left)
  ends_new = subst (λ (n : ℕ). EndsAt n (value_at left)) (sym last) (ends-last_place p (length owners) left entries some)

  within : row < length owners
  within = omega (arith, last, last_place-within p (length owners) left entries some)

  size : length owners_after ≡ length owners
  size = length-set owners row (Some (length stored))

  columns : AreReducedColumns p (reduced_columns stored ++ reduced_column new ∷ [])
  columns =
      record {
        each = AllByRecursion-append (IsReducedColumn p) (reduced_columns stored) (reduced_column new ∷ []) are.columns.each
            (record { below = stored-below p (length owners) left field entries; ends = ends_new }, tt);
        apart = apart-push (reduced_columns stored) column row (value_at left) are.columns.apart (free row ends_new);
      }

  none : (other : ℕ) → other < length owners_after → slice_index_or owners_after other None ≡ None
      → is_last_row other (reduced_columns stored ++ reduced_column new ∷ []) ≡ false
  none other other_within is_none =
      elim (eqb_tells other row) [
        | inl same ↦
            let found : slice_index_or owners_after other None ≡ Some (length stored) =
            ap (λ (n : ℕ). slice_index_or owners_after n None) same.1
            ∙ get_or-set_same owners row (Some (length stored)) None within in
            let clash : Some (length stored) ≡ None = sym found ∙ is_none in
            absurd (clash_of (length stored) clash)
        | inr differs ↦
            is_last_row-append other (reduced_columns stored) (reduced_column new ∷ [])
            ∙ or_from (is_last_row other (reduced_columns stored)) (nat_eq other row || false)
            (are.none other (omega (arith, other_within, size))
            (sym (get_or-set_other owners row other (Some (length stored)) None differs.1) ∙ is_none))
            (or_from (nat_eq other row) false differs.0 refl)
      ]
    where
      clash_of : (n : ℕ) → Some n ≡ None → ⊥
      clash_of n clash = cc

  owned : (other number : ℕ) → slice_index_or owners_after other None ≡ Some number
      → (number < length (stored ++ new ∷ [])) × ((get_or (stored ++ new ∷ []) number no_column).row ≡ other)
  owned other number is =
      let more : length (stored ++ new ∷ []) ≡ length stored + 1 = length-append stored (new ∷ []) in
      elim (eqb_tells other row) [
        | inl same ↦
            let found : Some number ≡ Some (length stored) =
            sym is ∙ ap (λ (n : ℕ). slice_index_or owners_after n None) same.1
            ∙ get_or-set_same owners row (Some (length stored)) None within in
            let number_is : number ≡ length stored = cc in (
              omega (arith, more, number_is),
              ap (λ (n : ℕ). (get_or (stored ++ new ∷ []) n no_column).row) number_is
                  ∙ ap (λ (line : StoredColumn). line.row) (get_or-append_seam stored new [] no_column) ∙ sym same.1,
            )
        | inr differs ↦
            let old = are.some other number (sym (get_or-set_other owners row other (Some (length stored)) None differs.1) ∙ is) in (
              omega (arith, more, old.0),
              ap (λ (line : StoredColumn). line.row) (get_or-append stored (new ∷ []) no_column number old.0) ∙ old.1,
            )
      ]

  pub stored-pushed : AreStored p (stored ++ stored_column column row left ∷ []) (set owners row (Some (length stored)))
  stored-pushed =
      let pushed : reduced_columns (stored ++ new ∷ []) ≡ reduced_columns stored ++ reduced_column new ∷ [] =
      map_push reduced_column stored new in
      record {
        columns = subst (AreReducedColumns p) (sym pushed) columns;
        entries = subst (λ (n : ℕ). All (λ line. AreEntries p n line.entries) (stored ++ new ∷ [])) (sym size)
            (All-push (λ (line : StoredColumn). AreEntries p (length owners) line.entries) stored new are.entries entries);
        none = λ other other_within is_none.
            ap (is_last_row other) pushed ∙ none other other_within is_none;
        some = owned;
      }

-- where something is left
pub stored_with-some : (column : ℕ) (stored : List StoredColumn) (left : List Entry) → left ≢ []
    → stored_with stored column left ≡ stored ++ stored_column column (last_place left) left ∷ []
stored_with-some column stored [] some = absurd (some refl)
stored_with-some column stored (first ∷ rest) some = refl
