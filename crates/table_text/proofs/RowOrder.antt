-- Rows that ascend.
use Rattle.std.proofs.Common.{◌≡◌, ℕ, suc, ◌+◌, ◌-◌, ◌<◌, ◌∙◌, List, [], ◌∷◌, ◌++◌, length, get_or, sym, subst, inl, inr, arith}
use Rattle.std.specs.Prelude.{◌↔◌}
use Rattle.std.specs.List.{All, AllPairs}
use Rattle.std.proofs.lemmas.Bool.{cases_eq}
use Rattle.std.proofs.lemmas.Int.{ints}
use Rattle.std.proofs.lemmas.List.{get_or_append_left, length-append}
use Rattle.std.proofs.lemmas.List.Elements.{All-nil, All-push}
use Rattle.std.proofs.lemmas.List.Quantifiers.{all_pairs_push}
use Rattle.std.proofs.Math.Seq.{get_or-append_seam}
use Rattle.prime_field.specs.Residues.{IsSmallPrime}
use Rattle.kh_types.specs.Table.{Row, Table}
use Rattle.homology_tables.specs.Tables.{IsRow, IsBefore, IsTable}
use Rattle.table_text.specs.Versions.{IsRowIn, IsTableIn}
use Rattle.table_text.specs.Words.{CanFollow}
use Rattle.table_text.specs.declared.version.Version.{Version}

IsBefore-trans : (row middle other : Row) → IsBefore row middle → IsBefore middle other → IsBefore row other
IsBefore-trans row middle other (inl first) (inl second) = inl (omega (arith, ints, first, second))
IsBefore-trans row middle other (inl first) (inr second) = inl (omega (arith, ints, first, second.0))
IsBefore-trans row middle other (inr first) (inl second) = inl (omega (arith, ints, first.0, second))
IsBefore-trans row middle other (inr first) (inr second) = inr (first.0 ∙ second.0, omega (arith, ints, first.1, second.1))

-- a row behind the last row of some is behind all of them
pub All-before_last : (rows : List Row) (last row : Row) → AllPairs IsBefore rows → 0 < length rows
    → ((d : Row) → last ≡ get_or rows (length rows - 1) d) → IsBefore last row ↔ All (λ earlier. IsBefore earlier row) rows
All-before_last rows last row ascend some is = (
  (λ before k d below.
      let above : IsBefore (get_or rows (length rows - 1) d) row = subst (λ (r : Row). IsBefore r row) (is d) before in
      elim (cases_eq k (length rows - 1)) [
        | inl same ↦ subst (λ (m : ℕ). IsBefore (get_or rows m d) row) (sym same) above
        | inr other ↦
            IsBefore-trans (get_or rows k d) (get_or rows (length rows - 1) d) row
            (ascend k (length rows - 1) d (omega (arith, below, other)) (omega (arith, some))) above
      ]),
  (λ before. subst (λ (r : Row). IsBefore r row) (sym (is last)) (before (length rows - 1) last (omega (arith, some)))),
)

-- tables with a row more

abbrev pub table_of : ℕ → List Row → Table
table_of field rows = record { field = field; rows = rows }

pub IsTable-none : (field : ℕ) → IsSmallPrime field → IsTable (table_of field [])
IsTable-none field prime = record {
  field = prime;
  rows = All-nil IsRow;
  ascending = λ i j d less below. absurd (omega (arith, below));
}

pub IsTableIn-none : (version : Version) (field : ℕ) → IsSmallPrime field → IsTableIn version (table_of field [])
IsTableIn-none version field prime = record { table = IsTable-none field prime; rows = All-nil (IsRowIn version) }

pub IsTableIn-push : (version : Version) (field : ℕ) (rows : List Row) (row : Row) → IsTableIn version (table_of field rows)
    → CanFollow version rows row → IsTableIn version (table_of field (rows ++ row ∷ []))
IsTableIn-push version field rows row is can = record {
  table = record {
    field = is.table.field;
    rows = All-push IsRow rows row is.table.rows can.within.row;
    ascending = all_pairs_push IsBefore rows row is.table.ascending (λ k d below. can.above k d below);
  };
  rows = All-push (IsRowIn version) rows row is.rows can.within;
}

-- a row of a table can follow those in front of it
pub CanFollow-front : (version : Version) (field : ℕ) (rows more : List Row) (row : Row)
    → IsTableIn version (table_of field (rows ++ row ∷ more)) → CanFollow version rows row
CanFollow-front version field rows more row is =
    let size : length (rows ++ row ∷ more) ≡ length rows + suc (length more) = length-append rows (row ∷ more) in
    let below : length rows < length (rows ++ row ∷ more) = omega (arith, size) in
    record {
      within = subst (IsRowIn version) (get_or-append_seam rows row more row) (is.rows (length rows) row below);
      above = λ k d k_below.
          subst (λ (r : Row). IsBefore r row) (get_or_append_left rows (row ∷ more) d k k_below)
          (subst (IsBefore (get_or (rows ++ row ∷ more) k d)) (get_or-append_seam rows row more d)
          (is.table.ascending k (length rows) d k_below below));
    }
