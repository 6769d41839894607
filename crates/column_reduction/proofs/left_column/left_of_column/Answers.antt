use Rattle.std.proofs.Common.{◌≡◌, ◌∙◌, ℕ, pos, ◌+ℤ◌, List, [], Some, None, refl, ap, sym, subst, subst₂, Bool, true, false, not}
use Rattle.std.specs.Prelude.{Option, slice_index_or}
use Rattle.std.specs.Option.{is_some}
use Rattle.sparse_block.specs.Opening.{IsLastEntry}
use Rattle.column_reduction.specs.StoredColumns.{IsLeftOfColumn, StoredColumn, stored_column}
use Rattle.column_reduction.proofs.FullColumns.{left-dead, left-empty, left-own}
use Rattle.column_reduction.proofs.left_column.left_of_column.Goals as goal

pub returns-then-not-is_alive-clause-left : goal.returns-then-not-is_alive-clause-left
returns-then-not-is_alive-clause-left g c =
    let p = g.F.PrimeField.P in
    let whole = g.S.ColumnSource.whole c.args.source.now in
    subst (λ (is_alive : Bool). IsLeftOfColumn p whole.complex c.args.k is_alive c.args.place c.args.stored.now.columns.items None)
    (sym c.if-not-is_alive.true)
    (left-dead p whole.complex c.args.k c.args.place c.args.stored.now.columns.items c.element_laws.ensures.field)

pub returns-in_default-clause-left : goal.returns-in_default-clause-left
returns-in_default-clause-left g c =
    let p = g.F.PrimeField.P in
    let complex = (g.S.ColumnSource.whole c.args.source.now).complex in
    let k = c.args.k in
    let place = c.args.place in
    let stored = c.args.stored.now.columns.items in
    let last : IsLastEntry p complex (complex.low +ℤ pos k) place None =
    subst (IsLastEntry p complex (complex.low +ℤ pos k) place) c.in_default.is c.in_ok-last.ensures.last in
    subst (λ (is_alive : Bool). IsLeftOfColumn p complex k is_alive place stored None) (sym c.if-not-is_alive.false)
    (left-empty p complex k place stored c.element_laws.ensures.field last)

pub returns-then-is_none-clause-left : goal.returns-then-is_none-clause-left
returns-then-is_none-clause-left g c =
    let p = g.F.PrimeField.P in
    let complex = (g.S.ColumnSource.whole c.args.source.now).complex in
    let k = c.args.k in
    let place = c.args.place in
    let stored = c.args.stored.now.columns.items in
    let owners = c.args.stored.now.owners.items in
    let last : IsLastEntry p complex (complex.low +ℤ pos k) place (Some c.in-Some.last) =
    subst (IsLastEntry p complex (complex.low +ℤ pos k) place) c.in-Some.is c.in_ok-last.ensures.last in
    let free : slice_index_or owners c.in-Some.last.place None ≡ None =
    ap (λ (row : ℕ). slice_index_or owners row None) (sym c.place-row.ensures.place)
    ∙ ap (λ (owners : List (Option ℕ)). slice_index_or owners c.place-row.result None) (sym c.deref.ensures.value)
    ∙ sym c.owner_at.ensures ∙ none-some c.owner_at.result (c.is_none.ensures ∙ ap not c.if-is_none.true) in
    let found : stored_column place c.in-Some.last.place [] ≡ c.own_column.result =
    ap (λ (row : ℕ). stored_column place row []) (sym c.place-row.ensures.place) ∙ sym c.own_column.ensures in
    subst₂ (λ (is_alive : Bool) (found : StoredColumn). IsLeftOfColumn p complex k is_alive place stored (Some found))
    (sym c.if-not-is_alive.false) found
    (left-own p complex k place stored c.element_laws.ensures.field c.in-Some.last owners c.requires.stored c.requires.height last free)
  where
    clash : true ≡ false → ⊥
    clash is = cc

    none-some : (owner : Option ℕ) → is_some owner ≡ false → owner ≡ None
    none-some None is = refl
    none-some (Some owner) is = absurd (clash is)
