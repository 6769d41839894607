use Rattle.std.proofs.Common.{◌≡◌, ◌≢◌, ◌∙◌, ℕ, List, [], pos, ◌+ℤ◌, length, ap, sym, subst, arith, rules}
use Rattle.std.proofs.lemmas.Result.{on_ok_weaker}
use Rattle.sparse_block.specs.Entries.{Entry, AreEntries, value_at}
use Rattle.sparse_block.specs.Opening.{IsColumnOf}
use Rattle.column_reduction.specs.Reductions.{EndsAt}
use Rattle.column_reduction.specs.StoredColumns.{StoredColumn, entries_less, full_column}
use Rattle.column_reduction.proofs.FullColumns.{column-within, full-kept, full-own, length-none}
use Rattle.column_reduction.proofs.Openings.{places-opening}
use Rattle.column_reduction.proofs.reduced_column.take_away.Goals as goal

pub put_column-requires-clause-place : goal.put_column-requires-clause-place
put_column-requires-clause-place g c =
    let p = g.F.PrimeField.P in
    let whole = g.S.ColumnSource.whole c.args.source.now in
    let line = c.args.stored.now in
    let h1 = c.is_empty.ensures in
    let h2 = c.if-is_empty.true in
    let h3 = c.if-is_empty.ensures in
    let h4 = c.stored.inside.entries.ok.0 in
    let size : length c.stored.inside.entries.items ≡ 0 = search rules in
    let none : line.entries ≡ [] =
    ap (λ (line : StoredColumn). line.entries) (sym c.stored.view_is) ∙ length-none c.stored.inside.entries.items size in
    let within = column-within p whole.complex c.args.k line.row line c.low.ensures.opening.is_complex none c.requires.stored_ends in
    omega (
      arith,
      within,
      places-opening p whole c.element_laws.ensures.field c.low.ensures.opening c.args.k,
      ap (λ (line : StoredColumn). line.column) c.stored.view_is,
    )

pub take_multiple-requires-clause-ends : goal.take_multiple-requires-clause-ends
take_multiple-requires-clause-ends g c =
    let p = g.F.PrimeField.P in
    let whole = g.S.ColumnSource.whole c.args.source.now in
    let line = c.args.stored.now in
    let k = c.args.k in
    let h1 = c.is_empty.ensures in
    let h2 = c.if-is_empty.true in
    let h3 = c.if-is_empty.ensures in
    let h4 = c.stored.inside.entries.ok.0 in
    let size : length c.stored.inside.entries.items ≡ 0 = search rules in
    let none : line.entries ≡ [] =
    ap (λ (line : StoredColumn). line.entries) (sym c.stored.view_is) ∙ length-none c.stored.inside.entries.items size in
    let column : IsColumnOf p whole.complex (whole.complex.low +ℤ pos k) line.column c.put_column.new.column.items =
    subst (λ (n : ℕ). IsColumnOf p whole.complex (whole.complex.low +ℤ pos k) n c.put_column.new.column.items)
    (ap (λ (line : StoredColumn). line.column) c.stored.view_is) c.in_ok-put_column.ensures.column in
    let read : (full_column whole.complex k line).entries ≡ c.deref.result.now =
    full-own p whole.complex k line c.put_column.new.column.items none column ∙ sym c.deref.ensures.value in (
      line.row,
      c.requires.ends,
      subst (λ (entries : List Entry). EndsAt line.row (value_at entries)) read c.requires.stored_ends,
    )

pub returns-then-is_empty-clause-less : goal.returns-then-is_empty-clause-less
returns-then-is_empty-clause-less g c =
    let p = g.F.PrimeField.P in
    let whole = g.S.ColumnSource.whole c.args.source.now in
    let line = c.args.stored.now in
    let k = c.args.k in
    let h1 = c.is_empty.ensures in
    let h2 = c.if-is_empty.true in
    let h3 = c.if-is_empty.ensures in
    let h4 = c.stored.inside.entries.ok.0 in
    let size : length c.stored.inside.entries.items ≡ 0 = search rules in
    let none : line.entries ≡ [] =
    ap (λ (line : StoredColumn). line.entries) (sym c.stored.view_is) ∙ length-none c.stored.inside.entries.items size in
    let column : IsColumnOf p whole.complex (whole.complex.low +ℤ pos k) line.column c.put_column.new.column.items =
    subst (λ (n : ℕ). IsColumnOf p whole.complex (whole.complex.low +ℤ pos k) n c.put_column.new.column.items)
    (ap (λ (line : StoredColumn). line.column) c.stored.view_is) c.in_ok-put_column.ensures.column in
    let others = (full_column whole.complex k line).entries in
    let read : others ≡ c.deref.result.now =
    full-own p whole.complex k line c.put_column.new.column.items none column ∙ sym c.deref.ensures.value in
    on_ok_weaker c.take_multiple.result
    (λ less size are are_others.
    less line.row size c.requires.ends (subst (λ (entries : List Entry). EndsAt line.row (value_at entries)) read c.requires.stored_ends) are
    (subst (AreEntries p size) read are_others)
    ∙ ap (entries_less p size line.row c.args.scratch.now.left.items) (sym read)) c.take_multiple.ensures

pub returns-clause-less : goal.returns-clause-less
returns-clause-less g c =
    let p = g.F.PrimeField.P in
    let whole = g.S.ColumnSource.whole c.args.source.now in
    let line = c.args.stored.now in
    let k = c.args.k in
    let h1 = c.is_empty.ensures in
    let h2 = c.if-is_empty.false in
    let h3 = c.if-is_empty.ensures in
    let h4 = c.stored.inside.entries.ok.0 in
    let some : length c.stored.inside.entries.items ≢ 0 = search rules in
    let kept : line.entries ≡ c.stored.inside.entries.items = ap (λ (line : StoredColumn). line.entries) (sym c.stored.view_is) in
    let others = (full_column whole.complex k line).entries in
    let read : others ≡ c.deref-2.result.now =
    full-kept whole.complex k line (λ none. some (ap length (sym kept ∙ none))) ∙ kept ∙ sym c.deref-2.ensures.value in
    on_ok_weaker c.take_multiple-2.result
    (λ less size are are_others.
    less line.row size c.requires.ends (subst (λ (entries : List Entry). EndsAt line.row (value_at entries)) read c.requires.stored_ends) are
    (subst (AreEntries p size) read are_others)
    ∙ ap (entries_less p size line.row c.args.scratch.now.left.items) (sym read)) c.take_multiple-2.ensures
