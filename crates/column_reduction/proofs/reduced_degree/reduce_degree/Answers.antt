use Rattle.std.proofs.Common.{◌≡◌, ◌+◌, ◌∙◌, List, length, refl, ap, sym, subst, arith, false, pos, ◌+ℤ◌}
use Rattle.std.specs.Prelude.{slice_index_or}
use Rattle.std.proofs.lemmas.List.{length-map}
use Rattle.sparse_block.specs.Complexes.{NamedComplex}
use Rattle.column_reduction.specs.StoredColumns.{AreFirstReduced, AreStored, IsLeftOfColumn, StoredColumn, full_column, full_columns}
use Rattle.column_reduction.proofs.FirstReduced.{first_reduced-more, first_reduced-none, length-stored_with}
use Rattle.column_reduction.proofs.FullColumns.{row-within, stored-then}
use Rattle.column_reduction.proofs.reduced_degree.reduce_degree.Goals as goal

pub places-init : goal.places-init
places-init g c =
    let p = g.F.PrimeField.P in
    let complex = (g.S.ColumnSource.whole c.args.source.now).complex in
    let i = complex.low +ℤ pos c.args.k in
    let none : full_columns complex c.args.k c.in_ok-stored.stored.columns.items ≡ c.in_ok-stored.stored.columns.items =
    ap (full_columns complex c.args.k) c.in_ok-stored.ensures.columns ∙ sym c.in_ok-stored.ensures.columns in
    record {
      same = refl;
      reduced = subst (AreFirstReduced p complex i c.args.alive.now 0)
          (sym (ap (full_columns complex c.args.k) c.in_ok-stored.ensures.columns)) (first_reduced-none p complex i c.args.alive.now);
      stored = subst (λ (stored : List StoredColumn). AreStored p stored c.in_ok-stored.stored.owners.items) (sym none)
          (c.in_ok-stored.ensures.stored p);
      rows = c.in_ok-stored.ensures.owners;
      count = omega (arith, ap length c.in_ok-stored.ensures.columns);
    }

pub store-requires-clause-row : goal.store-requires-clause-row
store-requires-clause-row g c =
    let p = g.F.PrimeField.P in
    let complex = (g.S.ColumnSource.whole c.args.source.now).complex in
    let left : IsLeftOfColumn p complex c.args.k (slice_index_or c.args.alive.now c.places.place false) c.places.place
    c.places.stored.columns.items c.in_ok-found.found =
    subst (λ (named : NamedComplex). IsLeftOfColumn p named.complex c.args.k (slice_index_or c.args.alive.now c.places.place false)
    c.places.place c.places.stored.columns.items c.in_ok-found.found) (ap g.S.ColumnSource.whole c.places.invariant.same)
    c.in_ok-found.ensures.left in
    row-within p complex c.args.k c.places.place (length c.places.stored.owners.items)
    (slice_index_or c.args.alive.now c.places.place false) c.places.stored.columns.items c.in_ok-found.found
    (c.places.invariant.rows ∙ c.requires.height) left

pub places-preserved : goal.places-preserved
places-preserved g c =
    let p = g.F.PrimeField.P in
    let complex = (g.S.ColumnSource.whole c.args.source.now).complex in
    let k = c.args.k in
    let i = complex.low +ℤ pos k in
    let alive = c.args.alive.now in
    let place = c.places.place in
    let is_alive = slice_index_or alive place false in
    let stored = c.places.stored.columns.items in
    let found = c.in_ok-found.found in
    let field = c.element_laws.ensures.field in
    let left : IsLeftOfColumn p complex k is_alive place stored found =
    subst (λ (named : NamedComplex). IsLeftOfColumn p named.complex k is_alive place stored found)
    (ap g.S.ColumnSource.whole c.places.invariant.same) c.in_ok-found.ensures.left in
    let after =
    stored-then p complex k place field c.places.stored c.store.new.stored c.places.invariant.stored found is_alive
    (c.places.invariant.rows ∙ c.requires.height) left c.in_ok-store.ensures.none c.in_ok-store.ensures.columns
    c.in_ok-store.ensures.owners in
    record {
      same = c.in_ok-found.ensures.same ∙ c.places.invariant.same;
      reduced = subst (AreFirstReduced p complex i alive (place + 1)) (sym after.columns)
          (first_reduced-more p _ place complex i alive (full_columns complex k stored) left.line is_alive field
          c.places.invariant.reduced refl left.live left.left left.reduced);
      stored = after.are;
      rows = after.rows ∙ c.places.invariant.rows;
      count = omega (
        arith,
        ap length after.columns,
        length-map c.store.new.stored.columns.items (full_column complex k),
        length-map stored (full_column complex k),
        length-stored_with place (full_columns complex k stored) left.left,
        c.places.invariant.count,
      );
    }
