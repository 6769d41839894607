use Rattle.std.proofs.Common.{◌∙◌, length, refl, ap, sym, subst, arith, false, pos, ◌+ℤ◌}
use Rattle.std.specs.Prelude.{slice_index_or}
use Rattle.sparse_block.specs.Complexes.{NamedComplex}
use Rattle.column_reduction.specs.StoredColumns.{IsLeftOfColumn, full_columns}
use Rattle.column_reduction.proofs.Looked.{first-left, leave-fewer, leave-left}
use Rattle.column_reduction.proofs.next_column.next_left.Goals as goal

pub places-init : goal.places-init
places-init g c =
    record { same = refl; after = omega arith; none = λ column later within. absurd (omega (arith, later, within)) }

pub places-preserved : goal.places-preserved
places-preserved g c =
    let p = g.F.PrimeField.P in
    let complex = (g.S.ColumnSource.whole c.args.source.now).complex in
    let k = c.args.k in
    let alive = c.args.alive.now in
    let place = c.places.place in
    let stored = c.args.stored.now.columns.items in
    let left : IsLeftOfColumn p complex k (slice_index_or alive place false) place stored c.in_ok-found.found =
    subst (λ (named : NamedComplex). IsLeftOfColumn p named.complex k (slice_index_or alive place false) place stored c.in_ok-found.found)
    (ap g.S.ColumnSource.whole c.places.invariant.same) c.in_ok-found.ensures.left in
    record {
      same = c.in_ok-found.ensures.same ∙ c.places.invariant.same;
      after = omega (arith, c.places.invariant.after);
      none = leave-left p k place c.args.from complex alive stored c.in_ok-found.found left (sym c.is_some.ensures ∙ c.if-is_some.false)
          c.places.invariant.none;
    }

pub returns-clause-none : goal.returns-clause-none
returns-clause-none g c =
    let complex = (g.S.ColumnSource.whole c.args.source.now).complex in
    leave-fewer g.F.PrimeField.P c.places.place (length c.args.alive.now) c.args.from complex (complex.low +ℤ pos c.args.k)
    c.args.alive.now (full_columns complex c.args.k c.args.stored.now.columns.items) c.places.invariant.none
    (omega (arith, c.places-test.false))

pub returns-then-is_some-clause-first : goal.returns-then-is_some-clause-first
returns-then-is_some-clause-first g c =
    let p = g.F.PrimeField.P in
    let complex = (g.S.ColumnSource.whole c.args.source.now).complex in
    let k = c.args.k in
    let alive = c.args.alive.now in
    let place = c.places.place in
    let stored = c.args.stored.now.columns.items in
    let left : IsLeftOfColumn p complex k (slice_index_or alive place false) place stored c.in_ok-found.found =
    subst (λ (named : NamedComplex). IsLeftOfColumn p named.complex k (slice_index_or alive place false) place stored c.in_ok-found.found)
    (ap g.S.ColumnSource.whole c.places.invariant.same) c.in_ok-found.ensures.left in
    first-left p k place c.args.from complex alive stored c.in_ok-found.found left c.places.invariant.none c.places.invariant.after
    (omega (arith, c.places-test.true))
