use Rattle.std.proofs.Common.{◌≡◌, ◌∙◌, Some, length, refl, ap, sym, subst, arith}
use Rattle.sparse_block.specs.Complexes.{NamedComplex}
use Rattle.sparse_block.specs.Entries.{AreEntries, value_at}
use Rattle.column_reduction.specs.Reductions.{EndsAt}
use Rattle.column_reduction.specs.StoredColumns.{entries_less, full_column, full_columns, owner_in, reduced_columns}
use Rattle.column_reduction.proofs.FullColumns.{owner-is, owner-next, owner-number}
use Rattle.column_reduction.proofs.Lefts.{left-whole}
use Rattle.column_reduction.proofs.Storing.{owner-free}
use Rattle.column_reduction.proofs.reduced_column.reduce_line.Goals as goal

pub taking-init : goal.taking-init
taking-init g c =
    let whole = g.S.ColumnSource.whole c.args.source.now in
    record {
      same = refl;
      left = left-whole g.F.PrimeField.P (reduced_columns (full_columns whole.complex c.args.k c.args.stored.now.columns.items))
          (value_at c.args.scratch.now.left.items);
      entries = c.requires.line;
    }

pub index-requires : goal.index-requires
index-requires g c =
    let p = g.F.PrimeField.P in
    let whole = g.S.ColumnSource.whole c.args.source.now in
    let owners = c.args.stored.now.owners.items in
    let is : owner_in owners c.taking.scratch.left.items ≡ Some c.in-Some.number =
    ap (owner_in owners) (sym c.deref.ensures.value) ∙ sym c.owner_of.ensures ∙ c.in-Some.is in
    omega (
      arith,
      owner-number p whole.complex c.args.k c.args.stored.now.columns.items owners c.taking.scratch.left.items c.in-Some.number
          c.requires.stored c.taking.invariant.entries is,
      c.args.stored.now.columns.ok.0,
    )

pub take_away-requires-clause-ends : goal.take_away-requires-clause-ends
take_away-requires-clause-ends g c =
    let p = g.F.PrimeField.P in
    let whole = g.S.ColumnSource.whole c.args.source.now in
    let owners = c.args.stored.now.owners.items in
    let is : owner_in owners c.taking.scratch.left.items ≡ Some c.in-Some.number =
    ap (owner_in owners) (sym c.deref.ensures.value) ∙ sym c.owner_of.ensures ∙ c.in-Some.is in
    (owner-is p whole.complex c.args.k c.args.stored.now.columns.items owners c.taking.scratch.left.items c.in-Some.number
    c.index.result.now c.requires.stored c.taking.invariant.entries is c.index.ensures).ends

pub take_away-requires-clause-stored : goal.take_away-requires-clause-stored
take_away-requires-clause-stored g c =
    let p = g.F.PrimeField.P in
    let whole = g.S.ColumnSource.whole c.args.source.now in
    let owners = c.args.stored.now.owners.items in
    let is : owner_in owners c.taking.scratch.left.items ≡ Some c.in-Some.number =
    ap (owner_in owners) (sym c.deref.ensures.value) ∙ sym c.owner_of.ensures ∙ c.in-Some.is in
    let own =
    owner-is p whole.complex c.args.k c.args.stored.now.columns.items owners c.taking.scratch.left.items c.in-Some.number
    c.index.result.now c.requires.stored c.taking.invariant.entries is c.index.ensures in (
      length owners,
      subst (λ (named : NamedComplex). AreEntries p (length owners) (full_column named.complex c.args.k c.index.result.now).entries)
          (sym (ap g.S.ColumnSource.whole c.taking.invariant.same)) own.own_entries_are,
    )

pub take_away-requires-clause-stored_ends : goal.take_away-requires-clause-stored_ends
take_away-requires-clause-stored_ends g c =
    let p = g.F.PrimeField.P in
    let whole = g.S.ColumnSource.whole c.args.source.now in
    let owners = c.args.stored.now.owners.items in
    let is : owner_in owners c.taking.scratch.left.items ≡ Some c.in-Some.number =
    ap (owner_in owners) (sym c.deref.ensures.value) ∙ sym c.owner_of.ensures ∙ c.in-Some.is in
    let own =
    owner-is p whole.complex c.args.k c.args.stored.now.columns.items owners c.taking.scratch.left.items c.in-Some.number
    c.index.result.now c.requires.stored c.taking.invariant.entries is c.index.ensures in
    subst (λ (named : NamedComplex). EndsAt c.index.result.now.row (value_at (full_column named.complex c.args.k c.index.result.now).entries))
    (sym (ap g.S.ColumnSource.whole c.taking.invariant.same)) own.own_ends

pub taking-smaller : goal.taking-smaller
taking-smaller g c =
    let p = g.F.PrimeField.P in
    let whole = g.S.ColumnSource.whole c.args.source.now in
    let stored = c.args.stored.now.columns.items in
    let owners = c.args.stored.now.owners.items in
    let left = c.taking.scratch.left.items in
    let owner = c.index.result.now in
    let is : owner_in owners left ≡ Some c.in-Some.number =
    ap (owner_in owners) (sym c.deref.ensures.value) ∙ sym c.owner_of.ensures ∙ c.in-Some.is in
    let own =
    owner-is p whole.complex c.args.k stored owners left c.in-Some.number owner c.requires.stored c.taking.invariant.entries is
    c.index.ensures in
    let less : AreEntries p (length owners) (full_column whole.complex c.args.k owner).entries → c.take_away.new.scratch.left.items
    ≡ entries_less p (length owners) owner.row left (full_column whole.complex c.args.k owner).entries =
    subst (λ (named : NamedComplex). AreEntries p (length owners) (full_column named.complex c.args.k owner).entries
    → c.take_away.new.scratch.left.items ≡ entries_less p (length owners) owner.row left (full_column named.complex c.args.k owner).entries)
    (ap g.S.ColumnSource.whole c.taking.invariant.same) (c.in_ok-take_away.ensures.less (length owners) c.taking.invariant.entries) in
    let next =
    owner-next p whole.complex c.args.k stored owners c.args.scratch.now.left.items left c.take_away.new.scratch.left.items
    c.in-Some.number owner c.element_laws.ensures.field c.requires.stored own c.taking.invariant.entries c.taking.invariant.left less in
    next.smaller

pub taking-preserved : goal.taking-preserved
taking-preserved g c =
    let p = g.F.PrimeField.P in
    let whole = g.S.ColumnSource.whole c.args.source.now in
    let stored = c.args.stored.now.columns.items in
    let owners = c.args.stored.now.owners.items in
    let left = c.taking.scratch.left.items in
    let owner = c.index.result.now in
    let is : owner_in owners left ≡ Some c.in-Some.number =
    ap (owner_in owners) (sym c.deref.ensures.value) ∙ sym c.owner_of.ensures ∙ c.in-Some.is in
    let own =
    owner-is p whole.complex c.args.k stored owners left c.in-Some.number owner c.requires.stored c.taking.invariant.entries is
    c.index.ensures in
    let less : AreEntries p (length owners) (full_column whole.complex c.args.k owner).entries → c.take_away.new.scratch.left.items
    ≡ entries_less p (length owners) owner.row left (full_column whole.complex c.args.k owner).entries =
    subst (λ (named : NamedComplex). AreEntries p (length owners) (full_column named.complex c.args.k owner).entries
    → c.take_away.new.scratch.left.items ≡ entries_less p (length owners) owner.row left (full_column named.complex c.args.k owner).entries)
    (ap g.S.ColumnSource.whole c.taking.invariant.same) (c.in_ok-take_away.ensures.less (length owners) c.taking.invariant.entries) in
    let next =
    owner-next p whole.complex c.args.k stored owners c.args.scratch.now.left.items left c.take_away.new.scratch.left.items
    c.in-Some.number owner c.element_laws.ensures.field c.requires.stored own c.taking.invariant.entries c.taking.invariant.left less in
    record { same = c.in_ok-take_away.ensures.same ∙ c.taking.invariant.same; left = next.left; entries = next.entries }

pub returns-clause-reduced : goal.returns-clause-reduced
returns-clause-reduced g c =
    let p = g.F.PrimeField.P in
    let whole = g.S.ColumnSource.whole c.args.source.now in
    let owners = c.args.stored.now.owners.items in
    record {
      left = c.taking.invariant.left;
      entries = c.taking.invariant.entries;
      free = owner-free p p (full_columns whole.complex c.args.k c.args.stored.now.columns.items) owners c.requires.stored
          c.taking.scratch.left.items c.taking.invariant.entries
          (ap (owner_in owners) (sym c.deref.ensures.value) ∙ sym c.owner_of.ensures ∙ c.in_default.is);
    }
