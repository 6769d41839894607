use Rattle.std.proofs.Common.{◌≡◌, ◌∙◌, ◌++◌, ap, length, subst, sym, arith, pos, ◌+ℤ◌, List}
use Rattle.std.specs.Prelude.{slice_index_or, []}
use Rattle.sparse_block.specs.Complexes.{NamedComplex}
use Rattle.sparse_block.specs.Entries.{Entry}
use Rattle.sparse_block.specs.Inside.{lines_in, lists_in}
use Rattle.sparse_block.specs.Opening.{IsColumnOf}
use Rattle.sparse_block.proofs.OpeningLemmas.{column-of_degree, column-sparse, place-of_degree}
use Rattle.sparse_block.proofs.column_complex.ColumnComplexColumnSource.put_column.Goals as goal

pub index-requires-2 : goal.index-requires-2
index-requires-2 g c =
    let held = c.self.inside in
    let names = ap (λ (named : NamedComplex). named.names) c.self.view_is in
    omega (
      arith,
      place-of_degree (lists_in held.names.items) held.columns.items c.args.k c.args.place c.index.result.now c.self.invariant.sizes
          (omega (arith, c.requires.degree, ap length names))
          (omega (arith, c.requires.place, ap (λ names. length (slice_index_or names c.args.k [])) names)) c.index.ensures,
      c.index.result.now.ok.0,
    )

pub returns-clause-column : goal.returns-clause-column
returns-clause-column g c =
    let p = g.F.PrimeField.P in
    let held = c.self.inside in
    let names = lists_in held.names.items in
    let same = ap (λ (named : NamedComplex). named.names) c.self.view_is in
    let entries : slice_index_or (slice_index_or (lines_in held.columns.items) c.args.k []) c.args.place [] ≡ c.index-2.result.now.items =
    column-of_degree names held.columns.items c.args.k c.args.place c.index.result.now c.self.invariant.sizes
    (omega (arith, c.requires.degree, ap length same))
    (omega (arith, c.requires.place, ap (λ names. length (slice_index_or names c.args.k [])) same)) c.index.ensures c.index-2.result.now
    c.index-2.ensures in
    let put : c.extend_from_slice.new.self.items ≡ c.index-2.result.now.items =
    c.in_ok-extend_from_slice.ensures.items ∙ ap (λ (front : List Entry). front ++ c.as_slice.result.now) c.clear.ensures.items
    ∙ c.as_slice.ensures in
    subst (λ (named : NamedComplex). IsColumnOf p named.complex (named.complex.low +ℤ pos c.args.k) c.args.place
    c.extend_from_slice.new.self.items) c.self.view_is
    (subst (IsColumnOf p _ (held.low +ℤ pos c.args.k) c.args.place) (entries ∙ sym put)
    (column-sparse p held.low names (lines_in held.columns.items) c.element_laws.ensures.field c.self.invariant c.args.k c.args.place))
