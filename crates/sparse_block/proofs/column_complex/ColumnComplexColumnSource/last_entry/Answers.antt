use Rattle.std.proofs.Common.{◌≡◌, ◌∙◌, ap, subst, arith, pos, ◌+ℤ◌, length}
use Rattle.std.specs.Prelude.{slice_index_or, [], None}
use Rattle.std.specs.List.{last_or}
use Rattle.sparse_block.specs.Complexes.{NamedComplex}
use Rattle.sparse_block.specs.Inside.{lines_in, lists_in}
use Rattle.sparse_block.specs.Opening.{IsColumnOf}
use Rattle.sparse_block.proofs.OpeningLemmas.{column-of_degree, column-sparse, place-of_degree}
use Rattle.sparse_block.proofs.column_complex.ColumnComplexColumnSource.last_entry.Goals as goal

pub index-requires-2 : goal.index-requires-2
index-requires-2 g c =
    let held = c.self.inside in
    let names = ap (λ (named : NamedComplex). named.names) c.self.view_is in
    omega (
      arith,
      place-of_degree (lists_in held.names.items) held.columns.items c.args.k c.args.place c.index.result.now c.self.invariant.sizes
          (omega (arith, c.requires.degree, ap length names))
          (omega (arith, c.requires.place, ap (λ names. length (slice_index_or names c.args.k [])) names)) c.index.ensures,
      c.index.result.now.ok.0,
    )

pub returns-clause-last : goal.returns-clause-last
returns-clause-last g c =
    let p = g.F.PrimeField.P in
    let held = c.self.inside in
    let names = lists_in held.names.items in
    let same = ap (λ (named : NamedComplex). named.names) c.self.view_is in
    let line = c.index-2.result.now.items in
    let entries : slice_index_or (slice_index_or (lines_in held.columns.items) c.args.k []) c.args.place [] ≡ line =
    column-of_degree names held.columns.items c.args.k c.args.place c.index.result.now c.self.invariant.sizes
    (omega (arith, c.requires.degree, ap length same))
    (omega (arith, c.requires.place, ap (λ names. length (slice_index_or names c.args.k [])) same)) c.index.ensures c.index-2.result.now
    c.index-2.ensures in
    record {
      entries = line;
      are = subst (λ (named : NamedComplex). IsColumnOf p named.complex (named.complex.low +ℤ pos c.args.k) c.args.place line)
          c.self.view_is
          (subst (IsColumnOf p _ (held.low +ℤ pos c.args.k) c.args.place) entries
          (column-sparse p held.low names (lines_in held.columns.items) c.element_laws.ensures.field c.self.invariant c.args.k c.args.place));
      is = c.last_of.ensures ∙ ap (last_or None) c.as_slice.ensures;
    }
