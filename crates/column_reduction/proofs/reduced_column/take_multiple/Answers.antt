use Rattle.std.proofs.Common.{◌≡◌, List, subst, arith}
use Rattle.sparse_block.specs.Entries.{Entry, value_at}
use Rattle.sparse_block.proofs.EntryValues.{value-below}
use Rattle.column_reduction.specs.Reductions.{EndsAt}
use Rattle.column_reduction.proofs.reduced_column.take_multiple.Goals as goal

pub of-value-requires : goal.of-value-requires
of-value-requires g c =
    let p = g.F.PrimeField.P in
    let line = c.args.left.now.items in
    let row = c.requires.ends.0 in
    let is : c.last_value.result ≡ value_at line row =
    subst (λ (es : List Entry). EndsAt row (value_at es) → c.last_value.result ≡ value_at es row) c.deref.ensures.value
    (c.last_value.ensures row) c.requires.ends.1 in
    omega (arith, is, value-below p c.requires.line.0 row line c.element_laws.ensures.field c.requires.line.1)

pub of-requires : goal.of-requires
of-requires g c =
    let p = g.F.PrimeField.P in
    let line = c.args.others.now in
    let row = c.requires.ends.0 in
    let is : c.last_value-2.result ≡ value_at line row = c.last_value-2.ensures row c.requires.ends.2 in
    omega (arith, is, value-below p c.requires.others.0 row line c.element_laws.ensures.field c.requires.others.1)
