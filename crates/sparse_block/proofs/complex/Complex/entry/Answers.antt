use Rattle.std.proofs.lemmas.Bool.Decides.{nat_tests}
use Rattle.std.proofs.Common.{◌≡◌, ℤ, arith, subst, to_z, of_z, w16}
use Rattle.std.proofs.lemmas.Int.{ints}
use Rattle.sparse_block.specs.Complexes.{column_of}
use Rattle.sparse_block.specs.Entries.{entries_of}
use Rattle.sparse_block.proofs.KeptLemmas.{entry-column_of}
use Rattle.sparse_block.proofs.complex.Complex.entry.Goals as goal

pub of-requires : goal.of-requires
of-requires g c =
    let complex = c.args.self.now.complex in
    let same : to_z w16 (of_z w16 c.args.i) ≡ c.args.i = omega (arith, ints, c.ranges.i) in
    let entries =
    subst (λ (i : ℤ). c.column.result.now ≡ entries_of (column_of complex i c.args.column)) same c.column.ensures in
    omega (
      arith,
      c.complex_laws.ensures.complex.below c.args.i c.args.row c.args.column,
      entry-column_of complex c.args.i c.args.row c.args.column c.value_at.result c.column.result.now entries c.value_at.ensures,
    )

pub returns : goal.returns
returns = grind (arith, nat_tests, ints, entry-column_of)
