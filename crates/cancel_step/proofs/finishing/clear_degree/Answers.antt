use Rattle.std.proofs.lemmas.Bool.Decides.{nat_tests, leb_tells}
use Rattle.std.proofs.Common.{◌≡◌, ℤ, [], inl, inr, subst, arith, to_z, of_z, w16}
use Rattle.std.proofs.lemmas.Int.{ints}
use Rattle.sparse_block.specs.Complexes.{column_of, place_count}
use Rattle.sparse_block.specs.Entries.{entries_of}
use Rattle.sparse_block.proofs.PastLemmas.{column-past}
use Rattle.sparse_block.proofs.ComesLemmas.{comes-both, complex-comes, empty-comes, places-comes}
use Rattle.cancel_step.proofs.finishing.clear_degree.Goals as goal

pub returns-in_err-clear_column-clause-history : goal.returns-in_err-clear_column-clause-history
returns-in_err-clear_column-clause-history = grind (arith, nat_tests, comes-both)

pub columns-preserved : goal.columns-preserved
columns-preserved = grind (arith, nat_tests, complex-comes, comes-both, leb_tells, empty-comes)

pub returns-clause-empty : goal.returns-clause-empty
returns-clause-empty g c column =
    let p = g.F.PrimeField.P in
    let first = c.args.complex.now.complex in
    let after = c.columns.complex.complex in
    let i = to_z w16 (of_z w16 c.args.degree) in
    let same : i ≡ c.args.degree = omega (arith, ints, c.ranges.degree) in
    let is = complex-comes p first after c.element_laws.ensures.field c.complex_laws.ensures.complex c.columns.invariant.comes in
    subst (λ (i : ℤ). entries_of (column_of after i column) ≡ []) same
    (elim (leb_tells (place_count after i) column) [
      | inl past ↦ column-past p after i column is past.1
      | inr within ↦
          elim (leb_tells c.columns_left-column-end.result column) [
            | inl rest ↦
                empty-comes p first after i column c.element_laws.ensures.field c.complex_laws.ensures.complex
                c.columns.invariant.comes
                (c.columns_left-column-end.ensures column rest.1
                (omega (arith, within.1, places-comes p first after i c.columns.invariant.comes)))
            | inr before ↦ c.columns.invariant.empty column (omega (arith, before.1, c.columns-test.false))
          ]
    ])
