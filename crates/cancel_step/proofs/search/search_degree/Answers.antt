use Rattle.std.proofs.Common.{◌≡◌, ℤ, [], inl, inr, subst, arith, to_z, of_z, w16}
use Rattle.std.proofs.lemmas.Int.{ints}
use Rattle.std.proofs.lemmas.Bool.Decides.{leb_tells}
use Rattle.sparse_block.specs.Complexes.{column_of, place_count}
use Rattle.sparse_block.specs.Entries.{entries_of}
use Rattle.sparse_block.proofs.PastLemmas.{column-past}
use Rattle.cancel_step.proofs.search.search_degree.Goals as goal

pub returns-clause-none : goal.returns-clause-none
returns-clause-none g c is_none column from =
    let complex = c.args.complex.now.complex in
    let i = to_z w16 (of_z w16 c.args.degree) in
    let same : i ≡ c.args.degree = omega (arith, ints, c.ranges.degree) in
    subst (λ (i : ℤ). entries_of (column_of complex i column) ≡ []) same
    (elim (leb_tells (place_count complex i) column) [
      | inl past ↦ column-past g.F.PrimeField.P complex i column c.complex_laws.ensures.complex past.1
      | inr within ↦
          elim (leb_tells c.columns_left-column-end.result column) [
            | inl rest ↦ c.columns_left-column-end.ensures column rest.1 within.1
            | inr before ↦ c.columns.invariant column from (omega (arith, before.1, c.columns-test.false))
          ]
    ])
