use Rattle.std.proofs.lemmas.Bool.Decides.{nat_tests, leb_tells}
use Rattle.std.proofs.Common.{◌≡◌, ◌∙◌, ℤ, pos, ◌-ℤ◌, inl, inr, ap, arith, to_z, of_z, w16}
use Rattle.std.proofs.lemmas.Int.{ints}
use Rattle.sparse_block.specs.Complexes.{column_of, high_of}
use Rattle.sparse_block.specs.Entries.{entries_of}
use Rattle.cancel_step.proofs.ReadingLemmas.{zero-from_degrees}
use Rattle.sparse_block.proofs.ComesLemmas.{comes-both, complex-comes, degrees-comes, high-comes}
use Rattle.cancel_step.proofs.FinishLemmas.{empty_down-comes}
use Rattle.cancel_step.proofs.finishing.finish.Goals as goal

pub degree_down-degree-requires : goal.degree_down-degree-requires
degree_down-degree-requires g c =
    omega (
      arith,
      c.degrees-test.true,
      c.degree_count-number-end.ensures,
      degrees-comes g.F.PrimeField.P c.args.complex.now.complex c.degrees.complex.complex c.degrees.invariant.comes,
    )

pub returns-in_err-clear_degree-clause-history : goal.returns-in_err-clear_degree-clause-history
returns-in_err-clear_degree-clause-history = grind (arith, nat_tests, comes-both)

pub degrees-preserved : goal.degrees-preserved
degrees-preserved g c =
    let p = g.F.PrimeField.P in
    let first = c.args.complex.now.complex in
    let before = c.degrees.complex.complex in
    let after = c.clear_degree.new.complex.complex in
    let field = c.element_laws.ensures.field in
    let is = complex-comes p first before field c.complex_laws.ensures.complex c.degrees.invariant.comes in
    let comes = c.in_ok-clear_degree.ensures.history in
    let same_high : high_of after ≡ high_of before = high-comes p before after comes in
    let degree = to_z w16 (of_z w16 c.degree_down-degree.result) in
    record {
      comes = comes-both p first before after c.degrees.invariant.comes comes;
      empty = λ number within column.
          elim (leb_tells c.degrees.number number) [
            | inl last ↦
                let is_degree : high_of after -ℤ pos number ≡ degree =
                omega (
                  arith,
                  ints,
                  within,
                  last.1,
                  same_high,
                  c.degree_down-degree.ensures,
                  c.degree_down-degree.type_inv,
                ) in
                ap (λ (i : ℤ). entries_of (column_of after i column)) is_degree ∙ c.in_ok-clear_degree.ensures.empty column
            | inr earlier ↦
                empty_down-comes p before after c.degrees.number field is comes c.degrees.invariant.empty number earlier.1 column
          ];
      names = c.in_ok-clear_degree.ensures.names ∙ c.degrees.invariant.names;
    }

pub returns-clause-zero : goal.returns-clause-zero
returns-clause-zero g c =
    let p = g.F.PrimeField.P in
    let first = c.args.complex.now.complex in
    let after = c.degrees.complex.complex in
    let comes = c.degrees.invariant.comes in
    zero-from_degrees p after (complex-comes p first after c.element_laws.ensures.field c.complex_laws.ensures.complex comes)
    (λ number within column.
    c.degrees.invariant.empty number
    (omega (arith, within, c.degrees-test.false, c.degree_count-number-end.ensures, degrees-comes p first after comes)) column)
