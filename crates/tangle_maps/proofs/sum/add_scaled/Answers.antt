use Rattle.tangle_maps.proofs.SumLemmas.{multiples_more}
use Rattle.tangle_maps.proofs.sum.add_scaled.Goals as goal

pub terms-preserved : goal.terms-preserved
terms-preserved g c = record {
  sum = multiples_more g.F.PrimeField.P (g.F.PrimeField.value_of c.args.factor) c.terms.term-index c.args.terms.now.items
      c.terms.terms.items c.add_multiple.new.terms.items c.args.more.now c.terms-test.true c.terms.invariant.sum
      c.in_ok-add_multiple.ensures.sum;
  reduced = c.add_multiple.ensures.reduced;
}
