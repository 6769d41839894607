use Rattle.std.proofs.Common.{◌∙◌, get_or, subst}
use Rattle.dotted_maps.specs.Maps.{scaled}
use Rattle.tangle_maps.specs.Seams.{seam_terms}
use Rattle.tangle_maps.specs.Sums.{IsSum, dotted_term}
use Rattle.tangle_maps.specs.declared.seam.Seam.{Seam}
use Rattle.tangle_maps.proofs.SumLemmas.{made_more}
use Rattle.tangle_maps.proofs.composing.add_behind.Goals as goal

pub others-preserved : goal.others-preserved
others-preserved g c =
    let p = g.F.PrimeField.P in
    let factor = g.F.PrimeField.value_of c.args.factor in
    let other = get_or c.args.second.now c.others.other-index (dotted_term 0 0) in
    record {
      same = c.add_composed.ensures.same ∙ c.others.invariant.same;
      sum = made_more p factor c.others.other-index (seam_terms c.args.seam.now c.args.term.now) c.args.terms.now.items c.others.terms.items
          c.add_composed.new.terms.items c.args.second.now c.others-test.true c.others.invariant.sum
          (subst
          (λ (seam : Seam). IsSum p c.others.terms.items (scaled factor (seam_terms seam c.args.term.now other)) c.add_composed.new.terms.items)
          c.others.invariant.same c.in_ok-add_composed.ensures.sum);
      reduced = c.add_composed.ensures.reduced;
    }
