use Rattle.std.proofs.Common.{◌∙◌, get_or, subst}
use Rattle.dotted_maps.specs.Maps.{scaled}
use Rattle.tangle_maps.specs.Seams.{seam_behind}
use Rattle.tangle_maps.specs.Sums.{IsSum, dotted_term}
use Rattle.tangle_maps.specs.declared.seam.Seam.{Seam}
use Rattle.tangle_maps.proofs.SumLemmas.{made_more}
use Rattle.tangle_maps.proofs.composing.add_all.Goals as goal

pub terms-preserved : goal.terms-preserved
terms-preserved g c =
    let p = g.F.PrimeField.P in
    let factor = g.F.PrimeField.value_of c.args.factor in
    let term = get_or c.args.first.now c.terms.term-index (dotted_term 0 0) in
    record {
      same = c.add_behind.ensures.same ∙ c.terms.invariant.same;
      sum = made_more p factor c.terms.term-index (seam_behind c.args.seam.now c.args.second.now) c.args.terms.now.items c.terms.terms.items
          c.add_behind.new.terms.items c.args.first.now c.terms-test.true c.terms.invariant.sum
          (subst
          (λ (seam : Seam). IsSum p c.terms.terms.items (scaled factor (seam_behind seam c.args.second.now term)) c.add_behind.new.terms.items)
          c.terms.invariant.same c.in_ok-add_behind.ensures.sum);
      reduced = c.add_behind.ensures.reduced;
    }
