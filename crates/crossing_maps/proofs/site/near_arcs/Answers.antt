use Rattle.std.proofs.Common.{arith}
use Rattle.crossing_maps.specs.Sites.{is_near_by}
use Rattle.crossing_maps.proofs.SiteArcs.{passed_all, passed_more, near-made}
use Rattle.crossing_maps.proofs.site.near_arcs.Goals as goal

pub arcs-preserved : goal.arcs-preserved
arcs-preserved c = record {
  passed = passed_more (is_near_by c.args.opened.now c.args.crossing.now) c.arcs.arc c.is_near_by-passes.result c.arcs.made.items
      c.push_if.new.arcs.items c.is_near_by-passes.ensures c.arcs.invariant.passed c.push_if.ensures.arcs;
  bound = omega (arith, c.push_if.ensures.bound, c.arcs.invariant.bound);
}

pub returns : goal.returns
returns c = λ code k place before crossing.
    near-made code k c.args.opened.now c.args.crossing.now c.arcs.made.items place before crossing
    (passed_all (is_near_by c.args.opened.now c.args.crossing.now) c.arcs.arc c.arcs.made.items c.arcs.invariant.passed
    (omega (arith, c.arcs-test.false, c.arcs.auto.arc-end)))
