use Rattle.std.proofs.Common.{arith}
use Rattle.tangle_maps.proofs.PairingLemmas.{arcs_more, arcs_all}
use Rattle.tangle_maps.proofs.pairing.Pairing.arcs.Goals as goal

pub arcs-preserved : goal.arcs-preserved
arcs-preserved c = record {
  paired = arcs_more c.args.self.now.partners c.arcs.arc c.arcs.arcs.items c.push_paired.new.arcs.items c.arcs.invariant.paired
      c.push_paired.ensures.arcs;
  bound = omega (arith, c.push_paired.ensures.bound, c.arcs.invariant.bound);
}

pub returns : goal.returns
returns c = arcs_all c.args.self.now.partners c.arcs.arc c.arcs.arcs.items c.arcs.invariant.paired (omega (arith, c.arcs-test.false, c.arcs.auto.arc-end))
