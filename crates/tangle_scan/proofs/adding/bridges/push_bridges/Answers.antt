use Rattle.std.proofs.Common.{arith}
use Rattle.tangle_scan.proofs.NewBridges.{all-pushed, bridges-begun, place-pushed}
use Rattle.tangle_scan.proofs.adding.bridges.push_bridges.Goals as goal

pub returns-clause-all : goal.returns-clause-all
returns-clause-all c =
    all-pushed c.args.links.now.adding.now _ c.args.all.now.items c.push.new.self.items
    (bridges-begun c.args.links.now.adding.now c.args.parent.now.place _ c.pairing_of-pairing.ensures.pairs c.new.ensures.items
    c.new-2.ensures.items c.saddle_of-saddle.ensures)
    c.in_ok-push.ensures.items c.requires.all

pub returns-clause-place : goal.returns-clause-place
returns-clause-place c =
    place-pushed c.args.links.now.adding.now c.args.parent.now.place c.len-place.result _ c.args.all.now.items c.push.new.self.items
    c.pairing_of-pairing.ensures.pairs c.in_ok-push.ensures.items (omega (arith, c.len-place.ensures, c.args.all.now.ok.0))
